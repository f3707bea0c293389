-- Keywords and the words that spell them.
use Rattle.std.proofs.Common.{◌≡◌, ℕ, true, false, not, ◌&&◌, nat_le, length, cond, List, Option, Some, None, map, refl, ap, ◌∙◌, inl, inr}
use Rattle.std.specs.Char.{to_ascii_lowercase, to_ascii_uppercase}
use Rattle.std.specs.Option.{is_some, option_map_or}
use Rattle.std.specs.Str.{bytes_eq}
use Rattle.std.proofs.lemmas.Bool.{cases_Bool, and_right, both_ways}
use Rattle.std.proofs.lemmas.Slice.Eq.{bytes_eq-Decides}
use Rattle.cube_language.specs.Keywords.{spells, is_keyword, keyword_text, keyword_of}
use Rattle.cube_language.specs.Names.{is_name, is_word}
use Rattle.cube_language.specs.declared.keyword.Keyword.{Keyword as KeywordWord}
use Rattle.cube_language.specs.declared.keyword.Keyword.TheVariants as keyword
use Rattle.cube_language.specs.declared.symbol.Symbol.{Symbol}
use Rattle.cube_language.specs.declared.symbol.Symbol.TheVariants.{Keyword, Word, Open, Close, Comma, Star}
use Rattle.cube_language.specs.Symbols.{word_symbol}
use Rattle.cube_language.proofs.Keywords.{keyword_letters, lowered, spelled_is}
use Rattle.sql_tree.specs.declared.head.Aggregate.{Aggregate}
use Rattle.sql_tree.specs.declared.head.Sign.{Sign}
use Rattle.sql_tree.specs.declared.head.Sign.TheVariants as sign
use Rattle.sql_tree.specs.Reading.{aggregate_in, column_head_in, direction_in, kind_in, shown_in, same_keyword, sign_symbol, is_sign, keyword_in, name_in, number_in, size_in, value_in, text_in, count_in}

-- a keyword in capitals spells it
capitals_lowered : (k : KeywordWord) → map to_ascii_lowercase (map to_ascii_uppercase (keyword_text k)) ≡ keyword_text k
capitals_lowered keyword.Select = refl
capitals_lowered k = refl

pub capitals_spell : (k : KeywordWord) → keyword_of (map to_ascii_uppercase (keyword_text k)) ≡ Some k
capitals_spell k = spelled_is k (map to_ascii_uppercase (keyword_text k)) (capitals_lowered k)

pub same_keyword_is : (wanted k : KeywordWord) → same_keyword wanted k ≡ true → k ≡ wanted
same_keyword_is wanted k same =
    let letters = (bytes_eq-Decides (keyword_text k) (keyword_text wanted)).0 same in
    let one = spelled_is k (keyword_text k) (lowered k) in
    let two = spelled_is wanted (keyword_text k) (lowered k ∙ letters) in
    cc

pub same_keyword_self : (k : KeywordWord) → same_keyword k k ≡ true
same_keyword_self k = (bytes_eq-Decides (keyword_text k) (keyword_text k)).1 refl

-- ---- signs

pub is_sign_symbol : (wanted : Sign) (symbol : Symbol) → is_sign wanted symbol ≡ true → symbol ≡ sign_symbol wanted
is_sign_symbol (sign.Keyword wanted) (Keyword k) e = ap Keyword (same_keyword_is wanted k e)
is_sign_symbol sign.Open Open e = refl
is_sign_symbol sign.Close Close e = refl
is_sign_symbol sign.Comma Comma e = refl
is_sign_symbol sign.Star Star e = refl
is_sign_symbol wanted symbol e = absurd cc

pub is_sign_self : (wanted : Sign) → is_sign wanted (sign_symbol wanted) ≡ true
is_sign_self (sign.Keyword wanted) = same_keyword_self wanted
is_sign_self sign.Open = refl
is_sign_self wanted = refl

-- ---- what a word says

word_sign_at : (wanted : KeywordWord) (word : List ℕ) (o : Option KeywordWord) → keyword_of word ≡ o → spells wanted word ≡ is_sign (sign.Keyword wanted) (option_map_or Keyword o (Word word))
word_sign_at wanted word (Some k) e =
    ap (λ letters. bytes_eq letters (map to_ascii_lowercase (keyword_text wanted))) (keyword_letters k word e) ∙ ap (bytes_eq (keyword_text k)) (lowered wanted)
word_sign_at wanted word None e =
    elim (cases_Bool (spells wanted word)) [
      | inl same ↦ let there = spelled_is wanted word ((bytes_eq-Decides (map to_ascii_lowercase word) (map to_ascii_lowercase (keyword_text wanted))).0 same ∙ lowered wanted) in absurd cc
      | inr differs ↦ differs
    ]

-- a word spells a keyword where it says it
pub word_sign : (wanted : KeywordWord) (word : List ℕ) → spells wanted word ≡ is_sign (sign.Keyword wanted) (word_symbol word)
word_sign wanted word = word_sign_at wanted word (keyword_of word) refl

-- a word that is no keyword says itself
abbrev said : List ℕ → Option KeywordWord → Symbol
said word o = option_map_or Keyword o (Word word)

keyword_in_said : (word : List ℕ) (o : Option KeywordWord) → o ≡ keyword_in (said word o)
keyword_in_said word (Some k) = refl
keyword_in_said word None = refl

pub keyword_in_word : (word : List ℕ) → keyword_of word ≡ keyword_in (word_symbol word)
keyword_in_word word = keyword_in_said word (keyword_of word)

value_in_said : (word : List ℕ) (o : Option KeywordWord) → value_in (said word o) ≡ None
value_in_said word (Some k) = refl
value_in_said word None = refl

pub value_in_word : (word : List ℕ) → value_in (word_symbol word) ≡ None
value_in_word word = value_in_said word (keyword_of word)

text_in_said : (word : List ℕ) (o : Option KeywordWord) → text_in (said word o) ≡ None
text_in_said word (Some k) = refl
text_in_said word None = refl

pub text_in_word : (word : List ℕ) → text_in (word_symbol word) ≡ None
text_in_word word = text_in_said word (keyword_of word)

number_in_said : (word : List ℕ) (o : Option KeywordWord) → number_in (said word o) ≡ None
number_in_said word (Some k) = refl
number_in_said word None = refl

pub number_in_word : (word : List ℕ) → number_in (word_symbol word) ≡ None
number_in_word word = number_in_said word (keyword_of word)

size_in_said : (word : List ℕ) (o : Option KeywordWord) → size_in (said word o) ≡ None
size_in_said word (Some k) = refl
size_in_said word None = refl

pub size_in_word : (word : List ℕ) → size_in (word_symbol word) ≡ None
size_in_word word = size_in_said word (keyword_of word)

count_in_said : (word : List ℕ) (o : Option KeywordWord) → count_in (said word o) ≡ None
count_in_said word (Some k) = refl
count_in_said word None = refl

pub count_in_word : (word : List ℕ) → count_in (word_symbol word) ≡ None
count_in_word word = count_in_said word (keyword_of word)

-- a keyword is no name
reserved_is_no_name : (k : KeywordWord) (word : List ℕ) → keyword_of word ≡ Some k → is_name word ≡ false
reserved_is_no_name k word e = and_right (is_word word && nat_le (length word) 64) (not (is_keyword word)) (ap (λ (o : Option KeywordWord). not (is_some o)) e)

name_is_free : (word : List ℕ) (o : Option KeywordWord) → keyword_of word ≡ o → is_name word ≡ true → o ≡ None
name_is_free word None e name = refl
name_is_free word (Some k) e name = absurd (both_ways (is_name word) (reserved_is_no_name k word e) name)

pub name_is_no_keyword : (word : List ℕ) → is_name word ≡ true → keyword_of word ≡ None
name_is_no_keyword word name = name_is_free word (keyword_of word) refl name

name_in_said : (word : List ℕ) (o : Option KeywordWord) → keyword_of word ≡ o → name_in (said word o) ≡ cond (is_name word) (Some word) None
name_in_said word None e = refl
name_in_said word (Some k) e =
    let none = reserved_is_no_name k word e in
    rw none refl

pub name_in_word : (word : List ℕ) → name_in (word_symbol word) ≡ cond (is_name word) (Some word) None
name_in_word word = name_in_said word (keyword_of word) refl

-- ---- what a keyword says

pub keyword_in_is : (symbol : Symbol) (k : KeywordWord) → Some k ≡ keyword_in symbol → Keyword k ≡ symbol
keyword_in_is (Keyword j) k e = let same : k ≡ j = cc in ap Keyword same
keyword_in_is symbol k e = absurd cc

pub no_aggregate : (k : KeywordWord) → (k ≡ keyword.Sum → ⊥) → (k ≡ keyword.Min → ⊥) → (k ≡ keyword.Max → ⊥) → (k ≡ keyword.Avg → ⊥) → (k ≡ keyword.Count → ⊥) → None ≡ aggregate_in (Keyword k)
no_aggregate keyword.Sum sum min max avg count = absurd (sum refl)
no_aggregate keyword.Min sum min max avg count = absurd (min refl)
no_aggregate keyword.Max sum min max avg count = absurd (max refl)
no_aggregate keyword.Avg sum min max avg count = absurd (avg refl)
no_aggregate keyword.Count sum min max avg count = absurd (count refl)
no_aggregate k sum min max avg count = refl

pub no_shown : (k : KeywordWord) → (k ≡ keyword.Epochs → ⊥) → (k ≡ keyword.Watch → ⊥) → None ≡ shown_in (Keyword k)
no_shown keyword.Epochs one two = absurd (one refl)
no_shown keyword.Watch one two = absurd (two refl)
no_shown k one two = refl

pub no_direction : (k : KeywordWord) → (k ≡ keyword.Asc → ⊥) → (k ≡ keyword.Desc → ⊥) → None ≡ direction_in (Keyword k)
no_direction keyword.Asc one two = absurd (one refl)
no_direction keyword.Desc one two = absurd (two refl)
no_direction k one two = refl

pub no_column_head : (k : KeywordWord) → (k ≡ keyword.Dim → ⊥) → (k ≡ keyword.Metric → ⊥) → None ≡ column_head_in (Keyword k)
no_column_head keyword.Dim one two = absurd (one refl)
no_column_head keyword.Metric one two = absurd (two refl)
no_column_head k one two = refl

pub no_kind : (k : KeywordWord) → (k ≡ keyword.Text → ⊥) → (k ≡ keyword.Int → ⊥) → None ≡ kind_in (Keyword k)
no_kind keyword.Text one two = absurd (one refl)
no_kind keyword.Int one two = absurd (two refl)
no_kind k one two = refl
