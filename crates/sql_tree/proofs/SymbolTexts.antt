-- The text of a symbol is a token that says the symbol.
use Rattle.std.proofs.Common.{◌≡◌, ℕ, suc, ◌+◌, ◌-◌, ◌^◌, ◌<◌, Bool, true, false, ◌||◌, eqb, ◌==◌, List, [], ◌∷◌, length, map, codes, None, ℤ, pos, negsuc, neg_ℤ, IsTrue, refl, ap, ◌∙◌, arith, inl, inr}
use Rattle.std.specs.Prelude.{FitsSigned, decimal}
use Rattle.std.specs.Char.{is_ascii_digit, to_ascii_uppercase}
use Rattle.std.specs.Fmt.{signed_decimal}
use Rattle.std.specs.Int.{w64}
use Rattle.std.specs.Str.{all_ascii_digits}
use Rattle.std.specs.Str.Parse.{digits_value, signed_digits_value}
use Rattle.std.proofs.lemmas.Bool.{cases_Bool, and_parts, ne_eqb, eqb-true}
use Rattle.std.proofs.lemmas.Bool.Decides.{nat_tests}
use Rattle.std.proofs.lemmas.Fmt.{digits_decimal, digits_value-decimal, decimal_nonempty}
use Rattle.std.proofs.lemmas.List.{length-append, take_at}
use Rattle.std.proofs.lemmas.Str.Parse.{IsNumeralModel, numerals_by_value, tells_all_ascii_digits}
use Rattle.cube_language.specs.Keywords.{keyword_of, keyword_text}
use Rattle.cube_language.specs.Names.{continues_name, is_word}
use Rattle.cube_language.specs.declared.keyword.Keyword.{Keyword as KeywordWord}
use Rattle.cube_language.specs.declared.keyword.Keyword.TheVariants as keyword
use Rattle.cube_language.specs.declared.token.TokenKind.{TokenKind}
use Rattle.cube_language.specs.declared.token.TokenKind.TheVariants as kind
use Rattle.cube_language.specs.Parts.{EndsRun}
use Rattle.cube_language.specs.Printed.{symbol_text}
use Rattle.cube_language.specs.Quotes.{doubled, quoted}
use Rattle.cube_language.specs.declared.symbol.Symbol.{Symbol}
use Rattle.cube_language.specs.declared.symbol.Symbol.TheVariants.{Keyword, Word, Number, Text, Open, Close, Comma, Equals, Star}
use Rattle.cube_language.specs.Symbols.{halved, unquoted, symbol_in}
use Rattle.cube_language.specs.Tokens.{is_digits, is_number, IsToken}
use Rattle.sql_tree.proofs.Halves.{plain_halved}
use Rattle.sql_tree.proofs.Keywords.{capitals_spell}

-- The symbol is one that a token says.
abbrev pub IsSound : Symbol → Type 0
IsSound (Word word) = IsTrue (is_word word) × (keyword_of word ≡ None)
IsSound (Number n) = FitsSigned w64 n
IsSound symbol = Unit {0}

abbrev pub kind_of : Symbol → TokenKind
kind_of (Keyword k) = kind.Word
kind_of (Word word) = kind.Word
kind_of (Number n) = kind.Number n
kind_of (Text text) = kind.Text
kind_of Open = kind.Open
kind_of Close = kind.Close
kind_of Comma = kind.Comma
kind_of Equals = kind.Equals
kind_of Star = kind.Star

-- ---- numbers

own : IsNumeralModel (λ ds. all_ascii_digits ds ≡ true) (digits_value 10)
own = numerals_by_value (λ ds. all_ascii_digits ds ≡ true) tells_all_ascii_digits

digits_are : (bs : List ℕ) → all_ascii_digits bs ≡ true → 0 < length bs → is_digits bs ≡ true
digits_are bs digits some = let none : eqb (length bs) 0 ≡ false = ne_eqb (length bs) 0 (λ e. omega arith) in rw none digits

plain_value : (bs : List ℕ) → all_ascii_digits bs ≡ true → 0 < length bs → (signed_digits_value 10 bs ≡ pos (digits_value 10 bs)) × (is_number bs ≡ true)
plain_value [] digits some = absurd (omega arith)
plain_value (b ∷ bs) digits some =
    let first = (and_parts (is_ascii_digit b) (all_ascii_digits bs) digits).0 in
    let minus : eqb b 45 ≡ false = grind (arith, nat_tests) in
    let plus : eqb b 43 ≡ false = grind (arith, nat_tests) in
    (rw (minus, plus) refl, rw minus (digits_are (b ∷ bs) digits some))

number_text : (n : ℤ) → FitsSigned w64 n → (signed_digits_value 10 (signed_decimal n) ≡ n) × (is_number (signed_decimal n) ≡ true)
number_text (pos n) fits =
    let small : n < 2 ^ 64 = omega (arith, fits.sfits) in
    let plain = plain_value (decimal n) (digits_decimal own n small) (decimal_nonempty n small) in
    (plain.0 ∙ ap pos (digits_value-decimal own n small), plain.1)
number_text (negsuc n) fits =
    let small : suc n < 2 ^ 64 = omega (arith, fits.sfits) in
    let digits = digits_decimal own (suc n) small in
    let some = decimal_nonempty (suc n) small in
    (ap (λ k. neg_ℤ (pos k)) (digits_value-decimal own (suc n) small), digits_are (decimal (suc n)) digits some)

-- ---- texts in quotes

doubled_halved : (text : List ℕ) → halved (doubled text) ≡ text
doubled_halved [] = refl
doubled_halved (byte ∷ text) =
    elim (cases_Bool (eqb byte 39)) [
      | inl same ↦
          let quote = eqb-true byte 39 same in
          let more = doubled_halved text in
          rw (same, quote) (ap (λ rest. 39 ∷ rest) more)
      | inr other ↦
          let more = doubled_halved text in
          rw other (plain_halved byte (doubled text) other ∙ ap (λ rest. byte ∷ rest) more)
    ]

quoted_length : (text : List ℕ) → length (quoted text) ≡ length (doubled text) + 2
quoted_length text = omega (arith, length-append (doubled text) (codes "'"))

unquoted_quoted : (text : List ℕ) → unquoted (quoted text) ≡ text
unquoted_quoted text =
    let long : length (doubled text) ≡ length (quoted text) - 2 = omega (arith, quoted_length text) in
    ap halved (take_at (doubled text) (codes "'") (length (quoted text) - 2) long) ∙ doubled_halved text

-- ---- what the text of a symbol says

pub text_says : (symbol : Symbol) → IsSound symbol → symbol_in (symbol_text symbol) (kind_of symbol) ≡ symbol
text_says (Keyword k) sound = let there = capitals_spell k in rw there refl
text_says (Word word) sound = let there = sound.1 in rw there refl
text_says (Number n) sound = refl
text_says (Text text) sound = ap Text (unquoted_quoted text)
text_says Open sound = refl
text_says symbol sound = refl

-- ---- and what may stand behind it

-- A byte that no word, number or text goes on with.
abbrev pub is_end : ℕ → Bool
is_end byte = byte == 32 || (byte == 40 || (byte == 41 || byte == 44))

abbrev pub AreEnded : List ℕ → Type 0
AreEnded [] = Unit {0}
AreEnded (byte ∷ rest) = is_end byte ≡ true

abbrev pub Ends : Symbol → List ℕ → Type 0
Ends (Keyword k) rest = AreEnded rest
Ends (Word word) rest = AreEnded rest
Ends (Number n) rest = AreEnded rest
Ends (Text text) rest = AreEnded rest
Ends symbol rest = Unit {0}

stops : (goes_on : ℕ → Bool) → ((byte : ℕ) → is_end byte ≡ true → goes_on byte ≡ false) → (rest : List ℕ) → AreEnded rest → EndsRun goes_on rest
stops goes_on is [] ended = tt
stops goes_on is (byte ∷ rest) ended = is byte ended

capital_word : (k : KeywordWord) → is_word (map to_ascii_uppercase (keyword_text k)) ≡ true
capital_word keyword.Select = refl
capital_word k = refl

pub text_is_token : (symbol : Symbol) (rest : List ℕ) → IsSound symbol → Ends symbol rest → IsToken (symbol_text symbol) rest (kind_of symbol)
text_is_token (Keyword k) rest sound ended = (capital_word k, stops continues_name (λ byte e. grind (arith, nat_tests)) rest ended)
text_is_token (Word word) rest sound ended = (sound.0, stops continues_name (λ byte e. grind (arith, nat_tests)) rest ended)
text_is_token (Number n) rest sound ended = let is = number_text n sound in ((is.1, stops is_ascii_digit (λ byte e. grind (arith, nat_tests)) rest ended), is.0, sound)
text_is_token (Text text) rest sound ended = (text, refl, stops (λ byte. byte == 39) (λ byte e. grind (arith, nat_tests)) rest ended)
text_is_token Open rest sound ended = refl
text_is_token symbol rest sound ended = refl
