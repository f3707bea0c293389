-- The readers of one symbol.
use Rattle.std.proofs.Common.{◌≡◌, ℕ, ◌<◌, ◌^◌, Bool, true, false, cond, ltb, List, [], ◌∷◌, Some, None, codes, pos, negsuc, ℤ, IsTrue, refl, sym, ap, subst, ◌∙◌, arith}
use Rattle.std.specs.Prelude.{FitsSigned}
use Rattle.std.specs.Int.{w64}
use Rattle.std.specs.Option.{option_map}
use Rattle.std.proofs.lemmas.Bool.{ltb-true, lt-ltb}
use Rattle.cube_values.specs.declared.value.Value.{Value}
use Rattle.cube_values.specs.declared.value.Value.TheVariants as value
use Rattle.cube_language.specs.Keywords.{keyword_of}
use Rattle.cube_language.specs.Names.{is_name}
use Rattle.cube_language.specs.declared.keyword.Keyword.{Keyword as KeywordWord}
use Rattle.cube_language.specs.declared.keyword.Keyword.TheVariants as keyword
use Rattle.cube_language.specs.Grammar.{name_form, number_form, value_form, kind_keyword, IsProperValue}
use Rattle.cube_language.specs.declared.symbol.Symbol.{Symbol}
use Rattle.cube_language.specs.declared.symbol.Symbol.TheVariants.{Keyword, Word, Number, Text, Equals}
use Rattle.sql_tree.specs.declared.head.Sign.{Sign}
use Rattle.sql_tree.specs.declared.head.Aggregate.{Aggregate}
use Rattle.sql_tree.specs.declared.head.Aggregate.TheVariants as aggregate
use Rattle.sql_tree.specs.declared.head.Operator.{Operator}
use Rattle.sql_tree.specs.declared.head.Operator.TheVariants as operator
use Rattle.sql_tree.specs.declared.head.ColumnHead.{ColumnHead}
use Rattle.sql_tree.specs.declared.head.ColumnHead.TheVariants as column_head
use Rattle.sql_tree.specs.declared.head.Shown.{Shown}
use Rattle.sql_tree.specs.declared.head.Shown.TheVariants as shown
use Rattle.sql_tree.specs.declared.head.Verb.{Verb}
use Rattle.sql_tree.specs.declared.head.Verb.TheVariants as verb
use Rattle.sql_tree.specs.Reading.{sign_symbol, Readout, ItemHead, Named, Aggregated, read_first, is_sign, sign_in, fits, name_in, number_in, value_in, text_in, count_in, size_in, operator_in, aggregate_in, verb_in, shown_in, column_head_in, kind_in, item_head, expect, read_name, read_number, read_value, read_text, read_count, read_size}
use Rattle.sql_tree.proofs.Keywords.{is_sign_symbol, is_sign_self}
use Rattle.sql_tree.proofs.Readers.{IsReader, Always, Formed, IsLed, Means, sequence, first_reader, led_reader, reader_as}

-- a test that was passed
guarded : {A : Type 0} (b : Bool) (x y : A) → cond b (Some x) None ≡ Some y → (b ≡ true) × (x ≡ y)
guarded true x y e = (refl, cc)
guarded false x y e = absurd cc

-- No more is asked of the value.
abbrev pub Any : {A : Type 0} → A → Type 0
Any x = Unit {0}

-- ---- signs

sign_means : (wanted : Sign) → Means (sign_in wanted) Any (λ u. sign_symbol wanted)
sign_means wanted = record {
  value = tt;
  is_value = tt;
  tells = λ symbol x e. (tt, is_sign_symbol wanted symbol (guarded (is_sign wanted symbol) tt x e).0);
  again = λ x p. rw (is_sign_self wanted) refl;
}

pub expect_reader : (wanted : Sign) → IsReader (expect wanted) (Formed Any (λ u. sign_symbol wanted ∷ [])) Always
unfolding expect
expect_reader wanted = first_reader (sign_in wanted) Any (λ u. sign_symbol wanted) (sign_means wanted)

-- A sign, and what comes behind it.
abbrev pub IsSigned : {B : Type 0} → Sign → (B → List Symbol → Type 0) → B → List Symbol → Type 0
IsSigned wanted G y front = (rest : List Symbol) × (front ≡ sign_symbol wanted ∷ rest) × G y rest

pub signed_reader : {B : Type 0} (wanted : Sign) (q : List Symbol → Readout B) (G : B → List Symbol → Type 0) (E : List Symbol → Type 0) → IsReader q G E → IsReader (sequence (expect wanted) (λ u. q)) (IsSigned wanted G) E
signed_reader wanted q G E r =
    reader_as (sequence (expect wanted) (λ u. q)) (IsLed Any (λ u. sign_symbol wanted) (λ u. G)) (IsSigned wanted G) E
    (λ y front h. (h.2, h.3, h.4))
    (λ y front h. (tt, tt, h.0, h.1, h.2))
    (led_reader (expect wanted) (λ u. q) Any (λ u. sign_symbol wanted) (λ u. G) E (expect_reader wanted) (λ u. r))

-- ---- names

abbrev pub IsName : List ℕ → Type 0
IsName name = IsTrue (is_name name)

name_tells : (symbol : Symbol) (name : List ℕ) → name_in symbol ≡ Some name → IsName name × (symbol ≡ Word name)
name_tells (Word word) name e = let g = guarded (is_name word) word name e in (ap is_name (sym g.1) ∙ g.0, ap Word g.1)
name_tells symbol name e = absurd cc

name_means : Means name_in IsName Word
unfolding keyword_of
name_means = record { value = codes "a"; is_value = refl; tells = name_tells; again = λ name p. rw p refl }

pub name_reader : IsReader read_name (Formed IsName name_form) Always
unfolding read_name
name_reader = first_reader name_in IsName Word name_means

-- ---- values

abbrev pub value_symbol : Value → Symbol
value_symbol (value.Int n) = Number n
value_symbol (value.Text text) = Text text

pub value_form_is : (v : Value) → value_symbol v ∷ [] ≡ value_form v
value_form_is (value.Int n) = refl
value_form_is (value.Text text) = refl

fits_is : (n : ℤ) → fits n ≡ true → FitsSigned w64 n
fits_is (pos n) e = record { sfits = ltb-true n (2 ^ 63) e }
fits_is (negsuc n) e = record { sfits = ltb-true n (2 ^ 63) e }

pub fits_signed : (n : ℤ) → FitsSigned w64 n → fits n ≡ true
fits_signed (pos n) f = lt-ltb n (2 ^ 63) f.sfits
fits_signed (negsuc n) f = lt-ltb n (2 ^ 63) f.sfits

value_tells : (symbol : Symbol) (v : Value) → value_in symbol ≡ Some v → IsProperValue v × (symbol ≡ value_symbol v)
value_tells (Number n) v e = let g = guarded (fits n) (value.Int n) v e in (subst IsProperValue g.1 (fits_is n g.0), ap value_symbol g.1)
value_tells (Text text) v e = let same : value.Text text ≡ v = cc in (subst IsProperValue same tt, ap value_symbol same)
value_tells symbol v e = absurd cc

value_again : (v : Value) → IsProperValue v → value_in (value_symbol v) ≡ Some v
value_again (value.Int n) p = let there = fits_signed n p in rw there refl
value_again (value.Text text) p = refl

value_means : Means value_in IsProperValue value_symbol
value_means = record { value = value.Text []; is_value = tt; tells = value_tells; again = value_again }

pub value_symbol_reader : IsReader read_value (Formed IsProperValue (λ v. value_symbol v ∷ [])) Always
unfolding read_value
value_symbol_reader = first_reader value_in IsProperValue value_symbol value_means

pub value_reader : IsReader read_value (Formed IsProperValue value_form) Always
value_reader =
    reader_as read_value (Formed IsProperValue (λ v. value_symbol v ∷ [])) (Formed IsProperValue value_form) Always
    (λ v front f. (f.0, f.1 ∙ value_form_is v))
    (λ v front f. (f.0, f.1 ∙ sym (value_form_is v)))
    value_symbol_reader

-- ---- numbers

number_tells : (symbol : Symbol) (n : ℤ) → number_in symbol ≡ Some n → FitsSigned w64 n × (symbol ≡ Number n)
number_tells (Number m) n e = let g = guarded (fits m) m n e in (subst (FitsSigned w64) g.1 (fits_is m g.0), ap Number g.1)
number_tells symbol n e = absurd cc

number_means : Means number_in (FitsSigned w64) Number
number_means = record { value = pos 0; is_value = record { sfits = omega arith }; tells = number_tells; again = λ n p. let there = fits_signed n p in rw there refl }

pub number_symbol_reader : IsReader read_number (Formed (FitsSigned w64) (λ n. Number n ∷ [])) Always
unfolding read_number
number_symbol_reader = first_reader number_in (FitsSigned w64) Number number_means

pub number_reader : IsReader read_number (Formed (FitsSigned w64) number_form) Always
number_reader = number_symbol_reader

abbrev pub IsSize : ℕ → Type 0
IsSize n = n < 2 ^ 32

size_tells : (symbol : Symbol) (n : ℕ) → size_in symbol ≡ Some n → IsSize n × (symbol ≡ Number (pos n))
size_tells (Number (pos m)) n e = let g = guarded (ltb m (2 ^ 32)) m n e in (subst IsSize g.1 (ltb-true m (2 ^ 32) g.0), ap (λ k. Number (pos k)) g.1)
size_tells symbol n e = absurd cc

size_means : Means size_in IsSize (λ n. Number (pos n))
size_means = record { value = 0; is_value = omega arith; tells = size_tells; again = λ n p. let there = lt-ltb n (2 ^ 32) p in rw there refl }

pub size_reader : IsReader read_size (Formed IsSize (λ n. Number (pos n) ∷ [])) Always
unfolding read_size
size_reader = first_reader size_in IsSize (λ n. Number (pos n)) size_means

-- ---- a path and a count

text_tells : (symbol : Symbol) (text : List ℕ) → text_in symbol ≡ Some text → Any text × (symbol ≡ Text text)
text_tells (Text inner) text e = let same : inner ≡ text = cc in (tt, ap Text same)
text_tells symbol text e = absurd cc

text_means : Means text_in Any Text
text_means = record { value = []; is_value = tt; tells = text_tells; again = λ text p. refl }

pub text_reader : IsReader read_text (Formed Any (λ text. Text text ∷ [])) Always
unfolding read_text
text_reader = first_reader text_in Any Text text_means

abbrev pub IsCount : ℕ → Type 0
IsCount n = n < 2 ^ 63

count_tells : (symbol : Symbol) (n : ℕ) → count_in symbol ≡ Some n → IsCount n × (symbol ≡ Number (pos n))
count_tells (Number (pos m)) n e = let g = guarded (ltb m (2 ^ 63)) m n e in (subst IsCount g.1 (ltb-true m (2 ^ 63) g.0), ap (λ k. Number (pos k)) g.1)
count_tells symbol n e = absurd cc

count_means : Means count_in IsCount (λ n. Number (pos n))
count_means = record { value = 0; is_value = omega arith; tells = count_tells; again = λ n p. let there = lt-ltb n (2 ^ 63) p in rw there refl }

pub count_reader : IsReader read_count (Formed IsCount (λ n. Number (pos n) ∷ [])) Always
unfolding read_count
count_reader = first_reader count_in IsCount (λ n. Number (pos n)) count_means

-- ---- the words that choose a form

abbrev pub operator_symbol : Operator → Symbol
operator_symbol operator.Equal = Equals
operator_symbol operator.In = Keyword keyword.In
operator_symbol operator.Between = Keyword keyword.Between

operator_tells : (symbol : Symbol) (o : Operator) → operator_in symbol ≡ Some o → Any o × (symbol ≡ operator_symbol o)
operator_tells Equals o e = let same : operator.Equal ≡ o = cc in (tt, ap operator_symbol same)
operator_tells (Keyword keyword.In) o e = let same : operator.In ≡ o = cc in (tt, ap operator_symbol same)
operator_tells (Keyword keyword.Between) o e = let same : operator.Between ≡ o = cc in (tt, ap operator_symbol same)
operator_tells symbol o e = absurd cc

operator_again : (o : Operator) → Any o → operator_in (operator_symbol o) ≡ Some o
operator_again operator.Equal p = refl
operator_again o p = refl

pub operator_reader : IsReader (read_first operator_in) (Formed Any (λ o. operator_symbol o ∷ [])) Always
operator_reader = first_reader operator_in Any operator_symbol (record { value = operator.Equal; is_value = tt; tells = operator_tells; again = operator_again })

abbrev pub aggregate_keyword : Aggregate → KeywordWord
aggregate_keyword aggregate.Sum = keyword.Sum
aggregate_keyword aggregate.Min = keyword.Min
aggregate_keyword aggregate.Max = keyword.Max
aggregate_keyword aggregate.Avg = keyword.Avg
aggregate_keyword aggregate.Count = keyword.Count

summed : (a b : Aggregate) (k : KeywordWord) → aggregate_in (Keyword k) ≡ Some a → Keyword k ≡ Keyword (aggregate_keyword a) → aggregate_in (Keyword k) ≡ Some b → Any b × (Keyword k ≡ Keyword (aggregate_keyword b))
summed a b k there symbol e = let same : a ≡ b = cc in (tt, symbol ∙ ap (λ u. Keyword (aggregate_keyword u)) same)

aggregate_tells : (symbol : Symbol) (a : Aggregate) → aggregate_in symbol ≡ Some a → Any a × (symbol ≡ Keyword (aggregate_keyword a))
aggregate_tells (Keyword keyword.Sum) a e = summed aggregate.Sum a keyword.Sum refl refl e
aggregate_tells (Keyword keyword.Min) a e = summed aggregate.Min a keyword.Min refl refl e
aggregate_tells (Keyword keyword.Max) a e = summed aggregate.Max a keyword.Max refl refl e
aggregate_tells (Keyword keyword.Avg) a e = summed aggregate.Avg a keyword.Avg refl refl e
aggregate_tells (Keyword keyword.Count) a e = summed aggregate.Count a keyword.Count refl refl e
aggregate_tells symbol a e = absurd cc

aggregate_again : (a : Aggregate) → Any a → aggregate_in (Keyword (aggregate_keyword a)) ≡ Some a
aggregate_again aggregate.Sum p = refl
aggregate_again a p = refl

pub aggregate_word_reader : IsReader (read_first aggregate_in) (Formed Any (λ a. Keyword (aggregate_keyword a) ∷ [])) Always
aggregate_word_reader =
    first_reader aggregate_in Any (λ a. Keyword (aggregate_keyword a)) (record { value = aggregate.Count; is_value = tt; tells = aggregate_tells; again = aggregate_again })

abbrev pub head_symbol : ItemHead → Symbol
head_symbol (Named name) = Word name
head_symbol (Aggregated a) = Keyword (aggregate_keyword a)

abbrev pub IsHead : ItemHead → Type 0
IsHead (Named name) = IsName name
IsHead (Aggregated a) = Unit {0}

aggregated : (a : Aggregate) (head : ItemHead) (k : KeywordWord) → item_head (Keyword k) ≡ Some (Aggregated a) → Keyword k ≡ Keyword (aggregate_keyword a) → item_head (Keyword k) ≡ Some head → IsHead head × (Keyword k ≡ head_symbol head)
aggregated a head k there symbol e = let same : Aggregated a ≡ head = cc in (subst IsHead same tt, symbol ∙ ap head_symbol same)

named_guarded : (b : Bool) (word : List ℕ) (head : ItemHead) → option_map Named (cond b (Some word) None) ≡ Some head → (b ≡ true) × (Named word ≡ head)
named_guarded true word head e = (refl, cc)
named_guarded false word head e = absurd cc

head_tells : (symbol : Symbol) (head : ItemHead) → item_head symbol ≡ Some head → IsHead head × (symbol ≡ head_symbol head)
head_tells (Keyword keyword.Sum) head e = aggregated aggregate.Sum head keyword.Sum refl refl e
head_tells (Keyword keyword.Min) head e = aggregated aggregate.Min head keyword.Min refl refl e
head_tells (Keyword keyword.Max) head e = aggregated aggregate.Max head keyword.Max refl refl e
head_tells (Keyword keyword.Avg) head e = aggregated aggregate.Avg head keyword.Avg refl refl e
head_tells (Keyword keyword.Count) head e = aggregated aggregate.Count head keyword.Count refl refl e
head_tells (Word word) head e = let g = named_guarded (is_name word) word head e in (subst IsHead g.1 g.0, ap head_symbol g.1)
head_tells symbol head e = absurd cc

head_again : (head : ItemHead) → IsHead head → item_head (head_symbol head) ≡ Some head
head_again (Named name) p = rw p refl
head_again (Aggregated aggregate.Sum) p = refl
head_again (Aggregated a) p = refl

pub head_reader : IsReader (read_first item_head) (Formed IsHead (λ head. head_symbol head ∷ [])) Always
head_reader = first_reader item_head IsHead head_symbol (record { value = Aggregated aggregate.Count; is_value = tt; tells = head_tells; again = head_again })

abbrev pub verb_keyword : Verb → KeywordWord
verb_keyword verb.Select = keyword.Select
verb_keyword verb.Insert = keyword.Insert
verb_keyword verb.Load = keyword.Load
verb_keyword verb.Delete = keyword.Delete
verb_keyword verb.Begin = keyword.Begin
verb_keyword verb.Commit = keyword.Commit
verb_keyword verb.Rollback = keyword.Rollback
verb_keyword verb.Flush = keyword.Flush
verb_keyword verb.Purge = keyword.Purge
verb_keyword verb.Show = keyword.Show
verb_keyword verb.Create = keyword.Create
verb_keyword verb.Watch = keyword.Watch

begun : (v w : Verb) (k : KeywordWord) → verb_in (Keyword k) ≡ Some v → Keyword k ≡ Keyword (verb_keyword v) → verb_in (Keyword k) ≡ Some w → Any w × (Keyword k ≡ Keyword (verb_keyword w))
begun v w k there symbol e = let same : v ≡ w = cc in (tt, symbol ∙ ap (λ u. Keyword (verb_keyword u)) same)

verb_tells : (symbol : Symbol) (v : Verb) → verb_in symbol ≡ Some v → Any v × (symbol ≡ Keyword (verb_keyword v))
verb_tells (Keyword keyword.Select) v e = begun verb.Select v keyword.Select refl refl e
verb_tells (Keyword keyword.Insert) v e = begun verb.Insert v keyword.Insert refl refl e
verb_tells (Keyword keyword.Load) v e = begun verb.Load v keyword.Load refl refl e
verb_tells (Keyword keyword.Delete) v e = begun verb.Delete v keyword.Delete refl refl e
verb_tells (Keyword keyword.Begin) v e = begun verb.Begin v keyword.Begin refl refl e
verb_tells (Keyword keyword.Commit) v e = begun verb.Commit v keyword.Commit refl refl e
verb_tells (Keyword keyword.Rollback) v e = begun verb.Rollback v keyword.Rollback refl refl e
verb_tells (Keyword keyword.Flush) v e = begun verb.Flush v keyword.Flush refl refl e
verb_tells (Keyword keyword.Purge) v e = begun verb.Purge v keyword.Purge refl refl e
verb_tells (Keyword keyword.Show) v e = begun verb.Show v keyword.Show refl refl e
verb_tells (Keyword keyword.Create) v e = begun verb.Create v keyword.Create refl refl e
verb_tells (Keyword keyword.Watch) v e = begun verb.Watch v keyword.Watch refl refl e
verb_tells symbol v e = absurd cc

verb_again : (v : Verb) → Any v → verb_in (Keyword (verb_keyword v)) ≡ Some v
verb_again verb.Select p = refl
verb_again v p = refl

pub verb_reader : IsReader (read_first verb_in) (Formed Any (λ v. Keyword (verb_keyword v) ∷ [])) Always
verb_reader = first_reader verb_in Any (λ v. Keyword (verb_keyword v)) (record { value = verb.Begin; is_value = tt; tells = verb_tells; again = verb_again })

-- ---- what is shown

abbrev pub shown_keyword : Shown → KeywordWord
shown_keyword shown.Epochs = keyword.Epochs
shown_keyword shown.Watch = keyword.Watch

shown_tells : (symbol : Symbol) (s : Shown) → shown_in symbol ≡ Some s → Any s × (symbol ≡ Keyword (shown_keyword s))
shown_tells (Keyword keyword.Epochs) s e = let same : shown.Epochs ≡ s = cc in (tt, ap (λ u. Keyword (shown_keyword u)) same)
shown_tells (Keyword keyword.Watch) s e = let same : shown.Watch ≡ s = cc in (tt, ap (λ u. Keyword (shown_keyword u)) same)
shown_tells symbol s e = absurd cc

shown_again : (s : Shown) → Any s → shown_in (Keyword (shown_keyword s)) ≡ Some s
shown_again shown.Epochs p = refl
shown_again shown.Watch p = refl

pub shown_reader : IsReader (read_first shown_in) (Formed Any (λ s. Keyword (shown_keyword s) ∷ [])) Always
shown_reader = first_reader shown_in Any (λ s. Keyword (shown_keyword s)) (record { value = shown.Epochs; is_value = tt; tells = shown_tells; again = shown_again })

-- ---- columns

abbrev pub column_keyword : ColumnHead → KeywordWord
column_keyword column_head.Dim = keyword.Dim
column_keyword column_head.Metric = keyword.Metric

column_head_tells : (symbol : Symbol) (h : ColumnHead) → column_head_in symbol ≡ Some h → Any h × (symbol ≡ Keyword (column_keyword h))
column_head_tells (Keyword keyword.Dim) h e = let same : column_head.Dim ≡ h = cc in (tt, ap (λ u. Keyword (column_keyword u)) same)
column_head_tells (Keyword keyword.Metric) h e = let same : column_head.Metric ≡ h = cc in (tt, ap (λ u. Keyword (column_keyword u)) same)
column_head_tells symbol h e = absurd cc

column_head_again : (h : ColumnHead) → Any h → column_head_in (Keyword (column_keyword h)) ≡ Some h
column_head_again column_head.Dim p = refl
column_head_again column_head.Metric p = refl

pub column_head_reader : IsReader (read_first column_head_in) (Formed Any (λ h. Keyword (column_keyword h) ∷ [])) Always
column_head_reader =
    first_reader column_head_in Any (λ h. Keyword (column_keyword h)) (record { value = column_head.Dim; is_value = tt; tells = column_head_tells; again = column_head_again })

kind_tells : (symbol : Symbol) (text : Bool) → kind_in symbol ≡ Some text → Any text × (symbol ≡ Keyword (kind_keyword text))
kind_tells (Keyword keyword.Text) text e = let same : true ≡ text = cc in (tt, ap (λ u. Keyword (kind_keyword u)) same)
kind_tells (Keyword keyword.Int) text e = let same : false ≡ text = cc in (tt, ap (λ u. Keyword (kind_keyword u)) same)
kind_tells symbol text e = absurd cc

kind_again : (text : Bool) → Any text → kind_in (Keyword (kind_keyword text)) ≡ Some text
kind_again true p = refl
kind_again false p = refl

pub kind_reader : IsReader (read_first kind_in) (Formed Any (λ text. Keyword (kind_keyword text) ∷ [])) Always
kind_reader = first_reader kind_in Any (λ text. Keyword (kind_keyword text)) (record { value = true; is_value = tt; tells = kind_tells; again = kind_again })
