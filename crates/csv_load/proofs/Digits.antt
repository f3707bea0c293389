-- Digits one after the other.
use Rattle.std.proofs.Common.{◌≡◌, ℕ, zero, suc, ◌+◌, ◌*◌, ◌^◌, ◌<◌, ◌≤◌, Bool, true, not, eqb, List, [], ◌∷◌, length, get_or, take, Option, Some, None, ap, ◌∙◌, arith}
use Rattle.std.specs.Prelude.{IfNone}
use Rattle.std.specs.Char.{digit_value, is_ascii_digit}
use Rattle.std.specs.List.{list_all}
use Rattle.std.specs.Str.{all_ascii_digits}
use Rattle.std.specs.Str.Parse.{digits_value}
use Rattle.std.proofs.lemmas.Bool.{and_parts}
use Rattle.std.proofs.lemmas.Int.Digits.{digits_value_more}
use Rattle.std.proofs.lemmas.Str.Parse.{digits_value-take-le}
use Rattle.cube_language.specs.Tokens.{is_digits}
use Rattle.cube_schema.proofs.Ascii as ascii

pub digits_are : (bytes : List ℕ) → list_all is_ascii_digit bytes ≡ all_ascii_digits bytes
digits_are bytes = ascii.digits_are bytes

all_at : (p : ℕ → Bool) (xs : List ℕ) (i d : ℕ) → list_all p xs ≡ true → i < length xs → p (get_or xs i d) ≡ true
all_at p [] i d all lt = absurd (omega arith)
all_at p (x ∷ xs) zero d all lt = (and_parts (p x) (list_all p xs) all).0
all_at p (x ∷ xs) (suc i) d all lt = all_at p xs i d (and_parts (p x) (list_all p xs) all).1 (omega (arith, lt))

pub digit_at : (digits : List ℕ) (i d : ℕ) → is_digits digits ≡ true → i < length digits
    → is_ascii_digit (get_or digits i d) ≡ true
digit_at digits i d are lt =
    all_at is_ascii_digit digits i d
    (digits_are digits ∙ (and_parts (not (eqb (length digits) 0)) (all_ascii_digits digits) are).1) lt

-- a number grows by the next digit
pub grows : (digits : List ℕ) (i n : ℕ) → i < length digits → digits_value 10 (take i digits) ≡ n
    → digits_value 10 (take (i + 1) digits) ≡ n * 10 + digit_value (get_or digits i 0)
grows digits i n lt is = digits_value_more 10 digits i lt ∙ ap (λ m. m * 10 + digit_value (get_or digits i 0)) is

-- and what is too wide so far is so to the end
pub stays_wide : (digits : List ℕ) (i n : ℕ) → i < length digits → digits_value 10 (take i digits) ≡ n
    → 2 ^ 64 ≤ n * 10 + digit_value (get_or digits i 0) → 2 ^ 64 ≤ digits_value 10 digits
stays_wide digits i n lt is wide =
    let more = grows digits i n lt is in
    let whole = digits_value-take-le 10 digits (i + 1) (omega arith) in
    omega (arith, wide, more, whole)

pub if_none : {T P : Type 0} (found : Option T) → P → IfNone found P
if_none None p = p
if_none (Some x) p = tt
