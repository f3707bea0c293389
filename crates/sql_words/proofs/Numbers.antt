-- What numbers are made of, and how far the one at the front reaches.
use Rattle.std.proofs.Common.{◌≡◌, ℕ, ◌<◌, ◌≤◌, true, false, not, eqb, ◌&&◌, List, [], ◌∷◌, length, take, pos, ◌⊎◌, inl, inr, IsUtf8, refl, sym, ap, ◌∙◌, arith}
use Rattle.std.specs.Char.{is_ascii_digit}
use Rattle.std.specs.List.{list_all}
use Rattle.std.specs.Str.{IsAscii, all_ascii_digits}
use Rattle.std.specs.Str.Parse.{IsNumeral, digits_value, signed_digits_value, without_leading_sign}
use Rattle.std.proofs.lemmas.Bool.{and_from, and_parts}
use Rattle.std.proofs.lemmas.List.{take_all}
use Rattle.std.proofs.lemmas.Bool.Decides.{nat_tests}
use Rattle.std.proofs.lemmas.Str.{IsUtf8-from_ascii}
use Rattle.std.proofs.lemmas.Str.Ascii.{IsAscii-nil, IsAscii-cons}
use Rattle.std.proofs.lemmas.Str.Parse.{numerals_by_value, tells_all_ascii_digits}
use Rattle.cube_language.specs.Tokens.{is_digits, is_number}

pub digits_are : (bytes : List ℕ) → list_all is_ascii_digit bytes ≡ all_ascii_digits bytes
digits_are [] = refl
digits_are (b ∷ bytes) = ap (λ r. is_ascii_digit b && r) (digits_are bytes)

-- a number is digits, perhaps behind a minus sign
pub number_cases : (b : ℕ) (bytes : List ℕ) → is_number (b ∷ bytes) ≡ true → ((b ≡ 45) × (is_digits bytes ≡ true)) ⊎ ((b ≡ 45 → ⊥) × (is_digits (b ∷ bytes) ≡ true))
number_cases b bytes number = grind (arith, nat_tests)

pub digits_parts : (b : ℕ) (bytes : List ℕ) → is_digits (b ∷ bytes) ≡ true → (is_ascii_digit b ≡ true) × (list_all is_ascii_digit bytes ≡ true)
digits_parts b bytes digits =
    let both = and_parts (is_ascii_digit b) (all_ascii_digits bytes) (and_parts (not (eqb (length (b ∷ bytes)) 0)) (is_ascii_digit b && all_ascii_digits bytes) digits).1 in
    (both.0, digits_are bytes ∙ both.1)

pub digits_from : (b : ℕ) (bytes : List ℕ) → is_ascii_digit b ≡ true → list_all is_ascii_digit bytes ≡ true → is_digits (b ∷ bytes) ≡ true
digits_from b bytes digit digits =
    let more = sym (digits_are bytes) ∙ digits in
    and_from (not (eqb (length (b ∷ bytes)) 0)) _ (grind (arith, nat_tests)) (and_from _ _ digit more)

digit_is_no_sign : (b : ℕ) → is_ascii_digit b ≡ true → (eqb b 45 ≡ false) × (eqb b 43 ≡ false) × (b < 128)
digit_is_no_sign b digit = (grind (arith, nat_tests), grind (arith, nat_tests), grind (arith, nat_tests))

-- bytes of ASCII are text
digits_ascii : (bytes : List ℕ) → list_all is_ascii_digit bytes ≡ true → IsAscii bytes
digits_ascii [] all = IsAscii-nil
digits_ascii (b ∷ bytes) all = let both = and_parts _ _ all in IsAscii-cons b bytes (digit_is_no_sign b both.0).2 (digits_ascii bytes both.1)

is_digits_ascii : (bytes : List ℕ) → is_digits bytes ≡ true → IsAscii bytes
is_digits_ascii [] digits = IsAscii-nil
is_digits_ascii (b ∷ bytes) digits = let both = digits_parts b bytes digits in IsAscii-cons b bytes (digit_is_no_sign b both.0).2 (digits_ascii bytes both.1)

pub number_is_ascii : (bytes : List ℕ) → is_number bytes ≡ true → IsAscii bytes
number_is_ascii [] number = IsAscii-nil
number_is_ascii (b ∷ bytes) number =
    elim (number_cases b bytes number) [
      | inl minus ↦ IsAscii-cons b bytes (omega (arith, minus.0)) (is_digits_ascii bytes minus.1)
      | inr plain ↦ is_digits_ascii (b ∷ bytes) plain.1
    ]

pub number_is_text : (bytes : List ℕ) → is_number bytes ≡ true → IsUtf8 bytes
number_is_text bytes number = IsUtf8-from_ascii bytes (number_is_ascii bytes number)

-- and a number is what a parse reads
digits_are_numeral : (bytes : List ℕ) → is_digits bytes ≡ true → IsNumeral 10 bytes
digits_are_numeral [] digits = absurd cc
digits_are_numeral (b ∷ bytes) digits =
    (omega arith, (numerals_by_value (λ ds. all_ascii_digits ds ≡ true) tells_all_ascii_digits).to (b ∷ bytes) (and_parts (not (eqb (length (b ∷ bytes)) 0)) (all_ascii_digits (b ∷ bytes)) digits).1)

pub number_is_numeral : (bytes : List ℕ) → is_number bytes ≡ true → IsNumeral 10 (without_leading_sign bytes)
number_is_numeral [] number = absurd cc
number_is_numeral (b ∷ bytes) number =
    elim (number_cases b bytes number) [
      | inl minus ↦ rw minus.0 (digits_are_numeral bytes minus.1)
      | inr plain ↦
          let none = digit_is_no_sign b (digits_parts b bytes plain.1).0 in
          rw (none.0, none.1) (digits_are_numeral (b ∷ bytes) plain.1)
    ]

-- ---- the value of a number without a minus sign

pub digits_value_whole : (digits : List ℕ) (i : ℕ) → length digits ≤ i → digits_value 10 (take i digits) ≡ digits_value 10 digits
digits_value_whole digits i end = ap (digits_value 10) (take_all i digits end)

pub plain_value : (b : ℕ) (bytes : List ℕ) → (b ≡ 45 → ⊥) → is_number (b ∷ bytes) ≡ true → signed_digits_value 10 (b ∷ bytes) ≡ pos (digits_value 10 (b ∷ bytes))
plain_value b bytes plain number =
    elim (number_cases b bytes number) [
      | inl minus ↦ absurd (plain minus.0)
      | inr digits ↦
          let none = digit_is_no_sign b (digits_parts b bytes digits.1).0 in
          rw (none.0, none.1) refl
    ]
