-- Numbers that 64 bits with a sign can hold, and the number that a field spells.
use Rattle.std.proofs.Common.{◌≡◌, ℕ, zero, suc, ◌<◌, ◌≤◌, ◌^◌, true, false, eqb, ℤ, pos, negsuc, neg_ℤ, List, ◌∷◌, Some, None, inl, inr, refl, arith}
use Rattle.std.specs.Prelude.{FitsSigned}
use Rattle.std.specs.Int.{w64}
use Rattle.std.specs.Option.{option_map_or}
use Rattle.std.specs.Str.Parse.{signed_digits_value}
use Rattle.std.proofs.lemmas.Bool.{cases_Bool, eqb-true, le-ltb, lt-ltb, ltb-true}
use Rattle.std.proofs.lemmas.Bool.Decides.{nat_tests}
use Rattle.std.specs.Char.{is_ascii_digit}
use Rattle.cube_language.specs.Tokens.{is_digits, is_number}
use Rattle.csv_load.specs.Fields.{field_number, is_narrow, minus_number, narrow_number, plain_number, spelled_number}
use Rattle.csv_load.proofs.Digits.{digit_at}

pub fits_narrow : (n : ℤ) → FitsSigned w64 n → is_narrow n ≡ true
fits_narrow (pos n) fits = lt-ltb n (2 ^ 63) fits.sfits
fits_narrow (negsuc n) fits = lt-ltb n (2 ^ 63) fits.sfits

pub narrow_fits : (n : ℤ) → is_narrow n ≡ true → FitsSigned w64 n
narrow_fits (pos n) narrow = record { sfits = ltb-true n (2 ^ 63) narrow }
narrow_fits (negsuc n) narrow = record { sfits = ltb-true n (2 ^ 63) narrow }

-- what does not fit 64 bits without a sign does not fit them with one
pub wide_plain : (n : ℕ) → 2 ^ 64 ≤ n → narrow_number (pos n) ≡ None
wide_plain n wide = rw (le-ltb n (2 ^ 63) (omega (arith, wide))) refl

pub wide_minus : (n : ℕ) → 2 ^ 64 ≤ n → narrow_number (neg_ℤ (pos n)) ≡ None
wide_minus zero wide = absurd (omega (arith, wide))
wide_minus (suc n) wide = rw (le-ltb n (2 ^ 63) (omega (arith, wide))) refl

-- and what is below 2 ^ 63 does, with a minus sign or without
pub narrow_plain : (n : ℕ) → n < 2 ^ 63 → narrow_number (pos n) ≡ Some (pos n)
narrow_plain n narrow = rw (lt-ltb n (2 ^ 63) narrow) refl

pub narrow_minus : (n : ℕ) → n < 2 ^ 63 → narrow_number (neg_ℤ (pos n)) ≡ Some (neg_ℤ (pos n))
narrow_minus zero narrow = refl
narrow_minus (suc n) narrow = rw (lt-ltb n (2 ^ 63) (omega (arith, narrow))) refl

no_digits : (bytes : List ℕ) → is_digits bytes ≡ false → plain_number bytes ≡ None
no_digits bytes none = rw none refl

-- a field that begins with another byte is digits alone
pub spelled_plain : (byte : ℕ) (bytes : List ℕ) → eqb byte 45 ≡ false
    → plain_number (byte ∷ bytes) ≡ spelled_number (byte ∷ bytes)
spelled_plain byte bytes other = elim (cases_Bool (is_digits (byte ∷ bytes))) [
  | inl digits ↦
      let digit : is_ascii_digit byte ≡ true = digit_at (byte ∷ bytes) 0 0 digits (omega arith) in
      let no_plus : eqb byte 43 ≡ false = grind (arith, nat_tests) in
      rw (other, digits, no_plus) refl
  | inr none ↦ rw (other, none) refl
]

pub spelled_minus : (byte : ℕ) (bytes : List ℕ) → eqb byte 45 ≡ true
    → minus_number bytes ≡ spelled_number (byte ∷ bytes)
spelled_minus byte bytes minus = elim (cases_Bool (is_digits bytes)) [
  | inl digits ↦ rw (eqb-true byte 45 minus, digits) refl
  | inr none ↦ rw (eqb-true byte 45 minus, none) refl
]

-- ---- what a field spells fits

zero_fits : FitsSigned w64 (pos 0)
zero_fits = narrow_fits (pos 0) refl

narrow_or_zero : (n : ℤ) → FitsSigned w64 (option_map_or (λ n. n) (narrow_number n) (pos 0))
narrow_or_zero n = elim (cases_Bool (is_narrow n)) [
  | inl narrow ↦ rw narrow (narrow_fits n narrow)
  | inr wide ↦ rw wide zero_fits
]

pub field_fits : (field : List ℕ) → FitsSigned w64 (field_number field)
field_fits field = elim (cases_Bool (is_number field)) [
  | inl number ↦ rw number (narrow_or_zero (signed_digits_value 10 field))
  | inr none ↦ rw none zero_fits
]
