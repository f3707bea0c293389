-- A few digits one after the other: the number that they spell, and how great it can be.
use Rattle.std.proofs.Common.{◌≡◌, ℕ, suc, ◌+◌, ◌-◌, ◌*◌, ◌^◌, ◌<◌, ◌≤◌, Bool, true, false, cond, not, eqb, List, [], ◌∷◌, length, get_or, take, drop, pos, neg_ℤ, Some, None, refl, sym, ap, subst, ◌∙◌, pow-suc, lt_of_lt_of_le, arith}
use Rattle.std.specs.Prelude.{◌&&◌}
use Rattle.std.specs.Char.{digit_value, is_ascii_digit}
use Rattle.std.specs.Str.{all_ascii_digits}
use Rattle.std.specs.Str.Parse.{digits_value, digits_value_after}
use Rattle.std.proofs.Math.Nat.{pow-le-pow_right}
use Rattle.std.proofs.lemmas.Bool.Decides.{nat_tests}
use Rattle.std.proofs.lemmas.List.{take_all}
use Rattle.cube_language.specs.Tokens.{is_digits}
use Rattle.csv_load.specs.Fields.{minus_number, narrow_number, plain_number}
use Rattle.csv_load.proofs.Narrow.{narrow_minus, narrow_plain}

-- What is read so far of a few digits, and what is left of them.
pub record HasReadDigits (whole left : List ℕ) (n : ℕ) : Type 0 where
  pub value : digits_value_after 10 n left ≡ digits_value 10 whole
  pub digits : all_ascii_digits left ≡ all_ascii_digits whole
  pub few : length left ≤ 18
  pub below : n < 10 ^ (18 - length left)

pub nothing_read : (whole : List ℕ) → length whole ≤ 18 → HasReadDigits whole whole 0
nothing_read whole few = record {
  value = refl;
  digits = refl;
  few = few;
  below = omega (arith, pow-le-pow_right {n = 10} (omega arith) {i = 0} {j = 18 - length whole} (omega arith));
}

-- while a byte is left there is room for it
pub room_for : (whole left : List ℕ) (n : ℕ) → HasReadDigits whole left n → 1 ≤ length left → n < 10 ^ 17
room_for whole left n h some =
    lt_of_lt_of_le h.below
    (pow-le-pow_right {n = 10} (omega arith) {i = 18 - length left} {j = 17} (omega (arith, some)))

digit_below : (digit : ℕ) → is_ascii_digit digit ≡ true → digit_value digit < 10
digit_below digit is = grind (arith, nat_tests)

one_read : (whole rest : List ℕ) (digit n more : ℕ) → HasReadDigits whole (digit ∷ rest) n
    → is_ascii_digit digit ≡ true → more ≡ n * 10 + digit_value digit → HasReadDigits whole rest more
one_read whole rest digit n more h is next =
    let count : 18 - length rest ≡ suc (18 - length (digit ∷ rest)) = omega (arith, h.few) in
    let ten : 10 ^ (18 - length rest) ≡ 10 ^ (18 - length (digit ∷ rest)) * 10 =
    ap (λ k. 10 ^ k) count ∙ pow-suc 10 (18 - length (digit ∷ rest)) in
    record {
      value = ap (λ m. digits_value_after 10 m rest) next ∙ h.value;
      digits = sym (ap (λ b. b && all_ascii_digits rest) is) ∙ h.digits;
      few = omega (arith, h.few);
      below = omega (arith, ten, h.below, next, digit_below digit is);
    }

pub digit_read : (whole left : List ℕ) (n more : ℕ) → HasReadDigits whole left n → 1 ≤ length left
    → is_ascii_digit (get_or left 0 0) ≡ true → more ≡ n * 10 + digit_value (get_or left 0 0)
    → HasReadDigits whole (take (length left - 1) (drop 1 left)) more
digit_read whole [] n more h some is next = absurd (omega (arith, some))
digit_read whole (digit ∷ rest) n more h some is next =
    let all : take (length (digit ∷ rest) - 1) rest ≡ rest = take_all (length (digit ∷ rest) - 1) rest (omega arith) in
    subst (λ (r : List ℕ). HasReadDigits whole r more) (sym all) (one_read whole rest digit n more h is next)

-- ---- the number of a field

pub none_plain : (digits : List ℕ) → length digits ≡ 0 → None ≡ plain_number digits
none_plain digits none = rw none refl

pub none_minus : (digits : List ℕ) → length digits ≡ 0 → None ≡ minus_number digits
none_minus digits none = rw none refl

-- where there is a byte, bytes are digits if each of them is one
are_digits : (digits : List ℕ) → 0 < length digits → is_digits digits ≡ all_ascii_digits digits
are_digits digits some =
    let no : eqb (length digits) 0 ≡ false = grind (arith, nat_tests, some) in
    ap (λ b. not b && all_ascii_digits digits) no

plain_by : (digits : List ℕ) (are : Bool) → 0 < length digits → all_ascii_digits digits ≡ are
    → plain_number digits ≡ cond are (narrow_number (pos (digits_value 10 digits))) None
plain_by digits are some is =
    ap (λ b. cond b (narrow_number (pos (digits_value 10 digits))) None) (are_digits digits some ∙ is)

minus_by : (digits : List ℕ) (are : Bool) → 0 < length digits → all_ascii_digits digits ≡ are
    → minus_number digits ≡ cond are (narrow_number (neg_ℤ (pos (digits_value 10 digits)))) None
minus_by digits are some is =
    ap (λ b. cond b (narrow_number (neg_ℤ (pos (digits_value 10 digits)))) None) (are_digits digits some ∙ is)

pub other_plain : (digits : List ℕ) → 0 < length digits → all_ascii_digits digits ≡ false
    → None ≡ plain_number digits
other_plain digits some other = sym (plain_by digits false some other)

pub other_minus : (digits : List ℕ) → 0 < length digits → all_ascii_digits digits ≡ false
    → None ≡ minus_number digits
other_minus digits some other = sym (minus_by digits false some other)

pub few_plain : (digits : List ℕ) (n : ℕ) → 0 < length digits → all_ascii_digits digits ≡ true
    → digits_value 10 digits ≡ n → n < 10 ^ 18 → Some (pos n) ≡ plain_number digits
few_plain digits n some are is below =
    sym (plain_by digits true some are ∙ ap (λ m. narrow_number (pos m)) is ∙ narrow_plain n (omega (arith, below)))

pub few_minus : (digits : List ℕ) (n : ℕ) → 0 < length digits → all_ascii_digits digits ≡ true
    → digits_value 10 digits ≡ n → n < 10 ^ 18 → Some (neg_ℤ (pos n)) ≡ minus_number digits
few_minus digits n some are is below =
    sym (minus_by digits true some are ∙ ap (λ m. narrow_number (neg_ℤ (pos m))) is
    ∙ narrow_minus n (omega (arith, below)))
