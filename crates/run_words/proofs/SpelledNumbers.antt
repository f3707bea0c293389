-- What a text that spells a number is parsed as.
use Rattle.std.proofs.Common.{◌≡◌, ◌∙◌, ◌⊎◌, inl, inr, ◌<◌, ◌+◌, ◌^◌, ℕ, ◌≤◌, true, false, true≢false, List, Result, Ok, Err, sym, ap, arith}
use Rattle.std.specs.Prelude.{decimal}
use Rattle.std.specs.Bool.{Decides}
use Rattle.std.specs.Str.{bytes_eq}
use Rattle.std.specs.Str.Parse.{ParsesUnsigned, digits_value}
use Rattle.std.proofs.lemmas.Bool.{cases_Bool, cases_lt}
use Rattle.std.proofs.lemmas.Fmt.{decimal_is_IsNumeral, parse-decimal}
use Rattle.std.proofs.lemmas.Slice.Eq.{bytes_eq-Decides}
use Rattle.run_words.specs.Numbers.{IsNoNumberUpTo, IsNumberUpTo}

number_in : {E : Type 0} → Result ℕ E → ℕ
number_in (Ok n) = n
number_in (Err e) = 0

-- A number that is written in decimal digits is parsed as itself.
pub parsed_as : {E : Type 0} (most number : ℕ) (text : List ℕ) (parsed : Result ℕ E) → most < 2 ^ 32
    → IsNumberUpTo most text number → ParsesUnsigned 32 10 text parsed → parsed ≡ Ok number
parsed_as most number text parsed fits is parses =
    let few = is.few in
    parse-decimal 32 number text parsed (omega (arith, few, fits)) (omega (arith, few, fits)) is.digits parses

pub same_number : {E : Type 0} (most number found : ℕ) (text : List ℕ) (parsed : Result ℕ E) → most < 2 ^ 32
    → IsNumberUpTo most text number → ParsesUnsigned 32 10 text parsed → parsed ≡ Ok found → found ≡ number
unfolding number_in
same_number most number found text parsed fits is parses ok =
    ap number_in (sym ok) ∙ ap number_in (parsed_as most number text parsed fits is parses)

-- A text spells one number at most, and that is the value of its digits.
pub value_of_digits : (most number : ℕ) (text : List ℕ) → most < 2 ^ 32 → IsNumberUpTo most text number
    → digits_value 10 text ≡ number
value_of_digits most number text fits is =
    let few = is.few in
    ap (digits_value 10) is.digits ∙ (decimal_is_IsNumeral number (omega (arith, few, fits))).1

pub one_number : (most a b : ℕ) (text : List ℕ) → most < 2 ^ 32 → IsNumberUpTo most text a → IsNumberUpTo most text b
    → a ≡ b
one_number most a b text fits is also =
    sym (value_of_digits most a text fits is) ∙ value_of_digits most b text fits also

-- Whether a text spells such a number is decided.
pub number_or_none : (most : ℕ) (text : List ℕ) → most < 2 ^ 32
    → ((number : ℕ) × IsNumberUpTo most text number) ⊎ IsNoNumberUpTo most text
number_or_none most text fits =
    at_digits (cases_Bool (bytes_eq text (decimal value)))
  where
    value : ℕ
    value = digits_value 10 text

    at_most : text ≡ decimal value → (1 ≤ value) → (value < most + 1) ⊎ (most + 1 ≤ value)
        → ((number : ℕ) × IsNumberUpTo most text number) ⊎ IsNoNumberUpTo most text
    at_most digits some (inl few) = inl (value, record { digits = digits; some = some; few = omega (arith, few) })
    at_most digits some (inr many) = inr (λ number is.
        let same = value_of_digits most number text fits is in
        let few = is.few in
        omega (arith, same, few, many))

    at_least : text ≡ decimal value → (value < 1) ⊎ (1 ≤ value)
        → ((number : ℕ) × IsNumberUpTo most text number) ⊎ IsNoNumberUpTo most text
    at_least digits (inl none) = inr (λ number is.
        let same = value_of_digits most number text fits is in
        let some = is.some in
        omega (arith, same, some, none))
    at_least digits (inr some) = at_most digits some (cases_lt value (most + 1))

    decides : Decides (bytes_eq text (decimal value)) (text ≡ decimal value)
    decides = bytes_eq-Decides text (decimal value)

    at_digits : (bytes_eq text (decimal value) ≡ true) ⊎ (bytes_eq text (decimal value) ≡ false)
        → ((number : ℕ) × IsNumberUpTo most text number) ⊎ IsNoNumberUpTo most text
    at_digits (inl equal) = at_least (decides.0 equal) (cases_lt value 1)
    at_digits (inr never) = inr (λ number is.
        true≢false
        (sym (decides.1 (is.digits ∙ ap decimal (sym (value_of_digits most number text fits is)))) ∙ never))
