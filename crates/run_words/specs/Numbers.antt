-- The numbers that options give.
-- Source: this project's own.
use Rattle.std.specs.Prelude.{◌≡◌, ◌≤◌, ℕ, List, Option, Some, None, decimal}

-- A text spells a number from 1 up to the most: in decimal digits, without a sign and without leading zeros.
pub record IsNumberUpTo (most : ℕ) (text : List ℕ) (number : ℕ) : Type 0 where
  pub digits : text ≡ decimal number
  pub some : 1 ≤ number
  pub few : number ≤ most

-- It spells none of these.
abbrev pub IsNoNumberUpTo : ℕ → List ℕ → Type 0
IsNoNumberUpTo most text = (number : ℕ) → IsNumberUpTo most text number → ⊥

-- An option gives this number; where it is not given, the number is the default.
abbrev pub IsNumberOr : ℕ → ℕ → Option (List ℕ) → ℕ → Type 0
IsNumberOr default most None number = number ≡ default
IsNumberOr default most (Some text) number = IsNumberUpTo most text number

-- An option gives this number, or neither is there.
abbrev pub IsNumberIf : ℕ → Option (List ℕ) → Option ℕ → Type 0
IsNumberIf most None number = number ≡ None
IsNumberIf most (Some text) (Some number) = IsNumberUpTo most text number
IsNumberIf most (Some text) None = ⊥

-- An option is given, and gives no such number.
abbrev pub IsBadNumber : ℕ → Option (List ℕ) → Type 0
IsBadNumber most None = ⊥
IsBadNumber most (Some text) = IsNoNumberUpTo most text
