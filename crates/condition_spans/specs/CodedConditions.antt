-- Conditions on coordinates: conditions with each text read as its code.
-- Source: Cubrick (VLDB 2016), dictionary encoding of text dimensions.
use Rattle.std.specs.Prelude.{ℕ, ℤ, pos, List, [], ◌∷◌, fold, Option, Some, None}
use Rattle.std.specs.List.{cons_option}
use Rattle.std.specs.Option.{option_map}
use Rattle.cube_values.specs.declared.operation.Condition.{Condition}
use Rattle.cube_values.specs.declared.operation.ValueTest.{ValueTest}
use Rattle.cube_values.specs.declared.operation.ValueTest.TheVariants.{Equal, OneOf, Between}
use Rattle.cube_values.specs.declared.value.Value.{Value}
use Rattle.cube_values.specs.declared.value.Value.TheVariants.{Text, Int}

-- Codes stand in the order of the texts. A text is read as the first, which may be none; a number is itself.
abbrev pub number_by_codes : List (Option ℕ) → Value → Option ℤ
number_by_codes codes (Int n) = Some n
number_by_codes [] (Text text) = None
number_by_codes (code ∷ codes) (Text text) = option_map pos code

-- The codes behind that of a value.
abbrev pub codes_behind : List (Option ℕ) → Value → List (Option ℕ)
codes_behind codes (Int n) = codes
codes_behind [] (Text text) = []
codes_behind (code ∷ codes) (Text text) = codes

-- Values by their numbers. A text without a code is left out.
abbrev pub coded_values : List (Option ℕ) → List Value → List Value
coded_values codes [] = []
coded_values codes (v ∷ values) =
    cons_option (option_map Int (number_by_codes codes v)) (coded_values (codes_behind codes v) values)

-- The values that a test compares with.
abbrev pub values_of_test : ValueTest → List Value
values_of_test (Equal wanted) = wanted ∷ []
values_of_test (OneOf wanted) = wanted
values_of_test (Between low high) = []

-- A test on coordinates.
abbrev pub coded_test : List (Option ℕ) → ValueTest → ValueTest
coded_test codes (Equal wanted) = OneOf (coded_values codes (wanted ∷ []))
coded_test codes (OneOf wanted) = OneOf (coded_values codes wanted)
coded_test codes (Between low high) = Between low high

-- A condition on coordinates.
abbrev pub coded_condition : List (Option ℕ) → Condition → Condition
coded_condition codes c = record { place = c.place; test = coded_test codes c.test }

-- Conditions on coordinates, by the codes of all their texts in order.
abbrev pub coded_conditions : List (Option ℕ) → List Condition → List Condition
coded_conditions codes [] = []
coded_conditions codes (c ∷ conditions) =
    coded_condition codes c ∷ coded_conditions (fold codes_behind codes (values_of_test c.test)) conditions
