-- The codes of the texts of conditions, by the texts of each dimension.
-- Source: Cubrick (VLDB 2016), dictionary encoding of text dimensions.
use Rattle.std.specs.Prelude.{ℕ, List, [], map, filter_map, flat_map, slice_get, unwrap_or, Option, Some, None}
use Rattle.std.specs.List.{position_from}
use Rattle.std.specs.Str.{bytes_eq}
use Rattle.cube_values.specs.declared.operation.Condition.{Condition}
use Rattle.cube_values.specs.declared.value.Value.{Value}
use Rattle.cube_values.specs.declared.value.Value.TheVariants.{Text, Int}
use Rattle.condition_spans.specs.CodedConditions.{values_of_test}

-- The texts of the dimension at a place.
abbrev pub texts_at : List (List (List ℕ)) → ℕ → List (List ℕ)
texts_at lists place = unwrap_or (slice_get lists place) []

-- The texts of each dimension of the cube at a place.
abbrev pub lists_at : List (List (List (List ℕ))) → ℕ → List (List (List ℕ))
lists_at names cube = unwrap_or (slice_get names cube) []

-- The code of a text is its place among texts. One that does not stand there has none.
abbrev pub code_in : List (List ℕ) → List ℕ → Option ℕ
code_in texts text = position_from (bytes_eq text) 0 texts

abbrev pub text_of : Value → Option (List ℕ)
text_of (Text text) = Some text
text_of (Int n) = None

-- The codes of the texts among values, in order.
abbrev pub codes_among : List (List ℕ) → List Value → List (Option ℕ)
codes_among texts values = map (code_in texts) (filter_map text_of values)

-- The codes of the texts of conditions, in order.
abbrev pub codes_in : List (List (List ℕ)) → List Condition → List (Option ℕ)
codes_in lists conditions = flat_map (λ c. codes_among (texts_at lists c.place) (values_of_test c.test)) conditions
