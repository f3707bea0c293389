-- Which rows a region has.
-- Source: Cubrick (VLDB 2016), filters on dimensions.
use Rattle.std.specs.Prelude.{Bool, false, not, ◌&&◌, List, slice_get, int_lt}
use Rattle.std.specs.List.{list_any, list_all}
use Rattle.std.specs.Option.{option_map_or}
use Rattle.std.specs.Str.{bytes_eq}
use Rattle.cube_values.specs.declared.operation.ValueTest.{ValueTest}
use Rattle.cube_values.specs.declared.operation.ValueTest.TheVariants.{Equal, OneOf, Between}
use Rattle.cube_values.specs.declared.operation.Condition.{Condition}
use Rattle.cube_values.specs.declared.operation.Region.{Region}
use Rattle.cube_values.specs.declared.row.StoredRow.{StoredRow}
use Rattle.cube_values.specs.declared.value.Value.{Value}
use Rattle.cube_values.specs.declared.value.Value.TheVariants.{Int}
use Rattle.cube_values.specs.Values.{value_eq}

-- A number lies between two others, ends included. Texts never do.
abbrev pub lies_between : Value → Value → Value → Bool
lies_between (Int low) (Int high) (Int n) = not (int_lt n low) && not (int_lt high n)
lies_between low high value = false

-- A test passes a value.
abbrev pub passes : ValueTest → Value → Bool
passes (Equal wanted) value = value_eq wanted value
passes (OneOf wanted) value = list_any (λ w. value_eq w value) wanted
passes (Between low high) value = lies_between low high value

-- A condition holds of values where there is one at its place and the test passes it.
abbrev pub holds_of : List Value → Condition → Bool
holds_of dims c = option_map_or (passes c.test) (slice_get dims c.place) false

-- A region has a row of its cube of which every condition holds.
abbrev pub region_has : Region → StoredRow → Bool
region_has region stored = bytes_eq region.cube stored.cube && list_all (holds_of stored.row.dims) region.conditions
