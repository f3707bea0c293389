-- When two values are one, and which of two comes first.
use Rattle.std.specs.Prelude.{Bool, false, List}
use Rattle.std.specs.Str.{bytes_eq}
use Rattle.std.specs.Cmp.Lexicographic.{pointwise, slice_cmp}
use Rattle.std.specs.Ordering.{int_eq, int_cmp, nat_cmp}
use Rattle.std.specs.declared.cmp.Ordering.{Ordering}
use Rattle.std.specs.declared.cmp.Ordering.TheVariants.{Less, Greater}
use Rattle.cube_values.specs.declared.value.Value.{Value}
use Rattle.cube_values.specs.declared.value.Value.TheVariants.{Text, Int}

-- Two values are one.
abbrev pub value_eq : Value → Value → Bool
value_eq (Text a) (Text b) = bytes_eq a b
value_eq (Int a) (Int b) = int_eq a b
value_eq a b = false

-- Numbers go by size, texts by bytes, and a number before a text.
abbrev pub value_cmp : Value → Value → Ordering
value_cmp (Int a) (Int b) = int_cmp a b
value_cmp (Text a) (Text b) = slice_cmp nat_cmp a b
value_cmp (Int a) (Text b) = Less
value_cmp (Text a) (Int b) = Greater

-- Two lists of values are one.
abbrev pub values_eq : List Value → List Value → Bool
values_eq = pointwise value_eq

-- Lists of values go by the first place at which they differ.
abbrev pub values_cmp : List Value → List Value → Ordering
values_cmp = slice_cmp value_cmp
