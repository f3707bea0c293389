-- The canonical text of cubes, and which declarations can be stored.
-- Source: Cubrick (VLDB 2016) for ranges and bricks; the limits are this project's own.
use Rattle.std.specs.Prelude.{◌≡◌, ℕ, ◌^◌, Bool, ◌==◌, ◌||◌, nat_lt, List, [], ◌∷◌, ◌++◌, length, map, codes, decimal, find, Option, Some, None, if◌then◌else◌}
use Rattle.std.specs.List.{list_any, flat_map}
use Rattle.std.specs.Option.{option_map}
use Rattle.std.specs.Str.{bytes_eq}
use Rattle.cube_values.specs.declared.shape.Shape.{Shape}
use Rattle.cube_values.specs.declared.shape.Size.{Size}
use Rattle.cube_values.specs.Shapes.{bricks_of}
use Rattle.cube_language.specs.declared.cubes_fault.SchemaFault.{SchemaFault}
use Rattle.cube_language.specs.declared.cubes_fault.SchemaFault.TheVariants.{DuplicateName, ZeroCardinality, RangeTooLarge, TooManyBricks, TooManyColumns, NoMetric}
use Rattle.cube_language.specs.declared.decl.DimDecl.{DimDecl}
use Rattle.cube_language.specs.declared.decl.Decl.{Decl}

-- The kind of a dimension as a word.
abbrev pub kind_text : Bool → List ℕ
kind_text text = if text then codes "text" else codes "int"

-- `dim NAME KIND CARDINALITY RANGE`
abbrev pub dim_text : DimDecl → List ℕ
dim_text d =
    codes "dim " ++ (d.name ++ (codes " "
    ++ (kind_text d.text ++ (codes " "
    ++ (decimal d.cardinality ++ (codes " " ++ (decimal d.range ++ codes "\n")))))))

-- `metric NAME`
abbrev pub metric_text : List ℕ → List ℕ
metric_text name = codes "metric " ++ (name ++ codes "\n")

-- `cube NAME`, then a line for each dimension, then one for each metric.
abbrev pub cube_text : Decl → List ℕ
cube_text d = codes "cube " ++ (d.name ++ (codes "\n" ++ (flat_map dim_text d.dims ++ flat_map metric_text d.metrics)))

-- The canonical text of cubes.
abbrev pub cubes_text : List Decl → List ℕ
cubes_text cubes = flat_map cube_text cubes

-- The names of dimensions.
abbrev pub dim_names : List DimDecl → List (List ℕ)
dim_names dims = map (λ dim. dim.name) dims

-- The names of a cube's columns, dimensions first.
abbrev pub column_names : Decl → List (List ℕ)
column_names d = dim_names d.dims ++ d.metrics

-- The first of names that stands among these or before it already.
abbrev pub repeated_after : List (List ℕ) → List (List ℕ) → Option (List ℕ)
repeated_after before [] = None
repeated_after before (name ∷ names) =
    if list_any (bytes_eq name) before then Some name else repeated_after (name ∷ before) names

-- The first name that stands before already.
abbrev pub first_repeated : List (List ℕ) → Option (List ℕ)
first_repeated names = repeated_after [] names

-- The size of a dimension.
abbrev pub size_of : DimDecl → Size
size_of dim = record { cardinality = dim.cardinality; range = dim.range }

-- The sizes of dimensions.
abbrev pub sizes_of : List DimDecl → List Size
sizes_of dims = map size_of dims

-- The shape of a cube's dimensions.
abbrev pub shape_of : Decl → Shape
shape_of d = record { sizes = sizes_of d.dims }

-- The fault that the first name has that stands before already.
abbrev pub duplicate_in : Decl → Option SchemaFault
duplicate_in d = option_map DuplicateName (first_repeated (column_names d))

-- A dimension without coordinates, or cut into ranges of none.
abbrev pub has_zero : DimDecl → Bool
has_zero dim = dim.cardinality == 0 || dim.range == 0

-- The fault that the first such dimension has.
abbrev pub zero_in : Decl → Option SchemaFault
zero_in d = option_map (λ dim. ZeroCardinality dim.name) (find has_zero d.dims)

-- A range has more coordinates than the dimension.
abbrev pub has_large_range : DimDecl → Bool
has_large_range dim = nat_lt dim.cardinality dim.range

-- The fault that the first such dimension has.
abbrev pub large_range_in : Decl → Option SchemaFault
large_range_in d = option_map (λ dim. RangeTooLarge dim.name) (find has_large_range d.dims)

-- There are more than 2 ^ 62 bricks.
abbrev pub many_bricks_in : Decl → Option SchemaFault
many_bricks_in d = if nat_lt (2 ^ 62) (bricks_of (sizes_of d.dims)) then Some TooManyBricks else None

-- There are more than sixteen dimensions or more than sixteen metrics.
abbrev pub many_columns_in : Decl → Option SchemaFault
many_columns_in d = if nat_lt 16 (length d.dims) || nat_lt 16 (length d.metrics) then Some TooManyColumns else None

-- There is no metric.
abbrev pub no_metric_in : Decl → Option SchemaFault
no_metric_in d = if length d.metrics == 0 then Some NoMetric else None

-- The first of them that there is.
abbrev pub first_some : {A : Type 0} → List (Option A) → Option A
first_some [] = None
first_some (Some x ∷ others) = Some x
first_some (None ∷ others) = first_some others

-- Why a declaration cannot be stored, or None where it can.
abbrev pub schema_fault : Decl → Option SchemaFault
schema_fault d =
    first_some (duplicate_in d ∷ zero_in d ∷ large_range_in d ∷ many_bricks_in d ∷ many_columns_in d
    ∷ no_metric_in d ∷ [])

-- The declaration can be stored.
abbrev pub IsStorable : Decl → Type 0
IsStorable d = schema_fault d ≡ None
