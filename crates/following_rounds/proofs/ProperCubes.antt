-- The cubes that a text declares can be made.
use Rattle.std.proofs.Common.{◌≡◌, ℕ, ◌<◌, ◌==◌, List, [], ◌∷◌, ◌++◌, length, map, filter_map, Option, Some, None, All, if◌then◌else◌, refl, arith, length-append}
use Rattle.std.specs.Prelude.{IsTrue}
use Rattle.std.specs.List.{AllByRecursion}
use Rattle.std.proofs.lemmas.List.{length-map}
use Rattle.std.proofs.lemmas.List.Elements.{All-from_recursion, recursion_from_All}
use Rattle.cube_language.specs.Columns.{columns_of}
use Rattle.cube_language.specs.Cubes.{IsStorable, duplicate_in, first_some, large_range_in, many_bricks_in, many_columns_in, no_metric_in, zero_in}
use Rattle.cube_language.specs.CubesText.{Line, Skipped, Cube, Dim, Metric, IsLine, AreLines, Declares, columns_in, cubes_in, dim_in, metric_in, word_lines}
use Rattle.cube_language.specs.Grammar.{IsProperColumn, IsProperDim}
use Rattle.cube_language.specs.Names.{is_name}
use Rattle.cube_language.specs.declared.cubes_fault.SchemaFault.{SchemaFault}
use Rattle.cube_language.specs.declared.cubes_fault.SchemaFault.TheVariants.{NoMetric}
use Rattle.cube_language.specs.declared.decl.Column.TheVariants as column_kind
use Rattle.cube_language.specs.declared.decl.Decl.{Decl}
use Rattle.cube_language.specs.declared.decl.DimDecl.{DimDecl}
use Rattle.cube_schema.proofs.BegunDecls.{column}
use Rattle.core_events.specs.Fitting.{CanBeMade}

-- What lines say.

abbrev IsNameOf : List ℕ → Type 0
IsNameOf name = IsTrue (is_name name)

abbrev IsProperLine : Line → Type 0
IsProperLine Skipped = Unit {0}
IsProperLine (Cube name) = IsNameOf name
IsProperLine (Dim d) = IsProperDim d
IsProperLine (Metric name) = IsNameOf name

proper-line : (words : List (List ℕ)) (line : Line) → IsLine words line → IsProperLine line
proper-line words Skipped is = tt
proper-line words (Cube name) is = is.1
proper-line words (Dim d) is = record { name = is.3; cardinality = is.4.2; range = is.5.2 }
proper-line words (Metric name) is = is.1

proper-lines : (words : List (List (List ℕ))) (lines : List Line) → AreLines words lines
    → AllByRecursion IsProperLine lines
proper-lines [] [] are = tt
proper-lines [] (line ∷ lines) are = absurd are
proper-lines (first ∷ words) [] are = absurd are
proper-lines (first ∷ words) (line ∷ lines) are = (proper-line first line are.0, proper-lines words lines are.1)

-- The columns of a cube.

dims-proper : (lines : List Line) → AllByRecursion IsProperLine lines
    → AllByRecursion IsProperDim (filter_map dim_in (columns_in lines))
dims-proper [] proper = tt
dims-proper (Skipped ∷ lines) proper = rw (column Skipped lines refl) (dims-proper lines proper.1)
dims-proper (Cube name ∷ lines) proper = tt
dims-proper (Dim d ∷ lines) proper = rw (column (Dim d) lines refl) (proper.0, dims-proper lines proper.1)
dims-proper (Metric name ∷ lines) proper = rw (column (Metric name) lines refl) (dims-proper lines proper.1)

metrics-proper : (lines : List Line) → AllByRecursion IsProperLine lines
    → AllByRecursion IsNameOf (filter_map metric_in (columns_in lines))
metrics-proper [] proper = tt
metrics-proper (Skipped ∷ lines) proper = rw (column Skipped lines refl) (metrics-proper lines proper.1)
metrics-proper (Cube name ∷ lines) proper = tt
metrics-proper (Dim d ∷ lines) proper = rw (column (Dim d) lines refl) (metrics-proper lines proper.1)
metrics-proper (Metric name ∷ lines) proper =
    rw (column (Metric name) lines refl) (proper.0, metrics-proper lines proper.1)

-- A cube of such columns.
record HasProperParts (d : Decl) : Type 0 where
  pub name : IsNameOf d.name
  pub dims : AllByRecursion IsProperDim d.dims
  pub metrics : AllByRecursion IsNameOf d.metrics

proper-cubes : (lines : List Line) → AllByRecursion IsProperLine lines → AllByRecursion HasProperParts (cubes_in lines)
proper-cubes [] proper = tt
proper-cubes (Skipped ∷ lines) proper = proper-cubes lines proper.1
proper-cubes (Cube name ∷ lines) proper = (
  record { name = proper.0; dims = dims-proper lines proper.1; metrics = metrics-proper lines proper.1 },
  proper-cubes lines proper.1,
)
proper-cubes (Dim d ∷ lines) proper = proper-cubes lines proper.1
proper-cubes (Metric name ∷ lines) proper = proper-cubes lines proper.1

names-columns : (metrics : List (List ℕ)) → AllByRecursion IsNameOf metrics
    → AllByRecursion IsProperColumn (map column_kind.Metric metrics)
names-columns [] are = tt
names-columns (name ∷ metrics) are = (are.0, names-columns metrics are.1)

all-columns : (dims : List DimDecl) (metrics : List (List ℕ)) → AllByRecursion IsProperDim dims
    → AllByRecursion IsNameOf metrics
    → AllByRecursion IsProperColumn (map column_kind.Dim dims ++ map column_kind.Metric metrics)
all-columns [] metrics dims_are metrics_are = names-columns metrics metrics_are
all-columns (d ∷ dims) metrics dims_are metrics_are = (dims_are.0, all-columns dims metrics dims_are.1 metrics_are)

-- A cube that can be stored has a metric.

others-none : (found : Option SchemaFault) (others : List (Option SchemaFault)) → first_some (found ∷ others) ≡ None
    → first_some others ≡ None
others-none None others none = none
others-none (Some x) others none = absurd cc

by-metrics : (metrics : List (List ℕ))
    → first_some ((if length metrics == 0 then Some NoMetric else None) ∷ []) ≡ None → 0 < length metrics
by-metrics [] none = absurd cc
by-metrics (name ∷ metrics) none = omega arith

some-metric : (d : Decl) → IsStorable d → 0 < length d.metrics
some-metric d storable =
    let last : List (Option SchemaFault) = no_metric_in d ∷ [] in
    let columns = many_columns_in d ∷ last in
    let bricks = many_bricks_in d ∷ columns in
    let ranges = large_range_in d ∷ bricks in
    by-metrics d.metrics
    (others-none (many_columns_in d) last
    (others-none (many_bricks_in d) columns
    (others-none (large_range_in d) bricks
    (others-none (zero_in d) ranges
    (others-none (duplicate_in d) (zero_in d ∷ ranges) storable)))))

can-be-made : (d : Decl) → HasProperParts d → IsStorable d → CanBeMade d
can-be-made d parts storable =
    let some = some-metric d storable in
    let long = length-append (map column_kind.Dim d.dims) (map column_kind.Metric d.metrics) in
    let metrics = length-map d.metrics column_kind.Metric in
    record {
      proper = (
        parts.name,
        (
          omega (arith, some, long, metrics),
          All-from_recursion IsProperColumn (columns_of d) (all-columns d.dims d.metrics parts.dims parts.metrics),
        ),
      );
      storable = storable;
    }

all-can-be-made : (cubes : List Decl) → AllByRecursion HasProperParts cubes → AllByRecursion IsStorable cubes
    → AllByRecursion CanBeMade cubes
all-can-be-made [] parts storable = tt
all-can-be-made (d ∷ cubes) parts storable =
    (can-be-made d parts.0 storable.0, all-can-be-made cubes parts.1 storable.1)

pub declared-can-be-made : (text : List ℕ) (cubes : List Decl) → Declares text cubes → All CanBeMade cubes
declared-can-be-made text cubes declares =
    let proper = proper-lines (word_lines text) declares.lines declares.formed.forms in
    let parts =
    coe 1 0 (i. AllByRecursion HasProperParts (declares.are i)) (proper-cubes declares.lines proper)
    in
    All-from_recursion CanBeMade cubes
    (all-can-be-made cubes parts (recursion_from_All IsStorable cubes declares.storable))
