-- The columns of a cube, which may be declared in any order.
use Rattle.std.specs.Prelude.{ℕ, List, ◌++◌, map, filter_map, Option, Some, None}
use Rattle.cube_language.specs.declared.decl.Column.{Column}
use Rattle.cube_language.specs.declared.decl.Column.TheVariants.{Dim, Metric}
use Rattle.cube_language.specs.declared.decl.Decl.{Decl}
use Rattle.cube_language.specs.declared.decl.DimDecl.{DimDecl}

-- The columns of a cube, dimensions first.
abbrev pub columns_of : Decl → List Column
columns_of d = map Dim d.dims ++ map Metric d.metrics

abbrev pub column_name : Column → List ℕ
column_name (Dim dim) = dim.name
column_name (Metric name) = name

abbrev pub column_dim : Column → Option DimDecl
column_dim (Dim dim) = Some dim
column_dim (Metric name) = None

abbrev pub column_metric : Column → Option (List ℕ)
column_metric (Dim dim) = None
column_metric (Metric name) = Some name

-- The cube that columns declare: its dimensions and its metrics, each in their order.
abbrev pub decl_of : List ℕ → List Column → Decl
decl_of name columns =
    record { name = name; dims = filter_map column_dim columns; metrics = filter_map column_metric columns }
