-- What binds a statement to one of some cubes, and what refuses it there.
-- Source: Cubrick (VLDB 2016), queries and deletions by dimensions; the order of refusals is this project's own.
use Rattle.std.specs.Prelude.{◌≡◌, ℕ, List, length, map, All, Option, Some, None, slice_get}
use Rattle.std.specs.List.{position_from}
use Rattle.std.specs.Option.{option_and_then}
use Rattle.std.specs.Str.{bytes_eq}
use Rattle.cube_values.specs.Queries.{IsSoundQuery}
use Rattle.cube_values.specs.Spans.{IsSoundPart}
use Rattle.cube_values.specs.declared.operation.Condition.{Condition}
use Rattle.cube_values.specs.declared.query.BoundQuery.{BoundQuery}
use Rattle.cube_values.specs.declared.span.Span.{Span}
use Rattle.cube_language.specs.Cubes.{sizes_of}
use Rattle.cube_language.specs.Misfits.{FitsCube, HasMisfit}
use Rattle.cube_language.specs.ResolvedNames.{resolved_region, resolved_query}
use Rattle.cube_language.specs.StatementParts.{conds_of}
use Rattle.cube_language.specs.declared.decl.Decl.{Decl}
use Rattle.cube_language.specs.declared.misfit.Misfit.{Misfit}
use Rattle.cube_language.specs.declared.statement.Statement.{Statement}
use Rattle.cube_language.specs.declared.statement.Statement.TheVariants.{Select, Watch, Insert, Load, Delete}
use Rattle.cube_run.specs.LoadedRows.{row_of_values}
use Rattle.cube_run.specs.RunRecords.{cube_called, cube_needed}
use Rattle.statement_check.specs.OwnParts.{inserted_rows}
use Rattle.condition_spans.specs.CodedConditions.{coded_conditions}
use Rattle.condition_spans.specs.Codes.{codes_in, lists_at}
use Rattle.condition_spans.specs.Spans.{IsSpanOf, CutNoBrick}
use Rattle.query_plan.specs.declared.fault.BindFault.{BindFault}
use Rattle.query_plan.specs.declared.fault.BindFault.TheVariants as fault
use Rattle.query_plan.specs.declared.plan.DropPlan.{DropPlan}
use Rattle.query_plan.specs.declared.plan.RowPlan.{RowPlan}

-- Which statements are bound in which way.
abbrev pub AsksRows : Statement → Type 0
AsksRows (Select items cube conds group having order limit) = Unit {0}
AsksRows (Watch items cube conds group) = Unit {0}
AsksRows s = ⊥

abbrev pub DeletesRows : Statement → Type 0
DeletesRows (Delete cube conds) = Unit {0}
DeletesRows s = ⊥

abbrev pub PutsRows : Statement → Type 0
PutsRows (Insert cube rows) = Unit {0}
PutsRows (Load cube path reject) = Unit {0}
PutsRows s = ⊥

-- The place of the cube of a name among cubes.
abbrev pub cube_place : List Decl → List ℕ → Option ℕ
cube_place cubes name = position_from (λ d. bytes_eq d.name name) 0 cubes

-- The cube that a statement needs stands at this place, and the statement fits it.
pub record IsBoundTo (cubes : List Decl) (s : Statement) (place : ℕ) (d : Decl) : Type 0 where
  pub place_is : option_and_then (cube_place cubes) (cube_needed s) ≡ Some place
  pub cube_is : slice_get cubes place ≡ Some d
  pub fits : FitsCube d s

-- A statement fails a test on the cube that it needs, and none before it.
pub record FailsOnCube (cubes : List Decl) (s : Statement) (misfit : Misfit) : Type 0 where
  pub decl : Decl
  pub cube_is : option_and_then (cube_called cubes) (cube_needed s) ≡ Some decl
  pub fails : HasMisfit decl s misfit

-- No cube has the name of the one that a statement needs.
pub record LacksCube (cubes : List Decl) (s : Statement) (name : List ℕ) : Type 0 where
  pub needed : cube_needed s ≡ Some name
  pub lacks : cube_called cubes name ≡ None

-- A statement fits the cube that it needs, at this place.
abbrev pub IsBoundAt : List Decl → Statement → ℕ → Type 0
IsBoundAt cubes s place = (d : Decl) × IsBoundTo cubes s place d

-- A statement fails a test on a cube.
abbrev pub IsUnfitFault : Decl → Statement → BindFault → Type 0
IsUnfitFault d s (fault.UnknownCube name) = ⊥
IsUnfitFault d s (fault.Unfit misfit) = HasMisfit d s misfit

-- Why a statement is bound to none of these cubes.
abbrev pub IsBindFault : List Decl → Statement → BindFault → Type 0
IsBindFault cubes s (fault.UnknownCube name) = LacksCube cubes s name
IsBindFault cubes s (fault.Unfit misfit) = FailsOnCube cubes s misfit

-- A deletion by coordinates: the place of its cube, and its conditions by the places of their dimensions.
pub record IsDropPlan (cubes : List Decl) (s : Statement) (plan : DropPlan) : Type 0 where
  pub deletes : DeletesRows s
  pub decl : Decl
  pub bound : IsBoundTo cubes s plan.cube decl
  pub conditions : plan.conditions ≡ (resolved_region decl (conds_of s)).conditions

-- It is that of some statement.
abbrev pub IsSomeDropPlan : List Decl → DropPlan → Type 0
IsSomeDropPlan cubes plan = (s : Statement) × IsDropPlan cubes s plan

-- A span has the coordinates that a deletion is about: those for which its conditions hold, with each of their texts
-- read as its code. It cuts no brick.
pub record IsDropSpan (cubes : List Decl) (plan : DropPlan) (codes : List (Option ℕ)) (span : Span) : Type 0 where
  pub decl : Decl
  pub cube_is : slice_get cubes plan.cube ≡ Some decl
  pub has : IsSpanOf (sizes_of decl.dims) (coded_conditions codes plan.conditions) span
  pub parts : length span.parts ≡ length decl.dims
  pub sound : All IsSoundPart span.parts
  pub whole : CutNoBrick (sizes_of decl.dims) span.parts

-- Rows to be put: the place of their cube, and the rows of an INSERT. A LOAD has its rows in a file.
pub record IsRowPlan (cubes : List Decl) (s : Statement) (plan : RowPlan) : Type 0 where
  pub decl : Decl
  pub bound : IsBoundTo cubes s plan.cube decl
  pub rows : plan.rows ≡ map (row_of_values decl) (inserted_rows s)

-- The conditions of a query on coordinates, with each text read by the texts of its dimension.
abbrev pub query_conditions : Decl → List (List (List ℕ)) → Statement → List Condition
query_conditions d lists s =
    let conditions = (resolved_query d s).region.conditions in coded_conditions (codes_in lists conditions) conditions

-- A query by coordinates on a cube: the coordinates for which its conditions hold, with each of their texts read by
-- the names, and the places of its group and of its items.
pub record IsQueryOn (d : Decl) (names : List (List (List (List ℕ)))) (s : Statement) (q : BoundQuery) : Type 0 where
  pub group : q.group ≡ (resolved_query d s).group
  pub items : q.items ≡ (resolved_query d s).items
  pub has : IsSpanOf (sizes_of d.dims) (query_conditions d (lists_at names q.cube) s) q.span
  pub parts : All IsSoundPart q.span.parts
  pub sound : IsSoundQuery q (length d.dims) (length d.metrics)

-- It is that of a statement, on the cube that the statement needs.
pub record IsBoundQuery (cubes : List Decl) (names : List (List (List (List ℕ)))) (s : Statement) (q : BoundQuery)
    : Type 0 where
  pub decl : Decl
  pub bound : IsBoundTo cubes s q.cube decl
  pub query : IsQueryOn decl names s q
