-- What a statement does to rows, for which its posts are to stand.
-- Source: AOSI (ICDE 2018), appends and deletions of a transaction; Cubrick (VLDB 2016), rows by coordinates.
use Rattle.std.specs.Prelude.{◌≡◌, ℕ, List, Some, None, slice_get}
use Rattle.condition_spans.specs.Codes.{lists_at}
use Rattle.aosi_desk.specs.Desks.{decl_names}
use Rattle.core_agreements.specs.PostsForOperations.{StandForAll, rows_of_batches}
use Rattle.core_events.specs.Events.{Opening, CoreEvent}
use Rattle.core_states.specs.RunsFrom.{RunClaim}
use Rattle.core_records.specs.CoreRecords.{RunScripts}
use Rattle.cube_language.specs.Cubes.{first_repeated}
use Rattle.cube_language.specs.declared.decl.Decl.{Decl}
use Rattle.cube_run.specs.RunRecords.{RunRecord, catalog_of}
use Rattle.cube_run.specs.RunTransactions.{operation_done, rows_of_cube}
use Rattle.cube_run.specs.SessionSteps.{SessionStep}
use Rattle.cube_values.specs.declared.operation.Operation.{Operation}
use Rattle.cube_values.specs.declared.operation.Operation.TheVariants.{Put, Drop}
use Rattle.cube_values.specs.declared.operation.Region.{Region}
use Rattle.cube_values.specs.declared.row.CodedRow.{CodedRow}
use Rattle.cube_values.specs.declared.row.Row.{Row}
use Rattle.cube_values.specs.declared.span.Span.{Span}
use Rattle.query_plan.specs.Ties.{TakesRegion}

-- What is asked of a run besides has the cubes named apart with which it opens.
abbrev pub AsksCubesApart : RunClaim → Type 0
AsksCubesApart besides = (o : Opening) (given : RunScripts) (events : List CoreEvent) → besides o given events
    → first_repeated (decl_names o.cubes) ≡ None

-- A step has done nothing to rows.
abbrev pub HasNoOperation : RunRecord → SessionStep → Type 0
HasNoOperation run step = operation_done (catalog_of run) step ≡ None

-- A step has done an operation at an epoch.
abbrev pub DoesOperation : RunRecord → SessionStep → ℕ → Operation → Type 0
DoesOperation run step epoch operation =
    operation_done (catalog_of run) step
    ≡ Some (record { number = step.number; epoch = epoch; operation = operation })

-- At an epoch it has put rows of the cube at a place, for which these batches stand.
pub record HasPutRows (run : RunRecord) (step : SessionStep) (cube epoch : ℕ) (batches : List (List CodedRow))
    : Type 0 where
  pub decl : Decl
  pub cube_is : slice_get (catalog_of run).cubes cube ≡ Some decl
  pub rows : List Row
  pub done : DoesOperation run step epoch (Put (rows_of_cube decl.name rows))
  pub stand : StandForAll decl (lists_at run.names cube) (rows_of_batches batches) (rows_of_cube decl.name rows)

-- At an epoch it has dropped a region of the cube at a place, and the box takes the rows of the region.
pub record HasDroppedRegion (run : RunRecord) (step : SessionStep) (cube epoch : ℕ) (box : Span) : Type 0 where
  pub decl : Decl
  pub cube_is : slice_get (catalog_of run).cubes cube ≡ Some decl
  pub region : Region
  pub named : region.cube ≡ decl.name
  pub done : DoesOperation run step epoch (Drop region)
  pub takes : TakesRegion decl (lists_at run.names cube) region box
