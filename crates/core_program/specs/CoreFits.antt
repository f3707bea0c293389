-- Which cells the core opens with, and which calls on them fit, by the run that a history is.
-- Source: this project's own; linearizability (Herlihy and Wing, 1990) makes one list of the calls of all threads.
use Rattle.std.specs.Prelude.{◌≡◌, ℕ, ◌+◌, ◌*◌, ◌<◌, ◌==◌, List, [], ◌∷◌, length, slice_get, Option, Some, None, if◌then◌else◌}
use lib.ListN.{get_elem?}
use mathlib.Core.Option.{some}
use Rattle.aosi_desk.specs.declared.cube.CubeAnswer.TheVariants.{Created}
use Rattle.cube_language.specs.declared.decl.Decl.{Decl}
use Rattle.cube_schema.specs.Schemas.{cube_of}
use Rattle.core_cells.specs.declared.desk.DeskAnswer.TheVariants as said
use Rattle.core_cells.specs.declared.desk.DeskCall.TheVariants as asked
use Rattle.cube_core.specs.declared.cell.CoreAnswer.{CoreAnswer}
use Rattle.cube_core.specs.declared.cell.CoreAnswer.TheVariants as answer
use Rattle.cube_core.specs.declared.cell.CoreCall.{CoreCall}
use Rattle.cube_core.specs.declared.cell.CoreCall.TheVariants as call
use Rattle.cube_core.specs.declared.cell.CoreCell.{CoreCell}
use Rattle.cube_core.specs.declared.shard.ShardAnswer.{ShardAnswer}
use Rattle.cube_core.specs.declared.shard.ShardCall.{ShardCall}
use Rattle.core_events.specs.Events.{Opening, IsOpening, CoreEvent}
use Rattle.core_events.specs.Jobs.{CoreJob, JobOutcome}
use Rattle.core_events.specs.Runs.{IsCoreRun}
use Rattle.core_events.specs.ShardView.{ShardView}
use Rattle.cube_core.specs.Links.{AreEventsOf}
use Rattle.cube_core.specs.BoardCells.{FitsBoardEntry, IsEntryEvent, StandsInCell}
use Rattle.turn_board.specs.History.{of_caller}
use Rattle.turn_board.specs.declared.history.Event.{Event}

-- An entry of a history of calls on the core's cells.
abbrev pub CoreEntry : Type 0
CoreEntry = Event CoreCall CoreAnswer

-- The declaration of the cube that an answer of the desk makes at a place.
abbrev pub decl_made_by : ℕ → CoreCall → CoreAnswer → Option Decl
decl_made_by place (call.Desk (asked.CreateCube session statement decl)) (answer.Desk (said.Created (Created epoch at))) =
    if at == place then Some decl else None
decl_made_by place c a = None

-- One of two declarations, the first where there is one.
abbrev pub first_decl : Option Decl → Option Decl → Option Decl
first_decl (Some decl) other = Some decl
first_decl None other = other

-- The declaration of the cube that a history makes at a place.
abbrev pub decl_made_in : ℕ → List CoreEntry → Option Decl
decl_made_in place [] = None
decl_made_in place (e ∷ log) = first_decl (decl_made_by place e.call e.answer) (decl_made_in place log)

-- The declaration of the cube at a place: the cubes of the opening stand before those that the history makes.
abbrev pub decl_at : List Decl → ℕ → List CoreEntry → Option Decl
decl_at cubes place log = first_decl (slice_get cubes place) (decl_made_in place log)

-- How many cells there are: the desk, the names, the shards, their mails and that of the flusher.
abbrev pub cells_for : ℕ → ℕ
cells_for shards = 3 + 2 * shards

module _ {S : Type 0} (fits : Opening → ℕ → ShardCall → Type 0) (stands : Opening → ℕ → ℕ → S → ShardView → Type 0)
    (says : CoreJob → ShardAnswer → JobOutcome → Type 0) where
  -- These cells are how a run opens, and each cube of the opening and of the history has the shape that is said of it.
  pub record OpensCells (o : Opening) (cells : List (CoreCell S)) (log : List CoreEntry) : Type 0 where
    pub limits : IsOpening o
    pub long : length cells ≡ cells_for o.shards
    pub stand : (k : ℕ) (x : CoreCell S) → get_elem? cells k ≡ some x → StandsInCell fits stands says o k x []
    pub shapes : (place : ℕ) (decl : Decl) → decl_at o.cubes place log ≡ Some decl → o.shapes place ≡ cube_of decl

  -- A run opens with these cells, whatever cubes its history makes.
  abbrev pub AreOpeningCells : List (CoreCell S) → Type 0
  AreOpeningCells cells = (log : List CoreEntry) → (o : Opening) × OpensCells o cells log

  -- A call of a caller on a cell fits: it does in each run that has these own calls of the caller. So nobody has to know
  -- what others do.
  pub record FitsOwnCalls (cells : List (CoreCell S)) (caller : ℕ) (own : List CoreEntry) (k : ℕ) (c : CoreCall)
      : Type 0 where
    pub opening : AreOpeningCells cells
    pub there : k < length cells
    pub in_runs : (o : Opening) (log : List CoreEntry) (es : List CoreEvent) → OpensCells o cells log
        → of_caller caller log ≡ own → AreEventsOf (IsEntryEvent fits stands says o) log es → IsCoreRun o es
        → FitsBoardEntry fits stands says o es caller k c
