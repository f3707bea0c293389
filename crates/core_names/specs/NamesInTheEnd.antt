-- The dictionaries with which the runs may end that go on from a session's own calls.
-- Source: Cubrick (VLDB 2016), dictionary encoding of text dimensions. A promise speaks of every run that goes on, as
-- with prophecy variables (Abadi and Lamport, 1991).
use Rattle.std.specs.Prelude.{◌≡◌, ℕ, List}
use Rattle.cube_core.specs.Links.{AreEventsOf}
use Rattle.cube_core.specs.BoardCells.{IsEntryEvent}
use Rattle.core_program.specs.Knowing.{IsLaterRun}
use Rattle.core_events.specs.Cells.{desk_of}
use Rattle.core_events.specs.Events.{Opening, CoreEvent}
use Rattle.core_events.specs.Jobs.{CoreJob, JobOutcome}
use Rattle.core_events.specs.Runs.{IsCoreRun}
use Rattle.core_events.specs.ShardView.{ShardView}
use Rattle.core_program.specs.CoreFits.{CoreEntry, OpensCells}
use Rattle.core_records.specs.CoreRecords.{names_left}
use Rattle.core_records.specs.OpeningNames.{OpensWithNames}
use Rattle.cube_core.specs.declared.cell.CoreCell.{CoreCell}
use Rattle.cube_core.specs.declared.shard.ShardAnswer.{ShardAnswer}
use Rattle.cube_core.specs.declared.shard.ShardCall.{ShardCall}

module _ {S : Type 0} (fits : Opening → ℕ → ShardCall → Type 0) (stands : Opening → ℕ → ℕ → S → ShardView → Type 0)
    (says : CoreJob → ShardAnswer → JobOutcome → Type 0) (cells : List (CoreCell S)) where
  -- A run in which the caller's own calls begin with these leaves these names, by cube and dimension.
  pub record MayLeaveNames (caller : ℕ) (own : List CoreEntry) (names : List (List (List (List ℕ)))) : Type 0 where
    pub opening : Opening
    pub log : List CoreEntry
    pub run : List CoreEvent
    pub later : IsLaterRun fits stands says cells opening caller own log run
    pub are : names ≡ names_left opening run

  -- Whatever run opens with the cells, it opens with a dictionary for each dimension of its cubes.
  abbrev pub OpenWithNames : Type 0
  OpenWithNames = (o : Opening) (log : List CoreEntry) (run : List CoreEvent) → OpensCells fits stands says o cells log
      → AreEventsOf (IsEntryEvent fits stands says o) log run → IsCoreRun o run → OpensWithNames o (desk_of o run).cubes
