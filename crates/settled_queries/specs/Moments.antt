-- A later run of a client passes the moment right after its own calls.
-- Source: this project's own; linearizability (Herlihy and Wing, 1990) makes one list of the calls of all threads.
use Rattle.std.specs.Prelude.{◌≡◌, ℕ, List, ◌++◌}
use Rattle.core_program.specs.Knowing.{HasRunOfClient}
use Rattle.core_events.specs.Events.{Opening, CoreEvent}
use Rattle.core_events.specs.Jobs.{CoreJob, JobOutcome}
use Rattle.core_events.specs.ShardView.{ShardView}
use Rattle.core_program.specs.CoreFits.{CoreEntry}
use Rattle.cube_core.specs.declared.cell.CoreCell.{CoreCell}
use Rattle.cube_core.specs.declared.shard.ShardAnswer.{ShardAnswer}
use Rattle.cube_core.specs.declared.shard.ShardCall.{ShardCall}

module _ {S : Type 0} (fits : Opening → ℕ → ShardCall → Type 0) (stands : Opening → ℕ → ℕ → S → ShardView → Type 0)
    (says : CoreJob → ShardAnswer → JobOutcome → Type 0) (cells : List (CoreCell S)) where
  -- The run goes on from one in which the client has made its own calls and no others.
  pub record PassesMoment (o : Opening) (caller client : ℕ) (own : List CoreEntry) (run : List CoreEvent)
      : Type 0 where
    pub log : List CoreEntry
    pub moment : HasRunOfClient fits stands says cells o caller client own log
    pub later : List CoreEvent
    pub goes_on : run ≡ later ++ moment.run
