-- Calls of a session on the names, and what they leave.
-- Source: this project's own.
use Rattle.std.specs.Prelude.{ℕ, List, []}
use mathlib.Core.List.{IsPrefix}
use Rattle.core_events.specs.Events.{Opening, ClientCall, OnNames, NoChange}
use Rattle.core_events.specs.Jobs.{CoreJob, JobOutcome}
use Rattle.core_events.specs.ShardView.{ShardView}
use Rattle.core_program.specs.CoreFits.{CoreEntry}
use Rattle.core_states.specs.LeftBehind.{AddsEntries, GoOnByCalls}
use Rattle.cube_core.specs.declared.cell.CoreCell.{CoreCell}
use Rattle.cube_core.specs.declared.shard.ShardAnswer.{ShardAnswer}
use Rattle.cube_core.specs.declared.shard.ShardCall.{ShardCall}

-- A call on the names. One that was answered out of memory changes nothing.
abbrev pub IsCallOnNames : ClientCall → Type 0
IsCallOnNames (OnNames call) = Unit {0}
IsCallOnNames NoChange = Unit {0}
IsCallOnNames call = ⊥

module _ {S : Type 0} (fits : Opening → ℕ → ShardCall → Type 0) (stands : Opening → ℕ → ℕ → S → ShardView → Type 0)
    (says : CoreJob → ShardAnswer → JobOutcome → Type 0) (cells : List (CoreCell S)) (caller session : ℕ) where
  -- From these calls to those there are such alone, and they leave no entry.
  pub record LeavesByNames (own now : List CoreEntry) : Type 0 where
    pub more : IsPrefix own now
    pub entries : AddsEntries fits stands says cells caller session own now []
    pub calls : GoOnByCalls fits stands says cells caller session IsCallOnNames own now
