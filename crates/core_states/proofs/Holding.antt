-- A session that holds what its mode says may leave notes, and then still holds it.
use Rattle.std.proofs.Common.{ℕ, List, Option, Some, None}
use Rattle.core_events.specs.Events.{Opening}
use Rattle.core_events.specs.Jobs.{CoreJob, JobOutcome}
use Rattle.core_events.specs.ShardView.{ShardView}
use Rattle.core_program.specs.CoreFits.{CoreEntry}
use Rattle.core_states.specs.StandingInCore.{HoldsForMode}
use Rattle.cube_core.specs.declared.cell.CoreCell.{CoreCell}
use Rattle.cube_core.specs.declared.shard.ShardAnswer.{ShardAnswer}
use Rattle.cube_core.specs.declared.shard.ShardCall.{ShardCall}
use Rattle.cube_run.specs.SessionStates.{Mode, Idle, Open, Aborted}
use Rattle.cube_values.specs.declared.snapshot.Snapshot.{Snapshot}
use Rattle.session_snapshots.specs.KnownHolds.{HoldsReady, HoldsTheSame}

abbrev pub held_for : Mode → Option Snapshot
held_for Idle = None
held_for (Open writer) = Some writer
held_for (Aborted epoch) = None

module _ {S : Type 0} (fits : Opening → ℕ → ShardCall → Type 0) (stands : Opening → ℕ → ℕ → S → ShardView → Type 0)
    (says : CoreJob → ShardAnswer → JobOutcome → Type 0) (cells : List (CoreCell S)) (caller session : ℕ)
    (own : List CoreEntry) where
  pub ready-for-mode : (mode : Mode) → HoldsForMode fits stands says cells caller session own mode
      → HoldsReady fits stands says cells caller session own (held_for mode)
  ready-for-mode Idle holds = holds
  ready-for-mode (Open writer) holds = λ o log run es later are. (holds o log run es later are).ready
  ready-for-mode (Aborted epoch) holds = holds

  pub holds-on : (new_cells : List (CoreCell S)) (new_caller : ℕ) (now : List CoreEntry) (mode : Mode)
      → HoldsTheSame fits stands says session cells caller own new_cells new_caller now
      → HoldsForMode fits stands says cells caller session own mode
      → HoldsForMode fits stands says new_cells new_caller session now mode
  holds-on new_cells new_caller now Idle same holds = same.ready None holds
  holds-on new_cells new_caller now (Open writer) same holds = same.writer writer holds
  holds-on new_cells new_caller now (Aborted epoch) same holds = same.ready None holds
