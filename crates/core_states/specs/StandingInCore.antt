-- What is behind a session of the core stands behind the session as it is now.
-- Source: this project's own; AOSI (ICDE 2018) for the writer of a transaction.
use Rattle.std.specs.Prelude.{ℕ, List, Option}
use mathlib.Core.List.{IsPrefix}
use Rattle.core_events.specs.Events.{Opening}
use Rattle.core_events.specs.Jobs.{CoreJob, JobOutcome}
use Rattle.core_events.specs.ShardView.{ShardView}
use Rattle.core_states.specs.CorePasts.{CorePast, IsInTurn}
use Rattle.core_states.specs.OwnCalls.{OwnCallsLeave}
use Rattle.core_program.specs.CoreFits.{CoreEntry}
use Rattle.core_states.specs.declared.session.CoreSession.{CoreSession}
use Rattle.cube_core.specs.declared.cell.CoreCell.{CoreCell}
use Rattle.cube_core.specs.declared.shard.ShardAnswer.{ShardAnswer}
use Rattle.cube_core.specs.declared.shard.ShardCall.{ShardCall}
use Rattle.cube_run.specs.SessionStates.{KeptWatch, Mode, Idle, Open, Aborted, SessionState}
use Rattle.session_snapshots.specs.KnownHolds.{HoldsNothing, HoldsWriter}
use Rattle.session_replies.specs.Modes.{mode_of}

-- A session with its watch, if it has one.
abbrev pub state_of_session : CoreSession → Option KeptWatch → SessionState
state_of_session session watch = record { mode = mode_of session.mode; watch = watch; commits = session.commits }

module _ {S : Type 0} (fits : Opening → ℕ → ShardCall → Type 0) (stands : Opening → ℕ → ℕ → S → ShardView → Type 0)
    (says : CoreJob → ShardAnswer → JobOutcome → Type 0) (cells : List (CoreCell S)) (caller session : ℕ)
    (own : List CoreEntry) where
  -- A session knows that it holds what its mode says: the writer of the transaction that it has open, or nothing.
  abbrev pub HoldsForMode : Mode → Type 0
  HoldsForMode Idle = HoldsNothing fits stands says cells caller session own
  HoldsForMode (Open writer) = HoldsWriter fits stands says cells caller session own writer
  HoldsForMode (Aborted epoch) = HoldsNothing fits stands says cells caller session own

  -- Its own calls begin with those behind it, and in each run they have left just the entries behind it. So the later
  -- ones among them have left none.
  pub record StandsInCore (past : CorePast) : Type 0 where
    pub turn : IsInTurn past
    pub begins : IsPrefix past.own own
    pub leaves : OwnCallsLeave fits stands says cells caller session own past.entries
