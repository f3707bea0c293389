-- What a session knows that it holds, by its own calls.
-- Source: AOSI (ICDE 2018) for readers and writers; what is known by own calls is this project's own.
use Rattle.std.specs.Prelude.{ℕ, List, Option}
use Rattle.cube_values.specs.declared.snapshot.Snapshot.{Snapshot}
use Rattle.core_program.specs.Knowing.{Knows}
use Rattle.core_events.specs.Clients.{ClientState, state_from_calls}
use Rattle.core_events.specs.Events.{Opening}
use Rattle.core_events.specs.Jobs.{CoreJob, JobOutcome}
use Rattle.core_events.specs.ShardView.{ShardView}
use Rattle.core_program.specs.CoreFits.{CoreEntry}
use Rattle.cube_core.specs.declared.cell.CoreCell.{CoreCell}
use Rattle.cube_core.specs.declared.shard.ShardAnswer.{ShardAnswer}
use Rattle.cube_core.specs.declared.shard.ShardCall.{ShardCall}
use Rattle.cube_core.specs.HoldStates.{HasRolledBack, HasSpoiledWrite, IsIdle, IsReadyWith, IsReading, IsWriting}

module _ {S : Type 0} (fits : Opening → ℕ → ShardCall → Type 0) (stands : Opening → ℕ → ℕ → S → ShardView → Type 0)
    (says : CoreJob → ShardAnswer → JobOutcome → Type 0) (cells : List (CoreCell S)) where
  module _ (caller session : ℕ) (own : List CoreEntry) where
    -- Its state is such, by its own calls.
    abbrev pub KnowsState : (Opening → ClientState → Type 0) → Type 0
    KnowsState Is = Knows fits stands says cells caller session own (λ o calls. Is o (state_from_calls o session calls))

    -- It holds this snapshot, or nothing, and is ready.
    abbrev pub HoldsReady : Option Snapshot → Type 0
    HoldsReady held = KnowsState (λ o k. IsReadyWith o session held k)

    abbrev pub HoldsNothing : Type 0
    HoldsNothing = KnowsState (λ o k. IsIdle o session k)

    -- It holds this reader, and is ready.
    abbrev pub HoldsReader : Snapshot → Type 0
    HoldsReader s = KnowsState (λ o k. IsReading o session s k)

    -- It holds this writer, and is ready.
    abbrev pub HoldsWriter : Snapshot → Type 0
    HoldsWriter s = KnowsState (λ o k. IsWriting o session s k)

    -- It holds this writer, of which a write was refused.
    abbrev pub HoldsSpoiledWriter : Snapshot → Type 0
    HoldsSpoiledWriter s = KnowsState (λ o k. HasSpoiledWrite o session s k)

    -- It holds this writer, and every shard has taken back what it wrote.
    abbrev pub HoldsRolledBack : Snapshot → Type 0
    HoldsRolledBack s = KnowsState (λ o k. HasRolledBack o session s k)

module _ {S : Type 0} (fits : Opening → ℕ → ShardCall → Type 0) (stands : Opening → ℕ → ℕ → S → ShardView → Type 0)
    (says : CoreJob → ShardAnswer → JobOutcome → Type 0) (session : ℕ) where
  -- A session that was ready is so after more own calls, and what it held it holds.
  pub record HoldsTheSame (cells : List (CoreCell S)) (caller : ℕ) (own : List CoreEntry)
      (new_cells : List (CoreCell S)) (new_caller : ℕ) (now : List CoreEntry) : Type 0 where
    pub ready : (held : Option Snapshot) → HoldsReady fits stands says cells caller session own held
        → HoldsReady fits stands says new_cells new_caller session now held
    pub reader : (s : Snapshot) → HoldsReader fits stands says cells caller session own s
        → HoldsReader fits stands says new_cells new_caller session now s
    pub writer : (s : Snapshot) → HoldsWriter fits stands says cells caller session own s
        → HoldsWriter fits stands says new_cells new_caller session now s
