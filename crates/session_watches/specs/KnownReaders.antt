-- What a session knows that its holders hold, by its own calls.
-- Source: this project's own.
use Rattle.std.specs.Prelude.{◌≡◌, ℕ, List}
use Rattle.core_cells.specs.declared.desk.DeskAnswer.{DeskAnswer}
use Rattle.core_cells.specs.declared.desk.DeskAnswer.TheVariants as answer
use Rattle.core_cells.specs.declared.desk.DeskCall.{DeskCall}
use Rattle.core_cells.specs.declared.desk.DeskCall.TheVariants as call
use Rattle.core_events.specs.Clients.{reader_up_to}
use Rattle.core_events.specs.Events.{Opening}
use Rattle.core_events.specs.Jobs.{CoreJob, JobOutcome}
use Rattle.core_events.specs.ShardView.{ShardView}
use Rattle.core_program.specs.CoreFits.{CoreEntry}
use Rattle.cube_core.specs.declared.cell.CoreCell.{CoreCell}
use Rattle.cube_core.specs.declared.shard.ShardAnswer.{ShardAnswer}
use Rattle.cube_core.specs.declared.shard.ShardCall.{ShardCall}
use Rattle.session_snapshots.specs.KnownHolds.{KnowsState}
use Rattle.watch_holds.specs.HolderStates.{HasReaders, HeldReaders, IsFreeBeside, readers_with}

-- The answer of the desk that has opened a reader.
abbrev pub opened_reader : ℕ → DeskAnswer
opened_reader epoch = answer.Opened (reader_up_to epoch)

-- A call on the desk opens and closes no reader of a holder.
abbrev pub IsOfOwnNumber : ℕ → DeskCall → Type 0
IsOfOwnNumber session (call.OpenRead number statement) = number ≡ session
IsOfOwnNumber session (call.CloseRead number statement) = number ≡ session
IsOfOwnNumber session c = Unit {0}

module _ {S : Type 0} (fits : Opening → ℕ → ShardCall → Type 0) (stands : Opening → ℕ → ℕ → S → ShardView → Type 0)
    (says : CoreJob → ShardAnswer → JobOutcome → Type 0) where
  -- Its holders hold these readers.
  abbrev pub HoldersHave : List (CoreCell S) → ℕ → ℕ → List CoreEntry → HeldReaders → Type 0
  HoldersHave cells caller session own readers =
      KnowsState fits stands says cells caller session own (λ o k. HasReaders session readers k)

  module _ (session : ℕ) (cells : List (CoreCell S)) (caller : ℕ) (own : List CoreEntry) (new_cells : List (CoreCell S))
      (new_caller : ℕ) (now : List CoreEntry) where
    -- Whatever its holders held, they hold after more own calls.
    abbrev pub HoldersKeep : Type 0
    HoldersKeep = (readers : HeldReaders) → HoldersHave cells caller session own readers
        → HoldersHave new_cells new_caller session now readers

    -- Whatever they held beside a number, they hold then with one more reader, under the number.
    abbrev pub HoldersGain : ℕ → ℕ → Type 0
    HoldersGain number epoch = (readers : HeldReaders) → IsFreeBeside number readers
        → HoldersHave cells caller session own readers
        → HoldersHave new_cells new_caller session now (readers_with number epoch readers)
