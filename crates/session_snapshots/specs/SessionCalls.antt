-- A session's calls on the desk: which notes it may leave, and which calls end a snapshot.
-- Source: AOSI (ICDE 2018) for commit and abort; notes are this project's own.
use Rattle.std.specs.Prelude.{◌≡◌, ◌≢◌, ℕ, false, List}
use Rattle.cube_journal.specs.declared.note.Note.{Note}
use Rattle.cube_journal.specs.declared.note.Note.TheVariants.{Refused, Cleared, Show}
use Rattle.aosi_desk.specs.Desks.{is_cube_code}
use Rattle.core_cells.specs.declared.desk.DeskCall.{DeskCall}
use Rattle.core_cells.specs.declared.desk.DeskCall.TheVariants as call
use Rattle.core_events.specs.Events.{Opening}
use Rattle.core_events.specs.Fitting.{MayNote}
use Rattle.core_events.specs.Jobs.{CoreJob, JobOutcome}
use Rattle.core_events.specs.ShardView.{ShardView}
use Rattle.core_program.specs.CoreFits.{CoreEntry}
use Rattle.cube_core.specs.declared.cell.CoreCell.{CoreCell}
use Rattle.cube_core.specs.declared.shard.ShardAnswer.{ShardAnswer}
use Rattle.cube_core.specs.declared.shard.ShardCall.{ShardCall}
use Rattle.session_snapshots.specs.KnownHolds.{KnowsState}

-- A call that ends a snapshot.
abbrev pub IsEndingCall : DeskCall → Type 0
IsEndingCall (call.Commit session statement) = Unit {0}
IsEndingCall (call.AbortEnd session statement cause) = Unit {0}
IsEndingCall (call.CloseRead number statement) = Unit {0}
IsEndingCall c = ⊥

-- A note that a session may leave whatever it knows: of a refusal that speaks neither of a cube's name nor of a lost
-- round, that an aborted transaction is cleared, or that the counters are shown.
abbrev pub IsPlainNote : ℕ → Note → Type 0
IsPlainNote a (Refused session statement code) = (session ≡ a) × (is_cube_code code ≡ false) × (code ≢ 17)
IsPlainNote a (Cleared session statement) = session ≡ a
IsPlainNote a (Show session statement) = session ≡ a
IsPlainNote a note = ⊥

module _ {S : Type 0} (fits : Opening → ℕ → ShardCall → Type 0) (stands : Opening → ℕ → ℕ → S → ShardView → Type 0)
    (says : CoreJob → ShardAnswer → JobOutcome → Type 0) (cells : List (CoreCell S)) where
  -- The session knows that it may leave the note.
  abbrev pub MayLeaveNote : ℕ → ℕ → List CoreEntry → Note → Type 0
  MayLeaveNote caller session own note =
      KnowsState fits stands says cells caller session own (λ o k. MayNote o session note k)
