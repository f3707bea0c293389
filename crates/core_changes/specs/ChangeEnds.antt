-- How a statement that changes rows may end, which entries it then leaves, and what its session is after it.
-- Source: AOSI (ICDE 2018), a transaction's begin and end; that a failure ends the transaction is this project's own.
use Rattle.std.specs.Prelude.{◌≡◌, ℕ, ◌+◌, Bool, true, false, List, [], ◌∷◌, ◌++◌, unwrap_or}
use Rattle.core_states.specs.declared.session.CoreSession.{CoreSession}
use Rattle.cube_journal.specs.declared.journal_entry.AbortCause.{AbortCause}
use Rattle.cube_journal.specs.declared.journal_entry.AbortCause.TheVariants as abort
use Rattle.cube_journal.specs.declared.journal_entry.JournalEntry.{JournalEntry}
use Rattle.cube_journal.specs.declared.journal_entry.JournalEntry.TheVariants as entry
use Rattle.cube_run.specs.Merge.{RoundFollows}
use Rattle.cube_run.specs.SessionStates.{Mode, Idle, Open, Aborted}
use Rattle.cube_values.specs.declared.snapshot.Snapshot.{Snapshot}
use Rattle.session_replies.specs.Modes.{mode_of, round_follows}
use Rattle.session_replies.specs.declared.mode.SessionMode.{SessionMode}
use Rattle.session_replies.specs.declared.mode.SessionMode.TheVariants as variant

-- It is done by a writer, with the entries of the round that follows, if one does. It fails once its writer is open. Or
-- it is refused before that, with a number.
pub data ChangeEnd : Type 0 where
  Finished : Snapshot → List JournalEntry → ChangeEnd
  Failed : Snapshot → AbortCause → ChangeEnd
  RefusedBefore : ℕ → ChangeEnd

-- A session without a transaction changes rows by a writer that it opens for that, one with an open transaction by the
-- writer of that, and one with an aborted transaction does not.
abbrev pub IsWriterFor : Mode → Snapshot → Type 0
IsWriterFor Idle writer = Unit {0}
IsWriterFor (Open held) writer = writer ≡ held
IsWriterFor (Aborted epoch) writer = ⊥

-- The entries with which the change begins, of statement j of session i, and those of its commit: both of a transaction
-- of its own, and none in one that is open.
abbrev pub begun_entries : ℕ → ℕ → Mode → Snapshot → List JournalEntry
begun_entries i j Idle writer = entry.Begin i j writer.epoch writer.deps ∷ []
begun_entries i j mode writer = []

abbrev pub committed_entries : ℕ → ℕ → Mode → Snapshot → List JournalEntry
committed_entries i j Idle writer = entry.Committed i j writer.epoch ∷ []
committed_entries i j mode writer = []

-- The entry of its failure.
abbrev pub failed_entries : ℕ → ℕ → Snapshot → AbortCause → List JournalEntry
failed_entries i j writer cause = entry.Aborted i j writer.epoch cause ∷ []

-- All entries of the statement.
abbrev pub change_entries : ℕ → ℕ → Mode → ChangeEnd → List JournalEntry
change_entries i j mode (Finished writer round) =
    begun_entries i j mode writer ++ (committed_entries i j mode writer ++ round)
change_entries i j mode (Failed writer cause) = begun_entries i j mode writer ++ failed_entries i j writer cause
change_entries i j mode (RefusedBefore code) = entry.Refused i j code ∷ []

-- A round is due after the commit of a transaction of the change's own, by how many commits there were before.
abbrev pub round_due_after : ℕ → Mode → ℕ → Bool
round_due_after every Idle commits = round_follows every commits
round_due_after every mode commits = false

-- A cause that ends a transaction for which nobody asked, and which is not at its script's end.
abbrev pub is_failure : AbortCause → Bool
is_failure abort.Asked = false
is_failure abort.EndOfScript = false
is_failure cause = true

-- What follows the commit is a round where one is due, and nothing else; and what fails has failed by such a cause.
abbrev pub MayEndSo : CoreSession → ChangeEnd → Type 0
MayEndSo session (Finished writer round) =
    IsWriterFor (mode_of session.mode) writer
    × RoundFollows session.number session.statements
    (round_due_after (unwrap_or session.round_every 0) (mode_of session.mode) session.commits) round
MayEndSo session (Failed writer cause) = IsWriterFor (mode_of session.mode) writer × (is_failure cause ≡ true)
MayEndSo session (RefusedBefore code) = Unit {0}

-- The session with one statement more.
abbrev pub counted_session : CoreSession → CoreSession
counted_session session = record session { statements = session.statements + 1 }

-- It has one commit more by a transaction of the change's own.
abbrev pub commits_after : Mode → ℕ → ℕ
commits_after Idle commits = commits + 1
commits_after mode commits = commits

abbrev pub finished_session : CoreSession → CoreSession
finished_session session = record session { commits = commits_after (mode_of session.mode) session.commits }

-- A failure aborts the transaction that is open. One of the change's own is gone with it.
abbrev pub failed_mode : SessionMode → SessionMode
failed_mode (variant.Open writer) = variant.Aborted writer.epoch
failed_mode mode = mode

abbrev pub failed_session : CoreSession → CoreSession
failed_session session = record session { mode = failed_mode session.mode }

abbrev pub session_after_change : CoreSession → ChangeEnd → CoreSession
session_after_change session (Finished writer round) = finished_session session
session_after_change session (Failed writer cause) = failed_session session
session_after_change session (RefusedBefore code) = session
