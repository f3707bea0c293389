-- The entries that a statement on rows leaves: of a transaction or a reader of its own, or of the transaction that is
-- open.
-- Source: AOSI (ICDE 2018), a transaction's begin and end; the rest is this project's own.
use Rattle.std.specs.Prelude.{ℕ, List, [], ◌∷◌}
use Rattle.cube_journal.specs.declared.journal_entry.AbortCause.{AbortCause}
use Rattle.cube_journal.specs.declared.journal_entry.JournalEntry.{JournalEntry}
use Rattle.cube_journal.specs.declared.journal_entry.JournalEntry.TheVariants as entry
use Rattle.cube_run.specs.Merge.{RoundFollows}
use Rattle.cube_run.specs.RunRecords.{RunRecord}
use Rattle.cube_run.specs.SessionSteps.{SessionStep}
use Rattle.session_replies.specs.Modes.{round_follows}

-- A transaction of its own, which is committed, with the round that follows.
abbrev pub own_commit : SessionStep → ℕ → List ℕ → List JournalEntry → List JournalEntry
own_commit step epoch deps round =
    entry.Begin step.session step.number epoch deps ∷ entry.Committed step.session step.number epoch ∷ round

-- One of its own, which is aborted.
abbrev pub own_abort : SessionStep → ℕ → List ℕ → AbortCause → List JournalEntry
own_abort step epoch deps cause =
    entry.Begin step.session step.number epoch deps ∷ entry.Aborted step.session step.number epoch cause ∷ []

-- The end of the transaction of this epoch that is open.
abbrev pub open_abort : SessionStep → ℕ → AbortCause → List JournalEntry
open_abort step epoch cause = entry.Aborted step.session step.number epoch cause ∷ []

-- A reader of its own.
abbrev pub own_reading : SessionStep → ℕ → List JournalEntry
own_reading step epoch = entry.Read step.session step.number epoch ∷ entry.ReadEnd step.session step.number ∷ []

-- A refusal of this number, and nothing else.
abbrev pub lone_refusal : SessionStep → ℕ → List JournalEntry
lone_refusal step code = entry.Refused step.session step.number code ∷ []

-- What comes after a commit of a step: a round, where one is due.
abbrev pub IsRoundAfter : RunRecord → SessionStep → List JournalEntry → Type 0
IsRoundAfter run step round =
    RoundFollows step.session step.number (round_follows run.round_every step.state.commits) round
