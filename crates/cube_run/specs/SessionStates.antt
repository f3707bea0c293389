-- What a session is between two statements: whether it has a transaction, and which of its numbers keeps a watch. Each
-- statement, by the entries that it leaves, makes the next state of it.
-- Source: this project's own.
use Rattle.std.specs.Prelude.{ℕ, ◌+◌, Bool, true, false, ◌==◌, List, [], ◌∷◌, count_by, Option, Some, None, if◌then◌else◌}
use Rattle.cube_values.specs.declared.snapshot.Snapshot.{Snapshot}
use Rattle.cube_language.specs.declared.statement.Statement.{Statement}
use Rattle.cube_language.specs.declared.statement.Statement.TheVariants.{Watch, ShowWatch}
use Rattle.cube_journal.specs.declared.journal_entry.AbortCause.{AbortCause}
use Rattle.cube_journal.specs.declared.journal_entry.AbortCause.TheVariants as abort
use Rattle.cube_journal.specs.declared.journal_entry.JournalEntry.{JournalEntry}
use Rattle.cube_journal.specs.declared.journal_entry.JournalEntry.TheVariants as entry
use Rattle.cube_run.specs.RunRecords.{Sentence, Says}

-- A session has no transaction; or has one open, with the writer that began it; or has had one of this epoch that a
-- fault ended, and waits for a ROLLBACK.
pub data Mode : Type 0 where
  Idle : Mode
  Open : Snapshot → Mode
  Aborted : ℕ → Mode

-- A watch: the holder number whose reader keeps it, and the WATCH that set it up.
pub record KeptWatch : Type 0 where
  pub holder : ℕ
  pub asked : Statement

-- A session with its mode, its watch, and how many of its transactions were committed.
pub record SessionState : Type 0 where
  pub mode : Mode
  pub watch : Option KeptWatch
  pub commits : ℕ

-- A session before its first statement.
abbrev pub fresh_session : SessionState
fresh_session = record { mode = Idle; watch = None; commits = 0 }

-- The two holder numbers of a session, under which the readers of its watch are opened.
abbrev pub first_holder : ℕ → ℕ
first_holder session = 16 + session

abbrev pub second_holder : ℕ → ℕ
second_holder session = 32 + session

-- The holder number of a session that is not this one.
abbrev pub other_holder : ℕ → ℕ → ℕ
other_holder session holder =
    if holder == first_holder session then second_holder session else first_holder session

-- An open transaction ends where its session asked for that, and else is aborted.
abbrev pub mode_after_abort : ℕ → AbortCause → Mode
mode_after_abort epoch abort.Asked = Idle
mode_after_abort epoch abort.EndOfScript = Idle
mode_after_abort epoch cause = Aborted epoch

-- What a statement's entries make of an open transaction.
abbrev pub open_mode_after : Snapshot → List JournalEntry → Mode
open_mode_after writer (entry.Committed session statement epoch ∷ later) = Idle
open_mode_after writer (entry.Aborted session statement epoch cause ∷ later) = mode_after_abort epoch cause
open_mode_after writer entries = Open writer

-- What a statement's entries make of a session's mode: a BEGIN leaves a Begin alone; a transaction of the statement's
-- own is gone with it; a ROLLBACK of an aborted transaction leaves a Cleared.
abbrev pub mode_after : Mode → List JournalEntry → Mode
mode_after Idle (entry.Begin session statement epoch deps ∷ []) =
    Open (record { epoch = epoch; deps = deps; own = true })
mode_after Idle entries = Idle
mode_after (Open writer) entries = open_mode_after writer entries
mode_after (Aborted epoch) (entry.Cleared session statement ∷ later) = Idle
mode_after (Aborted epoch) entries = Aborted epoch

-- A done WATCH leaves the Read of its reader alone. A done SHOW WATCH leaves the Read of the next reader and the
-- ReadEnd of the one before. Nothing else changes a session's watch.
abbrev pub watch_after : Option KeptWatch → Sentence → List JournalEntry → Option KeptWatch
watch_after None (Says (Watch items cube conds group)) (entry.Read holder statement epoch ∷ []) =
    Some (record { holder = holder; asked = Watch items cube conds group })
watch_after (Some kept) (Says ShowWatch) (entry.Read holder statement epoch ∷ entry.ReadEnd old same ∷ []) =
    Some (record { holder = holder; asked = kept.asked })
watch_after watch sentence entries = watch

abbrev pub is_commit : JournalEntry → Bool
is_commit (entry.Committed session statement epoch) = true
is_commit _ = false

-- What a statement makes of its session, by what it says and the entries that it leaves.
abbrev pub session_after : SessionState → Sentence → List JournalEntry → SessionState
session_after state sentence entries = record {
  mode = mode_after state.mode entries;
  watch = watch_after state.watch sentence entries;
  commits = state.commits + count_by is_commit entries;
}
