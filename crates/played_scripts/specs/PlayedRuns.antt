-- A run whose sessions have all played their scripts to the end.
-- Source: this project's own.
use Rattle.std.specs.Prelude.{◌≡◌, ℕ, ◌+◌, ◌≤◌, true, List, [], ◌∷◌, length, IsSomeAnd}
use Rattle.std.specs.List.{AllZip, enumerate_from, list_all}
use Rattle.cube_journal.specs.Entries.{statement_of}
use Rattle.cube_journal.specs.declared.journal_entry.JournalEntry.{JournalEntry}
use Rattle.cube_journal.specs.declared.reply.Reply.{Reply}
use Rattle.cube_run.specs.Merge.{end_of, has_owner}
use Rattle.cube_run.specs.RunRecords.{RunRecord, Sentence}
use Rattle.cube_run.specs.RunText.{IsReply}
use Rattle.cube_run.specs.SessionSteps.{entries_of, session_part, steps_of}

-- Each entry is of a statement, and from one to the next the statement's number never falls; the numbers are from the
-- first to the last.
abbrev pub AreNumbered : ℕ → ℕ → List JournalEntry → Type 0
AreNumbered first last [] = Unit {0}
AreNumbered first last (e ∷ entries) =
    IsSomeAnd (statement_of e) (λ j. (first ≤ j) × (j ≤ last) × AreNumbered j last entries)

-- A session has played its script to the end: its statements were answered so, the end left its entries, and the
-- session's entries stand in the journal in the order of the statements.
pub record HasPlayed (run : RunRecord) (session : ℕ) (script : List Sentence) (replies : List Reply) : Type 0 where
  pub answers : AllZip (IsReply run) (steps_of run session script) replies
  pub ending : entries_of session (length script + 1) run.journal
      ≡ end_of session script (steps_of run session script)
  pub order : AreNumbered 1 (length script + 1) (session_part session run.journal)

-- Each session of a run has played its script, with these replies, and each entry of the journal is a session's or the
-- flusher's.
pub record HavePlayed (run : RunRecord) (replies : List (List Reply)) : Type 0 where
  pub sessions : AllZip (λ p said. HasPlayed run p.0 p.1 said) (enumerate_from 1 run.scripts) replies
  pub owners : list_all (has_owner run) run.journal ≡ true
