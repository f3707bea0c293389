-- What each entry of a journal says: whose it is, and what it takes.
-- Source: AOSI (ICDE 2018), a transaction's epoch, deps and end; the other entries are this project's own.
use Rattle.std.specs.Prelude.{ℕ, Bool, true, false, ◌==◌, Option, Some, None}
use Rattle.std.specs.Option.{option_map_or}
use Rattle.cube_journal.specs.declared.journal_entry.JournalEntry.{JournalEntry}
use Rattle.cube_journal.specs.declared.journal_entry.JournalEntry.TheVariants as entry
use Rattle.cube_journal.specs.declared.note.Note.{Note}
use Rattle.cube_journal.specs.declared.note.Note.TheVariants as note

-- The session of an entry; the flusher's have none.
abbrev pub session_of : JournalEntry → Option ℕ
session_of (entry.Begin session statement epoch deps) = Some session
session_of (entry.Read session statement epoch) = Some session
session_of (entry.ReadEnd session statement) = Some session
session_of (entry.Committed session statement epoch) = Some session
session_of (entry.Aborted session statement epoch cause) = Some session
session_of (entry.Refused session statement code) = Some session
session_of (entry.Cleared session statement) = Some session
session_of (entry.Show session statement) = Some session
session_of (entry.Flushed session statement) = Some session
session_of (entry.Purged session statement epoch) = Some session
session_of (entry.Cube session statement epoch) = Some session
session_of (entry.Round epoch) = None
session_of (entry.Idle epoch) = None
session_of (entry.Safe epoch) = None
session_of (entry.RoundLost epoch cause) = None

-- The statement of an entry; the flusher's have none.
abbrev pub statement_of : JournalEntry → Option ℕ
statement_of (entry.Begin session statement epoch deps) = Some statement
statement_of (entry.Read session statement epoch) = Some statement
statement_of (entry.ReadEnd session statement) = Some statement
statement_of (entry.Committed session statement epoch) = Some statement
statement_of (entry.Aborted session statement epoch cause) = Some statement
statement_of (entry.Refused session statement code) = Some statement
statement_of (entry.Cleared session statement) = Some statement
statement_of (entry.Show session statement) = Some statement
statement_of (entry.Flushed session statement) = Some statement
statement_of (entry.Purged session statement epoch) = Some statement
statement_of (entry.Cube session statement epoch) = Some statement
statement_of (entry.Round epoch) = None
statement_of (entry.Idle epoch) = None
statement_of (entry.Safe epoch) = None
statement_of (entry.RoundLost epoch cause) = None

-- An entry is one of this session.
abbrev pub is_of_session : ℕ → JournalEntry → Bool
is_of_session session e = option_map_or (λ s. s == session) (session_of e) false

-- An entry takes the next epoch: a transaction begins, or a cube is made.
abbrev pub takes_epoch : JournalEntry → Bool
takes_epoch (entry.Begin session statement epoch deps) = true
takes_epoch (entry.Cube session statement epoch) = true
takes_epoch _ = false

-- The entry that a note adds.
abbrev pub note_entry : Note → JournalEntry
note_entry (note.Refused session statement code) = entry.Refused session statement code
note_entry (note.Cleared session statement) = entry.Cleared session statement
note_entry (note.Show session statement) = entry.Show session statement
note_entry (note.Flushed session statement) = entry.Flushed session statement
note_entry (note.Purged session statement epoch) = entry.Purged session statement epoch
