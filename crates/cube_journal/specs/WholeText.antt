-- The whole text of a run by its parts: the replies session by session, the journal, and the closing line.
-- Source: this project's own.
use Rattle.std.specs.Prelude.{ℕ, ◌+◌, List, [], ◌∷◌, ◌++◌, codes, decimal}
use Rattle.cube_values.specs.declared.table.Field.{Field}
use Rattle.cube_journal.specs.declared.journal_entry.JournalEntry.{JournalEntry}
use Rattle.cube_journal.specs.declared.reply.Reply.{Reply}
use Rattle.cube_journal.specs.Counters.{counters}
use Rattle.cube_journal.specs.JournalLines.{journal_text, end_text}
use Rattle.cube_journal.specs.Replies.{numbered, table_text}

-- The head of a session's part.
abbrev pub head_text : ℕ → List ℕ
head_text session = codes "session " ++ (decimal session ++ codes "\n")

-- The replies of a session, of which the first is to the statement of this number.
abbrev pub replies_text : ℕ → ℕ → List Reply → List ℕ
replies_text session statement [] = []
replies_text session statement (reply ∷ replies) =
    numbered session statement reply ++ replies_text session (statement + 1) replies

-- A session's part: its head, and its replies to its statements from 1 on.
abbrev pub session_text : ℕ → List Reply → List ℕ
session_text session replies = head_text session ++ replies_text session 1 replies

-- The parts of sessions, of which the first has this number.
abbrev pub sessions_text : ℕ → List (List Reply) → List ℕ
sessions_text session [] = []
sessions_text session (replies ∷ others) = session_text session replies ++ sessions_text (session + 1) others

-- The whole text: the sessions from 1 on, the journal, and the final counters, in a run that began with a safe epoch.
abbrev pub whole_text : ℕ → List (List Reply) → List JournalEntry → List ℕ
whole_text safe replies journal = sessions_text 1 replies ++ (journal_text journal ++ end_text (counters safe journal))

-- The whole text of a run over generated rows: how many, the lines of the closing query, and the final counters.
abbrev pub generated_text : ℕ → ℕ → List (List Field) → List JournalEntry → List ℕ
generated_text safe rows table journal =
    codes "generated " ++ (decimal rows ++ (codes "\n" ++ (table_text table ++ end_text (counters safe journal))))
