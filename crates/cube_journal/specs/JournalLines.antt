-- The journal as text, a line for each entry, and the closing line.
-- Source: this project's own.
use Rattle.std.specs.Prelude.{ℕ, List, ◌++◌, length, map, codes, decimal}
use Rattle.std.specs.List.{flat_map, join_with_byte}
use Rattle.cube_journal.specs.declared.counters.Counters.{Counters}
use Rattle.cube_journal.specs.declared.journal_entry.AbortCause.{AbortCause}
use Rattle.cube_journal.specs.declared.journal_entry.AbortCause.TheVariants as abort
use Rattle.cube_journal.specs.declared.journal_entry.LostCause.{LostCause}
use Rattle.cube_journal.specs.declared.journal_entry.LostCause.TheVariants as lost
use Rattle.cube_journal.specs.declared.journal_entry.JournalEntry.{JournalEntry}
use Rattle.cube_journal.specs.declared.journal_entry.JournalEntry.TheVariants as entry

-- The comma between epochs.
abbrev pub comma : ℕ
comma = 44

-- Epochs in brackets.
abbrev pub epochs_text : List ℕ → List ℕ
epochs_text epochs = codes "[" ++ (join_with_byte comma (map decimal epochs) ++ codes "]")

-- A session and a statement of it.
abbrev pub statement_text : ℕ → ℕ → List ℕ
statement_text session statement = decimal session ++ (codes "." ++ decimal statement)

-- A session, a statement of it and an epoch.
abbrev pub epoch_text : ℕ → ℕ → ℕ → List ℕ
epoch_text session statement epoch = statement_text session statement ++ (codes " epoch " ++ decimal epoch)

-- Why a transaction was aborted.
abbrev pub abort_text : AbortCause → List ℕ
abort_text abort.Asked = codes "Asked"
abort_text abort.EndOfScript = codes "EndOfScript"
abort_text abort.TooManyRejected = codes "TooManyRejected"
abort_text abort.ReadFault = codes "ReadFault"
abort_text abort.NoMemory = codes "NoMemory"
abort_text (abort.ShardFull shard rows) = codes "ShardFull " ++ (decimal shard ++ (codes " rows " ++ decimal rows))

-- Why a round was lost.
abbrev pub lost_text : LostCause → List ℕ
lost_text lost.Disk = codes "disk"
lost_text lost.Memory = codes "memory"

-- An entry.
abbrev pub entry_text : JournalEntry → List ℕ
entry_text (entry.Begin session statement epoch deps) =
    codes "begin " ++ (epoch_text session statement epoch ++ (codes " deps " ++ epochs_text deps))
entry_text (entry.Read session statement epoch) = codes "read " ++ epoch_text session statement epoch
entry_text (entry.ReadEnd session statement) = codes "readend " ++ statement_text session statement
entry_text (entry.Committed session statement epoch) = codes "committed " ++ epoch_text session statement epoch
entry_text (entry.Aborted session statement epoch cause) =
    codes "aborted " ++ (epoch_text session statement epoch ++ (codes " " ++ abort_text cause))
entry_text (entry.Refused session statement code) =
    codes "refused " ++ (statement_text session statement ++ (codes " code " ++ decimal code))
entry_text (entry.Cleared session statement) = codes "cleared " ++ statement_text session statement
entry_text (entry.Show session statement) = codes "show " ++ statement_text session statement
entry_text (entry.Flushed session statement) = codes "flushed " ++ statement_text session statement
entry_text (entry.Purged session statement epoch) = codes "purged " ++ epoch_text session statement epoch
entry_text (entry.Cube session statement epoch) = codes "cube " ++ epoch_text session statement epoch
entry_text (entry.Round epoch) = codes "round " ++ decimal epoch
entry_text (entry.Idle epoch) = codes "idle " ++ decimal epoch
entry_text (entry.Safe epoch) = codes "safe " ++ decimal epoch
entry_text (entry.RoundLost epoch cause) = codes "lost " ++ (decimal epoch ++ (codes " " ++ lost_text cause))

-- How many entries there are, and then each on a line.
abbrev pub journal_text : List JournalEntry → List ℕ
journal_text journal =
    codes "journal " ++ (decimal (length journal) ++ (codes "\n" ++ flat_map (λ e. entry_text e ++ codes "\n") journal))

-- The counters without the pending epochs.
abbrev pub counters_text : Counters → List ℕ
counters_text c =
    codes "ec " ++ (decimal c.ec ++ (codes " lce " ++ (decimal c.lce ++ (codes " lse " ++ decimal c.lse))))

-- The closing line.
abbrev pub end_text : Counters → List ℕ
end_text c = codes "end " ++ (counters_text c ++ codes "\n")
