-- Parts of the lines of a journal.
-- Source: this project's own.
use Rattle.std.specs.Prelude.{ℕ, List, ◌++◌, codes, decimal}
use Rattle.std.specs.List.{flat_map}
use Rattle.cube_journal.specs.declared.journal_entry.JournalEntry.{JournalEntry}
use Rattle.cube_journal.specs.JournalLines.{entry_text}

-- An epoch after a comma.
abbrev pub epoch_after_comma : ℕ → List ℕ
epoch_after_comma epoch = codes "," ++ decimal epoch

-- Epochs, each after a comma.
abbrev pub epochs_after_commas : List ℕ → List ℕ
epochs_after_commas epochs = flat_map epoch_after_comma epochs

-- An entry on a line.
abbrev pub entry_line : JournalEntry → List ℕ
entry_line entry = entry_text entry ++ codes "\n"
