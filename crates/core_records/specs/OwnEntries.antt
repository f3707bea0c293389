-- The entries that the calls of one client leave in the journal.
-- Source: this project's own.
use Rattle.std.specs.Prelude.{ℕ, List, [], ◌∷◌}
use Rattle.cube_journal.specs.declared.journal_entry.JournalEntry.{JournalEntry}
use Rattle.aosi_desk.specs.Desks.{DeskState, opening_desk}
use Rattle.core_events.specs.Cells.{desk_after}
use Rattle.core_events.specs.Events.{Opening, ClientCall}

-- The desk as it were if it had the calls of one client alone. They stand with the newest first.
abbrev pub desk_by_calls : Opening → ℕ → List ClientCall → DeskState
desk_by_calls o client [] = opening_desk o.safe o.sessions o.cubes
desk_by_calls o client (call ∷ calls) = desk_after client call (desk_by_calls o client calls)

-- The entries of these calls, the oldest first.
abbrev pub entries_by_calls : Opening → ℕ → List ClientCall → List JournalEntry
entries_by_calls o client calls = (desk_by_calls o client calls).register.journal
