-- The journal of a run, and for each of its entries the name of the cube that its statement speaks of.
-- Source: this project's own.
use Rattle.std.specs.Prelude.{ℕ, Bool, true, false, List, [], ◌∷◌, ◌++◌, if◌then◌else◌}
use Rattle.cube_journal.specs.declared.journal_entry.JournalEntry.{JournalEntry}
use Rattle.core_events.specs.Events.{Opening, CreateCube, FindCube, CubesFrom, CountersNow, StoreFailed, ClientCall, OnDesk, CoreEvent, By, At}
use Rattle.core_events.specs.Clients.{is_not_found}
use Rattle.core_events.specs.Cells.{desk_of}

abbrev pub journal_of : Opening → List CoreEvent → List JournalEntry
journal_of o es = (desk_of o es).register.journal

-- The call leaves an entry in the journal.
abbrev pub leaves_entry : ClientCall → Bool
leaves_entry (OnDesk (FindCube statement name answer)) = is_not_found answer
leaves_entry (OnDesk (CubesFrom place cubes)) = false
leaves_entry (OnDesk (CountersNow counters)) = false
leaves_entry (OnDesk (StoreFailed failed)) = false
leaves_entry (OnDesk call) = true
leaves_entry call = false

-- The name of the cube that the entry speaks of.
abbrev pub name_spoken : ClientCall → List ℕ
name_spoken (OnDesk (CreateCube statement decl answer)) = decl.name
name_spoken (OnDesk (FindCube statement name answer)) = name
name_spoken call = []

abbrev pub names_spoken : List CoreEvent → List (List ℕ)
names_spoken [] = []
names_spoken (By a call ∷ es) =
    if leaves_entry call then names_spoken es ++ name_spoken call ∷ [] else names_spoken es
names_spoken (At mail move ∷ es) = names_spoken es
