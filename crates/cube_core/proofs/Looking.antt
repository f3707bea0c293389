-- A session looks for cubes, makes one, leaves notes and asks for the counters and for names.
use Rattle.std.proofs.Common.{ℕ, ◌+◌, List, [], ◌∷◌, Option, max, inl, refl}
use Rattle.cube_values.specs.declared.snapshot.Snapshot.{Snapshot}
use Rattle.cube_language.specs.declared.decl.Decl.{Decl}
use Rattle.cube_journal.specs.declared.counters.Counters.{Counters}
use Rattle.cube_journal.specs.declared.note.Note.{Note}
use Rattle.aosi_desk.specs.declared.cube.CubeAnswer.{CubeAnswer}
use Rattle.aosi_desk.specs.declared.cube.CubeFound.TheVariants.{Found, Unknown}
use Rattle.core_cells.specs.declared.desk.DeskAnswer.{DeskAnswer}
use Rattle.core_cells.specs.declared.desk.DeskAnswer.TheVariants as answer
use Rattle.core_cells.specs.declared.desk.DeskCall.TheVariants as call
use Rattle.core_cells.specs.declared.names.NamesAnswer.{NamesAnswer}
use Rattle.core_cells.specs.declared.names.NamesAnswer.TheVariants as told
use Rattle.core_cells.specs.declared.names.NamesCall.{NamesCall}
use Rattle.core_cells.specs.declared.names.NamesCall.TheVariants as names
use Rattle.core_events.specs.Clients.{ClientState, after_client_call, cubes_by_answer, greater_of}
use Rattle.core_events.specs.Events.{Opening, IsSession, ClientCall, OnNames, NoChange}
use Rattle.core_events.specs.Fitting.{CanBeMade, FitsCall, MayNote}
use Rattle.cube_core.specs.DeskEvents.{FitsDeskCall, desk_event}
use Rattle.cube_core.specs.NamesEvents.{names_event}
use Rattle.cube_core.specs.HoldStates.{ComesTo, IsIdle, IsReadyWith, with_own_entry}
use Rattle.cube_core.proofs.Snapshots.{entered}

find-fits : (o : Opening) (a statement : ℕ) (name : List ℕ) (own : Option Snapshot) (k : ClientState) → IsSession o a
    → IsReadyWith o a own k → (said : DeskAnswer)
    → FitsCall o a (desk_event a k (call.FindCube a statement name) said) k
find-fits o a statement name own k session r (answer.Found found) = (session, r.ready)
find-fits o a statement name own k session r said = tt

pub may-find : (o : Opening) (a statement : ℕ) (name : List ℕ) (own : Option Snapshot) (k : ClientState)
    → IsSession o a → IsReadyWith o a own k → FitsDeskCall o a (call.FindCube a statement name) k
may-find o a statement name own k session r =
    record { number = refl; event = find-fits o a statement name own k session r }

pub finds : (o : Opening) (a statement place : ℕ) (name : List ℕ) (decl : Decl) (own : Option Snapshot)
    (k : ClientState) → IsReadyWith o a own k
    → ComesTo o a (call.FindCube a statement name) (answer.Found (Found place decl)) k
    (record k { cubes = max k.cubes (place + 1) }) (IsReadyWith o a own)
finds o a statement place name decl own k r = record {
  stands = record { holds = record { held = r.holds.held; leader = r.holds.leader }; ready = r.ready };
  knows = refl;
}

pub misses : (o : Opening) (a statement : ℕ) (name : List ℕ) (own : Option Snapshot) (k : ClientState)
    → IsReadyWith o a own k
    → ComesTo o a (call.FindCube a statement name) (answer.Found Unknown) k (with_own_entry k.holds k)
    (IsReadyWith o a own)
misses o a statement name own k r =
    record { stands = entered o a own k.holds k r.holds.held r.holds.leader; knows = refl }

create-fits : (o : Opening) (a statement : ℕ) (decl : Decl) (k : ClientState) → IsSession o a → IsIdle o a k
    → CanBeMade decl → (said : DeskAnswer) → FitsCall o a (desk_event a k (call.CreateCube a statement decl) said) k
create-fits o a statement decl k session idle can (answer.Created made) =
    (record { session = session; under = inl refl; free = idle.holds.held; ready = idle.ready }, can)
create-fits o a statement decl k session idle can said = tt

pub may-create : (o : Opening) (a statement : ℕ) (decl : Decl) (k : ClientState) → IsSession o a → IsIdle o a k
    → CanBeMade decl → FitsDeskCall o a (call.CreateCube a statement decl) k
may-create o a statement decl k session idle can =
    record { number = refl; event = create-fits o a statement decl k session idle can }

pub creates : (o : Opening) (a statement : ℕ) (decl : Decl) (made : CubeAnswer) (k : ClientState) → IsIdle o a k
    → ComesTo o a (call.CreateCube a statement decl) (answer.Created made) k
    (record (with_own_entry k.holds k) { cubes = greater_of (cubes_by_answer made) k.cubes }) (IsIdle o a)
creates o a statement decl made k idle = record {
  stands = record { holds = record { held = idle.holds.held; leader = idle.holds.leader }; ready = refl };
  knows = refl;
}

note-fits : (o : Opening) (a : ℕ) (note : Note) (own : Option Snapshot) (k : ClientState) → IsSession o a
    → IsReadyWith o a own k → MayNote o a note k → (said : DeskAnswer)
    → FitsCall o a (desk_event a k (call.Note note) said) k
note-fits o a note own k session r allowed (answer.Counted now) =
    record { session = session; ready = r.ready; allowed = allowed }
note-fits o a note own k session r allowed said = tt

pub may-note : (o : Opening) (a : ℕ) (note : Note) (own : Option Snapshot) (k : ClientState) → IsSession o a
    → IsReadyWith o a own k → MayNote o a note k → FitsDeskCall o a (call.Note note) k
may-note o a note own k session r allowed =
    record { number = tt; event = note-fits o a note own k session r allowed }

pub notes : (o : Opening) (a : ℕ) (note : Note) (now : Counters) (own : Option Snapshot) (k : ClientState)
    → IsReadyWith o a own k
    → ComesTo o a (call.Note note) (answer.Counted now) k
    (record (with_own_entry k.holds k) { lse = max k.lse now.lse; shown = now.lse ∷ [] }) (IsReadyWith o a own)
notes o a note now own k r = record {
  stands = record { holds = record { held = r.holds.held; leader = r.holds.leader }; ready = refl };
  knows = refl;
}

count-fits : (o : Opening) (a : ℕ) (k : ClientState) → (said : DeskAnswer)
    → FitsCall o a (desk_event a k call.Counters said) k
count-fits o a k (answer.Counted now) = tt
count-fits o a k said = tt

pub may-count : (o : Opening) (a : ℕ) (k : ClientState) → FitsDeskCall o a call.Counters k
may-count o a k = record { number = tt; event = count-fits o a k }

pub counts : (o : Opening) (a : ℕ) (now : Counters) (own : Option Snapshot) (k : ClientState) → IsReadyWith o a own k
    → ComesTo o a call.Counters (answer.Counted now) k (record k { lse = max k.lse now.lse; shown = now.lse ∷ k.shown })
    (IsReadyWith o a own)
counts o a now own k r = record {
  stands = record { holds = record { held = r.holds.held; leader = r.holds.leader }; ready = r.ready };
  knows = refl;
}

-- Names.

abbrev IsNamesCall : ClientCall → Type 0
IsNamesCall (OnNames c) = Unit {0}
IsNamesCall NoChange = Unit {0}
IsNamesCall c = ⊥

is-names : (c : NamesCall) (said : NamesAnswer) → IsNamesCall (names_event c said)
is-names (names.Encode cube dim shape name) (told.Coded code) = tt
is-names (names.Find cube dim name) (told.Found number) = tt
is-names (names.CopyFrom cube dim from) (told.Copied copied) = tt
is-names c said = tt

on-names : (o : Opening) (a : ℕ) (own : Option Snapshot) (k : ClientState) → IsReadyWith o a own k → (c : ClientCall)
    → IsNamesCall c → IsReadyWith o a own (after_client_call o a c k)
on-names o a own k r (OnNames c) names =
    record { holds = record { held = r.holds.held; leader = r.holds.leader }; ready = r.ready }
on-names o a own k r NoChange names =
    record { holds = record { held = r.holds.held; leader = r.holds.leader }; ready = r.ready }
on-names o a own k r c names = absurd names

pub asks-names : (o : Opening) (a : ℕ) (c : NamesCall) (said : NamesAnswer) (own : Option Snapshot) (k : ClientState)
    → IsReadyWith o a own k → IsReadyWith o a own (after_client_call o a (names_event c said) k)
asks-names o a c said own k r = on-names o a own k r (names_event c said) (is-names c said)
