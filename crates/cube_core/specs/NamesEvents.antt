-- Which event of the core a call on the names is, with its answer, which calls fit what their client knows, and when
-- dictionaries are what events have made of them.
-- Source: this project's own; Cubrick (VLDB 2016) for the dictionaries.
use Rattle.std.specs.Prelude.{◌≡◌, ℕ, Bool, true, false, List}
use Rattle.cube_values.specs.Shapes.{IsSoundCube}
use Rattle.names_dict.specs.Dictionaries.{Dictionary, dictionary_for}
use Rattle.core_cells.specs.declared.names.NamesCall.{NamesCall}
use Rattle.core_cells.specs.declared.names.NamesCall.TheVariants as call
use Rattle.core_cells.specs.declared.names.NamesAnswer.{NamesAnswer}
use Rattle.core_cells.specs.declared.names.NamesAnswer.TheVariants as answer
use Rattle.core_events.specs.Cells.{dictionary_of}
use Rattle.core_events.specs.Clients.{ClientState}
use Rattle.core_events.specs.Events.{Opening, Encode, FindName, CopyFrom, ClientCall, OnNames, NoChange, CoreEvent, By, At}
use Rattle.core_events.specs.Fitting.{FitsCall}

-- The event of a call with its answer. One that wanted memory changes nothing.
abbrev pub names_event : NamesCall → NamesAnswer → ClientCall
names_event (call.Encode cube dim shape name) (answer.Coded code) = OnNames (Encode cube dim name code)
names_event (call.Find cube dim name) (answer.Found number) = OnNames (FindName cube dim name number)
names_event (call.CopyFrom cube dim from) (answer.Copied copied) = OnNames (CopyFrom cube dim from copied)
names_event call answer = NoChange

-- A name is encoded by the shape of its cube.
abbrev pub BearsOwnShape : Opening → NamesCall → Type 0
BearsOwnShape o (call.Encode cube dim shape name) = (shape ≡ o.shapes cube) × IsSoundCube shape
BearsOwnShape o call = Unit {0}

-- A call fits what its client knows where its event does, whatever is answered.
pub record FitsNamesCall (o : Opening) (a : ℕ) (call : NamesCall) (k : ClientState) : Type 0 where
  pub shape : BearsOwnShape o call
  pub event : (answer : NamesAnswer) → FitsCall o a (names_event call answer) k

-- Each dictionary, made or not yet made, is what the events have made of it.
abbrev pub AreNamesOf : Opening → List CoreEvent → List (List Dictionary) → Type 0
AreNamesOf o es names =
    (cube dim : ℕ) → dictionary_for (o.shapes cube) names cube dim ≡ dictionary_of o cube dim es

-- The event is a call on the names.
abbrev pub is_on_names : CoreEvent → Bool
is_on_names (By client (OnNames call)) = true
is_on_names (By client call) = false
is_on_names (At mail move) = false
