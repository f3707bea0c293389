-- The calls on the names as steps: what each asks of the dictionaries, and what it answers and makes of them.
-- Source: Cubrick (VLDB 2016), dictionary encoding of text dimensions.
use Rattle.std.specs.Prelude.{◌≡◌, ◌≤◌, List, length, drop}
use Rattle.cube_values.specs.Shapes.{IsSoundCube}
use Rattle.names_dict.specs.Dictionaries.{Dictionary, number_of, dictionary_at, IsTextDimension, IsEncoded, IsCodeFor, IsNewFor}
use Rattle.core_cells.specs.declared.names.NamesCall.{NamesCall}
use Rattle.core_cells.specs.declared.names.NamesCall.TheVariants as call
use Rattle.core_cells.specs.declared.names.NamesAnswer.{NamesAnswer}
use Rattle.core_cells.specs.declared.names.NamesAnswer.TheVariants as answer

-- The dictionaries can take the call.
abbrev pub CanCallNames : List (List Dictionary) → NamesCall → Type 0
CanCallNames names (call.Encode cube dim shape name) = IsSoundCube shape × IsTextDimension shape dim
CanCallNames names (call.Find cube dim name) = Unit {0}
CanCallNames names (call.CopyFrom cube dim from) = from ≤ length (dictionary_at names cube dim).names

-- The dictionaries before a call, the call, its answer, and the dictionaries that it leaves. Where memory is wanted
-- nothing changes.
abbrev pub NamesStep : List (List Dictionary) → NamesCall → NamesAnswer → List (List Dictionary) → Type 0
NamesStep names (call.Encode cube dim shape name) (answer.Coded code) new =
    IsCodeFor shape names cube dim name code × IsEncoded shape cube dim name names new code
NamesStep names (call.Encode cube dim shape name) answer.NoMemory new =
    IsNewFor shape names cube dim name × (new ≡ names)
NamesStep names (call.Find cube dim name) (answer.Found number) new =
    (number ≡ number_of (dictionary_at names cube dim) name) × (new ≡ names)
NamesStep names (call.CopyFrom cube dim from) (answer.Copied copied) new =
    (copied ≡ drop from (dictionary_at names cube dim).names) × (new ≡ names)
NamesStep names (call.CopyFrom cube dim from) answer.NoMemory new = new ≡ names
NamesStep names call answer new = ⊥
