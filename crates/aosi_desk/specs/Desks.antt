-- What contracts see of a desk, what its calls answer, and what holds of each desk.
-- Source: AOSI (ICDE 2018) for the register; the list of cubes and its entries are this project's own.
use Rattle.std.specs.Prelude.{◌≡◌, ℕ, ◌≤◌, Bool, true, false, ◌==◌, ◌||◌, List, [], ◌∷◌, ◌++◌, length, map, slice_get, Some, None, All, IsSomeAnd, Option, if◌then◌else◌}
use Rattle.cube_language.specs.Cubes.{first_repeated, IsStorable}
use Rattle.cube_language.specs.CubesText.{cubes_limit}
use Rattle.cube_language.specs.declared.decl.Decl.{Decl}
use Rattle.cube_journal.specs.Legal.{has_cube, CubesAllowAll, cubes_after, IsLegal}
use Rattle.cube_journal.specs.Refusals.{code}
use Rattle.cube_journal.specs.declared.journal_entry.JournalEntry.{JournalEntry}
use Rattle.cube_journal.specs.declared.journal_entry.JournalEntry.TheVariants as entry
use Rattle.cube_journal.specs.declared.refusal.Refusal.{Refusal}
use Rattle.cube_journal.specs.declared.refusal.Refusal.TheVariants.{UnknownCube, CubeExists, TooManyCubes}
use Rattle.aosi_desk.specs.State.{RegisterState, state_of, with_entry}
use Rattle.aosi_desk.specs.declared.cube.CubeAnswer.{CubeAnswer}
use Rattle.aosi_desk.specs.declared.cube.CubeAnswer.TheVariants.{Created, Exists, TooMany}
use Rattle.aosi_desk.specs.declared.cube.CubeFound.{CubeFound}
use Rattle.aosi_desk.specs.declared.cube.CubeFound.TheVariants.{Found, Unknown}

-- The register, and the cubes: those of the opening, and then those that were made.
pub record DeskState : Type 0 where
  pub register : RegisterState
  pub cubes : List Decl
  pub opening : List Decl

-- A desk that opens.
abbrev pub opening_desk : ℕ → ℕ → List Decl → DeskState
opening_desk safe sessions cubes = record {
  register = record { safe = safe; sessions = sessions; journal = [] };
  cubes = cubes;
  opening = cubes;
}

-- What stays of a desk as it opened: the safe epoch of its store, and the cubes of the opening.
pub record DeskOpening : Type 0 where
  pub safe : ℕ
  pub cubes : List Decl

abbrev pub opening_of : DeskState → DeskOpening
opening_of desk = record { safe = desk.register.safe; cubes = desk.opening }

-- The desk with another register.
abbrev pub desk_over : DeskState → RegisterState → DeskState
desk_over desk register = record desk { register = register }

-- The desk with one more entry.
abbrev pub desk_with_entry : DeskState → JournalEntry → DeskState
desk_with_entry desk e = desk_over desk (with_entry desk.register e)

-- The names of cubes.
abbrev pub decl_names : List Decl → List (List ℕ)
decl_names cubes = map (λ d. d.name) cubes

-- The cubes have no place and no declaration of this name, or the declaration at the place has it.
abbrev pub IsCubePlace : List Decl → List ℕ → Option ℕ → Type 0
IsCubePlace cubes name None = has_cube (decl_names cubes) name ≡ false
IsCubePlace cubes name (Some place) = IsSomeAnd (slice_get cubes place) (λ d. d.name ≡ name)

-- What looking for the cube of a name gives.
abbrev pub IsFound : List Decl → List ℕ → CubeFound → Type 0
IsFound cubes name Unknown = has_cube (decl_names cubes) name ≡ false
IsFound cubes name (Found place decl) = (slice_get cubes place ≡ Some decl) × (decl.name ≡ name)

-- The entry of a refusal.
abbrev pub refusal_entry : ℕ → ℕ → Refusal → JournalEntry
refusal_entry session statement refusal = entry.Refused session statement (code refusal)

-- The desk after looking for the cube of a name: an entry says where none has it.
abbrev pub desk_after_search : DeskState → ℕ → ℕ → List ℕ → CubeFound → DeskState
desk_after_search desk session statement name (Found place decl) = desk
desk_after_search desk session statement name Unknown =
    desk_with_entry desk (refusal_entry session statement (UnknownCube name))

-- What asking for a cube gives: it is made with EC, unless one has its name or there is no place.
abbrev pub cube_answer : DeskState → List ℕ → CubeAnswer
cube_answer desk name =
    if has_cube (decl_names desk.cubes) name then Exists
    else (if length desk.cubes == cubes_limit then TooMany else Created (state_of desk.register).ec (length desk.cubes))

-- The desk after a cube is made.
abbrev pub desk_with_cube : DeskState → ℕ → ℕ → ℕ → Decl → DeskState
desk_with_cube desk session statement epoch decl = record desk {
  register = with_entry desk.register (entry.Cube session statement epoch);
  cubes = desk.cubes ++ decl ∷ [];
}

-- The desk after this is answered to who asks for a cube.
abbrev pub desk_after_answer : DeskState → ℕ → ℕ → Decl → CubeAnswer → DeskState
desk_after_answer desk session statement decl (Created epoch place) = desk_with_cube desk session statement epoch decl
desk_after_answer desk session statement decl Exists =
    desk_with_entry desk (refusal_entry session statement (CubeExists decl.name))
desk_after_answer desk session statement decl TooMany =
    desk_with_entry desk (refusal_entry session statement TooManyCubes)

-- A refusal of this number speaks of the list of cubes.
abbrev pub is_cube_code : ℕ → Bool
is_cube_code n = n == code (UnknownCube []) || n == code (CubeExists []) || n == code TooManyCubes

-- An entry speaks of the list of cubes: a cube is made, or such a refusal.
abbrev pub speaks_of_cubes : JournalEntry → Bool
speaks_of_cubes (entry.Cube session statement epoch) = true
speaks_of_cubes (entry.Refused session statement code) = is_cube_code code
speaks_of_cubes _ = false

-- The names of the cubes after entries whose statements speak of the cubes of these names.
abbrev pub cubes_after_all : List (List ℕ) → List (List ℕ) → List JournalEntry → List (List ℕ)
cubes_after_all cubes (name ∷ names) (e ∷ later) = cubes_after_all (cubes_after cubes name e) names later
cubes_after_all cubes names later = cubes

-- A run that began with the cubes of the opening, and whose statements speak of cubes of some names, can leave the desk's
-- journal, which leads to the cubes of now.
pub record IsLegalDesk (desk : DeskState) : Type 0 where
  pub names : List (List ℕ)
  pub legal : IsLegal desk.register.safe (decl_names desk.opening) names desk.register.journal
  pub leads : cubes_after_all (decl_names desk.opening) names desk.register.journal ≡ decl_names desk.cubes

-- The part of this that the list of cubes judges.
pub record KeepsCubes (desk : DeskState) : Type 0 where
  pub names : List (List ℕ)
  pub allowed : CubesAllowAll (decl_names desk.opening) names desk.register.journal
  pub leads : cubes_after_all (decl_names desk.opening) names desk.register.journal ≡ decl_names desk.cubes

-- There are few cubes, of different names, and each can be stored.
pub record AreCubes (cubes : List Decl) : Type 0 where
  pub few : length cubes ≤ cubes_limit
  pub differ : first_repeated (decl_names cubes) ≡ None
  pub storable : All IsStorable cubes
