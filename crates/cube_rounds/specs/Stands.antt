-- What a store keeps, and which two files stand for it.
-- Source: this project's own.
use Rattle.std.specs.Prelude.{◌≡◌, ◌≢◌, ◌⊎◌, ℕ, ◌<◌, ◌≤◌, ◌^◌, List, [], ◌∷◌, ◌++◌, length, map, take}
use Rattle.std.specs.List.{zip}
use Rattle.cube_language.specs.declared.decl.Decl.{Decl}
use Rattle.cube_language.specs.Cubes.{cubes_text}
use Rattle.cube_language.specs.CubesText.{Declares}
use Rattle.cube_rounds.specs.declared.round.Round.{Round}
use Rattle.cube_rounds.specs.Bytes.{round_bytes}
use Rattle.cube_rounds.specs.Demands.{DimNames, names_with, no_names, FitsRound}
use Rattle.cube_rounds.specs.Headers.{open_gate, magic, header_bytes, FitsHeader, BeginsWithHeader}

-- What a store keeps: the cubes, those of its header first, the epoch up to which it has everything, the
-- names, and the rounds that its rows are in.
pub record Kept : Type 0 where
  pub cubes : List Decl
  pub declared : ℕ
  pub epoch : ℕ
  pub names : List DimNames
  pub rounds : List Round

-- The names of cubes behind a round: those of each cube with its new ones, those of a new cube all new.
abbrev pub names_behind : List DimNames → Round → List DimNames
names_behind names round =
    map (λ c. names_with c.0 c.1.names) (zip (names ++ map no_names round.made) round.cubes)

-- A store of these cubes without rounds.
abbrev pub kept_of_cubes : List Decl → Kept
kept_of_cubes cubes =
    record { cubes = cubes; declared = length cubes; epoch = 0; names = map no_names cubes; rounds = [] }

-- A store with one round more.
abbrev pub kept_with : Kept → Round → Kept
kept_with kept round =
    record kept {
      cubes = kept.cubes ++ round.made;
      epoch = round.epoch;
      names = names_behind kept.names round;
      rounds = kept.rounds ++ round ∷ [];
    }

-- A store with these rounds more.
abbrev pub kept_with_all : Kept → List Round → Kept
kept_with_all kept [] = kept
kept_with_all kept (round ∷ rounds) = kept_with_all (kept_with kept round) rounds

-- The rounds may stand one after the other behind what is kept: each begins where the one before it ended.
abbrev pub RoundsMayFollow : Kept → List Round → Type 0
RoundsMayFollow kept [] = Unit {0}
RoundsMayFollow kept (round ∷ rounds) =
    (round.from ≡ kept.epoch) × FitsRound kept.cubes kept.names round × RoundsMayFollow (kept_with kept round) rounds

-- The bytes of rounds, each behind an open gate.
abbrev pub rounds_bytes : (List ℕ → List ℕ) → List Decl → List Round → List ℕ
rounds_bytes digest cubes [] = []
rounds_bytes digest cubes (round ∷ rounds) =
    open_gate ∷ (round_bytes digest cubes round ++ rounds_bytes digest (cubes ++ round.made) rounds)

-- A header, and the rounds behind it.
abbrev pub file_bytes : (List ℕ → List ℕ) → ℕ → List Decl → List Round → List ℕ
file_bytes digest generation cubes rounds =
    header_bytes digest generation (cubes_text cubes) ++ rounds_bytes digest cubes rounds

-- A file of this generation stands for what is kept: it is a header, rounds and a gate that is shut, and
-- then anything.
pub record FileStands (digest : List ℕ → List ℕ) (generation : ℕ) (kept : Kept) (file : List ℕ) : Type 0 where
  pub cubes : List Decl
  pub declares : Declares (cubes_text cubes) cubes
  pub header : FitsHeader generation (cubes_text cubes)
  pub rounds : List Round
  pub chain : RoundsMayFollow (kept_of_cubes cubes) rounds
  pub are : kept ≡ kept_with_all (kept_of_cubes cubes) rounds
  pub gate : ℕ
  pub rest : List ℕ
  pub shut : gate ≢ open_gate
  pub whole : file ≡ file_bytes digest generation cubes rounds ++ gate ∷ rest

-- A file is closed: too short for a header, or behind a gate that is shut, or of another kind.
abbrev pub IsClosed : List ℕ → Type 0
IsClosed file = (length file < 16) ⊎ (take 8 file ≢ open_gate ∷ magic)

-- A file begins with a right header of a generation before this one.
pub record IsOlder (digest : List ℕ → List ℕ) (generation : ℕ) (file : List ℕ) : Type 0 where
  pub own : ℕ
  pub less : own < generation
  pub text : List ℕ
  pub header : BeginsWithHeader digest own text file

-- The first of two files is the current one, and stands for what is kept.
pub record IsCurrent (digest : List ℕ → List ℕ) (kept : Kept) (file other : List ℕ) : Type 0 where
  pub generation : ℕ
  pub stands : FileStands digest generation kept file
  pub most : generation ≤ 2 ^ 61
  pub behind : IsClosed other ⊎ IsOlder digest generation other

-- Two files stand for what is kept: one of them is the current one.
abbrev pub Stands : (List ℕ → List ℕ) → Kept → List ℕ → List ℕ → Type 0
Stands digest kept first second = IsCurrent digest kept first second ⊎ IsCurrent digest kept second first

-- A header and a gate that is shut stand for the cubes that its text declares.
abbrev pub HeadersStand : Type 0
HeadersStand =
    (digest : List ℕ → List ℕ) (generation : ℕ) (cubes : List Decl) (gate : ℕ) (rest : List ℕ)
    → Declares (cubes_text cubes) cubes → FitsHeader generation (cubes_text cubes) → gate ≢ open_gate
    → FileStands digest generation (kept_of_cubes cubes) (file_bytes digest generation cubes [] ++ gate ∷ rest)

-- A file that stands for what is kept stands for one round more with that round behind it.
abbrev pub RoundsFollow : Type 0
RoundsFollow =
    (digest : List ℕ → List ℕ) (generation : ℕ) (kept : Kept) (file : List ℕ) (round : Round) (gate : ℕ) (rest : List ℕ)
    → (s : FileStands digest generation kept file)
    → round.from ≡ kept.epoch → FitsRound kept.cubes kept.names round → gate ≢ open_gate
    → FileStands digest generation (kept_with kept round)
    (file_bytes digest generation s.cubes s.rounds ++ open_gate ∷ (round_bytes digest kept.cubes round ++ gate ∷ rest))
