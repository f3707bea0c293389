-- A store between its calls, and the two files that it stands on.
-- Source: this project's own.
use Rattle.std.specs.Prelude.{◌≡◌, ℕ, ◌+◌, ◌<◌, ◌≤◌, ◌^◌, ◌⊎◌, ◌↔◌, Bool, not, ◌==◌, ◌&&◌, ◌||◌, nat_lt, nat_le, List, length, take, IfSome, IsSome, if◌then◌else◌}
use Rattle.cube_language.specs.declared.decl.Decl.{Decl}
use Rattle.cube_language.specs.Cubes.{cubes_text}
use Rattle.cube_language.specs.CubesText.{Declares}
use Rattle.cube_rounds.specs.declared.round.Round.{Round}
use Rattle.cube_rounds.specs.Demands.{FitsRound}
use Rattle.cube_rounds.specs.Stands.{Kept, kept_of_cubes, kept_with, IsCurrent, Stands}
use Rattle.outside_disk.specs.Views.{View, IsSynced}
use Rattle.sha2.specs.Sha256.{sha256}
use Rattle.store_reading.specs.declared.pair.StorePlace.{StorePlace}
use Rattle.store_reading.specs.Pairs.{pair_content, file_of, StandsAt}
use Rattle.round_store.specs.Counts.{counts_of}
use Rattle.round_store.specs.declared.store.TheConstants.{FILE_ROUNDS}
use Rattle.gate_writes.specs.Gates.{has_shut_gate}

-- The cubes, of which the header has so many; the number of rounds in the current file; the numbers of names; where
-- the current file ends; and whether the other file has a gate that is shut.
pub record StoreState : Type 0 where
  pub cubes : List Decl
  pub declared : ℕ
  pub rounds : ℕ
  pub counts : List (List ℕ)
  pub place : StorePlace
  pub shut : Bool

-- The next round is whole, and goes to the other file: the current one has version 1, or FILE_ROUNDS rounds and a generation
-- that another one may follow.
abbrev pub wants_whole : StoreState → Bool
wants_whole s = s.place.generation == 0 || (nat_le FILE_ROUNDS s.rounds && nat_lt s.place.generation (2 ^ 61))

-- The header's cubes.
abbrev pub header_cubes : Kept → List Decl
header_cubes kept = take kept.declared kept.cubes

-- A store of what is kept.
pub record IsStoreOf (s : StoreState) (kept : Kept) : Type 0 where
  pub cubes : s.cubes ≡ kept.cubes
  pub declared : s.declared ≡ kept.declared
  pub rounds : s.rounds ≡ length kept.rounds
  pub counts : s.counts ≡ counts_of kept.names
  pub within : kept.declared ≤ length kept.cubes
  pub declares : Declares (cubes_text (header_cubes kept)) (header_cubes kept)
  pub long : length (cubes_text (header_cubes kept)) < 2 ^ 32

-- The current file of a store and the other one.
pub record AreFilesOf (s : StoreState) (kept : Kept) (current other : List ℕ) : Type 0 where
  pub stands : StandsAt sha256 (pair_content kept s.place) current other
  pub gate : has_shut_gate other ≡ s.shut

-- Where two disks tell their files, these stand in this relation.
abbrev pub WhereTold : View → View → (List ℕ → List ℕ → Type 0) → Type 0
WhereTold first second P = IfSome first.told (λ f. IfSome second.told (λ g. P f g))

-- This holds for some two files, which are those of two disks where they tell them.
pub record HoldsForFiles (first second : View) (P : List ℕ → List ℕ → Type 0) : Type 0 where
  pub first_file : List ℕ
  pub second_file : List ℕ
  pub first_told : IfSome first.told (λ f. first_file ≡ f)
  pub second_told : IfSome second.told (λ g. second_file ≡ g)
  pub holds : P first_file second_file

-- A store of what is kept on two disks, each of which has one image. Both tell their files, or neither does.
pub record IsAt (s : StoreState) (kept : Kept) (first second : View) : Type 0 where
  pub store : IsStoreOf s kept
  pub first_synced : IsSynced first
  pub second_synced : IsSynced second
  pub both : IsSome first.told ↔ IsSome second.told
  pub files : WhereTold first second
      (λ f g. AreFilesOf s kept (file_of s.place.second f g) (file_of s.place.second g f))

-- What the next round stands behind: a whole one behind the header's cubes, another one behind what is kept.
abbrev pub kept_before : StoreState → Kept → Kept
kept_before s kept = if wants_whole s then kept_of_cubes (header_cubes kept) else kept

-- What is kept with the next round.
abbrev pub kept_after : StoreState → Kept → Round → Kept
kept_after s kept round = kept_with (kept_before s kept) round

-- Two files stand for what was kept or for what is to be kept.
abbrev pub StandForEither : Kept → Kept → List ℕ → List ℕ → Type 0
StandForEither before after first second = Stands sha256 before first second ⊎ Stands sha256 after first second

-- A round that may stand behind what is kept.
pub record MayFollowKept (kept : Kept) (round : Round) : Type 0 where
  pub from : round.from ≡ kept.epoch
  pub fits : FitsRound kept.cubes kept.names round

-- The current file stands for one or the other of two, beside this one.
abbrev pub IsEither : Kept → Kept → List ℕ → List ℕ → Type 0
IsEither before after other file = IsCurrent sha256 before file other ⊎ IsCurrent sha256 after file other

-- The next round goes to the second disk.
abbrev pub goes_second : StoreState → Bool
goes_second s = if wants_whole s then not s.place.second else s.place.second

-- The current file stays so beside this one, or this one is current beside it for what is to be kept.
abbrev pub IsBesideEither : Kept → Kept → List ℕ → List ℕ → Type 0
IsBesideEither before after current file = IsCurrent sha256 before current file ⊎ IsCurrent sha256 after file current

-- A place with its end so many bytes later.
abbrev pub place_behind : StorePlace → ℕ → StorePlace
place_behind place n = record place { end = place.end + n }

-- Where a whole file ends.
abbrev pub whole_place : Bool → ℕ → List ℕ → StorePlace
whole_place second generation bytes = record { second = second; generation = generation; end = length bytes }
