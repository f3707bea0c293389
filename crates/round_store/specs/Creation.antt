-- What the two files of a store may be while it is created.
-- Source: this project's own.
use Rattle.std.specs.Prelude.{◌≡◌, ◌⊎◌, ◌↔◌, ℕ, List, [], ◌∷◌, Some, IfSome, IsSome}
use Rattle.cube_language.specs.declared.decl.Decl.{Decl}
use Rattle.cube_rounds.specs.Headers.{shut_gate}
use Rattle.cube_rounds.specs.Stands.{Kept, kept_of_cubes, Stands}
use Rattle.gate_writes.specs.Gates.{HasAnyFront}
use Rattle.outside_disk.specs.Views.{View, IsSynced}
use Rattle.sha2.specs.Sha256.{sha256}

-- Two files stand for no store.
abbrev pub StandForNone : List ℕ → List ℕ → Type 0
StandForNone first second = (kept : Kept) → Stands sha256 kept first second → ⊥

-- Two files are the old ones with any byte at the front of each.
pub record AreOld (old_first old_second first second : List ℕ) : Type 0 where
  pub first_old : HasAnyFront old_first first
  pub second_old : HasAnyFront old_second second

-- Two files stand for none, are the old ones with any byte at the front of each, or stand for the new store.
abbrev pub AreCreating : List Decl → List ℕ → List ℕ → List ℕ → List ℕ → Type 0
AreCreating cubes old_first old_second first second =
    StandForNone first second
    ⊎ (AreOld old_first old_second first second ⊎ Stands sha256 (kept_of_cubes cubes) first second)

-- A file with a shut gate for its first byte, where it has one.
abbrev pub with_any_front_shut : List ℕ → List ℕ
with_any_front_shut [] = []
with_any_front_shut (gate ∷ rest) = shut_gate ∷ rest

-- The first gate of a file that has one was shut, and this is safe.
pub record IsShutNow (old new : View) : Type 0 where
  pub told : IfSome old.told (λ f. new.told ≡ Some (with_any_front_shut f))
  pub tells : IsSome old.told ↔ IsSome new.told
  pub synced : IsSynced new
