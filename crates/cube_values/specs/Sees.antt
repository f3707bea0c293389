-- Which epochs a snapshot sees, and for which epochs it is admissible.
-- Source: AOSI (ICDE 2018), visibility by epoch and deps; the difference of readers and writers is this project's own.
use Rattle.std.specs.Prelude.{◌≡◌, ℕ, ◌<◌, ◌≤◌, Bool, not, ◌&&◌, ◌==◌, nat_le, nat_lt, [], length, All, Contains, MatchBool, if◌then◌else◌}
use Rattle.std.specs.List.{list_any, list_all}
use Rattle.cube_values.specs.declared.snapshot.Snapshot.{Snapshot}

-- A snapshot sees an epoch that is at most its own and none of its deps.
abbrev pub sees : Snapshot → ℕ → Bool
sees s epoch = nat_le epoch s.epoch && not (list_any (λ dep. dep == epoch) s.deps)

-- The same as a fact.
abbrev pub CanSee : Snapshot → ℕ → Type 0
CanSee s epoch = (epoch ≤ s.epoch) × (Contains s.deps epoch → ⊥)

-- A reader is admissible for an epoch where it has no deps and its own epoch is at least that one, a
-- writer where its epoch and all its deps are above it.
abbrev pub admissible : Snapshot → ℕ → Bool
admissible s epoch =
    if s.own then nat_lt epoch s.epoch && list_all (λ dep. nat_lt epoch dep) s.deps
    else nat_le epoch s.epoch && length s.deps == 0

-- The same as a fact.
abbrev pub IsAdmissible : Snapshot → ℕ → Type 0
IsAdmissible s epoch =
    MatchBool s.own ((epoch < s.epoch) × All (λ dep. epoch < dep) s.deps) ((epoch ≤ s.epoch) × (s.deps ≡ []))
