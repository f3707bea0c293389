-- Counts that never fall and stay at their last value, 2 ^ 64 - 1.
use Rattle.std.specs.Prelude.{◌≡◌, ℕ, ◌+◌, ◌-◌, ◌^◌, ◌<◌, ◌≤◌, ◌⊎◌, List, min}
use Rattle.std.specs.List.{Contains}

-- the count rose, where one that stands at its last value counts as risen
abbrev pub Rose : ℕ → ℕ → Type 0
Rose before now = (before < now) ⊎ (2 ^ 64 ≤ now + 1)

-- the count, or the number of a call, after this one
abbrev pub next : ℕ → ℕ
next count = min (count + 1) (2 ^ 64 - 1)

-- the call of this number fails, whatever it asks
abbrev pub IsFailing : List ℕ → ℕ → Type 0
IsFailing failing number = Contains failing number ⊎ (number ≡ 2 ^ 64 - 1)
