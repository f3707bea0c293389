-- How much of a range of coordinates a part has.
use Rattle.std.specs.Prelude.{ℕ, ◌<◌, ◌≤◌, ◌≡◌, Bool, ◌&&◌, true, false, nat_le, nat_lt}
use Rattle.brick_address.specs.declared.share.Share.{Share}
use Rattle.brick_address.specs.declared.share.Share.TheVariants.{Whole, Empty, Partial}

-- A coordinate lies between a start and an end, the end left out.
abbrev pub is_within : ℕ → ℕ → ℕ → Bool
is_within start end coord = nat_le start coord && nat_lt coord end

-- A test answers the same of each coordinate from a start up to an end.
abbrev pub AnswersAll : (ℕ → Bool) → ℕ → ℕ → Bool → Type 0
AnswersAll test start end answer = (coord : ℕ) → start ≤ coord → coord < end → test coord ≡ answer

-- Whole: the test passes each coordinate from the start up to the end. Empty: it passes none. Else Partial.
abbrev pub IsShare : (ℕ → Bool) → ℕ → ℕ → Share → Type 0
IsShare test start end Whole = AnswersAll test start end true
IsShare test start end Empty = AnswersAll test start end false
IsShare test start end Partial = (AnswersAll test start end true → ⊥) × (AnswersAll test start end false → ⊥)
