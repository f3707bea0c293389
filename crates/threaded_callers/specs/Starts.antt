-- Threads that were started, and whether one was refused.
-- Source: this project's own.
use Rattle.std.specs.Prelude.{◌≡◌, ◌+◌, ℕ, Bool, true, false, MatchBool}
use Rattle.threaded_callers.specs.declared.starter.ThreadStarter.{ThreadStarter}

-- Where works began, so many threads were started for those that they need, and none was refused before or since; else one was
-- refused.
abbrev pub HaveThreads : ℕ → Bool → ThreadStarter → ThreadStarter → Type 0
HaveThreads count began before after = MatchBool began
    ((before.refused ≡ false) × (after.refused ≡ false) × (after.left + count ≡ before.left)) (after.refused ≡ true)
