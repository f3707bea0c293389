-- The latest safe epoch, as the flusher's own calls tell it.
-- Source: AOSI (ICDE 2018), LSE and flush rounds; what is known by own calls is this project's own.
use Rattle.std.specs.Prelude.{ℕ, List, [], ◌∷◌}
use Rattle.aosi_desk.specs.declared.answer.RoundEnd.TheVariants.{Safe}
use Rattle.core_events.specs.Events.{Opening, RoundClose, ClientCall, OnDesk}

-- A round that is closed as safe makes its epoch the latest safe one.
abbrev pub safe_after_call : ClientCall → ℕ → ℕ
safe_after_call (OnDesk (RoundClose epoch Safe)) safe = epoch
safe_after_call call safe = safe

-- By its calls, the newest first. A run opens with one.
abbrev pub safe_by_calls : Opening → List ClientCall → ℕ
safe_by_calls o [] = o.safe
safe_by_calls o (call ∷ calls) = safe_after_call call (safe_by_calls o calls)
