-- A counter modulo 2^64.
use Rattle.std.specs.Prelude.{◌≡◌, ℕ, ◌+◌, ◌<◌, ◌%◌, ◌^◌, List}
use Rattle.std.specs.List.{sum_by}
use Rattle.turn_board.specs.declared.history.Event.{Event}
use Rattle.turn_board.specs.History.{LeadsTo}
use Rattle.turn_board_uses.specs.declared.counter.CounterCall.{CounterCall}
use Rattle.turn_board_uses.specs.declared.counter.CounterCall.TheVariants.{Add, Get}

-- Each call answers what the counter then is.
abbrev pub CounterStep : ℕ → CounterCall → ℕ → ℕ → Type 0
CounterStep x (Add n) a y = (y ≡ (x + n) % 2 ^ 64) × (a ≡ y)
CounterStep x Get a y = (y ≡ x) × (a ≡ x)

-- What a call adds.
abbrev pub call_amount : CounterCall → ℕ
call_amount (Add n) = n
call_amount Get = 0

abbrev pub event_amount : Event CounterCall ℕ → ℕ
event_amount e = call_amount e.call

-- The law of counters: events leave what they add in all, modulo 2^64.
abbrev pub AddUp : Type 0
AddUp = (x y : ℕ) (events : List (Event CounterCall ℕ)) → x < 2 ^ 64 → LeadsTo CounterStep x events y
    → y ≡ (x + sum_by event_amount events) % 2 ^ 64
