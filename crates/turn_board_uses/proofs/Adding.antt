-- Events add up.
use Rattle.std.proofs.Common.{◌≡◌, ℕ, ◌+◌, ◌<◌, ◌%◌, ◌^◌, List, [], ◌∷◌, sym, ap, ◌∙◌, arith}
use Rattle.std.specs.List.{sum_by}
use Rattle.std.proofs.lemmas.List.Sums.{sum_by-cons}
use Rattle.turn_board.specs.declared.history.Event.{Event}
use Rattle.turn_board.specs.History.{LeadsTo}
use Rattle.turn_board_uses.specs.declared.counter.CounterCall.{CounterCall}
use Rattle.turn_board_uses.specs.declared.counter.CounterCall.TheVariants.{Add, Get}
use Rattle.turn_board_uses.specs.Counting.{CounterStep, call_amount, event_amount, AddUp}

-- One call leaves what it adds.
one_call : (x : ℕ) (call : CounterCall) (answer y : ℕ) → x < 2 ^ 64 → CounterStep x call answer y
    → (y ≡ (x + call_amount call) % 2 ^ 64) × (y < 2 ^ 64)
one_call x (Add n) answer y small s = let e = s.0 in (e, omega arith)
one_call x Get answer y small s = let e = s.0 in (omega arith, omega arith)

in_turn : (x amount more z y : ℕ) → z ≡ (x + amount) % 2 ^ 64 → y ≡ (z + more) % 2 ^ 64
    → y ≡ (x + (amount + more)) % 2 ^ 64
in_turn x amount more z y first then = omega arith

nothing : (x y : ℕ) → x < 2 ^ 64 → x ≡ y → y ≡ (x + 0) % 2 ^ 64
nothing x y small e = omega arith

pub adds_up : AddUp
adds_up x y [] small leads = nothing x y small leads
adds_up x y (e ∷ es) small leads =
    let s = one_call x e.call e.answer leads.0 small leads.1 in
    in_turn x (call_amount e.call) (sum_by event_amount es) leads.0 y s.0 (adds_up leads.0 y es s.1 leads.2)
    ∙ ap (λ n. (x + n) % 2 ^ 64) (sym (sum_by-cons event_amount e es))
