use Rattle.std.proofs.Common.{◌≡◌, ◌≤◌, vec_len, vec_capacity}
use Rattle.ordered_callers.proofs.order.Order.new.Given as goal

-- A bell for each place so far, and room for all.
abbrev pub invariant-loop : goal.invariant-loop
invariant-loop l = (vec_len l.bells ≡ l.counter) × (l.count ≤ vec_capacity l.bells)
