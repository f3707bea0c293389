use Rattle.std.proofs.Common.{◌≡◌, ℕ, ◌+◌, ◌*◌, ◌<◌, ◌≤◌, get_or}
use Rattle.brick_store.proofs.cells.join_offsets.Given as goal

abbrev pub invariant-rows : goal.invariant-rows
invariant-rows l = record {
  front : (k : ℕ) → k < l.i → get_or l.cells k 0 ≡ get_or l.offsets k 0 + l.range * get_or l.initial.cells k 0;
  rest : (k : ℕ) → l.i ≤ k → get_or l.cells k 0 ≡ get_or l.initial.cells k 0;
}
