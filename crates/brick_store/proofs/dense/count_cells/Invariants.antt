use Rattle.std.proofs.Common.{◌≡◌, ℕ, ◌+◌, ◌<◌, ◌==◌, length, take, get_or, count_by}
use Rattle.brick_store.proofs.dense.count_cells.Given as goal

abbrev pub invariant-rows : goal.invariant-rows
invariant-rows l = (cell : ℕ) → cell < length l.initial.counts → get_or l.counts cell 0 ≡ get_or l.initial.counts cell 0 + count_by (λ c. c == cell) (take l.i l.cells)
