use Rattle.std.proofs.Common.{◌≡◌, ℕ, ◌<◌, pos, length, take, fold, get_or}
use Rattle.std.specs.Int.{int_min}
use Rattle.packed_words.specs.Counted.{numbers_in}
use Rattle.brick_store.proofs.cell_tallies.lower.Given as goal

abbrev pub invariant-rows : goal.invariant-rows
invariant-rows l = (cell : ℕ) → cell < length l.initial.lows → get_or l.lows cell (pos 0) ≡ fold int_min (get_or l.initial.lows cell (pos 0)) (numbers_in cell (take l.i l.cells) (take l.i l.numbers))
