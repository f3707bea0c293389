use Rattle.std.proofs.Common.{◌≡◌, ℕ, ◌<◌, pos, length, take, fold, get_or}
use Rattle.std.specs.Int.{int_max}
use Rattle.packed_words.specs.Counted.{numbers_in}
use Rattle.brick_store.proofs.cell_tallies.raise.Given as goal

abbrev pub invariant-rows : goal.invariant-rows
invariant-rows l = (cell : ℕ) → cell < length l.initial.highs → get_or l.highs cell (pos 0) ≡ fold int_max (get_or l.initial.highs cell (pos 0)) (numbers_in cell (take l.i l.cells) (take l.i l.numbers))
