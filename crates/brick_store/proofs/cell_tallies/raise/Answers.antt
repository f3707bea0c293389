use Rattle.std.proofs.Common.{◌≡◌, ◌<◌, pos, length, get_or, FitsSigned, w64, to_z, of_z, ◌∙◌, arith, rules}
use Rattle.std.specs.Int.{int_max}
use Rattle.std.proofs.lemmas.Int.{to_z-of_z}
use Rattle.brick_store.proofs.CellNumbers.{written}
use Rattle.brick_store.proofs.cell_tallies.raise.Goals as goal

pub rows-preserved : goal.rows-preserved
rows-preserved c = λ cell h.
    let l = c.rows in
    let cells = c.args.cells.now in
    let numbers = c.args.numbers.now in
    let k = get_or cells l.i 0 in
    let within : k < length c.args.highs.now = c.requires.within l.i 0 (omega arith) in
    let fits : FitsSigned w64 c.max.result = search rules in
    let same : to_z w64 (of_z w64 c.max.result) ≡ c.max.result = to_z-of_z w64 c.max.result fits in
    let is : c.max.result ≡ int_max (get_or l.highs k (pos 0)) (get_or numbers l.i (pos 0)) = search rules in
    written int_max c.args.highs.now l.highs cells numbers l.i cell (to_z w64 (of_z w64 c.max.result)) (omega arith) (omega arith) (omega arith) (same ∙ is) (l.invariant cell h)
