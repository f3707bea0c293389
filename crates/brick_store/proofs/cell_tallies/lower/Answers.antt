use Rattle.std.proofs.Common.{◌≡◌, ◌<◌, pos, length, get_or, FitsSigned, w64, to_z, of_z, ◌∙◌, arith, rules}
use Rattle.std.specs.Int.{int_min}
use Rattle.std.proofs.lemmas.Int.{to_z-of_z}
use Rattle.brick_store.proofs.CellNumbers.{written}
use Rattle.brick_store.proofs.cell_tallies.lower.Goals as goal

pub rows-preserved : goal.rows-preserved
rows-preserved c = λ cell h.
    let l = c.rows in
    let cells = c.args.cells.now in
    let numbers = c.args.numbers.now in
    let k = get_or cells l.i 0 in
    let within : k < length c.args.lows.now = c.requires.within l.i 0 (omega arith) in
    let fits : FitsSigned w64 c.min.result = search rules in
    let same : to_z w64 (of_z w64 c.min.result) ≡ c.min.result = to_z-of_z w64 c.min.result fits in
    let is : c.min.result ≡ int_min (get_or l.lows k (pos 0)) (get_or numbers l.i (pos 0)) = search rules in
    written int_min c.args.lows.now l.lows cells numbers l.i cell (to_z w64 (of_z w64 c.min.result)) (omega arith) (omega arith) (omega arith) (same ∙ is) (l.invariant cell h)
