use Rattle.std.proofs.Common.{◌≡◌, ◌+◌, ◌<◌, ◌==◌, zero, length, set, get_or, count_by, sym, ap, subst, ◌∙◌, arith}
use Rattle.std.proofs.lemmas.List.{get_or-set_same}
use Rattle.brick_store.proofs.CellNumbers.{all_counted, counted}
use Rattle.brick_store.proofs.dense.count_cells.Goals as goal

pub rows-preserved : goal.rows-preserved
rows-preserved c = λ cell h.
    let l = c.rows in
    let cells = c.args.cells.now in
    let within : get_or cells l.i 0 < length c.args.counts.now = c.requires.within l.i 0 (omega arith) in
    counted c.args.counts.now l.counts cells l.i cell (omega arith) (omega arith) (l.invariant cell h)

pub returns-then-counts-eq1 : goal.returns-then-counts-eq1
returns-then-counts-eq1 c = λ cell h.
    let counts = c.args.counts.now in
    let cells = c.args.cells.now in
    let here : cell ≡ zero = omega arith in
    let v = get_or counts 0 0 + length cells in
    let all = all_counted cells (λ k d p. omega (arith, c.requires.within k d p)) in
    subst (λ j. get_or (set counts 0 v) j 0 ≡ get_or counts j 0 + count_by (λ c. c == j) cells) (sym here)
    (get_or-set_same counts 0 v 0 (omega arith) ∙ ap (λ n. get_or counts 0 0 + n) (sym all))
