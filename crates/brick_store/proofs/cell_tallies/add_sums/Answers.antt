use Rattle.std.proofs.Common.{◌≡◌, ◌+◌, ◌*◌, ◌^◌, ◌<◌, zero, pos, ◌+ℤ◌, ◌<ℤ◌, neg_ℤ, length, set, fold, get_or, FitsSigned, w64, to_z, of_z, sym, ap, subst, ◌∙◌, arith, rules}
use Rattle.std.specs.Int.{w128}
use Rattle.std.proofs.lemmas.Int.{ints, to_z-of_z}
use Rattle.std.proofs.lemmas.List.{get_or-set_same}
use Rattle.packed_words.specs.Counted.{numbers_in}
use Rattle.brick_store.proofs.CellNumbers.{all_in_one, written, set_keeps}
use Rattle.brick_store.proofs.cell_tallies.add_sums.Goals as goal

pub rows-preserved : goal.rows-preserved
rows-preserved c =
    let l = c.rows in
    let cells = c.args.cells.now in
    let numbers = c.args.numbers.now in
    let k = get_or cells l.i 0 in
    let s = get_or l.sums k (pos 0) in
    let n = get_or numbers l.i (pos 0) in
    let v = to_z w128 (of_z w128 (to_z w128 (of_z w128 s) +ℤ to_z w128 (of_z w128 c.from.result))) in
    let here : l.i < length numbers = omega arith in
    let within : k < length c.args.sums.now = c.requires.within l.i 0 (omega arith) in
    let there : k < length l.sums = omega arith in
    let fits : FitsSigned w64 n = search rules in
    let number : c.from.result ≡ n = search rules in
    let low = l.invariant.low k within in
    let high = l.invariant.high k within in
    let s_fits : FitsSigned w128 s = omega (arith, ints, low, high) in
    let n_fits : FitsSigned w128 c.from.result = omega (arith, ints, fits, number) in
    let sum_fits : FitsSigned w128 (s +ℤ c.from.result) = omega (arith, ints, low, high, fits, number) in
    let is : v ≡ s +ℤ n =
    (λ t. to_z w128 (of_z w128 (to_z-of_z w128 s s_fits t +ℤ to_z-of_z w128 c.from.result n_fits t))) ∙ to_z-of_z w128 (s +ℤ c.from.result) sum_fits ∙ ap (λ x. s +ℤ x) number in
    record {
      value = λ cell h. written ◌+ℤ◌ c.args.sums.now l.sums cells numbers l.i cell v (omega arith) here there is (l.invariant.value cell h);
      low = λ cell h. set_keeps (λ z. neg_ℤ (pos (2 ^ 126 + 2 ^ 63 * (l.i + 1))) <ℤ z) l.sums k cell v there (omega (arith, ints, is, low, fits)) (omega (arith, ints, l.invariant.low cell h));
      high = λ cell h. set_keeps (λ z. z <ℤ pos (2 ^ 126 + 2 ^ 63 * (l.i + 1))) l.sums k cell v there (omega (arith, ints, is, high, fits)) (omega (arith, ints, l.invariant.high cell h));
    }

pub returns-then-sums-eq1 : goal.returns-then-sums-eq1
returns-then-sums-eq1 c = λ cell h.
    let sums = c.args.sums.now in
    let cells = c.args.cells.now in
    let numbers = c.args.numbers.now in
    let here : cell ≡ zero = omega arith in
    let all = all_in_one cells numbers c.requires.long (λ k d p. omega (arith, c.requires.within k d p)) in
    let v = to_z w128 (of_z w128 c.sum_with.result) in
    let fits : FitsSigned w128 c.sum_with.result = search rules in
    let (low, high) = c.requires.small 0 (pos 0) (omega arith) in
    let first : FitsSigned w128 (get_or sums 0 (pos 0)) = omega (arith, ints, low, high) in
    let is : v ≡ fold ◌+ℤ◌ (get_or sums 0 (pos 0)) numbers =
    to_z-of_z w128 c.sum_with.result fits ∙ c.sum_with.ensures ∙ ap (λ x. fold ◌+ℤ◌ x numbers) (to_z-of_z w128 (get_or sums 0 (pos 0)) first) in
    subst (λ j. get_or (set sums 0 v) j (pos 0) ≡ fold ◌+ℤ◌ (get_or sums j (pos 0)) (numbers_in j cells numbers)) (sym here)
    (get_or-set_same sums 0 v (pos 0) (omega arith) ∙ is ∙ ap (fold ◌+ℤ◌ (get_or sums 0 (pos 0))) (sym all))
