use Rattle.std.proofs.Common.{◌≡◌, ℕ, ◌%◌, ◌^◌, ◌<◌, pos, ◌+ℤ◌, ◌-ℤ◌, set, get_or, FitsSigned, w64, to_z, of_z, ap, subst, ◌∙◌, arith, rules, inl, inr}
use Rattle.std.specs.Int.{w128}
use Rattle.std.proofs.lemmas.Bool.{cases_lt}
use Rattle.std.proofs.lemmas.Int.{ints, to_z-of_z}
use Rattle.std.proofs.lemmas.List.{get_or-set_same, get_or-set_other}
use Rattle.packed_words.specs.Counted.{summed_in}
use Rattle.brick_store.proofs.counted_chunks.add_summed.Goals as goal

pub cells-preserved : goal.cells-preserved
cells-preserved c =
    let l = c.cells in
    let sums = c.args.sums.now in
    let words = c.args.words.now in
    let s = get_or l.sums l.cell (pos 0) in
    let m = get_or words l.cell 0 % 2 ^ 52 in
    let v = to_z w128 (of_z w128 (to_z w128 (of_z w128 s) +ℤ to_z w128 (of_z w128 c.from.result))) in
    let fits : FitsSigned w64 c.summed_in.result = search rules in
    let same : c.from.result ≡ c.summed_in.result = search rules in
    let number : c.from.result ≡ pos m -ℤ pos (2 ^ 51) = same ∙ c.summed_in.ensures in
    let less : m < 2 ^ 52 = omega arith in
    let was = l.invariant.rest l.cell (omega arith) in
    let (low, high) = c.requires.small l.cell (pos 0) (omega arith) in
    let s_fits : FitsSigned w128 s = omega (arith, ints, low, high, was) in
    let n_fits : FitsSigned w128 c.from.result = omega (arith, ints, number, less) in
    let sum_fits : FitsSigned w128 (s +ℤ c.from.result) = omega (arith, ints, low, high, was, number, less) in
    let is : v ≡ s +ℤ summed_in (get_or words l.cell 0) =
    (λ t. to_z w128 (of_z w128 (to_z-of_z w128 s s_fits t +ℤ to_z-of_z w128 c.from.result n_fits t))) ∙ to_z-of_z w128 (s +ℤ c.from.result) sum_fits ∙ ap (λ x. s +ℤ x) number in
    record {
      below = λ j h. elim (cases_lt j l.cell) [
        | inl before ↦ get_or-set_other l.sums l.cell j v (pos 0) (λ e. omega arith) ∙ l.invariant.below j before
        | inr more ↦
            let here : l.cell ≡ j = omega arith in
            subst (λ (i : ℕ). get_or (set l.sums l.cell v) i (pos 0) ≡ get_or sums i (pos 0) +ℤ summed_in (get_or words i 0)) here
            (get_or-set_same l.sums l.cell v (pos 0) (omega arith) ∙ is ∙ ap (λ x. x +ℤ summed_in (get_or words l.cell 0)) was)
      ];
      rest = λ j h. get_or-set_other l.sums l.cell j v (pos 0) (λ e. omega arith) ∙ l.invariant.rest j (omega arith);
    }
