use Rattle.std.proofs.Common.{◌≡◌, ◌<◌, pos, length, fold, ◌+ℤ◌, get_or, refl, sym, ap, subst, ◌∙◌, arith}
use Rattle.std.specs.Int.{int_min, int_max}
use Rattle.std.proofs.lemmas.List.{take_at, get_or_default}
use Rattle.agg_fold.specs.declared.tally.Tally.{Tally}
use Rattle.agg_fold.specs.declared.tally.Tally.TheVariants.{Unused, Total, Least, Greatest}
use Rattle.agg_fold.specs.Tallies.{tally_with, IsSmall}
use Rattle.packed_words.specs.Counted.{numbers_in}
use Rattle.brick_store.specs.Cells.{cell_tally, HasCells, HasSmallTallies}
use Rattle.brick_store.specs.declared.cell_tallies.CellTallies.{CellTallies}
use Rattle.brick_store.proofs.CellNumbers.{nothing_kept, sums_kept, lows_kept, highs_kept}
use Rattle.brick_store.proofs.cell_tallies.CellTallies.add.Goals as goal

pub add_sums-requires-clause-small : goal.add_sums-requires-clause-small
add_sums-requires-clause-small c = λ k d h.
    let sums = c.in-Sums.sums.items in
    let small = subst HasSmallTallies c.in-Sums.is c.requires.small in
    let long : k < length sums = omega (arith, ap length c.as_mut_slice.ensures.value) in
    let same : get_or sums k (pos 0) ≡ get_or c.as_mut_slice.result.now k d = get_or_default sums k (pos 0) d long ∙ ap (λ xs. get_or xs k d) (sym c.as_mut_slice.ensures.value) in
    subst (λ x. IsSmall (Total x)) same (small (length sums) k refl long)

pub returns-in-Nothing-clause-more : goal.returns-in-Nothing-clause-more
returns-in-Nothing-clause-more c = λ n cell known h.
    let ns = numbers_in cell c.args.cells.now c.args.numbers.now in
    let e : cell_tally c.args.self.now cell ≡ Unused = ap (λ (t : CellTallies). cell_tally t cell) c.in-Nothing.is in
    e ∙ sym (nothing_kept ns) ∙ ap (λ (t : Tally). fold tally_with t ns) (sym e)

pub returns-in-Sums-clause-more : goal.returns-in-Sums-clause-more
returns-in-Sums-clause-more c = λ n cell known h.
    let ns = numbers_in cell c.args.cells.now c.args.numbers.now in
    let sums = c.in-Sums.sums.items in
    let long = subst (HasCells n) c.in-Sums.is known in
    let e : cell_tally c.args.self.now cell ≡ Total (get_or sums cell (pos 0)) = ap (λ (t : CellTallies). cell_tally t cell) c.in-Sums.is in
    let l : length c.add_sums.new.sums ≡ c.in-Sums.sums.len = omega arith in
    let is = c.add_sums.ensures cell (omega (arith, long, ap length c.as_mut_slice.ensures.value)) in
    rw (take_at c.add_sums.new.sums _ c.in-Sums.sums.len l)
    (ap Total (is ∙ ap (λ xs. fold ◌+ℤ◌ (get_or xs cell (pos 0)) ns) c.as_mut_slice.ensures.value) ∙ sym (sums_kept (get_or sums cell (pos 0)) ns) ∙ ap (λ (t : Tally). fold tally_with t ns) (sym e))

pub returns-in-Lows-clause-more : goal.returns-in-Lows-clause-more
returns-in-Lows-clause-more c = λ n cell known h.
    let ns = numbers_in cell c.args.cells.now c.args.numbers.now in
    let lows = c.in-Lows.lows.items in
    let long = subst (HasCells n) c.in-Lows.is known in
    let e : cell_tally c.args.self.now cell ≡ Least (get_or lows cell (pos 0)) = ap (λ (t : CellTallies). cell_tally t cell) c.in-Lows.is in
    let l : length c.lower.new.lows ≡ c.in-Lows.lows.len = omega arith in
    let is = c.lower.ensures cell (omega (arith, long, ap length c.as_mut_slice-in-Lows.ensures.value)) in
    rw (take_at c.lower.new.lows _ c.in-Lows.lows.len l)
    (ap Least (is ∙ ap (λ xs. fold int_min (get_or xs cell (pos 0)) ns) c.as_mut_slice-in-Lows.ensures.value) ∙ sym (lows_kept (get_or lows cell (pos 0)) ns) ∙ ap (λ (t : Tally). fold tally_with t ns) (sym e))

pub returns-in-Highs-clause-more : goal.returns-in-Highs-clause-more
returns-in-Highs-clause-more c = λ n cell known h.
    let ns = numbers_in cell c.args.cells.now c.args.numbers.now in
    let highs = c.in-Highs.highs.items in
    let long = subst (HasCells n) c.in-Highs.is known in
    let e : cell_tally c.args.self.now cell ≡ Greatest (get_or highs cell (pos 0)) = ap (λ (t : CellTallies). cell_tally t cell) c.in-Highs.is in
    let l : length c.raise.new.highs ≡ c.in-Highs.highs.len = omega arith in
    let is = c.raise.ensures cell (omega (arith, long, ap length c.as_mut_slice-in-Highs.ensures.value)) in
    rw (take_at c.raise.new.highs _ c.in-Highs.highs.len l)
    (ap Greatest (is ∙ ap (λ xs. fold int_max (get_or xs cell (pos 0)) ns) c.as_mut_slice-in-Highs.ensures.value) ∙ sym (highs_kept (get_or highs cell (pos 0)) ns) ∙ ap (λ (t : Tally). fold tally_with t ns) (sym e))
