use Rattle.std.proofs.Common.{◌≡◌, ◌<◌, pos, length, get_or, refl, sym, ap, subst, ◌∙◌, arith}
use Rattle.std.proofs.lemmas.List.{get_or_default}
use Rattle.agg_fold.specs.declared.tally.Tally.TheVariants.{Total}
use Rattle.agg_fold.specs.Tallies.{IsSmall}
use Rattle.brick_store.specs.Cells.{HasSmallTallies}
use Rattle.brick_store.proofs.counted_chunks.take_sums.Goals as goal

pub add_summed-requires-clause-small : goal.add_summed-requires-clause-small
add_summed-requires-clause-small c = λ k d h.
    let sums = c.in-Sums.sums.items in
    let small = subst HasSmallTallies c.in-Sums.is c.requires.small in
    let long : k < length sums = omega (arith, ap length c.as_mut_slice.ensures.value) in
    let same : get_or sums k (pos 0) ≡ get_or c.as_mut_slice.result.now k d = get_or_default sums k (pos 0) d long ∙ ap (λ xs. get_or xs k d) (sym c.as_mut_slice.ensures.value) in
    subst (λ x. IsSmall (Total x)) same (small (length sums) k refl long)
