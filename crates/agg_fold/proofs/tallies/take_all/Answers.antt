use Rattle.std.proofs.Common.{◌≡◌, ◌+◌, set, get_or, subst, sym, ap, ◌∙◌, arith}
use Rattle.std.specs.List.{zip}
use Rattle.agg_fold.specs.declared.tally.Tally.{Tally}
use Rattle.agg_fold.specs.declared.tally.Tally.TheVariants.{Unused}
use Rattle.agg_fold.specs.Tallies.{IsSmall, tally_difference}
use Rattle.agg_fold.proofs.Lists.{half, half_all, zip_long, zip_firsts, zipped_at, zipped_more}
use Rattle.agg_fold.proofs.tallies.take_all.Goals as goal

pub items-init : goal.items-init
items-init c = sym (zip_firsts c.args.tallies.now c.args.less.now c.requires.long)

pub difference-requires-clause-small : goal.difference-requires-clause-small
difference-requires-clause-small c =
    let old = c.args.tallies.now in
    let i = c.items.i in
    let at : get_or c.items.tallies i Unused ≡ get_or old i Unused = ap (λ l. get_or l i Unused) c.items.invariant ∙ zipped_at (λ (p : Tally × Tally). p.0) (λ p. tally_difference p.0 p.1) old c.args.less.now c.requires.long i Unused Unused (omega arith) Unused in
    subst IsSmall (sym at) (c.requires.small i Unused (omega (arith, c.requires.long)))

pub difference-requires-clause-other_small : goal.difference-requires-clause-other_small
difference-requires-clause-other_small c = c.requires.less c.items.i Unused (omega arith)

pub items-preserved : goal.items-preserved
items-preserved c =
    let old = c.args.tallies.now in
    let others = c.args.less.now in
    let i = c.items.i in
    let f = λ (p : Tally × Tally). p.0 in
    let g = λ (p : Tally × Tally). tally_difference p.0 p.1 in
    let at : get_or c.items.tallies i Unused ≡ get_or old i Unused = ap (λ l. get_or l i Unused) c.items.invariant ∙ zipped_at f g old others c.requires.long i Unused Unused (omega arith) Unused in
    ap (λ l. set l i c.difference.result) c.items.invariant
    ∙ ap (set (half f g i (zip old others)) i) (c.difference.ensures ∙ ap (λ (t : Tally). tally_difference t (get_or others i Unused)) at)
    ∙ zipped_more f g old others c.requires.long i Unused Unused (omega arith)

pub returns : goal.returns
returns c =
    c.items.invariant
    ∙ half_all (λ (p : Tally × Tally). p.0) (λ p. tally_difference p.0 p.1) (zip c.args.tallies.now c.args.less.now) c.items.i (omega (arith, zip_long c.args.tallies.now c.args.less.now c.requires.long))
