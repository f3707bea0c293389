use Rattle.std.proofs.Common.{◌≡◌, ◌+◌, set, get_or, subst, sym, ap, ◌∙◌, All, arith}
use Rattle.std.specs.List.{zip}
use Rattle.std.proofs.lemmas.List.{take_all}
use Rattle.std.proofs.lemmas.List.Elements.{All-nil, All-more}
use Rattle.cube_values.specs.declared.query.BoundItem.{BoundItem}
use Rattle.cube_values.specs.declared.query.BoundItem.TheVariants.{Group}
use Rattle.agg_fold.specs.declared.tally.Tally.{Tally}
use Rattle.agg_fold.specs.declared.tally.Tally.TheVariants.{Unused}
use Rattle.agg_fold.specs.Tallies.{Fits, IsSmall, tally_with_row}
use Rattle.agg_fold.proofs.Lists.{half, half_all, zip_long, zip_seconds, zipped_at, zipped_more}
use Rattle.agg_fold.proofs.tallies.add_row.Goals as goal

pub items-init : goal.items-init
items-init c = (All-nil (Fits c.args.metrics.now), sym (zip_seconds c.args.items.now c.args.tallies.now (sym c.requires.long)))

pub with_row-requires-clause-small : goal.with_row-requires-clause-small
with_row-requires-clause-small c =
    let items = c.args.items.now in
    let old = c.args.tallies.now in
    let i = c.items.i in
    let at : get_or c.items.tallies i Unused ≡ get_or old i Unused = ap (λ l. get_or l i Unused) c.items.invariant.1 ∙ zipped_at (λ (p : BoundItem × Tally). p.1) (λ p. tally_with_row c.args.metrics.now p.0 p.1) items old (sym c.requires.long) i (Group 0) Unused (omega arith) Unused in
    subst IsSmall (sym at) (c.requires.small i Unused (omega arith))

pub items-preserved : goal.items-preserved
items-preserved c =
    let items = c.args.items.now in
    let old = c.args.tallies.now in
    let metrics = c.args.metrics.now in
    let i = c.items.i in
    let f = λ (p : BoundItem × Tally). p.1 in
    let g = λ (p : BoundItem × Tally). tally_with_row metrics p.0 p.1 in
    let at : get_or c.items.tallies i Unused ≡ get_or old i Unused = ap (λ l. get_or l i Unused) c.items.invariant.1 ∙ zipped_at f g items old (sym c.requires.long) i (Group 0) Unused (omega arith) Unused in (
      All-more (Fits metrics) items i (Group 0) (omega arith) c.items.invariant.0 c.with_row.ensures.fit,
      ap (λ l. set l i c.with_row.result) c.items.invariant.1
          ∙ ap (set (half f g i (zip items old)) i) (c.with_row.ensures.more ∙ ap (tally_with_row metrics (get_or items i (Group 0))) at)
          ∙ zipped_more f g items old (sym c.requires.long) i (Group 0) Unused (omega arith),
    )

pub returns-clause-fit : goal.returns-clause-fit
returns-clause-fit c = subst (All (Fits c.args.metrics.now)) (take_all c.items.i c.args.items.now (omega arith)) c.items.invariant.0

pub returns-clause-more : goal.returns-clause-more
returns-clause-more c =
    c.items.invariant.1
    ∙ half_all (λ (p : BoundItem × Tally). p.1) (λ p. tally_with_row c.args.metrics.now p.0 p.1) (zip c.args.items.now c.args.tallies.now) c.items.i (omega (arith, zip_long c.args.items.now c.args.tallies.now (sym c.requires.long), c.requires.long))
