use Rattle.std.proofs.Common.{take, get_or, All, sym, subst, arith}
use Rattle.std.proofs.lemmas.List.{take_more, take_all}
use Rattle.std.proofs.lemmas.List.Elements.{All-push}
use Rattle.cube_values.specs.declared.query.BoundItem.{BoundItem}
use Rattle.cube_values.specs.declared.query.BoundItem.TheVariants.{Group}
use Rattle.brick_store.specs.Cells.{HasFitNumber}
use Rattle.brick_store.proofs.scan.numbers_fit.Goals as goal

pub items-preserved : goal.items-preserved
items-preserved c = λ k d h.
    let l = c.items in
    let items = c.args.items.now in
    let row = get_or c.args.columns.now.rows k d in
    subst (λ is. All (λ (item : BoundItem). HasFitNumber item row) is) (sym (take_more items l.item-index (Group 0) (omega arith)))
    (All-push (λ (item : BoundItem). HasFitNumber item row) (take l.item-index items) (get_or items l.item-index (Group 0)) (l.invariant k d h) (c.number_fits.ensures k d h))

pub returns : goal.returns
returns c = λ k d h.
    let l = c.items in
    let items = c.args.items.now in
    let row = get_or c.args.columns.now.rows k d in
    subst (λ is. All (λ (item : BoundItem). HasFitNumber item row) is) (take_all l.item-index items (omega arith)) (l.invariant k d h)
