use Rattle.std.proofs.Common.{All, IsTrue, subst, arith, rules}
use Rattle.std.proofs.lemmas.List.{take_all}
use Rattle.std.proofs.lemmas.List.Elements.{All-more}
use Rattle.cube_values.specs.Queries.{IsSoundItem}
use Rattle.cube_values.specs.declared.query.BoundItem.TheVariants.{Group}
use Rattle.store_cases.proofs.making.all_sound.Goals as goal

pub items-preserved : goal.items-preserved
items-preserved c =
    let yes : IsTrue c.is_sound_item.result = search rules in
    All-more (IsSoundItem c.args.group.now c.args.metrics) c.args.items.now c.items.item-index (Group 0) (omega arith) c.items.invariant (c.is_sound_item.ensures yes)

pub returns : goal.returns
returns c = λ _. subst (All (IsSoundItem c.args.group.now c.args.metrics)) (take_all c.items.item-index c.args.items.now (omega arith)) c.items.invariant
