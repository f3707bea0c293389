use Rattle.std.proofs.Common.{◌≡◌, ap, sym, subst, ◌∙◌, arith}
use Rattle.std.proofs.lemmas.List.Elements.{All-get_or}
use Rattle.cube_values.specs.Shapes.{bricks_of}
use Rattle.brick_columns.proofs.InPlace.{each_here, each_more, each_all}
use Rattle.brick_store.specs.Bricks.{BrickState}
use Rattle.brick_map.specs.Lists.{HasNumberBelow, MayMark, brick_after_deletion}
use Rattle.brick_map.proofs.EachBrick.{zip_mapped}
use Rattle.brick_map.proofs.passes.delete_from_each.Goals as goal

pub loop-brick-preserved : goal.loop-brick-preserved
loop-brick-preserved c =
    let l = c.loop-brick in
    let old = c.args.bricks.now in
    let f : BrickState → BrickState = brick_after_deletion c.args.shape.now.sizes c.args.span.now c.args.epoch in
    let R : BrickState → BrickState → Type 0 = λ x y. y ≡ f x in
    let b = c.brick-item.result in
    let here = each_here R old old l.bricks l.brick-index b l.invariant in
    each_more R old old l.bricks l.brick-index b c.delete_from.new.brick (omega arith) (omega arith) (c.delete_from.ensures ∙ ap f here) l.invariant

pub returns : goal.returns
returns c =
    let l = c.loop-brick in
    let old = c.args.bricks.now in
    let f : BrickState → BrickState = brick_after_deletion c.args.shape.now.sizes c.args.span.now c.args.epoch in
    zip_mapped f old l.bricks (each_all (λ x y. y ≡ f x) old old l.bricks l.brick-index (omega arith) (omega arith) l.invariant)

pub delete_from-requires-clause-brick : goal.delete_from-requires-clause-brick
delete_from-requires-clause-brick c =
    let l = c.loop-brick in
    let old = c.args.bricks.now in
    let b = c.brick-item.result in
    let f : BrickState → BrickState = brick_after_deletion c.args.shape.now.sizes c.args.span.now c.args.epoch in
    let here = each_here (λ x y. y ≡ f x) old old l.bricks l.brick-index b l.invariant in
    subst (HasNumberBelow (bricks_of c.args.shape.now.sizes)) (sym here) (All-get_or (HasNumberBelow (bricks_of c.args.shape.now.sizes)) old l.brick-index b (omega arith) c.requires.bricks)

pub delete_from-requires-clause-room : goal.delete_from-requires-clause-room
delete_from-requires-clause-room c =
    let l = c.loop-brick in
    let old = c.args.bricks.now in
    let b = c.brick-item.result in
    let f : BrickState → BrickState = brick_after_deletion c.args.shape.now.sizes c.args.span.now c.args.epoch in
    let P : BrickState → Type 0 = MayMark c.args.shape.now.sizes c.args.span.now in
    let here = each_here (λ x y. y ≡ f x) old old l.bricks l.brick-index b l.invariant in
    subst P (sym here) (All-get_or P old l.brick-index b (omega arith) c.requires.room)
