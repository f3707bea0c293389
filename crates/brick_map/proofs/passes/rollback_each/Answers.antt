use Rattle.std.proofs.Common.{◌≡◌, ap, ◌∙◌, arith}
use Rattle.brick_columns.proofs.InPlace.{each_here, each_more, each_all}
use Rattle.brick_store.specs.Bricks.{BrickState}
use Rattle.brick_map.specs.Lists.{brick_without}
use Rattle.brick_map.proofs.EachBrick.{zip_mapped}
use Rattle.brick_map.proofs.passes.rollback_each.Goals as goal

pub loop-brick-preserved : goal.loop-brick-preserved
loop-brick-preserved c =
    let l = c.loop-brick in
    let old = c.args.bricks.now in
    let f : BrickState → BrickState = brick_without c.args.epoch in
    let R : BrickState → BrickState → Type 0 = λ x y. y ≡ f x in
    let b = c.brick-item.result in
    let here = each_here R old old l.bricks l.brick-index b l.invariant in
    each_more R old old l.bricks l.brick-index b c.rollback.new.self (omega arith) (omega arith) (c.rollback.ensures ∙ ap f here) l.invariant

pub returns : goal.returns
returns c =
    let l = c.loop-brick in
    let old = c.args.bricks.now in
    let f : BrickState → BrickState = brick_without c.args.epoch in
    zip_mapped f old l.bricks (each_all (λ x y. y ≡ f x) old old l.bricks l.brick-index (omega arith) (omega arith) l.invariant)
