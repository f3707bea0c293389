use Rattle.std.proofs.Common.{Option, subst, arith}
use Rattle.brick_columns.proofs.InPlace.{each_all, each_here, each_more}
use Rattle.brick_map.specs.Births.{CubeState, content_without}
use Rattle.brick_map.specs.Waiting.{is_of_other}
use Rattle.shard_cell.specs.Slots.{IsSlotAfter}
use Rattle.shard_cell.proofs.passes.rollback_each.Goals as goal

pub loop-cube-preserved : goal.loop-cube-preserved
loop-cube-preserved c =
    let l = c.loop-cube in
    let old = c.args.cubes.now in
    let R : Option CubeState → Option CubeState → Type 0 = IsSlotAfter (content_without c.args.epoch) (is_of_other c.args.epoch) in
    let slot = c.cube-item.result in
    let new = c.rollback.new.self in
    let here = each_here R old old l.cubes l.cube-index slot l.invariant in
    each_more R old old l.cubes l.cube-index slot new (omega arith) (omega arith) (subst (λ (s : Option CubeState). R s new) here c.rollback.ensures) l.invariant

pub returns : goal.returns
returns c =
    let l = c.loop-cube in
    let old = c.args.cubes.now in
    each_all (IsSlotAfter (content_without c.args.epoch) (is_of_other c.args.epoch)) old old l.cubes l.cube-index (omega arith) (omega arith) l.invariant
