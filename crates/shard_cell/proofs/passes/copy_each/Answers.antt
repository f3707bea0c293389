use Rattle.std.proofs.Common.{List, Option, subst, arith}
use Rattle.std.specs.List.{AllZip}
use Rattle.std.proofs.lemmas.List.{take_all}
use Rattle.brick_map.specs.Births.{CubeState}
use Rattle.shard_cell.specs.Slots.{IsSlotCopy}
use Rattle.shard_cell.proofs.Slots.{copied_more}
use Rattle.shard_cell.proofs.passes.copy_each.Goals as goal

pub loop-cube-preserved : goal.loop-cube-preserved
loop-cube-preserved c =
    let l = c.loop-cube in
    copied_more c.args.from c.args.to c.args.cubes.now l.copied.items c.push.new.self.items l.cube-index c.cube-item.result c.in_ok-copy.field-0 (omega arith) c.cube-item.is c.in_ok-push.ensures.items c.in_ok-copy.ensures l.invariant

pub returns : goal.returns
returns c =
    let l = c.loop-cube in
    subst (λ (cubes : List (Option CubeState)). AllZip (IsSlotCopy c.args.from c.args.to) cubes l.copied.items) (take_all l.cube-index c.args.cubes.now (omega arith)) l.invariant
