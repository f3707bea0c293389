use Rattle.std.proofs.Common.{◌-◌, ◌^◌, ℕ, min, sum_by, ap, ◌∙◌, arith}
use Rattle.std.proofs.lemmas.List.{take_all}
use Rattle.std.proofs.lemmas.List.Sums.{sum_by_more}
use Rattle.shard_cell.specs.Slots.{slot_bricks}
use Rattle.shard_cell.proofs.passes.count_bricks.Goals as goal

pub loop-cube-preserved : goal.loop-cube-preserved
loop-cube-preserved c =
    let l = c.loop-cube in
    let slot = c.cube-item.result in
    let more = sum_by_more slot_bricks c.args.cubes.now l.cube-index slot (omega arith) in
    let long = ap slot_bricks c.cube-item.is in
    omega (arith, more, long, l.invariant, c.bricks.ensures, c.saturating_add-bricks.ensures)

pub returns : goal.returns
returns c = c.loop-cube.invariant ∙ ap (λ (n : ℕ). min n (2 ^ 64 - 1)) (ap (sum_by slot_bricks) (take_all c.loop-cube.cube-index c.args.cubes.now (omega arith)))
