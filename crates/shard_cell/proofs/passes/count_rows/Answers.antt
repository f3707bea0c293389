use Rattle.std.proofs.Common.{sum_by, ap, ◌∙◌, arith}
use Rattle.std.proofs.lemmas.List.{take_all}
use Rattle.std.proofs.lemmas.List.Sums.{sum_by_more, sum_by_more_le}
use Rattle.shard_cell.specs.Slots.{slot_rows}
use Rattle.shard_cell.proofs.passes.count_rows.Goals as goal

pub overflow_add-rows : goal.overflow_add-rows
overflow_add-rows c =
    let l = c.loop-cube in
    let slot = c.cube-item.result in
    let most = sum_by_more_le slot_rows c.args.cubes.now l.cube-index slot (omega arith) in
    let long = ap slot_rows c.cube-item.is in
    omega (arith, most, long, l.invariant, c.rows-rows.ensures, c.requires)

pub loop-cube-preserved : goal.loop-cube-preserved
loop-cube-preserved c =
    let l = c.loop-cube in
    let slot = c.cube-item.result in
    let more = sum_by_more slot_rows c.args.cubes.now l.cube-index slot (omega arith) in
    let long = ap slot_rows c.cube-item.is in
    omega (arith, more, long, l.invariant, c.rows-rows.ensures)

pub returns : goal.returns
returns c = c.loop-cube.invariant ∙ ap (sum_by slot_rows) (take_all c.loop-cube.cube-index c.args.cubes.now (omega arith))
