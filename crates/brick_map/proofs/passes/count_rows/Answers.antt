use Rattle.std.proofs.Common.{◌+◌, length, ap, ◌∙◌, arith}
use Rattle.std.proofs.lemmas.List.{take_all}
use Rattle.brick_store.specs.Bricks.{BrickState}
use Rattle.brick_map.specs.Births.{rows_count}
use Rattle.brick_map.proofs.Scans.{count_front, count_more}
use Rattle.brick_map.proofs.passes.count_rows.Goals as goal

pub overflow_add-rows : goal.overflow_add-rows
overflow_add-rows c =
    let l = c.loop-brick in
    let b = c.brick-item.result in
    let more = count_more c.args.bricks.now l.brick-index b (omega arith) in
    let most = count_front (l.brick-index + 1) c.args.bricks.now in
    let long = ap (λ (b : BrickState). length b.rows) c.brick-item.is in
    omega (arith, more, most, long, l.invariant, c.len-rows.ensures.rows, c.requires)

pub loop-brick-preserved : goal.loop-brick-preserved
loop-brick-preserved c =
    let l = c.loop-brick in
    let b = c.brick-item.result in
    let more = count_more c.args.bricks.now l.brick-index b (omega arith) in
    let long = ap (λ (b : BrickState). length b.rows) c.brick-item.is in
    omega (arith, more, long, l.invariant, c.len-rows.ensures.rows)

pub returns : goal.returns
returns c = c.loop-brick.invariant ∙ ap rows_count (take_all c.loop-brick.brick-index c.args.bricks.now (omega arith))
