use Rattle.std.proofs.Common.{◌+◌, ◌*◌, All, sym, subst, arith}
use Rattle.std.proofs.lemmas.List.Elements.{All-push}
use Rattle.cube_values.specs.Batches.{Batch}
use Rattle.brick_map.specs.Batches.{IsRowOfCube}
use Rattle.measured_shards.specs.ManyBricks.{many_bricks}
use Rattle.measured_shards.proofs.ManyRows.{row_of_many}
use Rattle.measured_shards.proofs.batches.push_row.Goals as goal

pub returns-clause-rows : goal.returns-clause-rows
returns-clause-rows c =
    subst (λ (batch : Batch). All (IsRowOfCube (many_bricks c.args.bricks)) batch.rows) (sym c.push.ensures)
    (All-push (IsRowOfCube (many_bricks c.args.bricks)) c.args.batch.now.rows _ c.requires.rows
    (row_of_many c.args.bricks c.below-first.result (c.args.brick * 1_000 + c.below.result) _ c.below-first.ensures.below
    (omega (arith, c.below.ensures.below, c.requires.brick))))
