use Rattle.std.proofs.Common.{All, sym, subst}
use Rattle.std.proofs.lemmas.List.Elements.{All-push}
use Rattle.cube_values.specs.Batches.{Batch}
use Rattle.brick_store.specs.Bricks.{IsRowOf}
use Rattle.measured_rows.specs.OneBrick.{one_brick}
use Rattle.measured_rows.proofs.OneBrick.{row_of_one_brick}
use Rattle.measured_rows.proofs.one_brick.push_row.Goals as goal

pub returns-clause-rows : goal.returns-clause-rows
returns-clause-rows c =
    subst (λ (batch : Batch). All (IsRowOf one_brick) batch.rows) (sym c.push.ensures)
    (All-push (IsRowOf one_brick) c.args.rows.now.rows _ c.requires.rows
    (row_of_one_brick c.below.result c.below-2.result _ c.below.ensures.below c.below-2.ensures.below))
