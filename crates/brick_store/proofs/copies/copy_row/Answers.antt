use Rattle.std.proofs.Common.{◌++◌, ◌∷◌, [], ◌∙◌}
use Rattle.brick_store.proofs.copies.copy_row.Goals as goal

pub returns-clause-batch : goal.returns-clause-batch
returns-clause-batch c =
    let old = c.args.batch.now in
    c.push.ensures ∙ (λ t. record old { rows = old.rows ++ record { coords = c.read_row.ensures.coords t; metrics = c.read_row.ensures.metrics t } ∷ [] })
