use Rattle.kept_batches.proofs.Putting.{own_put}
use Rattle.kept_batches.proofs.parts.put_own.Goals as goal

pub returns-in_ok-put_part-clause-rows : goal.returns-in_ok-put_part-clause-rows
returns-in_ok-put_part-clause-rows c =
    own_put c.args.snapshot.now c.args.bricks.now c.args.limits.now c.args.part.now c.args.batch.now.rows
    c.put_part.new.batch.rows c.brick.result c.brick-then-has.result c.limit_in-limit.result c.has.result
    c.brick.ensures c.has.ensures c.if-has.true c.brick-then-has.ensures c.limit_in-limit.ensures
    c.in_ok-put_part.ensures.rows
