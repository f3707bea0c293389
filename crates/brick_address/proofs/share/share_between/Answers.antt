use Rattle.std.proofs.Common.{arith}
use Rattle.brick_address.proofs.Intervals.{some_between}
use Rattle.brick_address.proofs.share.share_between.Goals.{else-first-start-via-then-first-start+else-end-last, else-first-start-via-else-first-start}
use Rattle.brick_address.proofs.share.share_between.Goals as goal

pub returns-else-first-start : goal.returns-else-first-start
returns-else-first-start c =
    some_between c.args.first c.args.last c.args.start c.args.end (omega arith) (omega arith) (omega arith) (omega arith)
    (λ a b. elim c.else-first-start.branch [ else-first-start-via-then-first-start+else-end-last w ↦ omega arith | else-first-start-via-else-first-start w ↦ omega arith ])
