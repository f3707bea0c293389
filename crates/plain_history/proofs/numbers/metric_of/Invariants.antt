use Rattle.std.proofs.Common.{◌≡◌, take, map}
use Rattle.cube_values.specs.Answer.{metric_of}
use Rattle.plain_history.proofs.numbers.metric_of.Given as goal

abbrev pub invariant-loop-row : goal.invariant-loop-row
invariant-loop-row l = l.numbers.items ≡ metric_of l.metric (map (λ r. r.now) (take l.row-index l.rows))
