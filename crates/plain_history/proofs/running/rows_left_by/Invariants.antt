use Rattle.std.proofs.Common.{◌≡◌, take, map, filter}
use Rattle.cube_values.specs.Sees.{sees}
use Rattle.cube_values.specs.Running.{rows_left_by}
use Rattle.plain_history.proofs.running.rows_left_by.Given as goal

abbrev pub invariant-loop-transaction : goal.invariant-loop-transaction
invariant-loop-transaction l =
    map (λ r. r.now) l.rows.items ≡ rows_left_by (filter (λ t. sees l.snapshot t.epoch) (take l.transaction-index l.transactions))
