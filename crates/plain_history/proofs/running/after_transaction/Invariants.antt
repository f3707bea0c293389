use Rattle.std.proofs.Common.{◌≡◌, take, map, fold}
use Rattle.cube_values.specs.Running.{after_operation}
use Rattle.plain_history.proofs.running.after_transaction.Given as goal

abbrev pub invariant-loop-operation : goal.invariant-loop-operation
invariant-loop-operation l =
    map (λ r. r.now) l.after.items ≡ fold after_operation (map (λ r. r.now) l.initial.after.items) (take l.operation-index l.operations)
