use Rattle.std.proofs.Common.{◌≡◌, replicate}
use Rattle.cube_core.specs.declared.shard.ShardCall.TheVariants as call
use Rattle.session_watches.proofs.calls.delta_calls.Given as goal

abbrev pub invariant-each : goal.invariant-each
invariant-each l = l.calls.items ≡ replicate l.counter (call.Delta l.shape l.query l.from l.to)
