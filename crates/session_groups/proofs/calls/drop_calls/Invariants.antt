use Rattle.std.proofs.Common.{◌≡◌, replicate}
use Rattle.cube_core.specs.declared.shard.ShardCall.TheVariants as call
use Rattle.session_groups.proofs.calls.drop_calls.Given as goal

abbrev pub invariant-each : goal.invariant-each
invariant-each l = l.calls.items ≡ replicate l.counter (call.DropBox l.cube l.shape l.epoch l.span)
