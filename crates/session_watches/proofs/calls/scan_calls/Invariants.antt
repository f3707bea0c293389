use Rattle.std.proofs.Common.{◌≡◌, replicate}
use Rattle.core_events.specs.Clients.{reader_up_to}
use Rattle.cube_core.specs.declared.shard.ShardCall.TheVariants as call
use Rattle.session_watches.proofs.calls.scan_calls.Given as goal

abbrev pub invariant-each : goal.invariant-each
invariant-each l = l.calls.items ≡ replicate l.counter (call.Scan l.shape l.query (reader_up_to l.epoch))
