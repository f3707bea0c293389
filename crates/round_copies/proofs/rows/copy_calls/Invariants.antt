use Rattle.std.proofs.Common.{◌≡◌, replicate}
use Rattle.cube_core.specs.declared.shard.ShardCall.TheVariants as call
use Rattle.round_copies.specs.RoundCopies.{first_epoch}
use Rattle.round_copies.proofs.rows.copy_calls.Given as goal

abbrev pub invariant-each : goal.invariant-each
invariant-each l = l.calls.items ≡ replicate l.counter (call.CopyRound (first_epoch l.fn.span) l.fn.span.epoch)
