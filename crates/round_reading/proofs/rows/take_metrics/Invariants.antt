use Rattle.std.proofs.Common.{◌≡◌, [], drop}
use Rattle.round_fields.specs.Reading.{each_step}
use Rattle.round_reading.specs.Payload.{metric_step}
use Rattle.round_reading.proofs.rows.take_metrics.Given as goal

abbrev pub invariant-names : goal.invariant-names
invariant-names l = each_step metric_step (drop l.counter l.names) l.metrics.items l.rest ≡ each_step metric_step l.names [] l.bytes
