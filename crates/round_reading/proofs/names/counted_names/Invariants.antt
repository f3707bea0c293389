use Rattle.std.proofs.Common.{◌≡◌, ◌-◌, [], ◌++◌}
use Rattle.round_fields.specs.Reading.{repeat_step}
use Rattle.round_reading.specs.Payload.{name_step}
use Rattle.round_reading.specs.KnownNames.{HasJust}
use Rattle.round_reading.proofs.names.counted_names.Given as goal

abbrev pub invariant-names : goal.invariant-names
invariant-names l = record {
  read : repeat_step (name_step l.earlier) (l.count - l.counter) l.names.items l.rest ≡ repeat_step (name_step l.earlier) l.count [] l.bytes;
  known : HasJust l.known (l.earlier ++ l.names.items);
}
