use Rattle.std.proofs.Common.{◌≡◌, [], drop}
use Rattle.round_fields.specs.Reading.{each_step}
use Rattle.round_reading.specs.Payload.{coord_step}
use Rattle.round_reading.proofs.rows.take_coords.Given as goal

abbrev pub invariant-limits : goal.invariant-limits
invariant-limits l = each_step coord_step (drop l.limit-index l.limits) l.coords.items l.rest ≡ each_step coord_step l.limits [] l.bytes
