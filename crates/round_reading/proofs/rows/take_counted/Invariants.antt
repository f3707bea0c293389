use Rattle.std.proofs.Common.{◌≡◌, ◌-◌}
use Rattle.round_fields.specs.Reading.{repeat_step}
use Rattle.round_reading.specs.Payload.{row_step}
use Rattle.round_reading.proofs.rows.take_counted.Given as goal

abbrev pub invariant-rows : goal.invariant-rows
invariant-rows l = record {
  read : repeat_step (row_step l.schema l.limits l.brick) (l.count - l.counter) l.rows.rows l.rest ≡ repeat_step (row_step l.schema l.limits l.brick) l.count l.fn.rows.rows l.bytes;
  dims : l.rows.dims ≡ l.fn.rows.dims;
  width : l.rows.width ≡ l.fn.rows.width;
}
