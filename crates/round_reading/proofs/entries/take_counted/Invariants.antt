use Rattle.std.proofs.Common.{◌≡◌, ◌-◌}
use Rattle.round_fields.specs.Reading.{repeat_step}
use Rattle.round_reading.specs.Payload.{brick_content, entry_step}
use Rattle.round_reading.proofs.entries.take_counted.Given as goal

abbrev pub invariant-entries : goal.invariant-entries
invariant-entries l = record {
  read : repeat_step (entry_step l.schema l.limits l.epochs.from l.epochs.epoch l.brick) (l.count - l.counter) (brick_content l.entries.items l.rows.rows) l.rest
      ≡ repeat_step (entry_step l.schema l.limits l.epochs.from l.epochs.epoch l.brick) l.count (brick_content l.fn.entries.items l.fn.rows.rows) l.bytes;
  dims : l.rows.dims ≡ l.fn.rows.dims;
  width : l.rows.width ≡ l.fn.rows.width;
}
