use Rattle.std.proofs.Common.{◌≡◌, ◌-◌, []}
use Rattle.round_fields.specs.Reading.{repeat_step}
use Rattle.round_reading.specs.Payload.{rising_bricks, brick_step}
use Rattle.round_reading.proofs.entries.counted_bricks.Given as goal

abbrev pub invariant-bricks : goal.invariant-bricks
invariant-bricks l = repeat_step (brick_step l.schema l.limits l.epochs.from l.epochs.epoch) (l.count - l.counter) (rising_bricks l.least l.bricks.items) l.rest
    ≡ repeat_step (brick_step l.schema l.limits l.epochs.from l.epochs.epoch) l.count (rising_bricks 0 []) l.bytes
