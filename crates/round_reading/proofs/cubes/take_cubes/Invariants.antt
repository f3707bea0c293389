use Rattle.std.proofs.Common.{◌≡◌, drop}
use Rattle.std.specs.List.{zip}
use Rattle.round_fields.specs.Reading.{each_step}
use Rattle.round_reading.specs.Payload.{cube_step}
use Rattle.round_reading.proofs.cubes.take_cubes.Given as goal

abbrev pub invariant-cubes : goal.invariant-cubes
invariant-cubes l = each_step (cube_step l.epochs.from l.epochs.epoch) (drop l.i (zip l.schemas l.names)) l.cubes.items l.rest
    ≡ each_step (cube_step l.epochs.from l.epochs.epoch) (zip l.schemas l.names) l.fn.cubes.items l.bytes
