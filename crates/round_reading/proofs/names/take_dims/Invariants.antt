use Rattle.std.proofs.Common.{◌≡◌, [], drop}
use Rattle.std.specs.List.{zip}
use Rattle.round_fields.specs.Reading.{each_step}
use Rattle.round_reading.specs.Payload.{dim_step}
use Rattle.round_reading.proofs.names.take_dims.Given as goal

abbrev pub invariant-dims : goal.invariant-dims
invariant-dims l = each_step dim_step (drop l.i (zip l.dims l.earlier)) l.lists.items l.rest ≡ each_step dim_step (zip l.dims l.earlier) [] l.bytes
