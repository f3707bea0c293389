use Rattle.std.proofs.Common.{length, ap, arith}
use Rattle.cube_values.specs.Batches.{Batch}
use Rattle.round_reading.proofs.rows.make_room.Goals as goal

pub returns-clause-room : goal.returns-clause-room
returns-clause-room c =
    omega (arith, ap (λ (b : Batch). b.room) c.in_ok-reserve.ensures.ok, ap (λ (b : Batch). length b.rows) c.in_ok-reserve.ensures.ok, c.grown_room.ensures.enough, c.len-len.ensures.rows)
