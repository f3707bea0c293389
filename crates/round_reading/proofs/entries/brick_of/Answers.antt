use Rattle.std.proofs.Common.{ℕ, ◌&&◌, ap, arith}
use Rattle.std.specs.Prelude.{nat_le, nat_lt}
use Rattle.cube_values.specs.Shapes.{bricks_of}
use Rattle.cube_rounds.specs.Bricks.{BrickPart}
use Rattle.round_reading.specs.Payload.{brick_content}
use Rattle.round_reading.proofs.BrickLaws.{entries_vector, bytes_left, number_below}
use Rattle.round_reading.proofs.Storable.{some_metric}
use Rattle.round_reading.proofs.entries.brick_of.Goals as goal

pub new-requires : goal.new-requires
new-requires c =
    rw c.from_vec.ensures
    (entries_vector c.args.schema.now c.args.limits.now c.args.epochs.from c.args.epochs.epoch c.in_ok-number.number (some_metric c.args.schema.now c.decl-decl.ensures.storable) (omega arith)
    c.in_ok-number.rest.now (brick_content c.take_entries.new.entries.items c.take_entries.new.rows.rows) _
    (bytes_left (λ (n : ℕ). nat_le c.args.least n && nat_lt n c.bricks_of-end.result) c.args.bytes.now c.in_ok-number.number c.in_ok-number.rest.now (λ i. omega (arith, c.type_inv.bytes i)) c.in_ok-number.ensures)
    c.in_ok-rest.ensures)

pub returns-clause-small : goal.returns-clause-small
returns-clause-small c =
    omega (
      arith,
      number_below c.args.least c.bricks_of-end.result c.args.bytes.now c.in_ok-number.number c.in_ok-number.rest.now c.in_ok-number.ensures,
      c.bricks_of-end.ensures,
      ap bricks_of c.as_slice.ensures,
      c.shape.ensures.sound.bricks,
      ap (λ (b : BrickPart). b.brick) c.new.ensures,
    )
