use Rattle.std.proofs.Common.{sym, ◌∙◌}
use Rattle.row_encoding.proofs.RowCoords.{coords_long}
use Rattle.row_encoding.proofs.records.encode_record.Goals as goal

pub push-requires-clause-coords : goal.push-requires-clause-coords
push-requires-clause-coords g c =
    rw c.as_slice.ensures.value (coords_long c.args.cube.now.dims c.encode_fields.new.coords.items (rw c.in-None.is at c.in_ok-encode_fields.ensures.inside) ∙ sym c.requires.dims)
