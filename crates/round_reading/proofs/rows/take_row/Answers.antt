use Rattle.std.proofs.Common.{length, ap, arith}
use Rattle.std.proofs.lemmas.List.{length-map}
use Rattle.cube_values.specs.Batches.{Batch}
use Rattle.cube_language.specs.declared.decl.Decl.{Decl}
use Rattle.cube_language.specs.Cubes.{sizes_of, size_of}
use Rattle.round_reading.proofs.RowReads.{coords_read, coords_long, metrics_long}
use Rattle.round_reading.proofs.rows.take_row.Goals as goal

pub brick_of-requires-clause-coords : goal.brick_of-requires-clause-coords
brick_of-requires-clause-coords c =
    rw (c.shape.ensures.value, c.as_slice.ensures.value)
    (coords_read c.args.limits.now (sizes_of c.args.schema.now.dims) c.args.bytes.now c.take_coords.new.coords.items _ c.in_ok-rest.ensures c.requires.limits)

pub push-requires-clause-coords : goal.push-requires-clause-coords
push-requires-clause-coords c =
    let sizes = sizes_of c.args.schema.now.dims in
    omega (
      arith,
      ap length c.as_slice-2.ensures.value,
      coords_long sizes c.take_coords.new.coords.items (coords_read c.args.limits.now sizes c.args.bytes.now c.take_coords.new.coords.items _ c.in_ok-rest.ensures c.requires.limits),
      length-map c.args.schema.now.dims size_of,
      c.requires.dims,
      ap (λ (b : Batch). b.dims) c.in_ok-make_room.ensures.same,
    )

pub push-requires-clause-metrics : goal.push-requires-clause-metrics
push-requires-clause-metrics c =
    omega (
      arith,
      ap length c.as_slice-3.ensures.value,
      metrics_long c.as_slice-names.result.now _ c.take_metrics.new.metrics.items _ c.in_ok-rest-2.ensures,
      ap length c.as_slice-names.ensures,
      ap (λ (d : Decl). length d.metrics) c.decl.ensures.decl,
      c.requires.width,
      ap (λ (b : Batch). b.width) c.in_ok-make_room.ensures.same,
    )
