use Rattle.std.proofs.Common.{◌<◌, length, arith}
use Rattle.csv_load.specs.FileRecords.{dim_values}
use Rattle.row_encoding.specs.CodedRecords.{value_read}
use Rattle.row_encoding.proofs.CodedFronts.{all_coded, all_inside, all_numbers, grown_so_far, one_lacks, one_more_coded}
use Rattle.row_encoding.proofs.RecordFields.{read_at, read_below, read_fit, read_long}
use Rattle.row_encoding.proofs.records.encode_fields.Goals as goal

pub returns-in_err-coord-clause-grow : goal.returns-in_err-coord-clause-grow
returns-in_err-coord-clause-grow g c =
    let d = c.args.cube.now in
    let load = c.args.load.now in
    let row = dim_values d.dims load.fields in
    let v = value_read d load c.narrow-dim.result in
    let below : c.dims.i < length d.dims = grind (arith, c.dims-test.true, c.len-count.ensures, c.decl.ensures.decl) in
    let there = read_below d load c.requires.row c.dims.i below in
    let at = read_at d load c.requires.row c.narrow-dim.result c.dims.i c.narrow-dim.ensures.place below in
    grown_so_far g.E.Encoder.may_end g.E.Encoder.suits g.E.Encoder.has_name g.E.Encoder.keeps g.E.Encoder.has_given g.met.E.Encoder.carries_on c.args.place d row c.args.encoder.now c.dims.encoder c.encode_field.new.encoder
    c.dims.coords.items c.dims.i c.narrow-dim.result v c.dims.invariant c.narrow-dim.ensures.place there at c.encode_field.ensures.grow

pub returns-in_err-push-in-Some-clause-grow : goal.returns-in_err-push-in-Some-clause-grow
returns-in_err-push-in-Some-clause-grow g c =
    let d = c.args.cube.now in
    let load = c.args.load.now in
    let row = dim_values d.dims load.fields in
    let v = value_read d load c.narrow-dim.result in
    let below : c.dims.i < length d.dims = grind (arith, c.dims-test.true, c.len-count.ensures, c.decl.ensures.decl) in
    let there = read_below d load c.requires.row c.dims.i below in
    let at = read_at d load c.requires.row c.narrow-dim.result c.dims.i c.narrow-dim.ensures.place below in
    grown_so_far g.E.Encoder.may_end g.E.Encoder.suits g.E.Encoder.has_name g.E.Encoder.keeps g.E.Encoder.has_given g.met.E.Encoder.carries_on c.args.place d row c.args.encoder.now c.dims.encoder c.encode_field.new.encoder
    c.dims.coords.items c.dims.i c.narrow-dim.result v c.dims.invariant c.narrow-dim.ensures.place there at c.encode_field.ensures.grow

pub returns-in-None-clause-grow : goal.returns-in-None-clause-grow
returns-in-None-clause-grow g c =
    let d = c.args.cube.now in
    let load = c.args.load.now in
    let row = dim_values d.dims load.fields in
    let v = value_read d load c.narrow-dim.result in
    let below : c.dims.i < length d.dims = grind (arith, c.dims-test.true, c.len-count.ensures, c.decl.ensures.decl) in
    let there = read_below d load c.requires.row c.dims.i below in
    let at = read_at d load c.requires.row c.narrow-dim.result c.dims.i c.narrow-dim.ensures.place below in
    grown_so_far g.E.Encoder.may_end g.E.Encoder.suits g.E.Encoder.has_name g.E.Encoder.keeps g.E.Encoder.has_given g.met.E.Encoder.carries_on c.args.place d row c.args.encoder.now c.dims.encoder c.encode_field.new.encoder
    c.dims.coords.items c.dims.i c.narrow-dim.result v c.dims.invariant c.narrow-dim.ensures.place there at c.encode_field.ensures.grow

pub returns-in-None-clause-coords : goal.returns-in-None-clause-coords
returns-in-None-clause-coords g c =
    let d = c.args.cube.now in
    let load = c.args.load.now in
    let row = dim_values d.dims load.fields in
    let v = value_read d load c.narrow-dim.result in
    let below : c.dims.i < length d.dims = grind (arith, c.dims-test.true, c.len-count.ensures, c.decl.ensures.decl) in
    let there = read_below d load c.requires.row c.dims.i below in
    let at = read_at d load c.requires.row c.narrow-dim.result c.dims.i c.narrow-dim.ensures.place below in
    one_lacks g.E.Encoder.may_end g.E.Encoder.suits g.E.Encoder.has_name g.E.Encoder.keeps g.E.Encoder.has_given g.met.E.Encoder.carries_on c.args.place d row c.args.encoder.now c.dims.encoder c.encode_field.new.encoder
    c.dims.coords.items c.dims.i c.narrow-dim.result v c.dims.invariant c.narrow-dim.ensures.place there at
    (rw c.in-None.is at c.in_ok-coord.ensures.text) (read_fit d load c.requires.row) c.narrow-dim.ensures.some
    (rw c.in-None.is at c.in_ok-coord.ensures.coord) c.encode_field.ensures.grow

pub dims-preserved : goal.dims-preserved
dims-preserved g c =
    let d = c.args.cube.now in
    let load = c.args.load.now in
    let row = dim_values d.dims load.fields in
    let v = value_read d load c.narrow-dim.result in
    let below : c.dims.i < length d.dims = grind (arith, c.dims-test.true, c.len-count.ensures, c.decl.ensures.decl) in
    let there = read_below d load c.requires.row c.dims.i below in
    let at = read_at d load c.requires.row c.narrow-dim.result c.dims.i c.narrow-dim.ensures.place below in
    rw c.in_ok-push-in-Some.ensures.items
    (one_more_coded g.E.Encoder.may_end g.E.Encoder.suits g.E.Encoder.has_name g.E.Encoder.keeps g.E.Encoder.has_given g.met.E.Encoder.carries_on c.args.place d row c.args.encoder.now c.dims.encoder c.encode_field.new.encoder
    c.dims.coords.items c.dims.i c.narrow-dim.result v c.in-Some.coord c.dims.invariant c.narrow-dim.ensures.place there at
    (rw c.in-Some.is at c.in_ok-coord.ensures.coord) (rw c.in-Some.is at c.in_ok-coord.ensures.inside) (rw c.in-Some.is at c.in_ok-coord.ensures.given) c.encode_field.ensures.grow)

pub returns-clause-coords : goal.returns-clause-coords
returns-clause-coords g c =
    let d = c.args.cube.now in
    let load = c.args.load.now in
    let row = dim_values d.dims load.fields in
    let long = read_long d load c.requires.row in
    all_coded g.E.Encoder.may_end g.E.Encoder.suits g.E.Encoder.has_name g.E.Encoder.keeps g.E.Encoder.has_given g.met.E.Encoder.carries_on c.args.place d row c.args.encoder.now c.dims.encoder c.dims.coords.items c.dims.i c.dims.invariant
    (grind (arith, c.dims-test.false, c.dims.auto.i-end, c.len-count.ensures, c.decl.ensures.decl, long)) (read_fit d load c.requires.row)

pub returns-clause-inside : goal.returns-clause-inside
returns-clause-inside g c =
    let d = c.args.cube.now in
    let load = c.args.load.now in
    let row = dim_values d.dims load.fields in
    let long = read_long d load c.requires.row in
    all_inside g.E.Encoder.may_end g.E.Encoder.suits g.E.Encoder.has_name g.E.Encoder.keeps g.E.Encoder.has_given g.met.E.Encoder.carries_on c.args.place d row c.args.encoder.now c.dims.encoder c.dims.coords.items c.dims.i c.dims.invariant
    (grind (arith, c.dims-test.false, c.dims.auto.i-end, c.len-count.ensures, c.decl.ensures.decl, long)) (read_fit d load c.requires.row)

pub returns-clause-numbers : goal.returns-clause-numbers
returns-clause-numbers g c =
    let row = dim_values c.args.cube.now.dims c.args.load.now.fields in
    all_numbers g.E.Encoder.may_end g.E.Encoder.suits g.E.Encoder.has_name g.E.Encoder.keeps g.E.Encoder.has_given g.met.E.Encoder.carries_on c.args.place c.args.cube.now row c.args.encoder.now c.dims.encoder c.dims.coords.items c.dims.i c.dims.invariant
