use Rattle.std.proofs.Common.{◌≡◌, ◌<◌, ap, ◌∙◌, length, arith}
use Rattle.std.specs.Prelude.{pos}
use Rattle.std.proofs.lemmas.List.{get_or_read}
use Rattle.cube_values.specs.declared.value.Value.TheVariants.{Int}
use Rattle.cube_language.specs.RowFaults.{dim_reason}
use Rattle.row_encoding.specs.FinalCodes.{dim_at}
use Rattle.row_encoding.proofs.CodedFronts.{all_coded, all_inside, all_numbers, grown_so_far, has_text, one_lacks, one_more_coded}
use Rattle.row_encoding.proofs.RowCoords.{fit_long, fits_at, value_at}
use Rattle.row_encoding.proofs.values.encode_values.Goals as goal

pub narrow-dim-requires : goal.narrow-dim-requires
narrow-dim-requires g c =
    let long = fit_long c.args.cube.now.dims c.args.values.now c.requires.fit in
    let below = c.values-test.true in
    omega (arith, below, long)

pub encode_value-requires-clause-dim : goal.encode_value-requires-clause-dim
encode_value-requires-clause-dim g c =
    let long = fit_long c.args.cube.now.dims c.args.values.now c.requires.fit in
    let below = c.values-test.true in
    let place = c.narrow-dim.ensures.place in
    omega (arith, below, long, place)

pub encode_value-requires-clause-fits : goal.encode_value-requires-clause-fits
encode_value-requires-clause-fits g c =
    let long = fit_long c.args.cube.now.dims c.args.values.now c.requires.fit in
    let at : c.index-values-i.result ≡ value_at c.args.values.now c.values.i = get_or_read c.args.values.now c.values.i c.index-values-i.result c.values-test.true c.index-values-i.is (Int (pos 0)) in
    let below : c.values.i < length c.args.cube.now.dims = let b = c.values-test.true in omega (arith, b, long) in
    rw c.narrow-dim.ensures.place (ap (dim_reason (dim_at c.args.cube.now.dims c.values.i)) at ∙ fits_at c.args.cube.now.dims c.args.values.now c.values.i c.requires.fit below)

pub returns-in_err-coord-clause-grow : goal.returns-in_err-coord-clause-grow
returns-in_err-coord-clause-grow g c =
    let at : c.index-values-i.result ≡ value_at c.args.values.now c.values.i = get_or_read c.args.values.now c.values.i c.index-values-i.result c.values-test.true c.index-values-i.is (Int (pos 0)) in
    grown_so_far g.E.Encoder.may_end g.E.Encoder.suits g.E.Encoder.has_name g.E.Encoder.keeps g.E.Encoder.has_given g.met.E.Encoder.carries_on c.args.place c.args.cube.now c.args.values.now c.args.encoder.now c.values.encoder c.encode_value.new.encoder
    c.values.coords.items c.values.i c.narrow-dim.result c.index-values-i.result c.values.invariant c.narrow-dim.ensures.place c.values-test.true at c.encode_value.ensures.grow

pub returns-in_err-push-in-Some-clause-grow : goal.returns-in_err-push-in-Some-clause-grow
returns-in_err-push-in-Some-clause-grow g c =
    let at : c.index-values-i.result ≡ value_at c.args.values.now c.values.i = get_or_read c.args.values.now c.values.i c.index-values-i.result c.values-test.true c.index-values-i.is (Int (pos 0)) in
    grown_so_far g.E.Encoder.may_end g.E.Encoder.suits g.E.Encoder.has_name g.E.Encoder.keeps g.E.Encoder.has_given g.met.E.Encoder.carries_on c.args.place c.args.cube.now c.args.values.now c.args.encoder.now c.values.encoder c.encode_value.new.encoder
    c.values.coords.items c.values.i c.narrow-dim.result c.index-values-i.result c.values.invariant c.narrow-dim.ensures.place c.values-test.true at c.encode_value.ensures.grow

pub returns-in-None-clause-grow : goal.returns-in-None-clause-grow
returns-in-None-clause-grow g c =
    let at : c.index-values-i.result ≡ value_at c.args.values.now c.values.i = get_or_read c.args.values.now c.values.i c.index-values-i.result c.values-test.true c.index-values-i.is (Int (pos 0)) in
    grown_so_far g.E.Encoder.may_end g.E.Encoder.suits g.E.Encoder.has_name g.E.Encoder.keeps g.E.Encoder.has_given g.met.E.Encoder.carries_on c.args.place c.args.cube.now c.args.values.now c.args.encoder.now c.values.encoder c.encode_value.new.encoder
    c.values.coords.items c.values.i c.narrow-dim.result c.index-values-i.result c.values.invariant c.narrow-dim.ensures.place c.values-test.true at c.encode_value.ensures.grow

pub returns-in-None-clause-coords : goal.returns-in-None-clause-coords
returns-in-None-clause-coords g c =
    let at : c.index-values-i.result ≡ value_at c.args.values.now c.values.i = get_or_read c.args.values.now c.values.i c.index-values-i.result c.values-test.true c.index-values-i.is (Int (pos 0)) in
    one_lacks g.E.Encoder.may_end g.E.Encoder.suits g.E.Encoder.has_name g.E.Encoder.keeps g.E.Encoder.has_given g.met.E.Encoder.carries_on c.args.place c.args.cube.now c.args.values.now c.args.encoder.now c.values.encoder c.encode_value.new.encoder
    c.values.coords.items c.values.i c.narrow-dim.result c.index-values-i.result c.values.invariant c.narrow-dim.ensures.place c.values-test.true at
    (rw c.in-None.is at c.in_ok-coord.ensures.text) c.requires.fit c.narrow-dim.ensures.some (rw c.in-None.is at c.in_ok-coord.ensures.coord) c.encode_value.ensures.grow

pub returns-in-None-clause-text : goal.returns-in-None-clause-text
returns-in-None-clause-text g c =
    let at : c.index-values-i.result ≡ value_at c.args.values.now c.values.i = get_or_read c.args.values.now c.values.i c.index-values-i.result c.values-test.true c.index-values-i.is (Int (pos 0)) in
    has_text g.E.Encoder.may_end g.E.Encoder.suits g.E.Encoder.has_name g.E.Encoder.keeps g.E.Encoder.has_given g.met.E.Encoder.carries_on c.args.place c.args.cube.now c.args.values.now
    c.values.i c.narrow-dim.result c.index-values-i.result c.narrow-dim.ensures.place c.values-test.true at (rw c.in-None.is at c.in_ok-coord.ensures.text)

pub values-preserved : goal.values-preserved
values-preserved g c =
    let at : c.index-values-i.result ≡ value_at c.args.values.now c.values.i = get_or_read c.args.values.now c.values.i c.index-values-i.result c.values-test.true c.index-values-i.is (Int (pos 0)) in
    rw c.in_ok-push-in-Some.ensures.items
    (one_more_coded g.E.Encoder.may_end g.E.Encoder.suits g.E.Encoder.has_name g.E.Encoder.keeps g.E.Encoder.has_given g.met.E.Encoder.carries_on c.args.place c.args.cube.now c.args.values.now c.args.encoder.now c.values.encoder c.encode_value.new.encoder
    c.values.coords.items c.values.i c.narrow-dim.result c.index-values-i.result c.in-Some.coord c.values.invariant c.narrow-dim.ensures.place c.values-test.true at
    (rw c.in-Some.is at c.in_ok-coord.ensures.coord) (rw c.in-Some.is at c.in_ok-coord.ensures.inside) (rw c.in-Some.is at c.in_ok-coord.ensures.given) c.encode_value.ensures.grow)

pub returns-clause-coords : goal.returns-clause-coords
returns-clause-coords g c =
    all_coded g.E.Encoder.may_end g.E.Encoder.suits g.E.Encoder.has_name g.E.Encoder.keeps g.E.Encoder.has_given g.met.E.Encoder.carries_on c.args.place c.args.cube.now c.args.values.now c.args.encoder.now c.values.encoder
    c.values.coords.items c.values.i c.values.invariant (omega (arith, c.values-test.false, c.values.auto.i-end)) c.requires.fit

pub returns-clause-inside : goal.returns-clause-inside
returns-clause-inside g c =
    all_inside g.E.Encoder.may_end g.E.Encoder.suits g.E.Encoder.has_name g.E.Encoder.keeps g.E.Encoder.has_given g.met.E.Encoder.carries_on c.args.place c.args.cube.now c.args.values.now c.args.encoder.now c.values.encoder
    c.values.coords.items c.values.i c.values.invariant (omega (arith, c.values-test.false, c.values.auto.i-end)) c.requires.fit

pub returns-clause-numbers : goal.returns-clause-numbers
returns-clause-numbers g c =
    all_numbers g.E.Encoder.may_end g.E.Encoder.suits g.E.Encoder.has_name g.E.Encoder.keeps g.E.Encoder.has_given g.met.E.Encoder.carries_on c.args.place c.args.cube.now c.args.values.now c.args.encoder.now c.values.encoder
    c.values.coords.items c.values.i c.values.invariant
