use Rattle.std.proofs.Common.{get_or, ◌++◌, sym, subst, length-append, arith}
use Rattle.std.proofs.lemmas.Option.{get_or_from_slice_get}
use Rattle.cube_rounds.specs.Bytes.{cube_bytes}
use Rattle.round_text.specs.Writing.{HasNames}
use Rattle.round_text.proofs.Zips.{pair_put, pairs_put, zip_length, zip_at}
use Rattle.round_text.proofs.round_writing.put_cubes.Goals as goal

pub cube_at-requires : goal.cube_at-requires
cube_at-requires c =
    omega (arith, zip_length HasNames (c.args.before.now ++ c.args.made.now) c.args.parts.now c.requires, length-append c.args.before.now c.args.made.now)

pub put_cube-requires : goal.put_cube-requires
put_cube-requires c =
    let cubes = c.args.before.now ++ c.args.made.now in
    let cube = c.cube_at.result.now in
    let part = c.index-parts-i.result in
    let there = zip_at HasNames cubes c.args.parts.now c.cubes.i cube part c.requires c.cubes-test.true in
    subst (λ x. HasNames x part) (get_or_from_slice_get cubes c.cubes.i cube cube c.cube_at.ensures)
    (subst (λ y. HasNames (get_or cubes c.cubes.i cube) y) (sym c.index-parts-i.is) there)

pub cubes-preserved : goal.cubes-preserved
cubes-preserved c =
    let cubes = c.args.before.now ++ c.args.made.now in
    let cube = c.cube_at.result.now in
    pair_put (λ p. cube_bytes p.0 p.1) cubes c.args.parts.now c.cubes.i cube c.index-parts-i.result c.args.out.now.items c.cubes.out.items c.put_cube.new.out.items
    (omega (arith, zip_length HasNames cubes c.args.parts.now c.requires)) (sym (zip_length HasNames cubes c.args.parts.now c.requires))
    (sym (get_or_from_slice_get cubes c.cubes.i cube cube c.cube_at.ensures)) c.index-parts-i.is c.cubes.invariant c.in_ok-put_cube.ensures

pub returns : goal.returns
returns c =
    let cubes = c.args.before.now ++ c.args.made.now in
    pairs_put (λ p. cube_bytes p.0 p.1) cubes c.args.parts.now c.cubes.i c.args.out.now.items c.cubes.out.items
    (omega (arith, zip_length HasNames cubes c.args.parts.now c.requires, c.cubes-test.false)) (sym (zip_length HasNames cubes c.args.parts.now c.requires)) c.cubes.invariant
