use Rattle.std.proofs.Common.{◌≡◌, ◌<◌, List, length, get_or, sym, ap, subst, ◌∙◌, arith}
use Rattle.std.proofs.lemmas.List.{take_all}
use Rattle.std.proofs.lemmas.Slice.Zip.{AllZip-long}
use Rattle.cube_rounds.specs.Demands.{DimNames}
use Rattle.kept_data.specs.KeptDicts.{dictionaries_with_names}
use Rattle.kept_data.specs.KeptNames.{HasKeptNames}
use Rattle.kept_data.proofs.NamedCubes.{cubes_long, is_next_cube, one_cube_more}
use Rattle.kept_data.proofs.dicts.kept_dictionaries.Goals as goal

pub overflow_cast-place : goal.overflow_cast-place
overflow_cast-place c =
    let same = AllZip-long HasKeptNames c.args.cubes.now c.args.names.now c.requires.names in
    let items = ap (λ (names : List DimNames). length names) c.as_slice-lists-items.ensures in
    omega (arith, c.requires.few)

pub offset_bounds-cubes-place : goal.offset_bounds-cubes-place
offset_bounds-cubes-place c =
    let same = AllZip-long HasKeptNames c.args.cubes.now c.args.names.now c.requires.names in
    let items = ap (λ (names : List DimNames). length names) c.as_slice-lists-items.ensures in
    omega (arith, c.requires.few)

pub bounds-cubes-place : goal.bounds-cubes-place
bounds-cubes-place c =
    let same = AllZip-long HasKeptNames c.args.cubes.now c.args.names.now c.requires.names in
    let items = ap (λ (names : List DimNames). length names) c.as_slice-lists-items.ensures in
    omega arith

pub add_cube-requires : goal.add_cube-requires
add_cube-requires c =
    let items = c.as_slice-lists-items.ensures in
    let lt : c.cubes.place < length c.args.names.now = subst (λ (names : List DimNames). c.cubes.place < length names) items c.cubes-test.true in
    let lists-is : c.as_slice.result.now ≡ get_or c.args.names.now c.cubes.place c.as_slice.result.now =
    c.as_slice.ensures ∙ c.lists-item.is ∙ (λ i. get_or (items i) c.cubes.place (sym c.as_slice.ensures i)) in
    let next = is_next_cube c.args.cubes.now c.args.names.now c.cubes.dicts c.cubes.place c.index-cubes-place.result c.as_slice.result.now c.requires.names lt c.cubes.invariant
    c.index-cubes-place.is lists-is in
    record { place = next.place; names = next.fit }

pub cubes-preserved : goal.cubes-preserved
cubes-preserved c =
    let items = c.as_slice-lists-items.ensures in
    let lt : c.cubes.place < length c.args.names.now = subst (λ (names : List DimNames). c.cubes.place < length names) items c.cubes-test.true in
    let lists-is : c.as_slice.result.now ≡ get_or c.args.names.now c.cubes.place c.as_slice.result.now =
    c.as_slice.ensures ∙ c.lists-item.is ∙ (λ i. get_or (items i) c.cubes.place (sym c.as_slice.ensures i)) in
    one_cube_more c.args.cubes.now c.args.names.now c.cubes.dicts c.add_cube.new.dicts c.cubes.place c.index-cubes-place.result c.as_slice.result.now c.requires.names lt
    c.cubes.invariant c.index-cubes-place.is lists-is c.in_ok-add_cube.ensures

pub returns : goal.returns
returns c =
    let items = ap (λ (names : List DimNames). length names) c.as_slice-lists-items.ensures in
    c.cubes.invariant
    ∙ take_all c.cubes.place (dictionaries_with_names c.args.cubes.now c.args.names.now) (omega (arith, cubes_long c.args.cubes.now c.args.names.now c.requires.names, items, c.cubes-test.false))
