use Rattle.std.proofs.Common.{◌≡◌, ◌++◌, length, map, get_or, sym, ◌∙◌, ap, arith}
use Rattle.cube_rounds.specs.Demands.{no_names, names_with}
use Rattle.store_reading.proofs.EachItem.{half-length, half-here, changed_more, half-done}
use Rattle.store_reading.proofs.Growing.{fit_length, fit_at}
use Rattle.store_reading.proofs.names.names_behind.Goals as goal

pub index_mut-requires : goal.index_mut-requires
index_mut-requires c =
    let all = c.args.names ++ map no_names c.args.made.now in
    let long = half-length (λ lists part. names_with lists part.names) all c.args.parts.now c.cubes.i in
    omega (arith, ap length c.cubes.invariant, long, fit_length all c.args.parts.now c.requires, c.cubes-test.true)

pub add_lists-requires : goal.add_lists-requires
add_lists-requires c =
    let all = c.args.names ++ map no_names c.args.made.now in
    let here = c.index_mut.result.now in
    let was = c.index_mut.ensures.value ∙ ap (λ l. get_or l c.cubes.i here) c.cubes.invariant ∙ half-here (λ lists part. names_with lists part.names) all c.args.parts.now c.cubes.i here in
    ap (λ l. length l) was ∙ fit_at all c.args.parts.now c.cubes.i here c.index-parts-i.result c.requires c.cubes-test.true
    ∙ ap (λ p. length p.names) (sym c.index-parts-i.is) ∙ ap (λ l. length l) (sym c.as_slice.ensures)

pub cubes-preserved : goal.cubes-preserved
cubes-preserved c =
    let all = c.args.names ++ map no_names c.args.made.now in
    changed_more (λ lists part. names_with lists part.names) all c.cubes.all.items c.args.parts.now c.cubes.i c.index_mut.result.now c.add_lists.new.lists c.index-parts-i.result
    c.cubes.invariant c.index_mut.ensures.value c.index-parts-i.is (c.in_ok-add_lists.ensures ∙ ap (λ more. names_with c.index_mut.result.now more) c.as_slice.ensures)
    (fit_length all c.args.parts.now c.requires) c.cubes-test.true

pub returns : goal.returns
returns c =
    let all = c.args.names ++ map no_names c.args.made.now in
    let same = fit_length all c.args.parts.now c.requires in
    c.from_vec.ensures ∙ c.cubes.invariant ∙ half-done (λ lists part. names_with lists part.names) all c.args.parts.now c.cubes.i same (omega (arith, same, c.cubes-test.false))
