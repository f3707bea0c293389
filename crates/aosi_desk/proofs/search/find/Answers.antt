use Rattle.std.proofs.Common.{◌≡◌, Some, ap, sym, ◌∙◌, refl, subst, arith}
use Rattle.std.specs.Option.{IsSomeAnd}
use Rattle.std.proofs.lemmas.Option.{slice_get_read}
use Rattle.aosi_desk.proofs.Named.{cube_at}
use Rattle.aosi_desk.proofs.search.find.Goals as goal

pub bounds-cubes-place : goal.bounds-cubes-place
bounds-cubes-place c = (cube_at c.args.cubes.now c.args.name.now c.in-Some.place c.in-Some.ensures).within

pub overflow_cast-result : goal.overflow_cast-result
overflow_cast-result c =
    let at = cube_at c.args.cubes.now c.args.name.now c.in-Some.place c.in-Some.ensures in
    omega (arith, at.within, c.requires)

pub returns : goal.returns
returns c =
    let at = cube_at c.args.cubes.now c.args.name.now c.in-Some.place c.in-Some.ensures in
    let found = slice_get_read c.args.cubes.now _ c.in-Some.place c.index-cubes-place.result refl at.within
    c.index-cubes-place.is ∙ ap Some (sym c.in_ok-decl.ensures) in
    (found, subst (λ x. IsSomeAnd x (λ d. d.name ≡ c.args.name.now)) found c.in-Some.ensures)
