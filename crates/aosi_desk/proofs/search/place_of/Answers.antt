use Rattle.std.proofs.Common.{◌≡◌, sym, ap, ◌∙◌, subst, refl, arith}
use Rattle.std.specs.Option.{IsSomeAnd}
use Rattle.std.proofs.lemmas.List.{take_all}
use Rattle.std.proofs.lemmas.Option.{slice_get_read}
use Rattle.std.proofs.lemmas.Slice.Eq.{bytes_eq-Decides}
use Rattle.aosi_desk.proofs.Named.{has_named, has_named-is}
use Rattle.aosi_desk.proofs.search.place_of.Goals as goal

pub returns-then-eq : goal.returns-then-eq
returns-then-eq c =
    let found = slice_get_read c.args.cubes.now _ c.loop-place.place c.index-cubes-place.result refl
    (omega (arith, c.loop-place-test.true)) c.index-cubes-place.is in
    subst (λ x. IsSomeAnd x (λ d. d.name ≡ c.args.name.now)) (sym found)
    (sym c.as_bytes.ensures
    ∙ (bytes_eq-Decides c.as_bytes.result.now c.args.name.now).0 (sym c.eq.ensures ∙ c.if-eq.true))

pub returns : goal.returns
returns c =
    has_named-is c.args.cubes.now c.args.name.now
    ∙ ap (λ cubes. has_named cubes c.args.name.now)
    (sym (take_all c.loop-place.place c.args.cubes.now (omega (arith, c.loop-place-test.false))))
    ∙ c.loop-place.invariant
