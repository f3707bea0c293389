use Rattle.std.proofs.Common.{◌≡◌, ◌<◌, ◌++◌, [], ◌∷◌, false, length, take, sym, ap, ◌∙◌, subst, arith}
use Rattle.cube_journal.specs.Legal.{has_cube}
use Rattle.aosi_desk.specs.Desks.{decl_names, AreCubes}
use Rattle.aosi_desk.proofs.Kept.{exists_fits, keeps-made, keeps-more, cube_allowed, names_more, are_cubes-more, within-more}
use Rattle.aosi_desk.proofs.Named.{has_found, answer_exists}
use Rattle.aosi_desk.proofs.desk.Desk.create_cube.Goals as goal

pub refuse-requires-clause-fits : goal.refuse-requires-clause-fits
refuse-requires-clause-fits c =
    let has = has_found _ c.self.inside.cubes.items _ c.args.decl.name c.place_of.result c.is_some.result
    c.as_slice.ensures.value c.as_bytes.ensures c.place_of.ensures c.is_some.ensures ∙ c.if-is_some.true in
    rw (← c.self.view_is) (c.args.decl.name, exists_fits c.self.inside.cubes.items c.args.decl.name has)

pub returns-then-is_some-clause-answer : goal.returns-then-is_some-clause-answer
returns-then-is_some-clause-answer c =
    let has = has_found _ c.self.inside.cubes.items _ c.args.decl.name c.place_of.result c.is_some.result
    c.as_slice.ensures.value c.as_bytes.ensures c.place_of.ensures c.is_some.ensures ∙ c.if-is_some.true in
    rw (← c.self.view_is) (answer_exists
    (record {
      register = c.self.inside.register.value;
      cubes = c.self.inside.cubes.items;
      opening = take c.self.inside.opened c.self.inside.cubes.items;
    })
    c.args.decl.name has)

pub invariant_of-self-2 : goal.invariant_of-self-2
invariant_of-self-2 c =
    let cubes = c.self.inside.cubes.items in
    let new_name : has_cube (decl_names cubes) c.args.decl.name ≡ false =
    has_found _ cubes _ c.args.decl.name c.place_of.result c.is_some.result
    c.as_slice.ensures.value c.as_bytes.ensures c.place_of.ensures c.is_some.ensures ∙ c.if-is_some.false in
    let place : length cubes < 16 =
    omega (arith, c.self.invariant.1.few, c.if-len-eq-MOST_CUBES.false, c.len.ensures) in
    let pushed : c.push_reserved.new.self.items ≡ cubes ++ c.args.decl ∷ [] =
    c.push_reserved.ensures.items ∙ ap (λ x. x ++ c.args.decl ∷ []) c.reserve.ensures.items in (
      keeps-made c.self.inside.opened _ cubes c.push_reserved.new.self.items c.args.decl pushed c.self.invariant.2
          (keeps-more _ _ _ _ cubes c.push_reserved.new.self.items c.args.decl.name _ c.deref_mut.ensures.value
          c.in_ok-epoch.ensures.journal
          (cube_allowed cubes c.args.decl c.args.session c.args.statement c.in_ok-epoch.epoch place new_name)
          (names_more cubes c.push_reserved.new.self.items c.args.decl pushed) c.self.invariant.0),
      subst AreCubes (sym pushed)
          (are_cubes-more cubes c.args.decl c.self.invariant.1 place new_name c.requires.storable),
      within-more c.self.inside.opened cubes c.push_reserved.new.self.items c.args.decl pushed c.self.invariant.2,
    )
