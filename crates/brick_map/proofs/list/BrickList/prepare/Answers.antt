use Rattle.std.proofs.Common.{ap, sym, ◌∙◌, arith, set}
use Rattle.brick_store.specs.Bricks.{BrickState}
use Rattle.brick_map.specs.Lists.{brick_with_room, bricks_with}
use Rattle.brick_map.proofs.Lists.{absent, numbers_set}
use Rattle.brick_map.proofs.Placed.{found, placed_still}
use Rattle.std.specs.Vec.{with_item}
use Rattle.brick_map.proofs.list.BrickList.prepare.Goals as goal

pub index_mut-brick-requires : goal.index_mut-brick-requires
index_mut-brick-requires c =
    let at = found c.self.inside c.args.self.now c.args.number c.in-Some.place c.self.view_is (sym c.find.ensures ∙ c.in-Some.is) in
    omega (arith, at.within, c.self.inside.bricks.ok.0)

pub invariant_of-self : goal.invariant_of-self
invariant_of-self c =
    let old = c.self.inside in
    let b = c.index_mut-brick.result.now in
    let at = found old c.args.self.now c.args.number c.in-Some.place c.self.view_is (sym c.find.ensures ∙ c.in-Some.is) in
    let home = ap (λ (b : BrickState). b.home.number) (c.in_err-prepare-in-Some.ensures.err ∙ c.index_mut-brick.ensures.value) in
    placed_still old (with_item old.bricks c.in-Some.place c.prepare.new.self) c.self.invariant (numbers_set old.bricks.items c.in-Some.place c.prepare.new.self b at.within home)

pub invariant_of-self-in-Some : goal.invariant_of-self-in-Some
invariant_of-self-in-Some c =
    let old = c.self.inside in
    let b = c.index_mut-brick.result.now in
    let at = found old c.args.self.now c.args.number c.in-Some.place c.self.view_is (sym c.find.ensures ∙ c.in-Some.is) in
    let home = ap (λ (b : BrickState). b.home.number) (c.in_ok-prepare-in-Some.ensures.ok ∙ ap (brick_with_room c.args.rows c.args.entries) c.index_mut-brick.ensures.value) in
    placed_still old (with_item old.bricks c.in-Some.place c.prepare.new.self) c.self.invariant (numbers_set old.bricks.items c.in-Some.place c.prepare.new.self b at.within home)

pub returns-in-None-clause-ok : goal.returns-in-None-clause-ok
returns-in-None-clause-ok c =
    sym ((absent c.args.number c.args.self.now (sym c.find.ensures ∙ c.in-None.is)).unchanged (brick_with_room c.args.rows c.args.entries))

pub returns-in_ok-prepare-in-Some-clause-ok : goal.returns-in_ok-prepare-in-Some-clause-ok
returns-in_ok-prepare-in-Some-clause-ok c =
    let old = c.self.inside in
    let b = c.index_mut-brick.result.now in
    let f : BrickState → BrickState = brick_with_room c.args.rows c.args.entries in
    let at = found old c.args.self.now c.args.number c.in-Some.place c.self.view_is (sym c.find.ensures ∙ c.in-Some.is) in
    ap (λ (new : BrickState). set old.bricks.items c.in-Some.place new) (c.in_ok-prepare-in-Some.ensures.ok ∙ ap f c.index_mut-brick.ensures.value)
    ∙ at.change f b
    ∙ ap (bricks_with c.args.number f) c.self.view_is
