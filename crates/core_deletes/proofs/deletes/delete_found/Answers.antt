use Rattle.std.proofs.Common.{inl, refl, sym, subst}
use Rattle.cube_language.specs.declared.decl.Decl.{Decl}
use Rattle.core_changes.proofs.BegunChanges.{nothing-yet}
use Rattle.core_deletes.specs.DeleteEnds.{AnswersAsDelete}
use Rattle.dropped_regions.specs.DeleteBoxes.{IsDeleteText, IsToldOfPlace}
use Rattle.core_deletes.proofs.deletes.delete_found.Goals as goal

pub delete_bound-requires-clause-told : goal.delete_bound-requires-clause-told
delete_bound-requires-clause-told g c =
    subst (λ (d : Decl). IsToldOfPlace (g.P.CellCaller.own c.args.caller.now) c.args.cube.now.place d)
    (sym c.in-Ok.ensures) c.requires.told

pub returns-in-Ok-clause-answered : goal.returns-in-Ok-clause-answered
returns-in-Ok-clause-answered g c =
    let old = c.args.caller.now in
    subst (λ (d : Decl). AnswersAsDelete (g.P.CellCaller.opening old) (g.P.CellCaller.number old) c.args.session.now
    c.args.statement.now (g.P.CellCaller.own old) (g.P.CellCaller.own c.delete_bound.new.caller) c.args.cube.now.place d
    c.delete_bound.new.session c.delete_bound.result) c.in-Ok.ensures c.delete_bound.ensures.answered

pub refuse_delete-requires-clause-why : goal.refuse_delete-requires-clause-why
refuse_delete-requires-clause-why g c = inl refl

pub returns-in-Err-clause-answered : goal.returns-in-Err-clause-answered
returns-in-Err-clause-answered g c =
    let old = c.args.caller.now in
    let own = g.P.CellCaller.own old in
    c.refuse_delete.ensures.answered own
    (nothing-yet (g.P.CellCaller.opening old) (g.P.CellCaller.number old) c.args.session.now c.args.statement.now
    (IsDeleteText c.args.cube.now.place c.args.cube.now.decl c.args.statement.now) own)
