use Rattle.std.proofs.Common.{sym, subst}
use Rattle.core_selects.specs.SelectEnds.{EndsSelect}
use Rattle.core_selects.proofs.PerformedSelects.{misfit-in}
use Rattle.cube_language.specs.declared.decl.Decl.{Decl}
use Rattle.known_cubes.specs.KnownCubes.{IsToldOfCube}
use Rattle.session_desk.specs.Executed.{IfReplied}
use Rattle.core_selects.proofs.selecting.select_from.Goals as goal

pub answer_select-requires-clause-told : goal.answer_select-requires-clause-told
answer_select-requires-clause-told g c = (
  c.requires.told.0,
  subst (λ (d : Decl). IsToldOfCube (g.P.CellCaller.own c.args.caller.now) c.requires.told.0 c.args.found.now.place d)
      (sym c.in-Ok.ensures.cube) c.requires.told.1,
)

pub refuse_unfit-requires-clause-misfit : goal.refuse_unfit-requires-clause-misfit
refuse_unfit-requires-clause-misfit g c =
    misfit-in Decl c.args.found.now.decl c.args.statement.now c.in-Err.error c.in-Err.ensures.misfit

pub returns-in-Ok-clause-ends : goal.returns-in-Ok-clause-ends
returns-in-Ok-clause-ends g c =
    let own = g.P.CellCaller.own in
    let before = c.args.caller.now in
    subst (λ (d : Decl). IfReplied c.answer_select.result (EndsSelect (g.P.CellCaller.opening before)
    (g.P.CellCaller.number before) c.args.session.now c.args.statement.now c.args.found.now.place d (own before)
    (own c.answer_select.new.caller))) c.in-Ok.ensures.cube c.answer_select.ensures.ends
