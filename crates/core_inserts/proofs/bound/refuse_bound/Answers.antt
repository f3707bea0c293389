use Rattle.std.proofs.Common.{sym, subst}
use Rattle.core_changes.specs.ChangesUnderWay.{HasChangedNothing}
use Rattle.core_inserts.specs.InsertEnds.{AnswersAsInsert, IsInsertText, IsRefusalOn}
use Rattle.cube_language.specs.declared.decl.Decl.{Decl}
use Rattle.core_inserts.proofs.bound.refuse_bound.Goals as goal

pub refuse_insert-requires-clause-why : goal.refuse_insert-requires-clause-why
refuse_insert-requires-clause-why g c =
    let old = c.args.caller.now in
    subst (λ (d : Decl). IsRefusalOn (g.P.CellCaller.opening old) (g.P.CellCaller.number old) (g.P.CellCaller.own old)
    c.args.place d c.args.statement.now c.args.refusal) (sym c.decl-decl.ensures.decl) c.requires.why

pub returns-clause-answered : goal.returns-clause-answered
returns-clause-answered g c = λ first nothing.
    let old = c.args.caller.now in
    subst (λ (d : Decl). AnswersAsInsert (g.P.CellCaller.opening old) (g.P.CellCaller.number old) c.args.session.now
    c.args.statement.now first (g.P.CellCaller.own c.refuse_insert.new.caller) c.args.place d c.args.session.now
    c.refuse_insert.result) c.decl-decl.ensures.decl
    (c.refuse_insert.ensures.answered first
    (coe 1 0 (i. HasChangedNothing (g.P.CellCaller.opening old) (g.P.CellCaller.number old) c.args.session.now
    c.args.statement.now first (g.P.CellCaller.own old)
    (IsInsertText c.args.place (c.decl-decl.ensures.decl i) c.args.statement.now)) nothing))
