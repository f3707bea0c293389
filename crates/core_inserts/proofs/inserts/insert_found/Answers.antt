use Rattle.std.proofs.Common.{sym, subst}
use Rattle.core_changes.proofs.BegunChanges.{nothing-yet}
use Rattle.core_inserts.specs.InsertEnds.{IsInsertText, AnswersAsInsert, without_memory}
use Rattle.session_texts.specs.ToldTexts.{IsFoundCube}
use Rattle.session_texts.specs.declared.texts.FoundCube.{FoundCube}
use Rattle.core_inserts.proofs.inserts.insert_found.Goals as goal

pub insert_kept-requires-clause-found : goal.insert_kept-requires-clause-found
insert_kept-requires-clause-found g c =
    subst (λ (f : FoundCube). IsFoundCube (g.P.CellCaller.own c.args.caller.now) f) (sym c.in-Ok.ensures)
    c.requires.found

pub returns-in-Ok-clause-answered : goal.returns-in-Ok-clause-answered
returns-in-Ok-clause-answered g c =
    let old = c.args.caller.now in
    subst (λ (f : FoundCube). AnswersAsInsert (g.P.CellCaller.opening old) (g.P.CellCaller.number old)
    c.args.session.now c.args.statement.now (g.P.CellCaller.own old) (g.P.CellCaller.own c.insert_kept.new.caller)
    f.place f.schema c.insert_kept.new.session c.insert_kept.result) c.in-Ok.ensures c.insert_kept.ensures.answered

pub refuse_insert-requires-clause-why : goal.refuse_insert-requires-clause-why
refuse_insert-requires-clause-why g c = without_memory

pub returns-in-Err-clause-answered : goal.returns-in-Err-clause-answered
returns-in-Err-clause-answered g c =
    let old = c.args.caller.now in
    let own = g.P.CellCaller.own old in
    c.refuse_insert.ensures.answered own
    (nothing-yet (g.P.CellCaller.opening old) (g.P.CellCaller.number old) c.args.session.now c.args.statement.now
    (IsInsertText c.args.cube.now.place c.args.cube.now.decl c.args.statement.now) own)

pub returns-in-Err-clause-texts : goal.returns-in-Err-clause-texts
returns-in-Err-clause-texts g c =
    let old = c.args.caller.now in
    let own = g.P.CellCaller.own in
    c.told_texts_stay_told.ensures (own old) (own c.refuse_insert.new.caller) c.args.texts.now
    (c.refuse_insert.ensures.answered (own old)
    (nothing-yet (g.P.CellCaller.opening old) (g.P.CellCaller.number old) c.args.session.now c.args.statement.now
    (IsInsertText c.args.cube.now.place c.args.cube.now.decl c.args.statement.now) (own old))).more c.requires.texts
