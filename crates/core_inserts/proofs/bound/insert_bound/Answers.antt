use Rattle.std.proofs.Common.{sym, subst}
use Rattle.core_changes.proofs.BegunChanges.{nothing-yet}
use Rattle.core_inserts.proofs.BegunInserts.{refused-unfit}
use Rattle.core_inserts.specs.InsertEnds.{IsInsertText, IsRefusalOn}
use Rattle.cube_journal.specs.declared.refusal.Refusal.{Refusal}
use Rattle.core_inserts.proofs.bound.insert_bound.Goals as goal

pub refuse_bound-requires-clause-why : goal.refuse_bound-requires-clause-why
refuse_bound-requires-clause-why g c =
    let old = c.args.caller.now in
    let cells = g.P.CellCaller.opening old in
    let caller = g.P.CellCaller.number old in
    let own = g.P.CellCaller.own old in
    let d = c.args.cube.now in
    let s = c.args.statement.now in
    subst (λ (r : Refusal). IsRefusalOn cells caller own c.args.place d s r) (sym c.misfit_refusal-refusal.ensures)
    (refused-unfit (Unit {0}) cells caller own c.args.place d s c.in-Err.error c.in-Err.ensures.misfit)

pub returns-in-Err-clause-answered : goal.returns-in-Err-clause-answered
returns-in-Err-clause-answered g c =
    let old = c.args.caller.now in
    let own = g.P.CellCaller.own old in
    c.refuse_bound.ensures.answered own
    (nothing-yet (g.P.CellCaller.opening old) (g.P.CellCaller.number old) c.args.session.now c.args.statement.now
    (IsInsertText c.args.place c.args.cube.now c.args.statement.now) own)

pub returns-in-Err-clause-texts : goal.returns-in-Err-clause-texts
returns-in-Err-clause-texts g c =
    let old = c.args.caller.now in
    let own = g.P.CellCaller.own in
    c.told_texts_stay_told.ensures (own old) (own c.refuse_bound.new.caller) c.args.texts.now
    (c.refuse_bound.ensures.answered (own old)
    (nothing-yet (g.P.CellCaller.opening old) (g.P.CellCaller.number old) c.args.session.now c.args.statement.now
    (IsInsertText c.args.place c.args.cube.now c.args.statement.now) (own old))).more c.requires.texts
