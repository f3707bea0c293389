use Rattle.std.proofs.Common.{refl}
use Rattle.core_scripts.proofs.PlainForms.{plain-performed}
use Rattle.cube_language.specs.declared.statement.Statement.TheVariants as asked
use Rattle.core_scripts.proofs.desk_forms.exec_plain.Goals as goal

pub returns-in-Begin-clause-readers : goal.returns-in-Begin-clause-readers
returns-in-Begin-clause-readers g c =
    let before = c.args.caller.now in
    c.other_calls_leave_the_holders.ensures.plain (g.P.CellCaller.opening before) (g.P.CellCaller.number before)
    c.args.session.now.number (g.P.CellCaller.own before) (g.P.CellCaller.own c.begin.new.caller) c.begin.ensures.plain

pub returns-in-Begin-clause-performed : goal.returns-in-Begin-clause-performed
returns-in-Begin-clause-performed g c =
    let before = c.args.caller.now in
    plain-performed (g.P.CellCaller.opening before) (g.P.CellCaller.number before) c.args.session.now c.begin.new.session
    (g.P.CellCaller.own before) (g.P.CellCaller.own c.begin.new.caller) c.args.statement.now asked.Begin c.begin.result
    c.in-Begin.is refl c.begin.ensures.plain c.begin.ensures.executed

pub returns-in-Commit-clause-readers : goal.returns-in-Commit-clause-readers
returns-in-Commit-clause-readers g c =
    let before = c.args.caller.now in
    c.other_calls_leave_the_holders.ensures.plain (g.P.CellCaller.opening before) (g.P.CellCaller.number before)
    c.args.session.now.number (g.P.CellCaller.own before) (g.P.CellCaller.own c.commit.new.caller) c.commit.ensures.plain

pub returns-in-Commit-clause-performed : goal.returns-in-Commit-clause-performed
returns-in-Commit-clause-performed g c =
    let before = c.args.caller.now in
    plain-performed (g.P.CellCaller.opening before) (g.P.CellCaller.number before) c.args.session.now c.commit.new.session
    (g.P.CellCaller.own before) (g.P.CellCaller.own c.commit.new.caller) c.args.statement.now asked.Commit c.commit.result
    c.in-Commit.is refl c.commit.ensures.plain c.commit.ensures.executed

pub returns-in-Rollback-clause-readers : goal.returns-in-Rollback-clause-readers
returns-in-Rollback-clause-readers g c =
    let before = c.args.caller.now in
    c.other_calls_leave_the_holders.ensures.plain (g.P.CellCaller.opening before) (g.P.CellCaller.number before)
    c.args.session.now.number (g.P.CellCaller.own before) (g.P.CellCaller.own c.rollback.new.caller) c.rollback.ensures.plain

pub returns-in-Rollback-clause-performed : goal.returns-in-Rollback-clause-performed
returns-in-Rollback-clause-performed g c =
    let before = c.args.caller.now in
    plain-performed (g.P.CellCaller.opening before) (g.P.CellCaller.number before) c.args.session.now c.rollback.new.session
    (g.P.CellCaller.own before) (g.P.CellCaller.own c.rollback.new.caller) c.args.statement.now asked.Rollback c.rollback.result
    c.in-Rollback.is refl c.rollback.ensures.plain c.rollback.ensures.executed

pub returns-in-Flush-clause-readers : goal.returns-in-Flush-clause-readers
returns-in-Flush-clause-readers g c =
    let before = c.args.caller.now in
    c.other_calls_leave_the_holders.ensures.plain (g.P.CellCaller.opening before) (g.P.CellCaller.number before)
    c.args.session.now.number (g.P.CellCaller.own before) (g.P.CellCaller.own c.flush.new.caller) c.flush.ensures.plain

pub returns-in-Flush-clause-performed : goal.returns-in-Flush-clause-performed
returns-in-Flush-clause-performed g c =
    let before = c.args.caller.now in
    plain-performed (g.P.CellCaller.opening before) (g.P.CellCaller.number before) c.args.session.now c.flush.new.session
    (g.P.CellCaller.own before) (g.P.CellCaller.own c.flush.new.caller) c.args.statement.now asked.Flush c.flush.result
    c.in-Flush.is refl c.flush.ensures.plain c.flush.ensures.executed

pub returns-in-Purge-clause-readers : goal.returns-in-Purge-clause-readers
returns-in-Purge-clause-readers g c =
    let before = c.args.caller.now in
    c.other_calls_leave_the_holders.ensures.plain (g.P.CellCaller.opening before) (g.P.CellCaller.number before)
    c.args.session.now.number (g.P.CellCaller.own before) (g.P.CellCaller.own c.purge.new.caller) c.purge.ensures.plain

pub returns-in-Purge-clause-performed : goal.returns-in-Purge-clause-performed
returns-in-Purge-clause-performed g c =
    let before = c.args.caller.now in
    plain-performed (g.P.CellCaller.opening before) (g.P.CellCaller.number before) c.args.session.now c.purge.new.session
    (g.P.CellCaller.own before) (g.P.CellCaller.own c.purge.new.caller) c.args.statement.now asked.Purge c.purge.result
    c.in-Purge.is refl c.purge.ensures.plain c.purge.ensures.executed

pub returns-in-ShowEpochs-clause-readers : goal.returns-in-ShowEpochs-clause-readers
returns-in-ShowEpochs-clause-readers g c =
    let before = c.args.caller.now in
    c.other_calls_leave_the_holders.ensures.plain (g.P.CellCaller.opening before) (g.P.CellCaller.number before)
    c.args.session.now.number (g.P.CellCaller.own before) (g.P.CellCaller.own c.show_epochs.new.caller) c.show_epochs.ensures.plain

pub returns-in-ShowEpochs-clause-performed : goal.returns-in-ShowEpochs-clause-performed
returns-in-ShowEpochs-clause-performed g c =
    let before = c.args.caller.now in
    plain-performed (g.P.CellCaller.opening before) (g.P.CellCaller.number before) c.args.session.now c.show_epochs.new.session
    (g.P.CellCaller.own before) (g.P.CellCaller.own c.show_epochs.new.caller) c.args.statement.now asked.ShowEpochs c.show_epochs.result
    c.in-ShowEpochs.is refl c.show_epochs.ensures.plain c.show_epochs.ensures.executed
