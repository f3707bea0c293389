use Rattle.std.proofs.Common.{subst}
use Rattle.core_selects.specs.SelectEnds.{EndsSelect, without_memory}
use Rattle.core_selects.proofs.EndedSelects.{ends-unfit}
use Rattle.core_selects.proofs.Refusing.{ends-refused, reading-refused}
use Rattle.core_selects.specs.ScanSteps.{IsMisfitIn}
use Rattle.cube_journal.specs.declared.refusal.Refusal.TheVariants.{NoMemory}
use Rattle.cube_language.specs.declared.misfit.Misfit.{Misfit}
use Rattle.cube_values.specs.declared.call_error.CallError.{CallError}
use Rattle.core_selects.proofs.selecting.refuse_unfit.Goals as goal

pub returns-in-Fault-clause-reads : goal.returns-in-Fault-clause-reads
returns-in-Fault-clause-reads g c =
    let own = g.P.CellCaller.own in
    let before = c.args.caller.now in
    let said = c.refuse_plainly.ensures in
    (reading-refused (g.P.CellCaller.opening before) (g.P.CellCaller.number before) c.args.session.now (own before)
    (own c.refuse_plainly.new.caller) c.of_misfit.result c.refuse_plainly.result said.left said.stopped).reads

pub returns-in-Fault-clause-more : goal.returns-in-Fault-clause-more
returns-in-Fault-clause-more g c =
    let own = g.P.CellCaller.own in
    let before = c.args.caller.now in
    let said = c.refuse_plainly.ensures in
    (reading-refused (g.P.CellCaller.opening before) (g.P.CellCaller.number before) c.args.session.now (own before)
    (own c.refuse_plainly.new.caller) c.of_misfit.result c.refuse_plainly.result said.left said.stopped).more

pub returns-in-Fault-clause-ends : goal.returns-in-Fault-clause-ends
returns-in-Fault-clause-ends g c =
    let own = g.P.CellCaller.own in
    let before = c.args.caller.now in
    let said = c.refuse_plainly.ensures in
    ends-unfit (g.P.CellCaller.opening before) (g.P.CellCaller.number before) c.args.session.now (own before)
    (own c.refuse_plainly.new.caller) c.args.statement.now c.args.found.now.place c.args.found.now.decl c.in-Fault.misfit
    (subst (λ (e : CallError Misfit). IsMisfitIn c.args.found.now.decl c.args.statement.now e) c.in-Fault.is
    c.requires.misfit) c.of_misfit.result c.of_misfit.ensures c.refuse_plainly.result said.said said.left

pub returns-in-NoMemory-clause-reads : goal.returns-in-NoMemory-clause-reads
returns-in-NoMemory-clause-reads g c =
    let own = g.P.CellCaller.own in
    let before = c.args.caller.now in
    let said = c.refuse_plainly-in-NoMemory.ensures in
    (reading-refused (g.P.CellCaller.opening before) (g.P.CellCaller.number before) c.args.session.now (own before)
    (own c.refuse_plainly-in-NoMemory.new.caller) NoMemory c.refuse_plainly-in-NoMemory.result said.left said.stopped).reads

pub returns-in-NoMemory-clause-more : goal.returns-in-NoMemory-clause-more
returns-in-NoMemory-clause-more g c =
    let own = g.P.CellCaller.own in
    let before = c.args.caller.now in
    let said = c.refuse_plainly-in-NoMemory.ensures in
    (reading-refused (g.P.CellCaller.opening before) (g.P.CellCaller.number before) c.args.session.now (own before)
    (own c.refuse_plainly-in-NoMemory.new.caller) NoMemory c.refuse_plainly-in-NoMemory.result said.left said.stopped).more

pub returns-in-NoMemory-clause-ends : goal.returns-in-NoMemory-clause-ends
returns-in-NoMemory-clause-ends g c =
    let own = g.P.CellCaller.own in
    let before = c.args.caller.now in
    let said = c.refuse_plainly-in-NoMemory.ensures in
    ends-refused (g.P.CellCaller.opening before) (g.P.CellCaller.number before) c.args.session.now (own before)
    (own c.refuse_plainly-in-NoMemory.new.caller) NoMemory c.refuse_plainly-in-NoMemory.result
    (EndsSelect (g.P.CellCaller.opening before) (g.P.CellCaller.number before) c.args.session.now c.args.statement.now
    c.args.found.now.place c.args.found.now.decl (own before) (own c.refuse_plainly-in-NoMemory.new.caller)) said.said said.left
    (λ left. without_memory left)
