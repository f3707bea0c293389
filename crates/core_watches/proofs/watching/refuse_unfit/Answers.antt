use Rattle.std.proofs.Common.{◌≡◌, ◌≢◌, false, [], ◌∷◌, sym, subst}
use Rattle.aosi_desk.specs.Desks.{is_cube_code}
use Rattle.core_watches.proofs.Ends.{misfit-plain, watch-unfit, watch-unread}
use Rattle.core_watches.specs.BoundQueries.{IsWhyUnfit}
use Rattle.core_watches.specs.KeptWatches.{IsRefusedSo}
use Rattle.cube_journal.specs.Refusals.{code}
use Rattle.cube_journal.specs.declared.journal_entry.JournalEntry.TheVariants as entry
use Rattle.cube_journal.specs.declared.refusal.Refusal.{Refusal}
use Rattle.cube_language.specs.declared.misfit.Misfit.{Misfit}
use Rattle.cube_values.specs.declared.call_error.CallError.{CallError}
use Rattle.session_desk.specs.Executed.{IfReplied}
use Rattle.core_watches.proofs.watching.refuse_unfit.Goals as goal

pub refuse_so-requires-clause-cubes : goal.refuse_so-requires-clause-cubes
refuse_so-requires-clause-cubes g c =
    subst (λ (r : Refusal). is_cube_code (code r) ≡ false) (sym c.of_misfit.ensures) (misfit-plain c.in-Fault.misfit).0

pub refuse_so-requires-clause-store : goal.refuse_so-requires-clause-store
refuse_so-requires-clause-store g c =
    subst (λ (r : Refusal). code r ≢ 17) (sym c.of_misfit.ensures) (misfit-plain c.in-Fault.misfit).1

pub returns-in-Fault-clause-refused : goal.returns-in-Fault-clause-refused
returns-in-Fault-clause-refused g c =
    let own = g.P.CellCaller.own in
    let before = c.args.caller.now in
    let cells = g.P.CellCaller.opening before in
    let caller = g.P.CellCaller.number before in
    let session = c.args.session.now in
    let now = own c.refuse_so.new.caller in
    watch-unfit cells caller session (own before) now c.args.statement.now c.args.decl.now c.in-Fault.misfit c.refuse_so.result
    (subst (λ (e : CallError Misfit). IsWhyUnfit c.args.decl.now c.args.statement.now e) c.in-Fault.is c.requires.why)
    (subst (λ (r : Refusal). IfReplied c.refuse_so.result (IsRefusedSo cells caller session.number (own before) now
    (entry.Refused session.number session.statements (code r) ∷ []) r)) c.of_misfit.ensures c.refuse_so.ensures.refused)

pub returns-in-NoMemory-clause-refused : goal.returns-in-NoMemory-clause-refused
returns-in-NoMemory-clause-refused g c =
    let own = g.P.CellCaller.own in
    let before = c.args.caller.now in
    let said = c.refuse_so-in-NoMemory in
    watch-unread (g.P.CellCaller.opening before) (g.P.CellCaller.number before) c.args.session.now (own before)
    (own said.new.caller) c.args.statement.now c.args.decl.now said.result said.ensures.refused
