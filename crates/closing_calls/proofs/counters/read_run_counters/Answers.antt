use Rattle.std.proofs.Common.{◌∙◌, ◌++◌, [], ◌∷◌}
use Rattle.core_program.specs.ClientCalls.{desk_entry}
use Rattle.closing_calls.proofs.MainSteps.{stays-by-counters}
use Rattle.closing_calls.specs.ClosingCalls.{MainStays}
use Rattle.core_cells.specs.declared.desk.DeskCall.TheVariants as call
use Rattle.core_events.specs.Clients.{calls_of, state_from_calls}
use Rattle.cube_core.proofs.Looking.{may-count}
use Rattle.session_requests.specs.SessionRequests.{KnowsSafe}
use Rattle.closing_calls.proofs.counters.read_run_counters.Goals as goal

pub call_desk_cell-requires-clause-client : goal.call_desk_cell-requires-clause-client
call_desk_cell-requires-clause-client g c = rw c.requires.main c.requires.client

pub call_desk_cell-requires-clause-may : goal.call_desk_cell-requires-clause-may
call_desk_cell-requires-clause-may g c = λ o log run es later are. may-count o 0 (state_from_calls o 0 (calls_of 0 es))

pub returns-clause-own : goal.returns-clause-own
returns-clause-own g c =
    c.call_desk_cell.ensures.own
    ∙ (λ i. g.P.CellCaller.own c.args.caller.now ++ desk_entry (c.requires.main i) call.Counters (c.counters_in.ensures i) ∷ [])

pub returns-clause-safe : goal.returns-clause-safe
returns-clause-safe g c =
    let own = g.P.CellCaller.own in
    let cells = g.P.CellCaller.opening c.args.caller.now in
    let did = c.call_desk_cell.ensures in
    let shown = c.counters_in.result in
    let is =
    did.own ∙ (λ i. own c.args.caller.now ++ desk_entry (c.requires.main i) call.Counters (c.counters_in.ensures i) ∷ [])
    in
    coe 1 0 (i. KnowsSafe (did.opening i) 0 0 (is i) shown.lse)
    (c.sessions_know_the_lse_they_saw.ensures.counted cells 0 0 (own c.args.caller.now) shown c.requires.client).safe

pub returns-clause-stays : goal.returns-clause-stays
returns-clause-stays g c =
    let own = g.P.CellCaller.own in
    let cells = g.P.CellCaller.opening c.args.caller.now in
    let did = c.call_desk_cell.ensures in
    let is =
    did.own ∙ (λ i. own c.args.caller.now ++ desk_entry (c.requires.main i) call.Counters (c.counters_in.ensures i) ∷ [])
    in
    coe 1 0 (i. MainStays cells (own c.args.caller.now) (did.opening i) (own c.call_desk_cell.new.caller))
    (stays-by-counters cells (own c.args.caller.now) (own c.call_desk_cell.new.caller) c.counters_in.result c.requires.client is)
