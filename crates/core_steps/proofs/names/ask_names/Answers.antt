use Rattle.core_steps.proofs.ToldNames.{names-hold}
use Rattle.core_steps.proofs.names.ask_names.Goals as goal

pub returns-clause-same : goal.returns-clause-same
returns-clause-same g c =
    let opening = g.P.CellCaller.opening in
    let number = g.P.CellCaller.number in
    let own = g.P.CellCaller.own in
    let before = c.args.caller.now in
    let after = c.call_names_cell.new.caller in
    let did = c.call_names_cell.ensures in
    names-hold (opening before) (opening after) (number before) (number after) c.args.session
    c.requires.on_core.client did.opening did.number (own before) (own after) c.args.call c.call_names_cell.result
    did.own
