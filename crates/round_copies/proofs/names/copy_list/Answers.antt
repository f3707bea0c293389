use Rattle.core_cells.specs.declared.names.NamesCall.TheVariants as names
use Rattle.round_copies.proofs.FlusherSteps.{may-call-names}
use Rattle.round_copies.proofs.Listed.{names-there}
use Rattle.round_copies.proofs.NameLoops.{list-goes}
use Rattle.round_copies.proofs.RoundSteps.{may-copy-names}
use Rattle.round_copies.specs.RoundCopies.{HasCubes}
use Rattle.round_copies.proofs.names.copy_list.Goals as goal

pub ask_names-said-requires-clause-client : goal.ask_names-said-requires-clause-client
ask_names-said-requires-clause-client g c =
    c.the_flusher_is_a_client.ensures.client (g.P.CellCaller.opening c.args.caller.now) (g.P.CellCaller.number c.args.caller.now)
    c.args.client c.requires.flusher.0 c.requires.flusher.1

pub ask_names-said-requires-clause-may : goal.ask_names-said-requires-clause-may
ask_names-said-requires-clause-may g c =
    let may = c.requires.may in
    may-call-names (g.P.CellCaller.opening c.args.caller.now) (g.P.CellCaller.number c.args.caller.now) c.args.client
    c.requires.flusher.0 c.requires.flusher.1 (g.P.CellCaller.own c.args.caller.now)
    (names.CopyFrom c.args.cube c.args.dim c.args.count) (HasCubes c.args.span may.0 may.1 may.2) may.5
    (may-copy-names c.args.span may.0 may.1 may.2 c.args.cube c.args.dim c.args.count may.3 may.4)

pub returns-clause-goes : goal.returns-clause-goes
returns-clause-goes g c =
    let did = c.ask_names-said.ensures in
    list-goes c.args.span c.args.client (g.P.CellCaller.opening c.args.caller.now)
    (g.P.CellCaller.opening c.ask_names-said.new.caller) (g.P.CellCaller.number c.args.caller.now)
    (g.P.CellCaller.number c.ask_names-said.new.caller) (g.P.CellCaller.own c.args.caller.now)
    (g.P.CellCaller.own c.ask_names-said.new.caller) c.args.cube c.args.dim c.args.count c.ask_names-said.result c.names_in.result
    c.requires.flusher did.opening did.number did.own c.names_in.ensures did.history

pub returns-clause-told : goal.returns-clause-told
returns-clause-told g c =
    let did = c.ask_names-said.ensures in
    names-there _ (g.P.CellCaller.number c.args.caller.now) (g.P.CellCaller.number c.ask_names-said.new.caller) c.args.cube c.args.dim
    c.args.count (g.P.CellCaller.own c.args.caller.now) (g.P.CellCaller.own c.ask_names-said.new.caller) c.ask_names-said.result
    c.names_in.result c.ok_or.ensures.value did.number did.own c.names_in.ensures
