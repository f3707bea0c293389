use Rattle.core_cells.specs.declared.desk.DeskCall.TheVariants as call
use Rattle.round_copies.proofs.FlusherSteps.{list-within, may-call-desk, within-by-desk}
use Rattle.round_copies.proofs.Listed.{both-known, cubes-known, list-there, open-known}
use Rattle.round_copies.proofs.RoundSteps.{HasRowsAndPlace, may-list-cubes}
use Rattle.round_copies.specs.WithinRounds.{StaysWithinRound}
use Rattle.round_copies.proofs.cubes.copy_cubes.Goals as goal

pub ask_desk-said-requires-clause-client : goal.ask_desk-said-requires-clause-client
ask_desk-said-requires-clause-client g c =
    c.the_flusher_is_a_client.ensures.client (g.P.CellCaller.opening c.args.caller.now) (g.P.CellCaller.number c.args.caller.now)
    c.args.client c.requires.flusher.0 c.requires.flusher.1

pub ask_desk-said-requires-clause-may : goal.ask_desk-said-requires-clause-may
ask_desk-said-requires-clause-may g c =
    let cells = g.P.CellCaller.opening c.args.caller.now in
    let caller = g.P.CellCaller.number c.args.caller.now in
    let own = g.P.CellCaller.own c.args.caller.now in
    let copies = c.requires.rows.0 in
    let counts = c.requires.told.0 in
    may-call-desk cells caller c.args.client c.requires.flusher.0 c.requires.flusher.1 own (call.CubesFrom c.args.place)
    (HasRowsAndPlace c.args.span copies c.args.place counts)
    (both-known cells caller c.args.client own c.args.span c.args.place copies counts c.requires.rows.1 c.requires.told.1)
    (may-list-cubes c.args.span copies c.args.place counts)

pub returns-clause-within : goal.returns-clause-within
returns-clause-within g c =
    let cells = g.P.CellCaller.opening c.args.caller.now in
    let caller = g.P.CellCaller.number c.args.caller.now in
    let own = g.P.CellCaller.own c.args.caller.now in
    let now = g.P.CellCaller.own c.ask_desk-said.new.caller in
    let did = c.ask_desk-said.ensures in
    coe 1 0 (i. StaysWithinRound (did.opening i) (did.number i) c.args.client own now)
    (within-by-desk cells caller c.args.client c.requires.flusher.0 c.requires.flusher.1 own now (call.CubesFrom c.args.place)
    c.ask_desk-said.result did.own (list-within c.args.client c.args.place c.ask_desk-said.result))

pub returns-clause-listed : goal.returns-clause-listed
returns-clause-listed g c =
    let did = c.ask_desk-said.ensures in
    list-there _ (g.P.CellCaller.number c.args.caller.now) (g.P.CellCaller.number c.ask_desk-said.new.caller) c.args.place
    (g.P.CellCaller.own c.args.caller.now) (g.P.CellCaller.own c.ask_desk-said.new.caller) c.ask_desk-said.result c.cubes_in.result
    c.ok_or.ensures.value did.number did.own c.cubes_in.ensures

pub returns-clause-copied : goal.returns-clause-copied
returns-clause-copied g c =
    let did = c.ask_desk-said.ensures in
    cubes-known _ (g.P.CellCaller.opening c.args.caller.now) (g.P.CellCaller.opening c.ask_desk-said.new.caller)
    (g.P.CellCaller.number c.args.caller.now) (g.P.CellCaller.number c.ask_desk-said.new.caller) c.args.client c.requires.flusher.0
    c.requires.flusher.1 c.args.span c.args.place (g.P.CellCaller.own c.args.caller.now) (g.P.CellCaller.own c.ask_desk-said.new.caller)
    c.ask_desk-said.result c.cubes_in.result c.ok_or.ensures.value did.opening did.number did.own
    c.cubes_in.ensures

pub returns-clause-open : goal.returns-clause-open
returns-clause-open g c =
    let did = c.ask_desk-said.ensures in
    open-known (g.P.CellCaller.opening c.args.caller.now) (g.P.CellCaller.opening c.ask_desk-said.new.caller)
    (g.P.CellCaller.number c.args.caller.now) (g.P.CellCaller.number c.ask_desk-said.new.caller) c.args.client c.requires.flusher.0
    c.requires.flusher.1 c.args.span c.args.place (g.P.CellCaller.own c.args.caller.now) (g.P.CellCaller.own c.ask_desk-said.new.caller)
    c.ask_desk-said.result c.cubes_in.result c.requires.rows.0 c.requires.told.0 did.opening did.number did.own c.cubes_in.ensures
    c.requires.rows.1 c.requires.told.1
