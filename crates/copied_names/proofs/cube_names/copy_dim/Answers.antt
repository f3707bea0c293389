use Rattle.std.proofs.Common.{sym}
use Rattle.board_callers.specs.Callers.{HasHistoryOf}
use Rattle.core_names.proofs.GivenCodes.{moved}
use Rattle.core_program.specs.CoreFits.{FitsOwnCalls}
use Rattle.cube_core.specs.CoreSteps.{CoreStep}
use Rattle.copied_names.proofs.CopiedLists.{asked-one, distinct-one, none-distinct, told-one}
use Rattle.copied_names.proofs.NoRounds.{may-copy}
use Rattle.copied_names.proofs.cube_names.copy_dim.Goals as goal

pub ask_for_copy-requires-clause-client : goal.ask_for_copy-requires-clause-client
ask_for_copy-requires-clause-client g c = c.requires.may.client

pub ask_for_copy-requires-clause-may : goal.ask_for_copy-requires-clause-may
ask_for_copy-requires-clause-may g c =
    may-copy g.S.LinkedShard.fits g.S.LinkedShard.stands g.S.LinkedShard.says (g.P.CellCaller.opening c.args.caller.now)
    (g.P.CellCaller.number c.args.caller.now) c.args.session c.args.place (g.P.CellCaller.own c.args.caller.now) c.args.cube.now c.args.dim
    c.requires.may

pub returns-clause-asks : goal.returns-clause-asks
returns-clause-asks g c =
    asked-one (g.P.CellCaller.number c.args.caller.now) c.args.place c.args.dim (g.P.CellCaller.own c.args.caller.now)
    (g.P.CellCaller.own c.ask_for_copy.new.caller) c.ask_for_copy.result c.ask_for_copy.ensures.own

pub returns-clause-told : goal.returns-clause-told
returns-clause-told g c =
    told-one (g.P.CellCaller.number c.args.caller.now) c.args.place c.args.dim (g.P.CellCaller.own c.args.caller.now)
    (g.P.CellCaller.own c.ask_for_copy.new.caller) c.ask_for_copy.result c.args.text c.if-not-text.false c.ask_for_copy.ensures.own

pub returns-clause-distinct : goal.returns-clause-distinct
returns-clause-distinct g c =
    let cells = g.P.CellCaller.opening c.args.caller.now in
    let caller = g.P.CellCaller.number c.args.caller.now in
    let now = g.P.CellCaller.own c.ask_for_copy.new.caller in
    let history = moved (λ x n. HasHistoryOf (CoreStep g.S.ShardCell.step) (FitsOwnCalls g.S.LinkedShard.fits g.S.LinkedShard.stands g.S.LinkedShard.says) x n now)
    (g.P.CellCaller.opening c.ask_for_copy.new.caller) cells (g.P.CellCaller.number c.ask_for_copy.new.caller) caller
    (sym c.ask_for_copy.ensures.opening) (sym c.ask_for_copy.ensures.number) c.ask_for_copy.ensures.history
    in
    let opens = c.requires.may.client.opening history.log in
    let r = c.clients_know_their_runs.ensures cells caller c.args.session now opens.0 c.requires.may.client history opens.1 in
    distinct-one g.S.LinkedShard.fits g.S.LinkedShard.stands g.S.LinkedShard.says cells caller c.args.session c.args.place c.args.cube.now
    (g.P.CellCaller.own c.args.caller.now) now c.args.dim c.ask_for_copy.result c.args.text c.requires.may c.requires.kind
    c.ask_for_copy.ensures.own opens.0 history.log r.run r.is_later

pub returns-then-not-text-clause-distinct : goal.returns-then-not-text-clause-distinct
returns-then-not-text-clause-distinct g c = none-distinct c.new-none.result c.new-none.ensures
