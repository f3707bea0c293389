use Rattle.session_watches.proofs.HolderSteps.{closing-keeps, closing-last, closing-newer, closing-older, may-close-holder}
use Rattle.session_watches.proofs.holders.close_holder.Goals as goal

pub call_desk_cell-requires-clause-may : goal.call_desk_cell-requires-clause-may
call_desk_cell-requires-clause-may g c =
    may-close-holder g.S.LinkedShard.fits g.S.LinkedShard.stands g.S.LinkedShard.says
    (g.P.CellCaller.opening c.args.caller.now) (g.P.CellCaller.number c.args.caller.now) c.args.session
    c.requires.client c.requires.session (g.P.CellCaller.own c.args.caller.now) c.args.holder c.args.statement
    c.requires.holder c.requires.ready.0 c.requires.reads.0 c.requires.ready.1 c.requires.reads.1 c.requires.reads.2

pub returns-clause-same : goal.returns-clause-same
returns-clause-same g c =
    let own = g.P.CellCaller.own in
    let opening = g.P.CellCaller.opening in
    let number = g.P.CellCaller.number in
    let before = c.args.caller.now in
    let after = c.call_desk_cell.new.caller in
    let did = c.call_desk_cell.ensures in
    closing-keeps g.S.LinkedShard.fits g.S.LinkedShard.stands g.S.LinkedShard.says (opening before) (number before)
    c.args.session c.requires.client c.requires.session (own before) c.args.holder c.args.statement c.requires.holder
    (own after) (opening after) (number after) did.opening did.number c.call_desk_cell.result did.own
    c.expect_closed.ensures

pub returns-clause-last : goal.returns-clause-last
returns-clause-last g c =
    let own = g.P.CellCaller.own in
    let opening = g.P.CellCaller.opening in
    let number = g.P.CellCaller.number in
    let before = c.args.caller.now in
    let after = c.call_desk_cell.new.caller in
    let did = c.call_desk_cell.ensures in
    closing-last g.S.LinkedShard.fits g.S.LinkedShard.stands g.S.LinkedShard.says (opening before) (number before)
    c.args.session c.requires.client c.requires.session (own before) c.args.holder c.args.statement c.requires.holder
    (own after) (opening after) (number after) did.opening did.number c.call_desk_cell.result did.own
    c.expect_closed.ensures

pub returns-clause-older : goal.returns-clause-older
returns-clause-older g c =
    let own = g.P.CellCaller.own in
    let opening = g.P.CellCaller.opening in
    let number = g.P.CellCaller.number in
    let before = c.args.caller.now in
    let after = c.call_desk_cell.new.caller in
    let did = c.call_desk_cell.ensures in
    closing-older g.S.LinkedShard.fits g.S.LinkedShard.stands g.S.LinkedShard.says (opening before) (number before)
    c.args.session c.requires.client c.requires.session (own before) c.args.holder c.args.statement c.requires.holder
    (own after) (opening after) (number after) did.opening did.number c.call_desk_cell.result did.own
    c.expect_closed.ensures

pub returns-clause-newer : goal.returns-clause-newer
returns-clause-newer g c =
    let own = g.P.CellCaller.own in
    let opening = g.P.CellCaller.opening in
    let number = g.P.CellCaller.number in
    let before = c.args.caller.now in
    let after = c.call_desk_cell.new.caller in
    let did = c.call_desk_cell.ensures in
    closing-newer g.S.LinkedShard.fits g.S.LinkedShard.stands g.S.LinkedShard.says (opening before) (number before)
    c.args.session c.requires.client c.requires.session (own before) c.args.holder c.args.statement c.requires.holder
    (own after) (opening after) (number after) did.opening did.number c.call_desk_cell.result did.own
    c.expect_closed.ensures
