use Rattle.session_watches.proofs.HolderSteps.{may-open-holder, opening-gains, opening-keeps, opening-none}
use Rattle.session_watches.proofs.holders.open_holder.Goals as goal

pub call_desk_cell-requires-clause-may : goal.call_desk_cell-requires-clause-may
call_desk_cell-requires-clause-may g c =
    may-open-holder g.S.LinkedShard.fits g.S.LinkedShard.stands g.S.LinkedShard.says
    (g.P.CellCaller.opening c.args.caller.now) (g.P.CellCaller.number c.args.caller.now) c.args.session
    c.requires.client c.requires.session (g.P.CellCaller.own c.args.caller.now) c.args.holder c.args.statement
    c.requires.holder c.requires.ready.0 c.requires.free.0 c.requires.ready.1 c.requires.free.1 c.requires.free.2

pub returns-clause-same : goal.returns-clause-same
returns-clause-same g c =
    let own = g.P.CellCaller.own in
    let opening = g.P.CellCaller.opening in
    let number = g.P.CellCaller.number in
    let before = c.args.caller.now in
    let after = c.call_desk_cell.new.caller in
    let did = c.call_desk_cell.ensures in
    opening-keeps g.S.LinkedShard.fits g.S.LinkedShard.stands g.S.LinkedShard.says (opening before) (number before)
    c.args.session c.requires.client c.requires.session (own before) c.args.holder c.args.statement c.requires.holder
    (own after) (opening after) (number after) did.opening did.number c.call_desk_cell.result did.own
    c.reader_in.result c.reader_in.ensures

pub returns-clause-opened : goal.returns-clause-opened
returns-clause-opened g c =
    let own = g.P.CellCaller.own in
    let opening = g.P.CellCaller.opening in
    let number = g.P.CellCaller.number in
    let before = c.args.caller.now in
    let after = c.call_desk_cell.new.caller in
    let did = c.call_desk_cell.ensures in
    opening-gains g.S.LinkedShard.fits g.S.LinkedShard.stands g.S.LinkedShard.says (opening before) (number before)
    c.args.session c.requires.client c.requires.session (own before) c.args.holder c.args.statement c.requires.holder
    (own after) (opening after) (number after) did.opening did.number c.call_desk_cell.result did.own
    c.reader_in.result c.reader_in.ensures

pub returns-clause-none : goal.returns-clause-none
returns-clause-none g c =
    let own = g.P.CellCaller.own in
    let opening = g.P.CellCaller.opening in
    let number = g.P.CellCaller.number in
    let before = c.args.caller.now in
    let after = c.call_desk_cell.new.caller in
    let did = c.call_desk_cell.ensures in
    opening-none g.S.LinkedShard.fits g.S.LinkedShard.stands g.S.LinkedShard.says (opening before) (number before)
    c.args.session c.requires.client c.requires.session (own before) c.args.holder c.args.statement c.requires.holder
    (own after) (opening after) (number after) did.opening did.number c.call_desk_cell.result did.own
    c.reader_in.result c.reader_in.ensures
