use Rattle.std.proofs.Common.{◌+◌}
use Rattle.closing_calls.proofs.MainSteps.{stays-by-close}
use Rattle.closing_calls.specs.ClosingCalls.{MainStays}
use Rattle.closing_calls.proofs.closings.close_flusher_mail.Goals as goal

pub returns-clause-stays : goal.returns-clause-stays
returns-clause-stays g c =
    let own = g.P.CellCaller.own in
    let cells = g.P.CellCaller.opening c.args.caller.now in
    let shards = c.args.size.now.shards in
    let did = c.close_mail.ensures in
    coe 1 0 (i. MainStays cells (own c.args.caller.now) (did.opening i) (own c.close_mail.new.caller))
    (stays-by-close cells shards (2 + shards + shards) (own c.args.caller.now) (own c.close_mail.new.caller) c.requires.mail did.own)
