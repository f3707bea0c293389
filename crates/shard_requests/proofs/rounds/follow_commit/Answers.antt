use Rattle.std.proofs.Common.{Bool, subst, sym}
use Rattle.shard_requests.proofs.Onward.{follows-none}
use Rattle.shard_requests.specs.RoundsAfter.{HasFollowed}
use Rattle.shard_requests.proofs.rounds.follow_commit.Goals as goal

pub returns-else-is_due-clause-followed : goal.returns-else-is_due-clause-followed
returns-else-is_due-clause-followed g c =
    let cells = g.P.CellCaller.opening c.args.caller.now in
    let caller = g.P.CellCaller.number c.args.caller.now in
    let own = g.P.CellCaller.own c.args.caller.now in
    subst (λ (due : Bool). HasFollowed cells caller c.args.session c.args.statement due own own) (sym c.if-is_due.false)
    (follows-none cells caller c.args.session c.args.statement own)
