use Rattle.std.proofs.Common.{◌+◌, Some}
use Rattle.flush_loop.proofs.OpenedAndClosed.{open-within}
use Rattle.flush_loop.specs.PlainRounds.{KnowsAfterOpening}
use Rattle.flush_loop.proofs.no_store.close_as_safe.Goals as goal

pub close_round-requires-clause-within : goal.close_round-requires-clause-within
close_round-requires-clause-within g c =
    let F = g.S.LinkedShard.fits in
    let T = g.S.LinkedShard.stands in
    let A = g.S.LinkedShard.says in
    let cells = g.P.CellCaller.opening c.args.caller.now in
    let number = g.P.CellCaller.number c.args.caller.now in
    let client = c.args.size.now.sessions + 1 in
    let own = g.P.CellCaller.own c.args.caller.now in (
      c.in-Target.from,
      open-within F T A cells number client c.args.size.now.shards c.requires.flusher c.in-Target.from c.in-Target.epoch own
          (coe 0 1 (i. KnowsAfterOpening F T A cells number client (Some (c.in-Target.is i)) own) c.requires.knows),
    )
