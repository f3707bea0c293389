use Rattle.core_program.specs.Knowing.{Knows}
use Rattle.std.proofs.Common.{◌+◌}
use Rattle.job_groups.specs.AskedEach.{AreShardMails}
use Rattle.job_groups.specs.PostedSome.{AwaitsSome, LearnsOfFetches}
use Rattle.job_groups.proofs.FetchLoops.{knows-awaits, learns-of-both, more-both}
use Rattle.job_groups.proofs.some_shards.ask_some_shards.Goals as goal

pub fetch_some_shards-requires-clause-mails : goal.fetch_some_shards-requires-clause-mails
fetch_some_shards-requires-clause-mails g c =
    let posted = c.post_some_shards.ensures in
    coe 1 0 (i. AreShardMails g.S.LinkedShard.fits g.S.LinkedShard.stands g.S.LinkedShard.says (posted.opening i) c.args.client
    c.args.size.now.shards (2 + c.args.size.now.shards)) c.requires.mails

pub fetch_some_shards-requires-clause-awaits : goal.fetch_some_shards-requires-clause-awaits
fetch_some_shards-requires-clause-awaits g c =
    let posted = c.post_some_shards.ensures in
    let own = g.P.CellCaller.own in
    coe 1 0 (i. Knows g.S.LinkedShard.fits g.S.LinkedShard.stands g.S.LinkedShard.says (posted.opening i) (posted.number i) c.args.client
    (own c.post_some_shards.new.caller) (AwaitsSome c.args.client c.args.numbers.now))
    (knows-awaits g.S.LinkedShard.fits g.S.LinkedShard.stands g.S.LinkedShard.says (g.P.CellCaller.opening c.args.caller.now)
    (g.P.CellCaller.number c.args.caller.now) c.args.client c.args.numbers.now (own c.args.caller.now) c.args.calls.items
    (own c.post_some_shards.new.caller) posted.learns)

pub returns-clause-more : goal.returns-clause-more
returns-clause-more g c =
    more-both (g.P.CellCaller.own c.args.caller.now) (g.P.CellCaller.own c.post_some_shards.new.caller)
    (g.P.CellCaller.own c.fetch_some_shards.new.caller) c.post_some_shards.ensures.more c.fetch_some_shards.ensures.more

pub returns-clause-learns : goal.returns-clause-learns
returns-clause-learns g c =
    let own = g.P.CellCaller.own in
    let posted = c.post_some_shards.ensures in
    let fetched = c.fetch_some_shards.ensures in
    learns-of-both g.S.LinkedShard.fits g.S.LinkedShard.stands g.S.LinkedShard.says (g.P.CellCaller.opening c.args.caller.now)
    (g.P.CellCaller.number c.args.caller.now) c.args.client c.args.numbers.now (own c.args.caller.now) c.args.calls.items
    c.fetch_some_shards.result.items (own c.post_some_shards.new.caller) (own c.fetch_some_shards.new.caller)
    c.requires.each fetched.more posted.learns
    (coe 0 1 (i. LearnsOfFetches g.S.LinkedShard.fits g.S.LinkedShard.stands g.S.LinkedShard.says (posted.opening i)
    (posted.number i) c.args.client c.args.numbers.now c.fetch_some_shards.result.items
    (own c.post_some_shards.new.caller) (own c.fetch_some_shards.new.caller)) fetched.learns)
