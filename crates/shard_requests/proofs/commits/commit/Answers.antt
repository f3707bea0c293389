use Rattle.std.proofs.Common.{◌+◌, None, refl, arith}
use Rattle.std.proofs.lemmas.Bool.{OnFalse_at, OnTrue_at}
use Rattle.core_program.specs.Knowing.{IsClientOf, IsMailAt, IsSessionOf, ServesClient}
use Rattle.job_groups.specs.AskedEach.{AreShardMails}
use Rattle.linked_shards.specs.CellShards.{CoreShardStands}
use Rattle.shard_events.specs.ShardsInRuns.{FitsShard, ShardAnswerSays}
use Rattle.shard_requests.proofs.Committing.{holds-writer, stops-committed, then-left}
use Rattle.shard_requests.proofs.Executing.{commit-is-open, commits-open}
use Rattle.shard_requests.specs.RoundsAfter.{HasFollowed, HasStoppedInRound}
use Rattle.shard_requests.proofs.commits.commit.Goals as goal

pub open_epoch-epoch-requires : goal.open_epoch-epoch-requires
open_epoch-epoch-requires g c = commit-is-open c.args.session.now.mode c.requires.may

pub commit-requires-clause-holds : goal.commit-requires-clause-holds
commit-requires-clause-holds g c =
    let old = c.args.caller.now in
    let opening = g.P.CellCaller.opening in
    let number = g.P.CellCaller.number in
    let own = g.P.CellCaller.own in
    let session = c.args.session.now in
    holds-writer (opening old) (number old) session.number session.mode c.open_epoch-epoch.result c.open_epoch-epoch.ensures (own old)
    c.requires.holds

pub follow_commit-requires-clause-client : goal.follow_commit-requires-clause-client
follow_commit-requires-clause-client g c =
    coe 1 0 (i. IsClientOf FitsShard CoreShardStands ShardAnswerSays (c.commit.ensures.opening i) (c.commit.ensures.number i) c.args.session.now.number)
    c.requires.client

pub follow_commit-requires-clause-session : goal.follow_commit-requires-clause-session
follow_commit-requires-clause-session g c =
    coe 1 0 (i. IsSessionOf FitsShard CoreShardStands ShardAnswerSays (c.commit.ensures.opening i) c.args.session.now.number) c.requires.session

pub follow_commit-requires-clause-mails : goal.follow_commit-requires-clause-mails
follow_commit-requires-clause-mails g c =
    let shards = c.args.size.now.shards in
    coe 1 0 (i. AreShardMails FitsShard CoreShardStands ShardAnswerSays (c.commit.ensures.opening i) c.args.session.now.number shards (2 + shards))
    c.requires.mails

pub follow_commit-requires-clause-mail : goal.follow_commit-requires-clause-mail
follow_commit-requires-clause-mail g c =
    let shards = c.args.size.now.shards in
    coe 1 0 (i. IsMailAt FitsShard CoreShardStands ShardAnswerSays (c.commit.ensures.opening i) shards (2 + shards + shards)) c.requires.mail

pub follow_commit-requires-clause-serves : goal.follow_commit-requires-clause-serves
follow_commit-requires-clause-serves g c =
    coe 1 0 (i. ServesClient FitsShard CoreShardStands ShardAnswerSays (c.commit.ensures.opening i) c.args.session.now.number c.args.size.now.shards) c.requires.serves

pub follow_commit-requires-clause-ready : goal.follow_commit-requires-clause-ready
follow_commit-requires-clause-ready g c = (None, c.commit.ensures.holds)

pub returns-then-follow_commit-clause-holds : goal.returns-then-follow_commit-clause-holds
returns-then-follow_commit-clause-holds g c = c.follow_commit.ensures.same.ready None c.commit.ensures.holds

pub returns-else-follow_commit-clause-holds : goal.returns-else-follow_commit-clause-holds
returns-else-follow_commit-clause-holds g c = c.follow_commit.ensures.same.ready None c.commit.ensures.holds

pub returns-then-follow_commit-clause-executed : goal.returns-then-follow_commit-clause-executed
returns-then-follow_commit-clause-executed g c =
    let old = c.args.caller.now in
    let opening = g.P.CellCaller.opening in
    let number = g.P.CellCaller.number in
    let own = g.P.CellCaller.own in
    let session = c.args.session.now in
    let mid = c.commit.new.caller in
    let new = c.follow_commit.new.caller in
    let did = c.commit.ensures in
    let number_then = session.statements + 1 in
    let followed =
    coe 0 1 (i. HasFollowed (did.opening i) (did.number i) session.number number_then c.round_follows-is_due.result (own mid) (own new))
    (OnTrue_at c.if-follow_commit.true c.follow_commit.ensures.followed)
    in
    commits-open (opening old) (number old) session (own old) (own new) c.open_epoch-epoch.result c.round_follows-is_due.result followed.added
    c.open_epoch-epoch.ensures c.round_follows-is_due.ensures followed.follows
    (then-left (opening old) (number old) session.number session.mode c.open_epoch-epoch.result c.open_epoch-epoch.ensures (own old)
    c.requires.holds c.requires.client number_then (own mid) did.own (own new) followed.added followed.left)

pub returns-then-follow_commit-clause-plain : goal.returns-then-follow_commit-clause-plain
returns-then-follow_commit-clause-plain g c =
    let old = c.args.caller.now in
    let opening = g.P.CellCaller.opening in
    let number = g.P.CellCaller.number in
    let own = g.P.CellCaller.own in
    let session = c.args.session.now in
    let mid = c.commit.new.caller in
    let new = c.follow_commit.new.caller in
    let did = c.commit.ensures in
    let number_then = session.statements + 1 in
    let followed =
    coe 0 1 (i. HasFollowed (did.opening i) (did.number i) session.number number_then c.round_follows-is_due.result (own mid) (own new))
    (OnTrue_at c.if-follow_commit.true c.follow_commit.ensures.followed)
    in
    (then-left (opening old) (number old) session.number session.mode c.open_epoch-epoch.result c.open_epoch-epoch.ensures (own old)
    c.requires.holds c.requires.client number_then (own mid) did.own (own new) followed.added followed.left).plain

pub returns-else-follow_commit-clause-plain : goal.returns-else-follow_commit-clause-plain
returns-else-follow_commit-clause-plain g c =
    let old = c.args.caller.now in
    let opening = g.P.CellCaller.opening in
    let number = g.P.CellCaller.number in
    let own = g.P.CellCaller.own in
    let session = c.args.session.now in
    let mid = c.commit.new.caller in
    let new = c.follow_commit.new.caller in
    let did = c.commit.ensures in
    let number_then = session.statements + 1 in
    let stopped =
    coe 0 1 (i. HasStoppedInRound (did.opening i) (did.number i) session.number number_then (own mid) (own new))
    (OnFalse_at c.if-follow_commit.false c.follow_commit.ensures.stopped)
    in
    let after =
    stops-committed (opening old) (number old) session.number session.mode c.open_epoch-epoch.result c.open_epoch-epoch.ensures (own old)
    c.requires.holds c.requires.client number_then (own mid) did.own (own new) stopped
    in
    after.left.plain

pub returns-else-follow_commit-clause-stopped : goal.returns-else-follow_commit-clause-stopped
returns-else-follow_commit-clause-stopped g c =
    let old = c.args.caller.now in
    let opening = g.P.CellCaller.opening in
    let number = g.P.CellCaller.number in
    let own = g.P.CellCaller.own in
    let session = c.args.session.now in
    let mid = c.commit.new.caller in
    let new = c.follow_commit.new.caller in
    let did = c.commit.ensures in
    let number_then = session.statements + 1 in
    let stopped =
    coe 0 1 (i. HasStoppedInRound (did.opening i) (did.number i) session.number number_then (own mid) (own new))
    (OnFalse_at c.if-follow_commit.false c.follow_commit.ensures.stopped)
    in
    let after =
    stops-committed (opening old) (number old) session.number session.mode c.open_epoch-epoch.result c.open_epoch-epoch.ensures (own old)
    c.requires.holds c.requires.client number_then (own mid) did.own (own new) stopped
    in
    (c.open_epoch-epoch.result, c.open_epoch-epoch.ensures, after)

pub returns-then-follow_commit-clause-more : goal.returns-then-follow_commit-clause-more
returns-then-follow_commit-clause-more g c =
    let few = c.requires.counted in
    record { number = refl; statements = refl; every = refl; counted = omega (arith, few) }

pub returns-else-follow_commit-clause-more : goal.returns-else-follow_commit-clause-more
returns-else-follow_commit-clause-more g c =
    let few = c.requires.counted in
    record { number = refl; statements = refl; every = refl; counted = omega (arith, few) }
