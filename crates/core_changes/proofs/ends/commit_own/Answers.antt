use Rattle.std.proofs.Common.{◌+◌, None}
use Rattle.core_changes.proofs.Finishing.{both-after, commits-more, finishes-if, stops-if}
use Rattle.core_program.specs.Knowing.{IsClientOf, IsMailAt, IsSessionOf, ServesClient}
use Rattle.job_groups.specs.AskedEach.{AreShardMails}
use Rattle.linked_shards.specs.CellShards.{CoreShardStands}
use Rattle.shard_events.specs.ShardsInRuns.{FitsShard, ShardAnswerSays}
use Rattle.std.specs.Bool.{OnFalse, OnTrue}
use Rattle.shard_requests.specs.RoundsAfter.{HasFollowed, HasStoppedInRound}
use Rattle.core_changes.proofs.ends.commit_own.Goals as goal

pub commit-requires-clause-client : goal.commit-requires-clause-client
commit-requires-clause-client g c = c.requires.served.client

pub commit-requires-clause-session : goal.commit-requires-clause-session
commit-requires-clause-session g c = c.requires.served.is_session

pub commit-requires-clause-holds : goal.commit-requires-clause-holds
commit-requires-clause-holds g c = (c.args.writer.now, c.requires.holds)

pub follow_commit-requires-clause-some : goal.follow_commit-requires-clause-some
follow_commit-requires-clause-some g c = c.requires.served.some

pub follow_commit-requires-clause-client : goal.follow_commit-requires-clause-client
follow_commit-requires-clause-client g c =
    coe 1 0 (i. IsClientOf FitsShard CoreShardStands ShardAnswerSays (c.commit.ensures.opening i)
    (c.commit.ensures.number i) c.args.session.now.number) c.requires.served.client

pub follow_commit-requires-clause-session : goal.follow_commit-requires-clause-session
follow_commit-requires-clause-session g c =
    coe 1 0 (i. IsSessionOf FitsShard CoreShardStands ShardAnswerSays (c.commit.ensures.opening i)
    c.args.session.now.number) c.requires.served.is_session

pub follow_commit-requires-clause-mails : goal.follow_commit-requires-clause-mails
follow_commit-requires-clause-mails g c =
    let shards = c.args.size.now.shards in
    coe 1 0 (i. AreShardMails FitsShard CoreShardStands ShardAnswerSays (c.commit.ensures.opening i)
    c.args.session.now.number shards (2 + shards)) c.requires.served.mails

pub follow_commit-requires-clause-mail : goal.follow_commit-requires-clause-mail
follow_commit-requires-clause-mail g c =
    let shards = c.args.size.now.shards in
    coe 1 0 (i. IsMailAt FitsShard CoreShardStands ShardAnswerSays (c.commit.ensures.opening i) shards
    (2 + shards + shards)) c.requires.served.flush_mail

pub follow_commit-requires-clause-serves : goal.follow_commit-requires-clause-serves
follow_commit-requires-clause-serves g c =
    coe 1 0 (i. ServesClient FitsShard CoreShardStands ShardAnswerSays (c.commit.ensures.opening i)
    c.args.session.now.number c.args.size.now.shards) c.requires.served.flush_serves

pub follow_commit-requires-clause-ready : goal.follow_commit-requires-clause-ready
follow_commit-requires-clause-ready g c = (None, c.commit.ensures.holds)

pub returns-clause-holds : goal.returns-clause-holds
returns-clause-holds g c = c.follow_commit.ensures.same.ready None c.commit.ensures.holds

pub returns-clause-becomes : goal.returns-clause-becomes
returns-clause-becomes g c =
    let old = c.args.caller.now in
    let own = g.P.CellCaller.own in
    commits-more (g.P.CellCaller.opening old) (g.P.CellCaller.number old) c.args.session.now (own old)
    (own c.commit.new.caller) (own c.follow_commit.new.caller) c.args.writer.now c.requires.served.client
    c.requires.holds c.requires.idle c.commit.ensures.own

pub returns-clause-finished : goal.returns-clause-finished
returns-clause-finished g c =
    let old = c.args.caller.now in
    let own = g.P.CellCaller.own in
    let session = c.args.session.now in
    let did = c.commit.ensures in
    finishes-if (g.P.CellCaller.opening old) (g.P.CellCaller.number old) session (own old) (own c.commit.new.caller)
    (own c.follow_commit.new.caller) c.args.writer.now c.requires.served.client c.requires.holds c.requires.idle did.own
    c.round_follows-is_due.result c.follow_commit.result c.round_follows-is_due.ensures
    (coe 0 1 (i. OnTrue c.follow_commit.result (HasFollowed (did.opening i) (did.number i) session.number
    session.statements c.round_follows-is_due.result (own c.commit.new.caller) (own c.follow_commit.new.caller)))
    c.follow_commit.ensures.followed)

pub returns-clause-stopped : goal.returns-clause-stopped
returns-clause-stopped g c =
    let old = c.args.caller.now in
    let own = g.P.CellCaller.own in
    let session = c.args.session.now in
    let did = c.commit.ensures in
    stops-if (g.P.CellCaller.opening old) (g.P.CellCaller.number old) session (own old) (own c.commit.new.caller)
    (own c.follow_commit.new.caller) c.args.writer.now c.requires.served.client c.requires.holds c.requires.idle did.own
    c.follow_commit.result
    (coe 0 1 (i. OnFalse c.follow_commit.result (HasStoppedInRound (did.opening i) (did.number i) session.number
    session.statements (own c.commit.new.caller) (own c.follow_commit.new.caller))) c.follow_commit.ensures.stopped)

pub returns-clause-more : goal.returns-clause-more
returns-clause-more g c =
    let old = c.args.caller.now in
    let own = g.P.CellCaller.own in
    let session = c.args.session.now in
    let did = c.commit.ensures in
    (both-after (g.P.CellCaller.opening old) (g.P.CellCaller.number old) session (own old) (own c.commit.new.caller)
    (own c.follow_commit.new.caller) c.args.writer.now c.requires.served.client c.requires.holds c.requires.idle did.own
    c.round_follows-is_due.result c.follow_commit.result
    (coe 0 1 (i. OnTrue c.follow_commit.result (HasFollowed (did.opening i) (did.number i) session.number
    session.statements c.round_follows-is_due.result (own c.commit.new.caller) (own c.follow_commit.new.caller)))
    c.follow_commit.ensures.followed)
    (coe 0 1 (i. OnFalse c.follow_commit.result (HasStoppedInRound (did.opening i) (did.number i) session.number
    session.statements (own c.commit.new.caller) (own c.follow_commit.new.caller))) c.follow_commit.ensures.stopped)).0

pub returns-clause-plain : goal.returns-clause-plain
returns-clause-plain g c =
    let old = c.args.caller.now in
    let own = g.P.CellCaller.own in
    let session = c.args.session.now in
    let did = c.commit.ensures in
    (both-after (g.P.CellCaller.opening old) (g.P.CellCaller.number old) session (own old) (own c.commit.new.caller)
    (own c.follow_commit.new.caller) c.args.writer.now c.requires.served.client c.requires.holds c.requires.idle did.own
    c.round_follows-is_due.result c.follow_commit.result
    (coe 0 1 (i. OnTrue c.follow_commit.result (HasFollowed (did.opening i) (did.number i) session.number
    session.statements c.round_follows-is_due.result (own c.commit.new.caller) (own c.follow_commit.new.caller)))
    c.follow_commit.ensures.followed)
    (coe 0 1 (i. OnFalse c.follow_commit.result (HasStoppedInRound (did.opening i) (did.number i) session.number
    session.statements (own c.commit.new.caller) (own c.follow_commit.new.caller))) c.follow_commit.ensures.stopped)).1
