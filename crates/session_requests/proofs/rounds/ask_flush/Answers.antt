use Rattle.core_program.specs.Knowing.{Knows, MayFetchFrom}
use Rattle.linked_shards.specs.CellShards.{CoreShardStands}
use Rattle.session_requests.proofs.AskedRounds.{may-fetch, may-post, round-end, tells-end}
use Rattle.shard_events.specs.ShardsInRuns.{FitsShard, ShardAnswerSays}
use Rattle.session_requests.proofs.rounds.ask_flush.Goals as goal

pub post_job-requires-clause-may : goal.post_job-requires-clause-may
post_job-requires-clause-may g c =
    may-post (g.P.CellCaller.opening c.args.caller.now) (g.P.CellCaller.number c.args.caller.now) c.args.session c.requires.client
    c.requires.session c.args.size.now.shards c.args.statement c.requires.mail (g.P.CellCaller.own c.args.caller.now)
    c.requires.ready.0 c.requires.ready.1

pub fetch_answer-requires-clause-may : goal.fetch_answer-requires-clause-may
fetch_answer-requires-clause-may g c =
    let did = c.post_job.ensures in
    coe 1 0
    (i. Knows FitsShard CoreShardStands ShardAnswerSays (did.opening i) (did.number i) c.args.session (did.own i)
    (MayFetchFrom c.args.session c.args.size.now.shards))
    (may-fetch (g.P.CellCaller.opening c.args.caller.now) (g.P.CellCaller.number c.args.caller.now) c.args.session c.requires.client
    c.requires.session c.args.size.now.shards c.args.statement c.requires.mail (g.P.CellCaller.own c.args.caller.now)
    c.requires.ready.0 c.requires.ready.1)

pub round_answer_in-requires : goal.round_answer_in-requires
round_answer_in-requires g c =
    let opening = g.P.CellCaller.opening in
    let number = g.P.CellCaller.number in
    let own = g.P.CellCaller.own in
    let posted = c.post_job.new.caller in
    let fetched = c.fetch_answer.new.caller in
    let did = c.post_job.ensures in
    let got = c.fetch_answer.ensures in
    tells-end (opening c.args.caller.now) (number c.args.caller.now) c.args.session c.requires.client c.requires.session
    c.args.size.now.shards c.args.statement c.requires.mail (own c.args.caller.now) c.requires.ready.0 c.requires.ready.1
    (opening posted) (number posted) (own posted) did.opening did.number did.own
    (opening fetched) (number fetched) (own fetched) c.fetch_answer.result
    got.opening got.number got.fetched got.learns got.history

pub returns-clause-more : goal.returns-clause-more
returns-clause-more g c =
    let opening = g.P.CellCaller.opening in
    let number = g.P.CellCaller.number in
    let own = g.P.CellCaller.own in
    let posted = c.post_job.new.caller in
    let fetched = c.fetch_answer.new.caller in
    let did = c.post_job.ensures in
    let got = c.fetch_answer.ensures in
    (round-end (opening c.args.caller.now) (number c.args.caller.now) c.args.session c.requires.client c.requires.session
    c.args.size.now.shards c.args.statement c.requires.mail (own c.args.caller.now) c.requires.ready.0 c.requires.ready.1
    (opening posted) (number posted) (own posted) did.opening did.number did.own
    (opening fetched) (number fetched) (own fetched) c.fetch_answer.result
    got.opening got.number got.fetched got.learns got.history
    c.round_answer_in.result c.round_answer_in.ensures).goes_on

pub returns-clause-learns : goal.returns-clause-learns
returns-clause-learns g c =
    let opening = g.P.CellCaller.opening in
    let number = g.P.CellCaller.number in
    let own = g.P.CellCaller.own in
    let posted = c.post_job.new.caller in
    let fetched = c.fetch_answer.new.caller in
    let did = c.post_job.ensures in
    let got = c.fetch_answer.ensures in
    (round-end (opening c.args.caller.now) (number c.args.caller.now) c.args.session c.requires.client c.requires.session
    c.args.size.now.shards c.args.statement c.requires.mail (own c.args.caller.now) c.requires.ready.0 c.requires.ready.1
    (opening posted) (number posted) (own posted) did.opening did.number did.own
    (opening fetched) (number fetched) (own fetched) c.fetch_answer.result
    got.opening got.number got.fetched got.learns got.history
    c.round_answer_in.result c.round_answer_in.ensures).learns_it

pub returns-clause-same : goal.returns-clause-same
returns-clause-same g c =
    let opening = g.P.CellCaller.opening in
    let number = g.P.CellCaller.number in
    let own = g.P.CellCaller.own in
    let posted = c.post_job.new.caller in
    let fetched = c.fetch_answer.new.caller in
    let did = c.post_job.ensures in
    let got = c.fetch_answer.ensures in
    (round-end (opening c.args.caller.now) (number c.args.caller.now) c.args.session c.requires.client c.requires.session
    c.args.size.now.shards c.args.statement c.requires.mail (own c.args.caller.now) c.requires.ready.0 c.requires.ready.1
    (opening posted) (number posted) (own posted) did.opening did.number did.own
    (opening fetched) (number fetched) (own fetched) c.fetch_answer.result
    got.opening got.number got.fetched got.learns got.history
    c.round_answer_in.result c.round_answer_in.ensures).same

pub returns-clause-notes : goal.returns-clause-notes
returns-clause-notes g c =
    let opening = g.P.CellCaller.opening in
    let number = g.P.CellCaller.number in
    let own = g.P.CellCaller.own in
    let posted = c.post_job.new.caller in
    let fetched = c.fetch_answer.new.caller in
    let did = c.post_job.ensures in
    let got = c.fetch_answer.ensures in
    (round-end (opening c.args.caller.now) (number c.args.caller.now) c.args.session c.requires.client c.requires.session
    c.args.size.now.shards c.args.statement c.requires.mail (own c.args.caller.now) c.requires.ready.0 c.requires.ready.1
    (opening posted) (number posted) (own posted) did.opening did.number did.own
    (opening fetched) (number fetched) (own fetched) c.fetch_answer.result
    got.opening got.number got.fetched got.learns got.history
    c.round_answer_in.result c.round_answer_in.ensures).notes
