use Rattle.std.proofs.Common.{ℕ, List, arith, subst, sym}
use Rattle.core_events.specs.Clients.{calls_of}
use Rattle.job_groups.specs.AskedSome.{MayAskSome}
use Rattle.job_groups.specs.PostedSome.{HasPostedSome}
use Rattle.linked_shards.specs.CellShards.{CoreShardStands}
use Rattle.shard_events.specs.ShardsInRuns.{FitsShard, ShardAnswerSays}
use Rattle.session_batches.proofs.Appending.{one-kind}
use Rattle.session_batches.proofs.GoneOut.{none-posted-rows, some-posted-rows}
use Rattle.session_batches.proofs.posts.post_appends.Goals as goal

pub returns-then-len-eq0-clause-out : goal.returns-then-len-eq0-clause-out
returns-then-len-eq0-clause-out g c = record {
  below = c.requires.below;
  once = c.requires.once;
  empty = c.requires.empty;
  room = c.requires.room;
}

pub returns-then-len-eq0-clause-learns : goal.returns-then-len-eq0-clause-learns
returns-then-len-eq0-clause-learns g c = λ o log run es later are.
    let ok = c.args.appends.numbers.ok.0 in
    let is = c.len.ensures in
    let none = c.if-len-eq0.true in
    none-posted-rows o c.args.session c.args.appends.numbers.items c.args.appends.calls.items
    (g.P.CellCaller.own c.args.caller.now) es
    (omega (arith, ok, is, none)) are

pub post_some_shards-requires-clause-kind : goal.post_some_shards-requires-clause-kind
post_some_shards-requires-clause-kind g c = one-kind c.args.appends.calls.items c.requires.appends

pub post_some_shards-requires-clause-may : goal.post_some_shards-requires-clause-may
post_some_shards-requires-clause-may g c = λ o log run es later are.
    subst (λ (l : List ℕ). MayAskSome FitsShard c.args.session l c.args.appends.calls.items o
    (calls_of c.args.session es))
    (sym c.as_slice.ensures.value) (c.requires.may o log run es later are)

pub returns-clause-out : goal.returns-clause-out
returns-clause-out g c = record {
  below = c.requires.below;
  once = c.requires.once;
  empty = c.requires.empty;
  room = c.requires.room;
}

pub returns-clause-learns : goal.returns-clause-learns
returns-clause-learns g c = λ o log run es later are.
    let ok = c.args.appends.numbers.ok.0 in
    let is = c.len.ensures in
    let some = c.if-len-eq0.false in
    some-posted-rows o c.args.session c.args.appends.numbers.items c.args.appends.calls.items
    (g.P.CellCaller.own c.args.caller.now) es (omega (arith, ok, is, some)) c.requires.each c.requires.appends
    (coe 0 1 (i. HasPostedSome FitsShard CoreShardStands ShardAnswerSays (c.as_slice.ensures.value i)
    c.args.appends.calls.items o c.args.session (g.P.CellCaller.own c.args.caller.now) es)
    (c.post_some_shards.ensures.learns o log run es later are))
