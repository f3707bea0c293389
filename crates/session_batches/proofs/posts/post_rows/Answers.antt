use Rattle.std.proofs.Common.{◌∙◌, ◌<◌, ℕ, nat_eq, List, All, ap, arith, length, subst, sym}
use Rattle.std.specs.List.{IsDistinct}
use Rattle.core_program.specs.Knowing.{IsLaterRun}
use Rattle.core_events.specs.Clients.{calls_of}
use Rattle.core_program.specs.CoreFits.{CoreEntry}
use Rattle.cube_core.specs.declared.shard.ShardCall.{ShardCall}
use Rattle.job_groups.specs.AskedSome.{MayAskSome, posts_to}
use Rattle.linked_shards.specs.CellShards.{CoreShardStands}
use Rattle.shard_events.specs.ShardsInRuns.{FitsShard, ShardAnswerSays}
use Rattle.session_batches.specs.BatchCalls.{AreAppends}
use Rattle.session_batches.specs.RowsOut.{HasPostedRows, HoldsRowsOut}
use Rattle.session_batches.proofs.Appending.{are-appends, call-for-each, distinct-numbers, numbers-below}
use Rattle.session_batches.proofs.Posting.{split-numbers, split-posts}
use Rattle.session_batches.proofs.GoneOut.{rows-out}
use Rattle.session_batches.proofs.Putting.{may-ask}
use Rattle.session_batches.proofs.posts.post_rows.Goals as goal

pub post_appends-requires-clause-below : goal.post_appends-requires-clause-below
post_appends-requires-clause-below g c =
    let each = c.in_ok-appends.ensures.split.each in
    subst (λ (l : List ℕ). All (λ (n : ℕ). n < c.args.size.now.shards) l) (sym c.in_ok-appends.ensures.numbers_are)
    (numbers-below 0 c.args.size.now.shards c.in_ok-appends.ensures.batches (omega (arith, each)))

pub post_appends-requires-clause-once : goal.post_appends-requires-clause-once
post_appends-requires-clause-once g c =
    subst (λ (l : List ℕ). IsDistinct nat_eq l) (sym c.in_ok-appends.ensures.numbers_are)
    (distinct-numbers 0 c.in_ok-appends.ensures.batches)

pub post_appends-requires-clause-each : goal.post_appends-requires-clause-each
post_appends-requires-clause-each g c =
    ap (λ (l : List ShardCall). length l) c.in_ok-appends.ensures.calls_are
    ∙ call-for-each c.args.cube c.args.shape.now c.args.writer.now.epoch 0 c.in_ok-appends.ensures.batches
    ∙ sym (ap (λ (l : List ℕ). length l) c.in_ok-appends.ensures.numbers_are)

pub post_appends-requires-clause-appends : goal.post_appends-requires-clause-appends
post_appends-requires-clause-appends g c =
    subst (λ (l : List ShardCall). AreAppends l) (sym c.in_ok-appends.ensures.calls_are)
    (are-appends c.args.cube c.args.shape.now c.args.writer.now.epoch c.in_ok-appends.ensures.batches)

pub post_appends-requires-clause-may : goal.post_appends-requires-clause-may
post_appends-requires-clause-may g c = λ o log run es later are.
    coe 1 0
    (i. MayAskSome FitsShard c.args.session (c.in_ok-appends.ensures.numbers_are i) (c.in_ok-appends.ensures.calls_are i)
    o (calls_of c.args.session es))
    (may-ask o c.args.session c.args.size.now.shards c.args.cube c.args.shape.now c.args.writer.now
    c.sessions_write_to_their_shards.ensures.may_put c.args.rows c.in_ok-appends.ensures.batches
    (calls_of c.args.session es)
    c.in_ok-appends.ensures.split c.requires.rows (c.requires.session o log later.opens)
    (c.requires.holds o log run es later are) (c.requires.may o log run es later are))

pub returns-clause-holds : goal.returns-clause-holds
returns-clause-holds g c =
    let own = g.P.CellCaller.own c.args.caller.now in
    let now = g.P.CellCaller.own c.post_appends.new.caller in
    let cells = g.P.CellCaller.opening c.args.caller.now in
    let caller = g.P.CellCaller.number c.args.caller.now in
    let asked = c.post_appends.ensures in
    let numbers = c.in_ok-appends.appends.numbers.items in
    coe 1 0
    (i. HoldsRowsOut (asked.opening i) (asked.number i) c.args.session now c.args.writer.now (asked.shards i))
    (λ o log run es later are.
    let h = asked.learns o log run es later are in
    let more = asked.more in
    let first = c.own_calls_go_on.ensures.runs cells o caller own more.more log run
    (subst (λ (l : List CoreEntry). IsLaterRun FitsShard CoreShardStands ShardAnswerSays cells o caller l log run)
    more.whole later) in
    rows-out o c.args.session c.args.writer.now numbers
    (posts_to numbers c.in_ok-appends.appends.calls.items) own es h
    (c.requires.holds o log run h.before first h.events))

pub returns-clause-learns : goal.returns-clause-learns
returns-clause-learns g c = λ o log run es later are.
    let split = c.in_ok-appends.ensures.split in
    let numbers = c.in_ok-appends.ensures.numbers_are
    ∙ split-numbers c.args.shape.now.shape.sizes c.args.size.now.shards c.args.rows c.in_ok-appends.ensures.batches
    split in
    let posts = (λ i. posts_to (c.in_ok-appends.ensures.numbers_are i) (c.in_ok-appends.ensures.calls_are i))
    ∙ split-posts c.args.shape.now.shape.sizes c.args.size.now.shards c.args.rows c.in_ok-appends.ensures.batches
    c.args.cube c.args.shape.now
    c.args.writer.now.epoch split in
    coe 0 1 (i. HasPostedRows (numbers i) (posts i) o c.args.session
    (g.P.CellCaller.own c.args.caller.now) es)
    (c.post_appends.ensures.learns o log run es later are)
