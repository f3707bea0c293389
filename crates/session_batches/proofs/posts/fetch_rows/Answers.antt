use Rattle.std.proofs.Common.{◌∙◌, ◌<◌, ℕ, List, nat_eq, All, arith, subst, sym, ap, length}
use Rattle.std.specs.List.{IsDistinct}
use Rattle.core_events.specs.Clients.{calls_of}
use Rattle.job_groups.specs.PostedSome.{AwaitsSome, HasFetchedSome}
use Rattle.linked_shards.specs.CellShards.{CoreShardStands}
use Rattle.shard_events.specs.ShardsInRuns.{FitsShard, ShardAnswerSays}
use Rattle.session_batches.specs.PutRows.{HoldsAfterPut}
use Rattle.session_batches.specs.Refusals.{first_refusal, put_by_answer}
use Rattle.session_batches.specs.RowsOut.{HasFetchedRows}
use Rattle.session_batches.specs.declared.answers.PutEnd.{PutEnd}
use Rattle.session_batches.specs.declared.answers.PutEnd.TheVariants as put
use Rattle.job_groups.proofs.FetchLoops.{earlier}
use Rattle.session_batches.proofs.GoneOut.{awaits-rows, left-by-fetches, none-fetched-rows, some-fetched-rows}
use Rattle.session_batches.proofs.Putting.{holds-after}
use Rattle.session_batches.proofs.posts.fetch_rows.Goals as goal

pub returns-then-len-eq0-clause-learns : goal.returns-then-len-eq0-clause-learns
returns-then-len-eq0-clause-learns g c = λ o log run es later are.
    let ok = c.args.out.shards.ok.0 in
    let is = c.len.ensures in
    let none = c.if-len-eq0.true in
    none-fetched-rows o c.args.session c.args.out.shards.items (g.P.CellCaller.own c.args.caller.now) es
    (omega (arith, ok, is, none)) are

pub returns-then-len-eq0-clause-holds : goal.returns-then-len-eq0-clause-holds
returns-then-len-eq0-clause-holds g c = λ writer holds.
    let own = g.P.CellCaller.own c.args.caller.now in
    let cells = g.P.CellCaller.opening c.args.caller.now in
    let caller = g.P.CellCaller.number c.args.caller.now in
    holds-after cells caller c.args.session own writer put.Done
    (λ o log run es later are.
    let f = returns-then-len-eq0-clause-learns g c o log run es later are in
    left-by-fetches o c.args.session writer c.groups_have_their_answers.ensures.refused_some
    c.sessions_write_to_their_shards.ensures.written c.sessions_write_to_their_shards.ensures.spoiled
    c.args.out.shards.items put.Done own es f
    (holds o log run f.before later f.events))

pub fetch_some_shards-answers-requires-clause-below : goal.fetch_some_shards-answers-requires-clause-below
fetch_some_shards-answers-requires-clause-below g c =
    subst (λ (l : List ℕ). All (λ (n : ℕ). n < c.args.size.now.shards) l) (sym c.as_slice.ensures.value)
    c.requires.out.below

pub fetch_some_shards-answers-requires-clause-once : goal.fetch_some_shards-answers-requires-clause-once
fetch_some_shards-answers-requires-clause-once g c =
    subst (λ (l : List ℕ). IsDistinct nat_eq l) (sym c.as_slice.ensures.value) c.requires.out.once

pub fetch_some_shards-answers-requires-clause-awaits : goal.fetch_some_shards-answers-requires-clause-awaits
fetch_some_shards-answers-requires-clause-awaits g c = λ o log run es later are.
    let ok = c.args.out.shards.ok.0 in
    let is = c.len.ensures in
    let some = c.if-len-eq0.false in
    subst (λ (l : List ℕ). AwaitsSome c.args.session l o (calls_of c.args.session es)) (sym c.as_slice.ensures.value)
    (awaits-rows o c.args.session c.requires.waits.writer c.args.out.shards.items (calls_of c.args.session es)
    (omega (arith, ok, is, some)) (c.requires.waits.holds o log run es later are))

pub fetch_some_shards-answers-requires-clause-empty : goal.fetch_some_shards-answers-requires-clause-empty
fetch_some_shards-answers-requires-clause-empty g c = c.requires.out.empty

pub fetch_some_shards-answers-requires-clause-room : goal.fetch_some_shards-answers-requires-clause-room
fetch_some_shards-answers-requires-clause-room g c =
    let same = ap (λ (l : List ℕ). length l) c.as_slice.ensures.value in
    let room = c.requires.out.room in
    omega (arith, same, room)

pub returns-clause-learns : goal.returns-clause-learns
returns-clause-learns g c = λ o log run es later are.
    let ok = c.args.out.shards.ok.0 in
    let is = c.len.ensures in
    let some = c.if-len-eq0.false in
    let own = g.P.CellCaller.own c.args.caller.now in
    let cells = g.P.CellCaller.opening c.args.caller.now in
    let caller = g.P.CellCaller.number c.args.caller.now in
    let e = c.fetch_some_shards-answers.ensures in
    let numbers = c.args.out.shards.items in
    let answers = c.fetch_some_shards-answers.result.items in
    let f = coe 0 1 (i. HasFetchedSome FitsShard CoreShardStands ShardAnswerSays (c.as_slice.ensures.value i) o
    c.args.session answers own es) (e.learns o log run es later are) in
    let first = earlier FitsShard CoreShardStands ShardAnswerSays cells caller c.args.session numbers o own
    (g.P.CellCaller.own c.fetch_some_shards-answers.new.caller) log run e.more later in
    subst (λ (p : PutEnd). HasFetchedRows numbers p o c.args.session own es)
    (sym (c.first_refusal.ensures
    ∙ (λ i. first_refusal put_by_answer (c.as_slice-2.ensures.value i) (c.as_slice-3.ensures.value i))))
    (some-fetched-rows o c.args.session c.requires.waits.writer numbers answers own es (omega (arith, ok, is, some))
    (e.answers ∙ ap (λ (l : List ℕ). length l) c.as_slice.ensures.value) f
    (c.requires.waits.holds o log run f.before first f.events))

pub returns-clause-holds : goal.returns-clause-holds
returns-clause-holds g c = λ writer holds.
    let own = g.P.CellCaller.own c.args.caller.now in
    let now = g.P.CellCaller.own c.fetch_some_shards-answers.new.caller in
    let cells = g.P.CellCaller.opening c.args.caller.now in
    let caller = g.P.CellCaller.number c.args.caller.now in
    let e = c.fetch_some_shards-answers.ensures in
    let numbers = c.args.out.shards.items in
    coe 1 0
    (i. HoldsAfterPut (e.opening i) (e.number i) c.args.session now writer c.first_refusal.result)
    (holds-after cells caller c.args.session now writer c.first_refusal.result
    (λ o log run es later are.
    let f = returns-clause-learns g c o log run es later are in
    let first = earlier FitsShard CoreShardStands ShardAnswerSays cells caller c.args.session numbers o own now log run
    e.more later in
    left-by-fetches o c.args.session writer c.groups_have_their_answers.ensures.refused_some
    c.sessions_write_to_their_shards.ensures.written c.sessions_write_to_their_shards.ensures.spoiled
    numbers c.first_refusal.result own es f (holds o log run f.before first f.events)))
