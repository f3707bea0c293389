use Rattle.std.proofs.Common.{◌∙◌, ℕ, List, length, ap, arith, subst, sym}
use Rattle.session_batches.specs.Refusals.{first_refusal, put_by_answer}
use Rattle.job_groups.specs.AskedSome.{HasAskedSome, MayAskSome, posts_to}
use Rattle.linked_shards.specs.CellShards.{CoreShardStands}
use Rattle.shard_events.specs.ShardsInRuns.{FitsShard, ShardAnswerSays}
use Rattle.session_batches.specs.PutRows.{HasPut}
use Rattle.session_batches.specs.declared.answers.PutEnd.{PutEnd}
use Rattle.core_events.specs.Clients.{calls_of}
use Rattle.session_batches.proofs.Appending.{one-kind}
use Rattle.session_batches.proofs.Putting.{none-put, some-put}
use Rattle.session_batches.proofs.rows.ask_appends.Goals as goal

pub returns-then-len-eq0-clause-learns : goal.returns-then-len-eq0-clause-learns
returns-then-len-eq0-clause-learns g c = λ o log run es later are.
    let ok = c.args.appends.numbers.ok.0 in
    let is = c.len.ensures in
    let none = c.if-len-eq0.true in
    none-put o c.args.session c.args.appends.numbers.items c.args.appends.calls.items
    (g.P.CellCaller.own c.args.caller.now) es
    (omega (arith, ok, is, none)) are

pub ask_some_shards-answers-requires-clause-kind :
    goal.ask_some_shards-answers-requires-clause-kind
ask_some_shards-answers-requires-clause-kind g c = one-kind c.args.appends.calls.items c.requires.appends

pub ask_some_shards-answers-requires-clause-may : goal.ask_some_shards-answers-requires-clause-may
ask_some_shards-answers-requires-clause-may g c = λ o log run es later are.
    subst (λ (l : List ℕ). MayAskSome FitsShard c.args.session l c.args.appends.calls.items o
    (calls_of c.args.session es))
    (sym c.as_slice.ensures.value) (c.requires.may o log run es later are)

pub returns-clause-learns : goal.returns-clause-learns
returns-clause-learns g c = λ o log run es later are.
    let ok = c.args.appends.numbers.ok.0 in
    let is = c.len.ensures in
    let some = c.if-len-eq0.false in
    let asked = coe 0 1 (i. HasAskedSome FitsShard CoreShardStands ShardAnswerSays (c.as_slice.ensures.value i)
    c.args.appends.calls.items o c.args.session c.ask_some_shards-answers.result.items
    (g.P.CellCaller.own c.args.caller.now) es)
    (c.ask_some_shards-answers.ensures.learns o log run es later are) in
    let put = some-put o c.args.session c.args.appends.numbers.items c.args.appends.calls.items
    c.ask_some_shards-answers.result.items
    (g.P.CellCaller.own c.args.caller.now) es c.requires.each (c.ask_some_shards-answers.ensures.answers
    ∙ ap (λ (l : List ℕ). length l) c.as_slice.ensures.value) (omega (arith, ok, is, some)) c.requires.appends
    asked in
    subst (λ (p : PutEnd). HasPut c.args.appends.numbers.items
    (posts_to c.args.appends.numbers.items c.args.appends.calls.items) p o c.args.session
    (g.P.CellCaller.own c.args.caller.now) es) (sym (c.first_refusal.ensures
    ∙ (λ i. first_refusal put_by_answer (c.as_slice-2.ensures.value i) (c.as_slice-3.ensures.value i)))) put
