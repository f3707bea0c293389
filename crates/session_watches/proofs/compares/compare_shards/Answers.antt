use Rattle.std.proofs.Common.{List, inr, sym, subst}
use Rattle.std.proofs.lemmas.Result.{IfOk-weaker}
use Rattle.board_callers.specs.Callers.{HasHistoryOf}
use Rattle.core_program.specs.CoreFits.{FitsOwnCalls}
use Rattle.cube_core.specs.CoreSteps.{CoreStep}
use Rattle.cube_core.specs.declared.jobs.JobAnswer.{JobAnswer}
use Rattle.cube_core.specs.declared.shard.ShardCall.{ShardCall}
use Rattle.cube_core.specs.declared.shard.ShardCall.TheVariants as call
use Rattle.job_groups.specs.AskedEach.{MayAskEach}
use Rattle.job_groups.specs.EachPosted.{LearnsOfEach}
use Rattle.linked_shards.specs.CellShards.{CoreShardStands, CoreShardStep}
use Rattle.session_snapshots.specs.KnownHolds.{HoldsTheSame}
use Rattle.session_groups.proofs.Knowing.{on-ok}
use Rattle.session_watches.proofs.AskedShards.{asked-keeps, delta-found, delta-keeps, delta-outcomes, may-compare-each}
use Rattle.session_watches.specs.ComparedShards.{HasFoundChange}
use Rattle.session_watches.specs.DeltaAnswers.{HaveCompared, MergeAllChanges}
use Rattle.session_watches.specs.KnownReaders.{HoldersKeep}
use Rattle.session_groups.specs.ShardGroups.{KnowsOfShards}
use Rattle.shard_events.specs.ShardsInRuns.{FitsShard, ShardAnswerSays}
use Rattle.session_watches.proofs.compares.compare_shards.Goals as goal

pub ask_each_shard-answers-requires-clause-may : goal.ask_each_shard-answers-requires-clause-may
ask_each_shard-answers-requires-clause-may g c =
    let cells = g.P.CellCaller.opening c.args.caller.now in
    let caller = g.P.CellCaller.number c.args.caller.now in
    let own = g.P.CellCaller.own c.args.caller.now in
    subst (λ (l : List ShardCall). KnowsOfShards cells caller c.args.session own (MayAskEach FitsShard c.args.session l)) (sym c.in_ok-calls.ensures)
    (may-compare-each cells caller c.args.session c.requires.client c.requires.session c.args.size.now.shards c.requires.some c.requires.mails
    c.args.shape.now c.args.query.now c.requires.readers.0 c.args.from c.requires.readers.1 c.args.to own c.requires.ready.0
    c.requires.ready.1 c.requires.readers.2 c.requires.query)

pub merge_changes-requires-clause-compared : goal.merge_changes-requires-clause-compared
merge_changes-requires-clause-compared g c =
    let cells = g.P.CellCaller.opening c.args.caller.now in
    let caller = g.P.CellCaller.number c.args.caller.now in
    let own = g.P.CellCaller.own c.args.caller.now in
    let now = g.P.CellCaller.own c.ask_each_shard-answers.new.caller in
    let took = c.ask_each_shard-answers.ensures in
    let answers = c.ask_each_shard-answers.result.items in
    subst (λ (l : List JobAnswer). HaveCompared c.args.query.now l) (sym c.as_slice.ensures.value)
    (delta-outcomes cells caller c.args.session c.requires.client c.requires.session c.args.size.now.shards c.requires.some c.requires.mails
    c.args.shape.now c.args.query.now c.args.from c.args.to own now answers took.answers
    (subst (λ (l : List ShardCall). LearnsOfEach FitsShard CoreShardStands ShardAnswerSays cells caller c.args.session l answers own now)
    c.in_ok-calls.ensures took.learns)
    (coe 0 1 (i. HasHistoryOf (CoreStep CoreShardStep) (FitsOwnCalls FitsShard CoreShardStands ShardAnswerSays) (took.opening i) (took.number i) now)
    took.history))

pub returns-clause-asked : goal.returns-clause-asked
returns-clause-asked g c =
    let cells = g.P.CellCaller.opening c.args.caller.now in
    let caller = g.P.CellCaller.number c.args.caller.now in
    let own = g.P.CellCaller.own c.args.caller.now in
    let now = g.P.CellCaller.own c.ask_each_shard-answers.new.caller in
    let took = c.ask_each_shard-answers.ensures in
    let answers = c.ask_each_shard-answers.result.items in
    inr (record {
      more = took.more;
      answers = answers;
      each = took.answers;
      learns = subst (λ (l : List ShardCall). LearnsOfEach FitsShard CoreShardStands ShardAnswerSays cells caller c.args.session l answers own now)
          c.in_ok-calls.ensures took.learns;
    })

pub returns-clause-all : goal.returns-clause-all
returns-clause-all g c =
    let cells = g.P.CellCaller.opening c.args.caller.now in
    let caller = g.P.CellCaller.number c.args.caller.now in
    let own = g.P.CellCaller.own c.args.caller.now in
    let now = g.P.CellCaller.own c.ask_each_shard-answers.new.caller in
    let took = c.ask_each_shard-answers.ensures in
    let answers = c.ask_each_shard-answers.result.items in
    on-ok c.merge_changes.result
    (record {
      more = took.more;
      answers = answers;
      each = took.answers;
      learns = subst (λ (l : List ShardCall). LearnsOfEach FitsShard CoreShardStands ShardAnswerSays cells caller c.args.session l answers own now)
          c.in_ok-calls.ensures took.learns;
    })

pub returns-clause-same : goal.returns-clause-same
returns-clause-same g c =
    let cells = g.P.CellCaller.opening c.args.caller.now in
    let caller = g.P.CellCaller.number c.args.caller.now in
    let own = g.P.CellCaller.own c.args.caller.now in
    let now = g.P.CellCaller.own c.ask_each_shard-answers.new.caller in
    let took = c.ask_each_shard-answers.ensures in
    let answers = c.ask_each_shard-answers.result.items in
    coe 1 0
    (i. HoldsTheSame FitsShard CoreShardStands ShardAnswerSays c.args.session cells caller own (took.opening i) (took.number i) now)
    (delta-keeps cells caller c.args.session c.requires.client c.requires.session c.args.size.now.shards c.requires.some c.requires.mails
    c.args.shape.now c.args.query.now c.args.from c.args.to own now
    (inr (record {
      more = took.more;
      answers = answers;
      each = took.answers;
      learns = subst (λ (l : List ShardCall). LearnsOfEach FitsShard CoreShardStands ShardAnswerSays cells caller c.args.session l answers own now)
          c.in_ok-calls.ensures took.learns;
    })))

pub returns-clause-holders : goal.returns-clause-holders
returns-clause-holders g c =
    let cells = g.P.CellCaller.opening c.args.caller.now in
    let caller = g.P.CellCaller.number c.args.caller.now in
    let own = g.P.CellCaller.own c.args.caller.now in
    let now = g.P.CellCaller.own c.ask_each_shard-answers.new.caller in
    let took = c.ask_each_shard-answers.ensures in
    let answers = c.ask_each_shard-answers.result.items in
    coe 1 0
    (i. HoldersKeep FitsShard CoreShardStands ShardAnswerSays c.args.session cells caller own (took.opening i) (took.number i) now)
    (asked-keeps cells caller c.args.session c.requires.client c.requires.session c.args.size.now.shards c.requires.some c.requires.mails
    (call.Delta c.args.shape.now c.args.query.now c.args.from c.args.to) own now
    (inr (record {
      more = took.more;
      answers = answers;
      each = took.answers;
      learns = subst (λ (l : List ShardCall). LearnsOfEach FitsShard CoreShardStands ShardAnswerSays cells caller c.args.session l answers own now)
          c.in_ok-calls.ensures took.learns;
    })))

pub returns-clause-history : goal.returns-clause-history
returns-clause-history g c = on-ok c.merge_changes.result c.ask_each_shard-answers.ensures.history

pub returns-clause-found : goal.returns-clause-found
returns-clause-found g c =
    let cells = g.P.CellCaller.opening c.args.caller.now in
    let caller = g.P.CellCaller.number c.args.caller.now in
    let own = g.P.CellCaller.own c.args.caller.now in
    let now = g.P.CellCaller.own c.ask_each_shard-answers.new.caller in
    let took = c.ask_each_shard-answers.ensures in
    let answers = c.ask_each_shard-answers.result.items in
    IfOk-weaker c.merge_changes.result (MergeAllChanges c.args.query.now c.as_slice.result.now)
    (λ p. KnowsOfShards (g.P.CellCaller.opening c.ask_each_shard-answers.new.caller) (g.P.CellCaller.number c.ask_each_shard-answers.new.caller)
    c.args.session now (HasFoundChange c.args.session c.args.query.now c.args.from c.args.to p))
    (λ p merged.
    coe 1 0
    (i. KnowsOfShards (took.opening i) (took.number i) c.args.session now (HasFoundChange c.args.session c.args.query.now c.args.from c.args.to p))
    (delta-found cells caller c.args.session c.requires.client c.requires.session c.args.size.now.shards c.requires.some c.requires.mails
    c.args.shape.now c.args.query.now c.args.from c.args.to own now answers p took.answers
    (subst (λ (l : List ShardCall). LearnsOfEach FitsShard CoreShardStands ShardAnswerSays cells caller c.args.session l answers own now)
    c.in_ok-calls.ensures took.learns)
    (subst (λ (l : List JobAnswer). MergeAllChanges c.args.query.now l p) c.as_slice.ensures.value merged)))
    c.merge_changes.ensures
