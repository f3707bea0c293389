use Rattle.std.proofs.Common.{List, inr, sym, subst}
use Rattle.std.proofs.lemmas.Result.{IfOk-weaker}
use Rattle.board_callers.specs.Callers.{HasHistoryOf}
use Rattle.core_program.specs.CoreFits.{FitsOwnCalls}
use Rattle.cube_core.specs.CoreSteps.{CoreStep}
use Rattle.cube_core.specs.declared.jobs.JobAnswer.{JobAnswer}
use Rattle.cube_core.specs.declared.shard.ShardCall.{ShardCall}
use Rattle.job_groups.specs.AskedEach.{MayAskEach}
use Rattle.job_groups.specs.EachPosted.{LearnsOfEach}
use Rattle.linked_shards.specs.CellShards.{CoreShardStands, CoreShardStep}
use Rattle.session_snapshots.specs.KnownHolds.{HoldsTheSame}
use Rattle.session_groups.proofs.Knowing.{may-scan-each, on-ok, scan-found, scan-keeps, scan-outcomes}
use Rattle.session_groups.specs.AnswersInTurn.{HaveFound, MergeAll}
use Rattle.session_groups.specs.ShardGroups.{HasFoundRows, KnowsOfShards}
use Rattle.shard_events.specs.ShardsInRuns.{FitsShard, ShardAnswerSays}
use Rattle.session_groups.proofs.scans.scan_shards.Goals as goal

pub ask_each_shard-answers-requires-clause-may : goal.ask_each_shard-answers-requires-clause-may
ask_each_shard-answers-requires-clause-may g c =
    let cells = g.P.CellCaller.opening c.args.caller.now in
    let caller = g.P.CellCaller.number c.args.caller.now in
    let own = g.P.CellCaller.own c.args.caller.now in
    subst (λ (l : List ShardCall). KnowsOfShards cells caller c.args.session own (MayAskEach FitsShard c.args.session l)) (sym c.in_ok-calls.ensures)
    (may-scan-each cells caller c.args.session c.requires.client c.requires.session c.args.size.now.shards c.requires.some c.requires.mails
    c.args.shape.now c.args.query.now c.args.snapshot.now own c.requires.holds c.requires.query)

pub merge_answers-requires-clause-found : goal.merge_answers-requires-clause-found
merge_answers-requires-clause-found g c =
    let cells = g.P.CellCaller.opening c.args.caller.now in
    let caller = g.P.CellCaller.number c.args.caller.now in
    let own = g.P.CellCaller.own c.args.caller.now in
    let now = g.P.CellCaller.own c.ask_each_shard-answers.new.caller in
    let took = c.ask_each_shard-answers.ensures in
    let answers = c.ask_each_shard-answers.result.items in
    subst (λ (l : List JobAnswer). HaveFound c.args.query.now l) (sym c.as_slice.ensures.value)
    (scan-outcomes cells caller c.args.session c.requires.client c.requires.session c.args.size.now.shards c.requires.some c.requires.mails
    c.args.shape.now c.args.query.now c.args.snapshot.now own now answers took.answers
    (subst (λ (l : List ShardCall). LearnsOfEach FitsShard CoreShardStands ShardAnswerSays cells caller c.args.session l answers own now)
    c.in_ok-calls.ensures took.learns)
    (coe 0 1 (i. HasHistoryOf (CoreStep CoreShardStep) (FitsOwnCalls FitsShard CoreShardStands ShardAnswerSays) (took.opening i) (took.number i) now)
    took.history))

pub returns-clause-asked : goal.returns-clause-asked
returns-clause-asked g c =
    let cells = g.P.CellCaller.opening c.args.caller.now in
    let caller = g.P.CellCaller.number c.args.caller.now in
    let own = g.P.CellCaller.own c.args.caller.now in
    let now = g.P.CellCaller.own c.ask_each_shard-answers.new.caller in
    let took = c.ask_each_shard-answers.ensures in
    let answers = c.ask_each_shard-answers.result.items in
    inr (record {
      more = took.more;
      answers = answers;
      each = took.answers;
      learns = subst (λ (l : List ShardCall). LearnsOfEach FitsShard CoreShardStands ShardAnswerSays cells caller c.args.session l answers own now)
          c.in_ok-calls.ensures took.learns;
    })

pub returns-clause-all : goal.returns-clause-all
returns-clause-all g c =
    let cells = g.P.CellCaller.opening c.args.caller.now in
    let caller = g.P.CellCaller.number c.args.caller.now in
    let own = g.P.CellCaller.own c.args.caller.now in
    let now = g.P.CellCaller.own c.ask_each_shard-answers.new.caller in
    let took = c.ask_each_shard-answers.ensures in
    let answers = c.ask_each_shard-answers.result.items in
    on-ok c.merge_answers.result
    (record {
      more = took.more;
      answers = answers;
      each = took.answers;
      learns = subst (λ (l : List ShardCall). LearnsOfEach FitsShard CoreShardStands ShardAnswerSays cells caller c.args.session l answers own now)
          c.in_ok-calls.ensures took.learns;
    })

pub returns-clause-holds : goal.returns-clause-holds
returns-clause-holds g c =
    let cells = g.P.CellCaller.opening c.args.caller.now in
    let caller = g.P.CellCaller.number c.args.caller.now in
    let own = g.P.CellCaller.own c.args.caller.now in
    let now = g.P.CellCaller.own c.ask_each_shard-answers.new.caller in
    let took = c.ask_each_shard-answers.ensures in
    let answers = c.ask_each_shard-answers.result.items in
    coe 1 0
    (i. HoldsTheSame FitsShard CoreShardStands ShardAnswerSays c.args.session cells caller own (took.opening i) (took.number i) now)
    (scan-keeps cells caller c.args.session c.requires.client c.requires.session c.args.size.now.shards c.requires.some c.requires.mails
    c.args.shape.now c.args.query.now c.args.snapshot.now own now
    (inr (record {
      more = took.more;
      answers = answers;
      each = took.answers;
      learns = subst (λ (l : List ShardCall). LearnsOfEach FitsShard CoreShardStands ShardAnswerSays cells caller c.args.session l answers own now)
          c.in_ok-calls.ensures took.learns;
    })))

pub returns-clause-found : goal.returns-clause-found
returns-clause-found g c =
    let cells = g.P.CellCaller.opening c.args.caller.now in
    let caller = g.P.CellCaller.number c.args.caller.now in
    let own = g.P.CellCaller.own c.args.caller.now in
    let now = g.P.CellCaller.own c.ask_each_shard-answers.new.caller in
    let took = c.ask_each_shard-answers.ensures in
    let answers = c.ask_each_shard-answers.result.items in
    IfOk-weaker c.merge_answers.result (λ p. MergeAll c.args.query.now c.as_slice.result.now p.groups)
    (λ p. KnowsOfShards (g.P.CellCaller.opening c.ask_each_shard-answers.new.caller) (g.P.CellCaller.number c.ask_each_shard-answers.new.caller)
    c.args.session now (HasFoundRows c.args.session c.args.query.now c.args.snapshot.now p.groups))
    (λ p merged.
    coe 1 0
    (i. KnowsOfShards (took.opening i) (took.number i) c.args.session now (HasFoundRows c.args.session c.args.query.now c.args.snapshot.now p.groups))
    (scan-found cells caller c.args.session c.requires.client c.requires.session c.args.size.now.shards c.requires.some c.requires.mails
    c.args.shape.now c.args.query.now c.args.snapshot.now own now answers p.groups took.answers
    (subst (λ (l : List ShardCall). LearnsOfEach FitsShard CoreShardStands ShardAnswerSays cells caller c.args.session l answers own now)
    c.in_ok-calls.ensures took.learns)
    (subst (λ (l : List JobAnswer). MergeAll c.args.query.now l p.groups) c.as_slice.ensures.value merged)))
    c.merge_answers.ensures
