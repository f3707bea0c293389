use Rattle.std.proofs.Common.{List, inr, sym, subst}
use Rattle.std.proofs.lemmas.Result.{IfOk-weaker}
use Rattle.board_callers.specs.Callers.{HasHistoryOf}
use Rattle.core_events.specs.Clients.{reader_up_to}
use Rattle.core_program.specs.CoreFits.{FitsOwnCalls}
use Rattle.cube_core.specs.CoreSteps.{CoreStep}
use Rattle.cube_core.specs.declared.jobs.JobAnswer.{JobAnswer}
use Rattle.cube_core.specs.declared.shard.ShardCall.{ShardCall}
use Rattle.cube_core.specs.declared.shard.ShardCall.TheVariants as call
use Rattle.job_groups.specs.AskedEach.{MayAskEach}
use Rattle.job_groups.specs.EachPosted.{LearnsOfEach}
use Rattle.linked_shards.specs.CellShards.{CoreShardStands, CoreShardStep}
use Rattle.session_snapshots.specs.KnownHolds.{HoldsTheSame}
use Rattle.session_groups.proofs.Knowing.{on-ok, scan-found, scan-keeps, scan-outcomes}
use Rattle.session_watches.proofs.AskedShards.{asked-keeps, may-scan-each}
use Rattle.session_watches.specs.KnownReaders.{HoldersKeep}
use Rattle.session_groups.specs.AnswersInTurn.{HaveFound, MergeAll}
use Rattle.session_groups.specs.ShardGroups.{HasFoundRows, KnowsOfShards}
use Rattle.shard_events.specs.ShardsInRuns.{FitsShard, ShardAnswerSays}
use Rattle.session_watches.proofs.scans.scan_shards_at_holder.Goals as goal

pub ask_each_shard-answers-requires-clause-may : goal.ask_each_shard-answers-requires-clause-may
ask_each_shard-answers-requires-clause-may g c =
    let cells = g.P.CellCaller.opening c.args.caller.now in
    let caller = g.P.CellCaller.number c.args.caller.now in
    let own = g.P.CellCaller.own c.args.caller.now in
    subst (λ (l : List ShardCall). KnowsOfShards cells caller c.args.session own (MayAskEach FitsShard c.args.session l)) (sym c.in_ok-calls.ensures)
    (may-scan-each cells caller c.args.session c.requires.client c.requires.session c.args.size.now.shards c.requires.some c.requires.mails
    c.args.shape.now c.args.query.now c.requires.leads.0 c.args.epoch own c.requires.ready.0 c.requires.ready.1 c.requires.leads.1
    c.requires.query)

pub merge_answers-requires-clause-found : goal.merge_answers-requires-clause-found
merge_answers-requires-clause-found g c =
    let cells = g.P.CellCaller.opening c.args.caller.now in
    let caller = g.P.CellCaller.number c.args.caller.now in
    let own = g.P.CellCaller.own c.args.caller.now in
    let now = g.P.CellCaller.own c.ask_each_shard-answers.new.caller in
    let took = c.ask_each_shard-answers.ensures in
    let answers = c.ask_each_shard-answers.result.items in
    subst (λ (l : List JobAnswer). HaveFound c.args.query.now l) (sym c.as_slice.ensures.value)
    (scan-outcomes cells caller c.args.session c.requires.client c.requires.session c.args.size.now.shards c.requires.some c.requires.mails
    c.args.shape.now c.args.query.now (reader_up_to c.args.epoch) own now answers took.answers
    (subst (λ (l : List ShardCall). LearnsOfEach FitsShard CoreShardStands ShardAnswerSays cells caller c.args.session l answers own now)
    c.in_ok-calls.ensures took.learns)
    (coe 0 1 (i. HasHistoryOf (CoreStep CoreShardStep) (FitsOwnCalls FitsShard CoreShardStands ShardAnswerSays) (took.opening i) (took.number i) now)
    took.history))

pub returns-clause-asked : goal.returns-clause-asked
returns-clause-asked g c =
    let cells = g.P.CellCaller.opening c.args.caller.now in
    let caller = g.P.CellCaller.number c.args.caller.now in
    let own = g.P.CellCaller.own c.args.caller.now in
    let now = g.P.CellCaller.own c.ask_each_shard-answers.new.caller in
    let took = c.ask_each_shard-answers.ensures in
    let answers = c.ask_each_shard-answers.result.items in
    inr (record {
      more = took.more;
      answers = answers;
      each = took.answers;
      learns = subst (λ (l : List ShardCall). LearnsOfEach FitsShard CoreShardStands ShardAnswerSays cells caller c.args.session l answers own now)
          c.in_ok-calls.ensures took.learns;
    })

pub returns-clause-all : goal.returns-clause-all
returns-clause-all g c =
    let cells = g.P.CellCaller.opening c.args.caller.now in
    let caller = g.P.CellCaller.number c.args.caller.now in
    let own = g.P.CellCaller.own c.args.caller.now in
    let now = g.P.CellCaller.own c.ask_each_shard-answers.new.caller in
    let took = c.ask_each_shard-answers.ensures in
    let answers = c.ask_each_shard-answers.result.items in
    on-ok c.merge_answers.result
    (record {
      more = took.more;
      answers = answers;
      each = took.answers;
      learns = subst (λ (l : List ShardCall). LearnsOfEach FitsShard CoreShardStands ShardAnswerSays cells caller c.args.session l answers own now)
          c.in_ok-calls.ensures took.learns;
    })

pub returns-clause-same : goal.returns-clause-same
returns-clause-same g c =
    let cells = g.P.CellCaller.opening c.args.caller.now in
    let caller = g.P.CellCaller.number c.args.caller.now in
    let own = g.P.CellCaller.own c.args.caller.now in
    let now = g.P.CellCaller.own c.ask_each_shard-answers.new.caller in
    let took = c.ask_each_shard-answers.ensures in
    let answers = c.ask_each_shard-answers.result.items in
    coe 1 0
    (i. HoldsTheSame FitsShard CoreShardStands ShardAnswerSays c.args.session cells caller own (took.opening i) (took.number i) now)
    (scan-keeps cells caller c.args.session c.requires.client c.requires.session c.args.size.now.shards c.requires.some c.requires.mails
    c.args.shape.now c.args.query.now (reader_up_to c.args.epoch) own now
    (inr (record {
      more = took.more;
      answers = answers;
      each = took.answers;
      learns = subst (λ (l : List ShardCall). LearnsOfEach FitsShard CoreShardStands ShardAnswerSays cells caller c.args.session l answers own now)
          c.in_ok-calls.ensures took.learns;
    })))

pub returns-clause-holders : goal.returns-clause-holders
returns-clause-holders g c =
    let cells = g.P.CellCaller.opening c.args.caller.now in
    let caller = g.P.CellCaller.number c.args.caller.now in
    let own = g.P.CellCaller.own c.args.caller.now in
    let now = g.P.CellCaller.own c.ask_each_shard-answers.new.caller in
    let took = c.ask_each_shard-answers.ensures in
    let answers = c.ask_each_shard-answers.result.items in
    coe 1 0
    (i. HoldersKeep FitsShard CoreShardStands ShardAnswerSays c.args.session cells caller own (took.opening i) (took.number i) now)
    (asked-keeps cells caller c.args.session c.requires.client c.requires.session c.args.size.now.shards c.requires.some c.requires.mails
    (call.Scan c.args.shape.now c.args.query.now (reader_up_to c.args.epoch)) own now
    (inr (record {
      more = took.more;
      answers = answers;
      each = took.answers;
      learns = subst (λ (l : List ShardCall). LearnsOfEach FitsShard CoreShardStands ShardAnswerSays cells caller c.args.session l answers own now)
          c.in_ok-calls.ensures took.learns;
    })))

pub returns-clause-history : goal.returns-clause-history
returns-clause-history g c = on-ok c.merge_answers.result c.ask_each_shard-answers.ensures.history

pub returns-clause-found : goal.returns-clause-found
returns-clause-found g c =
    let cells = g.P.CellCaller.opening c.args.caller.now in
    let caller = g.P.CellCaller.number c.args.caller.now in
    let own = g.P.CellCaller.own c.args.caller.now in
    let now = g.P.CellCaller.own c.ask_each_shard-answers.new.caller in
    let took = c.ask_each_shard-answers.ensures in
    let answers = c.ask_each_shard-answers.result.items in
    IfOk-weaker c.merge_answers.result (λ p. MergeAll c.args.query.now c.as_slice.result.now p.groups)
    (λ p. KnowsOfShards (g.P.CellCaller.opening c.ask_each_shard-answers.new.caller) (g.P.CellCaller.number c.ask_each_shard-answers.new.caller)
    c.args.session now (HasFoundRows c.args.session c.args.query.now (reader_up_to c.args.epoch) p.groups))
    (λ p merged.
    coe 1 0
    (i. KnowsOfShards (took.opening i) (took.number i) c.args.session now (HasFoundRows c.args.session c.args.query.now (reader_up_to c.args.epoch) p.groups))
    (scan-found cells caller c.args.session c.requires.client c.requires.session c.args.size.now.shards c.requires.some c.requires.mails
    c.args.shape.now c.args.query.now (reader_up_to c.args.epoch) own now answers p.groups took.answers
    (subst (λ (l : List ShardCall). LearnsOfEach FitsShard CoreShardStands ShardAnswerSays cells caller c.args.session l answers own now)
    c.in_ok-calls.ensures took.learns)
    (subst (λ (l : List JobAnswer). MergeAll c.args.query.now l p.groups) c.as_slice.ensures.value merged)))
    c.merge_answers.ensures
