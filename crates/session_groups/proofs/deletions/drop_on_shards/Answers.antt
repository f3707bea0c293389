use Rattle.std.proofs.Common.{List, refl, sym, subst}
use Rattle.std.specs.List.{list_any}
use Rattle.cube_core.specs.declared.jobs.JobAnswer.{JobAnswer}
use Rattle.cube_core.specs.declared.shard.ShardCall.{ShardCall}
use Rattle.job_groups.specs.AskedEach.{MayAskEach}
use Rattle.job_groups.specs.EachPosted.{LearnsOfEach}
use Rattle.linked_shards.specs.CellShards.{CoreShardStands}
use Rattle.session_groups.proofs.Knowing.{drop-ends, may-drop-each}
use Rattle.session_groups.specs.AnswersInTurn.{is_undone}
use Rattle.session_groups.specs.ShardGroups.{HoldsAfterWrite, KnowsOfShards, end_by_refusals}
use Rattle.session_groups.specs.declared.deletions.WriteEnd.{WriteEnd}
use Rattle.shard_events.specs.ShardsInRuns.{FitsShard, ShardAnswerSays}
use Rattle.session_groups.proofs.deletions.drop_on_shards.Goals as goal

pub ask_each_shard-answers-requires-clause-may : goal.ask_each_shard-answers-requires-clause-may
ask_each_shard-answers-requires-clause-may g c =
    let cells = g.P.CellCaller.opening c.args.caller.now in
    let caller = g.P.CellCaller.number c.args.caller.now in
    let own = g.P.CellCaller.own c.args.caller.now in
    subst (λ (l : List ShardCall). KnowsOfShards cells caller c.args.session own (MayAskEach FitsShard c.args.session l)) (sym c.in_ok-calls.ensures)
    (may-drop-each cells caller c.args.session c.requires.client c.requires.session c.args.size.now.shards c.requires.some c.requires.mails
    c.args.cube c.args.shape.now c.args.span.now c.args.writer.now own c.requires.holds c.requires.deletes)

pub returns-clause-holds : goal.returns-clause-holds
returns-clause-holds g c =
    let cells = g.P.CellCaller.opening c.args.caller.now in
    let caller = g.P.CellCaller.number c.args.caller.now in
    let own = g.P.CellCaller.own c.args.caller.now in
    let now = g.P.CellCaller.own c.ask_each_shard-answers.new.caller in
    let took = c.ask_each_shard-answers.ensures in
    let answers = c.ask_each_shard-answers.result.items in
    coe 1 0 (i. HoldsAfterWrite (took.opening i) (took.number i) c.args.session now c.args.writer.now c.write_end.result)
    (subst (λ (e : WriteEnd). HoldsAfterWrite cells caller c.args.session now c.args.writer.now e) (sym c.write_end.ensures)
    (subst (λ (l : List JobAnswer). HoldsAfterWrite cells caller c.args.session now c.args.writer.now (end_by_refusals (list_any is_undone l)))
    (sym c.as_slice.ensures.value)
    (drop-ends cells caller c.args.session c.requires.client c.requires.session c.args.size.now.shards c.requires.some c.requires.mails
    c.args.cube c.args.shape.now c.args.span.now c.args.writer.now own now answers took.answers took.more
    (subst (λ (l : List ShardCall). LearnsOfEach FitsShard CoreShardStands ShardAnswerSays cells caller c.args.session l answers own now)
    c.in_ok-calls.ensures took.learns)
    c.requires.holds (list_any is_undone answers) refl)))
