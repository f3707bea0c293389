use Rattle.std.proofs.Common.{List, sym, subst}
use Rattle.board_callers.specs.Callers.{HasHistoryOf}
use Rattle.core_program.specs.CoreFits.{FitsOwnCalls}
use Rattle.cube_core.specs.CoreSteps.{CoreStep}
use Rattle.cube_core.specs.declared.shard.ShardCall.{ShardCall}
use Rattle.job_groups.specs.AskedEach.{MayAskEach}
use Rattle.job_groups.specs.EachPosted.{LearnsOfEach}
use Rattle.session_snapshots.specs.KnownHolds.{HoldsTheSame}
use Rattle.linked_shards.specs.CellShards.{CoreShardStands, CoreShardStep}
use Rattle.session_groups.specs.ShardGroups.{KnowsOfShards}
use Rattle.session_requests.proofs.AskedPurges.{may-purge-each, purge-holds, purge-notes}
use Rattle.session_requests.specs.SessionRequests.{MayNotePurged, WasShownSafe}
use Rattle.shard_events.specs.ShardsInRuns.{FitsShard, ShardAnswerSays}
use Rattle.session_requests.proofs.purges.purge_shards.Goals as goal

pub ask_each_shard-requires-clause-may : goal.ask_each_shard-requires-clause-may
ask_each_shard-requires-clause-may g c =
    let cells = g.P.CellCaller.opening c.args.caller.now in
    let caller = g.P.CellCaller.number c.args.caller.now in
    let own = g.P.CellCaller.own c.args.caller.now in
    subst (λ (l : List ShardCall). KnowsOfShards cells caller c.args.session own (MayAskEach FitsShard c.args.session l)) (sym c.in_ok-calls.ensures)
    (may-purge-each cells caller c.args.session c.requires.client c.requires.session c.args.size.now.shards c.requires.some c.requires.mails
    c.args.epoch own c.requires.ready.0 c.requires.ready.1 c.requires.safe)

pub returns-clause-same : goal.returns-clause-same
returns-clause-same g c =
    let cells = g.P.CellCaller.opening c.args.caller.now in
    let caller = g.P.CellCaller.number c.args.caller.now in
    let own = g.P.CellCaller.own c.args.caller.now in
    let now = g.P.CellCaller.own c.ask_each_shard.new.caller in
    let took = c.ask_each_shard.ensures in
    let answers = c.ask_each_shard.result.items in
    coe 1 0
    (i. HoldsTheSame FitsShard CoreShardStands ShardAnswerSays c.args.session cells caller own (took.opening i) (took.number i) now)
    (purge-holds cells caller c.args.session c.requires.client c.requires.session c.args.size.now.shards c.requires.some c.requires.mails
    c.args.epoch own now answers took.answers took.more
    (subst (λ (l : List ShardCall). LearnsOfEach FitsShard CoreShardStands ShardAnswerSays cells caller c.args.session l answers own now)
    c.in_ok-calls.ensures took.learns)
    (coe 0 1 (i. HasHistoryOf (CoreStep CoreShardStep) (FitsOwnCalls FitsShard CoreShardStands ShardAnswerSays) (took.opening i) (took.number i) now)
    took.history))

pub returns-clause-notes : goal.returns-clause-notes
returns-clause-notes g c =
    let cells = g.P.CellCaller.opening c.args.caller.now in
    let caller = g.P.CellCaller.number c.args.caller.now in
    let own = g.P.CellCaller.own c.args.caller.now in
    let now = g.P.CellCaller.own c.ask_each_shard.new.caller in
    let took = c.ask_each_shard.ensures in
    let answers = c.ask_each_shard.result.items in
    coe 1 0
    (i. WasShownSafe cells caller c.args.session own c.args.epoch → MayNotePurged (took.opening i) (took.number i) c.args.session now c.args.epoch)
    (purge-notes cells caller c.args.session c.requires.client c.requires.session c.args.size.now.shards c.requires.some c.requires.mails
    c.args.epoch own now answers took.answers took.more
    (subst (λ (l : List ShardCall). LearnsOfEach FitsShard CoreShardStands ShardAnswerSays cells caller c.args.session l answers own now)
    c.in_ok-calls.ensures took.learns)
    (coe 0 1 (i. HasHistoryOf (CoreStep CoreShardStep) (FitsOwnCalls FitsShard CoreShardStands ShardAnswerSays) (took.opening i) (took.number i) now)
    took.history))
