use Rattle.std.proofs.Common.{ap, subst, sym}
use Rattle.core_changes.proofs.Finishing.{finished-open, holds-open, if-false, nothing-for-mode, stays-finished}
use Rattle.core_states.proofs.LeftCalls.{left-nothing}
use Rattle.core_states.specs.StandingInCore.{HoldsForMode}
use Rattle.core_states.specs.declared.session.CoreSession.{CoreSession}
use Rattle.session_replies.specs.Modes.{mode_of}
use Rattle.linked_shards.specs.CellShards.{CoreShardStands}
use Rattle.shard_events.specs.ShardsInRuns.{FitsShard, ShardAnswerSays}
use Rattle.core_changes.proofs.ends.finish_change.Goals as goal

pub returns-in-Open-clause-more : goal.returns-in-Open-clause-more
returns-in-Open-clause-more g c =
    let old = c.args.caller.now in
    (left-nothing FitsShard CoreShardStands ShardAnswerSays (g.P.CellCaller.opening old) (g.P.CellCaller.number old)
    c.args.session.now.number (g.P.CellCaller.own old)).more

pub returns-in-Open-clause-plain : goal.returns-in-Open-clause-plain
returns-in-Open-clause-plain g c =
    let old = c.args.caller.now in
    (left-nothing FitsShard CoreShardStands ShardAnswerSays (g.P.CellCaller.opening old) (g.P.CellCaller.number old)
    c.args.session.now.number (g.P.CellCaller.own old)).plain

pub returns-in-Open-clause-becomes : goal.returns-in-Open-clause-becomes
returns-in-Open-clause-becomes g c =
    let old = c.args.caller.now in
    stays-finished (g.P.CellCaller.opening old) (g.P.CellCaller.number old) c.args.session.now (g.P.CellCaller.own old)
    c.args.writer.now c.in-Open.is

pub returns-in-Open-clause-holds : goal.returns-in-Open-clause-holds
returns-in-Open-clause-holds g c =
    let old = c.args.caller.now in
    holds-open (g.P.CellCaller.opening old) (g.P.CellCaller.number old) c.args.session.now (g.P.CellCaller.own old)
    c.args.writer.now c.in-Open.is c.requires.writer c.requires.holds

pub returns-in-Open-clause-finished : goal.returns-in-Open-clause-finished
returns-in-Open-clause-finished g c =
    let old = c.args.caller.now in
    finished-open (g.P.CellCaller.opening old) (g.P.CellCaller.number old) c.args.session.now (g.P.CellCaller.own old)
    c.args.writer.now c.in-Open.is

pub returns-in-Idle-clause-holds : goal.returns-in-Idle-clause-holds
returns-in-Idle-clause-holds g c =
    let new = c.commit_own.new.caller in
    let session = c.args.session.now in
    subst (λ (s : CoreSession). HoldsForMode FitsShard CoreShardStands ShardAnswerSays (g.P.CellCaller.opening new)
    (g.P.CellCaller.number new) s.number (g.P.CellCaller.own new) (mode_of s.mode)) (sym c.commit_own.ensures.becomes)
    (nothing-for-mode (g.P.CellCaller.opening new) (g.P.CellCaller.number new) session.number (g.P.CellCaller.own new)
    session.mode c.in-Idle.is c.commit_own.ensures.holds)

pub returns-in-Idle-clause-idle : goal.returns-in-Idle-clause-idle
returns-in-Idle-clause-idle g c = if-false c.commit_own.result (ap mode_of c.in-Idle.is)
