use Rattle.std.proofs.Common.{sym, subst}
use Rattle.std.specs.Prelude.{IfOk, OnErr}
use Rattle.core_changes.proofs.OpenedWriters.{held-is-for, holds-held, none-begun, writer-any}
use Rattle.core_states.specs.StandingInCore.{HoldsForMode}
use Rattle.cube_values.specs.declared.snapshot.Snapshot.{Snapshot}
use Rattle.session_snapshots.specs.KnownHolds.{HoldsWriter}
use Rattle.linked_shards.specs.CellShards.{CoreShardStands}
use Rattle.core_changes.specs.ChangeEnds.{IsWriterFor, begun_entries}
use Rattle.session_replies.specs.Modes.{mode_of}
use Rattle.session_replies.specs.declared.mode.SessionMode.{SessionMode}
use Rattle.shard_events.specs.ShardsInRuns.{FitsShard, ShardAnswerSays}
use Rattle.shard_statements.specs.OverShards.{LeavesOverShards}
use Rattle.core_changes.proofs.beginnings.begin_change.Goals as goal

pub open_own-requires-clause-holds : goal.open_own-requires-clause-holds
open_own-requires-clause-holds g c =
    let old = c.args.caller.now in
    subst (λ (m : SessionMode). HoldsForMode FitsShard CoreShardStands ShardAnswerSays (g.P.CellCaller.opening old)
    (g.P.CellCaller.number old) c.args.session.now.number (g.P.CellCaller.own old) (mode_of m)) c.in-Idle.is
    c.requires.holds

pub returns-in-Idle-clause-writer : goal.returns-in-Idle-clause-writer
returns-in-Idle-clause-writer g c = writer-any c.args.session.now.mode c.in-Idle.is c.open_own.result

pub returns-in-Idle-clause-left : goal.returns-in-Idle-clause-left
returns-in-Idle-clause-left g c =
    let old = c.args.caller.now in
    let session = c.args.session.now in
    subst (λ (m : SessionMode). IfOk c.open_own.result (λ (writer : Snapshot).
    LeavesOverShards (g.P.CellCaller.opening old) (g.P.CellCaller.number old) session.number (g.P.CellCaller.own old)
    (g.P.CellCaller.own c.open_own.new.caller) (begun_entries session.number session.statements (mode_of m) writer)))
    (sym c.in-Idle.is) c.open_own.ensures.left

pub returns-in-Idle-clause-kept : goal.returns-in-Idle-clause-kept
returns-in-Idle-clause-kept g c =
    let new = c.open_own.new.caller in
    subst (λ (m : SessionMode). OnErr c.open_own.result (HoldsForMode FitsShard CoreShardStands ShardAnswerSays
    (g.P.CellCaller.opening new) (g.P.CellCaller.number new) c.args.session.now.number (g.P.CellCaller.own new)
    (mode_of m))) (sym c.in-Idle.is) c.open_own.ensures.kept

pub returns-in-Open-clause-writer : goal.returns-in-Open-clause-writer
returns-in-Open-clause-writer g c =
    let old = c.args.caller.now in
    let session = c.args.session.now in
    subst (λ (w : Snapshot). IsWriterFor (mode_of session.mode) w) (sym c.copy.ensures)
    (held-is-for (g.P.CellCaller.opening old) (g.P.CellCaller.number old) session.number (g.P.CellCaller.own old)
    session.mode c.in-Open.writer c.in-Open.is)

pub returns-in-Open-clause-holds : goal.returns-in-Open-clause-holds
returns-in-Open-clause-holds g c =
    let old = c.args.caller.now in
    let session = c.args.session.now in
    subst (λ (w : Snapshot). HoldsWriter FitsShard CoreShardStands ShardAnswerSays (g.P.CellCaller.opening old)
    (g.P.CellCaller.number old) session.number (g.P.CellCaller.own old) w) (sym c.copy.ensures)
    (holds-held (g.P.CellCaller.opening old) (g.P.CellCaller.number old) session.number (g.P.CellCaller.own old)
    session.mode c.in-Open.writer c.in-Open.is c.requires.holds)

pub returns-in-Open-clause-left : goal.returns-in-Open-clause-left
returns-in-Open-clause-left g c =
    let old = c.args.caller.now in
    let session = c.args.session.now in
    subst (λ (w : Snapshot). LeavesOverShards (g.P.CellCaller.opening old) (g.P.CellCaller.number old) session.number
    (g.P.CellCaller.own old) (g.P.CellCaller.own old)
    (begun_entries session.number session.statements (mode_of session.mode) w)) (sym c.copy.ensures)
    (none-begun (g.P.CellCaller.opening old) (g.P.CellCaller.number old) session.number (g.P.CellCaller.own old)
    session.mode c.in-Open.writer c.in-Open.is session.statements)

pub returns-in-Open-clause-more : goal.returns-in-Open-clause-more
returns-in-Open-clause-more g c =
    let old = c.args.caller.now in
    let session = c.args.session.now in
    (none-begun (g.P.CellCaller.opening old) (g.P.CellCaller.number old) session.number (g.P.CellCaller.own old)
    session.mode c.in-Open.writer c.in-Open.is session.statements).more

pub returns-in-Open-clause-plain : goal.returns-in-Open-clause-plain
returns-in-Open-clause-plain g c =
    let old = c.args.caller.now in
    let session = c.args.session.now in
    (none-begun (g.P.CellCaller.opening old) (g.P.CellCaller.number old) session.number (g.P.CellCaller.own old)
    session.mode c.in-Open.writer c.in-Open.is session.statements).plain
