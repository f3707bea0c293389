use Rattle.std.proofs.Common.{Bool, inl, [], ◌∷◌, sym, subst}
use Rattle.std.specs.Bool.{OnFalse, OnTrue}
use Rattle.core_changes.proofs.BegunChanges.{nothing-at, nothing-left}
use Rattle.core_deletes.proofs.BegunDeletes.{on-true, open-if-not, ready-if-done}
use Rattle.core_events.specs.Serial.{DropRows}
use Rattle.cube_core.specs.declared.shard.ShardCall.TheVariants as call
use Rattle.cube_schema.specs.Schemas.{cube_of}
use Rattle.session_snapshots.specs.KnownHolds.{HoldsWriter}
use Rattle.linked_shards.specs.CellShards.{CoreShardStands}
use Rattle.core_changes.proofs.GroupCalls.{by-asking}
use Rattle.core_changes.proofs.OperationsAdded.{some-at-epoch}
use Rattle.session_groups.specs.ShardGroups.{HoldsOpenWriter}
use Rattle.shard_events.specs.ShardsInRuns.{FitsShard, ShardAnswerSays}
use Rattle.core_deletes.proofs.dropping.has_dropped.Goals as goal

pub drop_region-requires-clause-some : goal.drop_region-requires-clause-some
drop_region-requires-clause-some g c = c.requires.served.some

pub drop_region-requires-clause-client : goal.drop_region-requires-clause-client
drop_region-requires-clause-client g c = c.requires.served.client

pub drop_region-requires-clause-session : goal.drop_region-requires-clause-session
drop_region-requires-clause-session g c = c.requires.served.is_session

pub drop_region-requires-clause-mails : goal.drop_region-requires-clause-mails
drop_region-requires-clause-mails g c = c.requires.served.mails

pub drop_region-requires-clause-storable : goal.drop_region-requires-clause-storable
drop_region-requires-clause-storable g c = c.requires.served.storable

pub returns-in-Ok-clause-left : goal.returns-in-Ok-clause-left
returns-in-Ok-clause-left g c =
    by-asking (g.P.CellCaller.opening c.args.caller.now) (g.P.CellCaller.number c.args.caller.now) c.args.session
    c.args.number c.args.statement.now (g.P.CellCaller.own c.args.caller.now)
    (g.P.CellCaller.own c.drop_region.new.caller) c.args.size.now.shards
    (call.DropBox c.args.place (cube_of c.args.cube.now) c.args.writer.now.epoch c.args.span.now) c.in-Ok.ensures.asked

pub returns-in-Ok-clause-operations : goal.returns-in-Ok-clause-operations
returns-in-Ok-clause-operations g c = on-true c.is_done.result c.in-Ok.ensures.operations

pub returns-in-Ok-clause-at_epoch : goal.returns-in-Ok-clause-at_epoch
returns-in-Ok-clause-at_epoch g c =
    some-at-epoch (g.P.CellCaller.opening c.args.caller.now) (g.P.CellCaller.number c.args.caller.now) c.args.session
    c.args.place c.args.writer.now.epoch (DropRows c.args.span.now ∷ []) (g.P.CellCaller.own c.args.caller.now)
    (g.P.CellCaller.own c.drop_region.new.caller) c.in-Ok.ensures.operations

pub returns-in-Ok-clause-holds : goal.returns-in-Ok-clause-holds
returns-in-Ok-clause-holds g c =
    let new = c.drop_region.new.caller in
    let opening = g.P.CellCaller.opening new in
    let number = g.P.CellCaller.number new in
    let own = g.P.CellCaller.own new in
    subst (λ (b : Bool). OnTrue b (HoldsWriter FitsShard CoreShardStands ShardAnswerSays opening number c.args.session own
    c.args.writer.now)) (sym c.is_done.ensures)
    (ready-if-done opening number c.args.session own c.args.writer.now c.in-Ok.end c.in-Ok.ensures.holds)

pub returns-in-Ok-clause-open : goal.returns-in-Ok-clause-open
returns-in-Ok-clause-open g c =
    let new = c.drop_region.new.caller in
    let opening = g.P.CellCaller.opening new in
    let number = g.P.CellCaller.number new in
    let own = g.P.CellCaller.own new in
    subst (λ (b : Bool). OnFalse b (HoldsOpenWriter opening number c.args.session own c.args.writer.now))
    (sym c.is_done.ensures)
    (open-if-not opening number c.args.session own c.args.writer.now c.in-Ok.end c.in-Ok.ensures.holds)

pub returns-in-Err-clause-left : goal.returns-in-Err-clause-left
returns-in-Err-clause-left g c =
    nothing-left (g.P.CellCaller.opening c.args.caller.now) (g.P.CellCaller.number c.args.caller.now) c.args.session
    c.args.number c.args.statement.now (g.P.CellCaller.own c.args.caller.now)
    (g.P.CellCaller.own c.drop_region.new.caller) c.in-Err.ensures.err

pub returns-in-Err-clause-at_epoch : goal.returns-in-Err-clause-at_epoch
returns-in-Err-clause-at_epoch g c =
    nothing-at (g.P.CellCaller.opening c.args.caller.now) (g.P.CellCaller.number c.args.caller.now) c.args.session
    c.args.number c.args.statement.now (g.P.CellCaller.own c.args.caller.now)
    (g.P.CellCaller.own c.drop_region.new.caller) c.in-Err.ensures.err c.args.writer.now.epoch

pub returns-in-Err-clause-open : goal.returns-in-Err-clause-open
returns-in-Err-clause-open g c =
    let did = c.drop_region.ensures in
    inl (coe 1 0 (i. HoldsWriter FitsShard CoreShardStands ShardAnswerSays (did.opening i) (did.number i) c.args.session
    (c.in-Err.ensures.err i) c.args.writer.now) c.requires.holds)
