use Rattle.std.proofs.Common.{◌≡◌, [], ◌∷◌, ◌++◌}
use Rattle.core_program.specs.ClientCalls.{desk_entry}
use Rattle.core_cells.specs.declared.desk.DeskAnswer.TheVariants as answer
use Rattle.core_cells.specs.declared.desk.DeskCall.TheVariants as call
use Rattle.core_program.specs.Knowing.{IsSessionOf}
use Rattle.session_snapshots.specs.KnownHolds.{HoldsRolledBack}
use Rattle.shard_statements.proofs.TakenBack.{took-back}
use Rattle.linked_shards.specs.CellShards.{CoreShardStands}
use Rattle.shard_events.specs.ShardsInRuns.{FitsShard, ShardAnswerSays}
use Rattle.shard_statements.proofs.rollbacks.take_back.Goals as goal

pub end_writer-requires-clause-holds : goal.end_writer-requires-clause-holds
end_writer-requires-clause-holds g c = (c.args.writer.now, c.in-Ok.ensures.holds)

pub returns-in-Ok-clause-left : goal.returns-in-Ok-clause-left
returns-in-Ok-clause-left g c =
    let mid = c.roll_back_shards.new.caller in
    let did = c.roll_back_shards.ensures in
    let now = g.P.CellCaller.own c.end_writer.new.caller in
    took-back (g.P.CellCaller.opening c.args.caller.now) (g.P.CellCaller.number c.args.caller.now) c.args.session
    c.requires.client c.args.size.now.shards c.args.statement c.args.cause c.args.writer.now (g.P.CellCaller.own c.args.caller.now)
    (g.P.CellCaller.own mid) now c.in-Ok.ensures.asked
    (coe 0 1 (i. HoldsRolledBack FitsShard CoreShardStands ShardAnswerSays (did.opening i) (did.number i) c.args.session
    (g.P.CellCaller.own mid) c.args.writer.now) c.in-Ok.ensures.holds)
    (coe 0 1 (i. now ≡ g.P.CellCaller.own mid
    ++ desk_entry (did.number i) (call.AbortEnd c.args.session c.args.statement c.args.cause) answer.Done ∷ [])
    c.end_writer.ensures.own)

pub end_writer-requires-clause-session : goal.end_writer-requires-clause-session
end_writer-requires-clause-session g c =
    coe 1 0 (i. IsSessionOf FitsShard CoreShardStands ShardAnswerSays (c.roll_back_shards.ensures.opening i) c.args.session)
    c.requires.session
