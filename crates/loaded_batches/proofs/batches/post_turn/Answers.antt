use Rattle.std.proofs.Common.{inl}
use Rattle.linked_shards.specs.CellShards.{CoreShardStands}
use Rattle.session_snapshots.specs.KnownHolds.{HoldsWriter}
use Rattle.shard_events.specs.ShardsInRuns.{FitsShard, ShardAnswerSays}
use Rattle.session_groups.specs.ShardGroups.{HoldsOpenWriter}
use Rattle.loaded_batches.proofs.ReadBeside.{on-err}
use Rattle.loaded_batches.proofs.batches.post_turn.Goals as goal

pub returns-in_err-out-clause-open : goal.returns-in_err-out-clause-open
returns-in_err-out-clause-open g c =
    let e = c.post_told.ensures in
    on-err (HoldsOpenWriter (g.P.CellCaller.opening c.post_told.new.caller) (g.P.CellCaller.number c.post_told.new.caller)
    c.args.session (g.P.CellCaller.own c.post_told.new.caller) c.args.writer.now) c.from_residual.result
    (inl (coe 1 0 (i. HoldsWriter FitsShard CoreShardStands ShardAnswerSays (e.opening i) (e.number i) c.args.session
    (c.in_err-out.ensures.err i) c.args.writer.now) c.requires.holds))
