use Rattle.std.proofs.Common.{◌+◌, []}
use Rattle.flush_loop.specs.FlushTurns.{LearnsOfFlushes}
use Rattle.flush_loop.specs.MadeRounds.{HoldsInRuns}
use Rattle.linked_shards.specs.CellShards.{CoreShardStands}
use Rattle.shard_events.specs.ShardsInRuns.{FitsShard, ShardAnswerSays}
use Rattle.run_threads.proofs.flusher.FlusherWorkCallerWorkShardCells.work.Goals as goal

pub flush_loop-last-requires-clause-kept : goal.flush_loop-last-requires-clause-kept
flush_loop-last-requires-clause-kept g c =
    let caller = c.args.caller.now in
    let w = c.args.self.now in (
      w.maker,
      coe 1 0
          (i. HoldsInRuns FitsShard CoreShardStands ShardAnswerSays (g.P.CellCaller.opening caller) (g.P.CellCaller.number caller)
          (w.size.sessions + 1) (g.M.MakesRounds.has_kept w.maker w.maker) (c.requires.fresh i)) c.requires.may.keeps.kept,
    )

pub returns-clause-done : goal.returns-clause-done
returns-clause-done g c =
    let caller = c.args.caller.now in
    let cells = g.P.CellCaller.opening caller in
    let number = g.P.CellCaller.number caller in
    let w = c.args.self.now in
    let after = c.flush_loop-last.new.maker in
    let did = c.flush_loop-last.ensures in
    record {
      learns = coe 0 1
          (i. LearnsOfFlushes FitsShard CoreShardStands ShardAnswerSays cells number (w.size.sessions + 1) w.size.shards
          c.flush_loop-last.result (c.requires.fresh i) (g.P.CellCaller.own c.flush_loop-last.new.caller)) did.learns;
      keeps = record {
        serves_core = coe 0 1 (i. g.M.MakesRounds.serves after (did.opening i)) did.serves;
        kept = did.kept w.maker
            (coe 1 0
            (i. HoldsInRuns FitsShard CoreShardStands ShardAnswerSays cells number (w.size.sessions + 1)
            (g.M.MakesRounds.has_kept w.maker w.maker) (c.requires.fresh i)) c.requires.may.keeps.kept);
      };
      made = did.becomes;
    }
