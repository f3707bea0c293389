use Rattle.std.proofs.Common.{◌≡◌, ◌-◌}
use Rattle.core_names.specs.CoreEncoders.{MayAskForCodes}
use Rattle.linked_shards.specs.CellShards.{CoreShardStands}
use Rattle.session_batches.specs.RowsOut.{HoldsRowsOut, MayBeFetched}
use Rattle.shard_events.specs.ShardsInRuns.{FitsShard, ShardAnswerSays}
use Rattle.loaded_batches.specs.LoadFronts.{HasPostedSoFar}
use Rattle.loaded_batches.specs.LoadTexts.{AsksForSuch}
use Rattle.loaded_batches.specs.LoadingCalls.{GoesOnLoading}
use Rattle.loaded_batches.proofs.batches.load_turns.Given as goal

abbrev pub invariant-turns : goal.invariant-turns
invariant-turns g l =
    record {
      board : g.P.CellCaller.calls_on l.board l.caller;
      opening : g.P.CellCaller.opening l.caller ≡ g.P.CellCaller.opening l.fn.caller;
      number : g.P.CellCaller.number l.caller ≡ g.P.CellCaller.number l.fn.caller;
      others : g.P.CellCaller.others l.caller ≡ g.P.CellCaller.others l.fn.caller;
      goes : GoesOnLoading (g.P.CellCaller.opening l.fn.caller) (g.P.CellCaller.number l.fn.caller) l.session l.place
          l.writer.epoch (g.P.CellCaller.own l.fn.caller) (g.P.CellCaller.own l.caller);
      asked : AsksForSuch (g.P.CellCaller.opening l.fn.caller) (g.P.CellCaller.number l.fn.caller) l.place l.cube
          l.session (l.allowed - l.fn.bad.count) l.fn.load (g.P.CellCaller.own l.fn.caller)
          (g.P.CellCaller.own l.caller);
      may : MayAskForCodes FitsShard CoreShardStands ShardAnswerSays (g.P.CellCaller.opening l.caller)
          (g.P.CellCaller.number l.caller) (g.P.CellCaller.own l.caller) l.session l.known l.place l.cube;
      cube : l.load.decl ≡ l.cube;
      put : HasPostedSoFar (g.P.CellCaller.opening l.fn.caller) (g.P.CellCaller.number l.fn.caller) l.session l.place
          l.cube l.allowed l.writer (g.P.CellCaller.own l.fn.caller) (g.P.CellCaller.own l.caller) l.fn.load l.load
          l.fn.bad l.bad;
      out : MayBeFetched l.size.shards l.out;
      holds : HoldsRowsOut (g.P.CellCaller.opening l.fn.caller) (g.P.CellCaller.number l.fn.caller) l.session
          (g.P.CellCaller.own l.caller) l.writer l.out.shards.items;
    }
