use Rattle.std.proofs.Common.{◌≡◌}
use Rattle.core_names.specs.CoreEncoders.{MayAskForCodes}
use Rattle.linked_shards.specs.CellShards.{CoreShardStands}
use Rattle.shard_events.specs.ShardsInRuns.{FitsShard, ShardAnswerSays}
use Rattle.loaded_batches.proofs.RestOfRecords.{IsRestFront}
use Rattle.loaded_batches.proofs.rest.take_rest.Given as goal

abbrev pub invariant-batches : goal.invariant-batches
invariant-batches g l =
    record {
      board : g.P.CellCaller.calls_on l.board l.caller;
      opening : g.P.CellCaller.opening l.caller ≡ g.P.CellCaller.opening l.fn.caller;
      number : g.P.CellCaller.number l.caller ≡ g.P.CellCaller.number l.fn.caller;
      others : g.P.CellCaller.others l.caller ≡ g.P.CellCaller.others l.fn.caller;
      may : MayAskForCodes FitsShard CoreShardStands ShardAnswerSays (g.P.CellCaller.opening l.caller)
          (g.P.CellCaller.number l.caller) (g.P.CellCaller.own l.caller) l.session l.known l.place l.cube;
      front : IsRestFront (g.P.CellCaller.opening l.fn.caller) (g.P.CellCaller.number l.fn.caller) l.place l.cube
          l.allowed (g.P.CellCaller.own l.fn.caller) (g.P.CellCaller.own l.caller) l.fn.load l.load l.fn.bad l.bad
          l.rows;
    }
