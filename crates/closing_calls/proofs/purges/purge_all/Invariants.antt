use Rattle.std.proofs.Common.{◌≡◌, ◌≤◌}
use Rattle.board_callers.specs.Callers.{HasHistoryOf}
use Rattle.closing_calls.proofs.PurgeLoops.{HasFetchedSome, HasPosted}
use Rattle.core_program.specs.CoreFits.{FitsOwnCalls}
use Rattle.cube_core.specs.CoreSteps.{CoreStep}
use Rattle.linked_shards.specs.CellShards.{CoreShardStands, CoreShardStep}
use Rattle.shard_events.specs.ShardsInRuns.{FitsShard, ShardAnswerSays}
use Rattle.closing_calls.proofs.purges.purge_all.Given as goal

abbrev pub invariant-posts : goal.invariant-posts
invariant-posts g l =
    g.P.CellCaller.calls_on l.board l.caller
    × (g.P.CellCaller.opening l.caller ≡ g.P.CellCaller.opening l.fn.caller)
    × (g.P.CellCaller.number l.caller ≡ g.P.CellCaller.number l.fn.caller)
    × (g.P.CellCaller.others l.caller ≡ g.P.CellCaller.others l.fn.caller)
    × HasPosted (g.P.CellCaller.opening l.fn.caller) l.size.shards l.epoch (g.P.CellCaller.own l.fn.caller) l.number (g.P.CellCaller.own l.caller)

abbrev pub invariant-fetches : goal.invariant-fetches
invariant-fetches g l =
    g.P.CellCaller.calls_on l.board l.caller
    × (g.P.CellCaller.opening l.caller ≡ g.P.CellCaller.opening l.fn.caller)
    × (g.P.CellCaller.number l.caller ≡ g.P.CellCaller.number l.fn.caller)
    × (g.P.CellCaller.others l.caller ≡ g.P.CellCaller.others l.fn.caller)
    × HasFetchedSome (g.P.CellCaller.opening l.fn.caller) l.size.shards l.epoch (g.P.CellCaller.own l.fn.caller) l.number (g.P.CellCaller.own l.caller)
    × (1 ≤ l.number → HasHistoryOf (CoreStep CoreShardStep) (FitsOwnCalls FitsShard CoreShardStands ShardAnswerSays)
    (g.P.CellCaller.opening l.caller) (g.P.CellCaller.number l.caller) (g.P.CellCaller.own l.caller))
