use Rattle.std.proofs.Common.{◌≡◌, ◌≤◌, drop, length}
use Rattle.std.specs.Prelude.{vec_capacity}
use Rattle.board_callers.specs.Callers.{HasHistoryOf}
use Rattle.core_program.specs.CoreFits.{FitsOwnCalls}
use Rattle.cube_core.specs.CoreSteps.{CoreStep}
use Rattle.job_groups.proofs.GroupLoops.{FetchedSome, PostedSome}
use Rattle.job_groups.proofs.Waits.{numbers_from}
use Rattle.job_groups.proofs.groups.ask_each_shard.Given as goal

abbrev pub invariant-posts : goal.invariant-posts
invariant-posts g l =
    g.P.CellCaller.calls_on l.board l.caller
    × (g.P.CellCaller.opening l.caller ≡ g.P.CellCaller.opening l.fn.caller)
    × (g.P.CellCaller.number l.caller ≡ g.P.CellCaller.number l.fn.caller)
    × (g.P.CellCaller.others l.caller ≡ g.P.CellCaller.others l.fn.caller)
    × (l.calls.items ≡ drop l.number l.fn.calls.items)
    × PostedSome g.S.LinkedShard.fits g.S.LinkedShard.stands g.S.LinkedShard.says (g.P.CellCaller.opening l.fn.caller) (g.P.CellCaller.number l.fn.caller)
    l.client (numbers_from 0 (length l.fn.calls.items)) l.fn.calls.items (g.P.CellCaller.own l.fn.caller) l.number (g.P.CellCaller.own l.caller)

abbrev pub invariant-fetches : goal.invariant-fetches
invariant-fetches g l =
    g.P.CellCaller.calls_on l.board l.caller
    × (g.P.CellCaller.opening l.caller ≡ g.P.CellCaller.opening l.fn.caller)
    × (g.P.CellCaller.number l.caller ≡ g.P.CellCaller.number l.fn.caller)
    × (g.P.CellCaller.others l.caller ≡ g.P.CellCaller.others l.fn.caller)
    × (l.size.shards ≤ vec_capacity l.answers)
    × FetchedSome g.S.LinkedShard.fits g.S.LinkedShard.stands g.S.LinkedShard.says (g.P.CellCaller.opening l.fn.caller) (g.P.CellCaller.number l.fn.caller)
    l.client (numbers_from 0 (length l.fn.calls.items)) l.fn.calls.items (g.P.CellCaller.own l.fn.caller) l.number l.answers.items (g.P.CellCaller.own l.caller)
    × (1 ≤ l.number → HasHistoryOf (CoreStep g.S.ShardCell.step) (FitsOwnCalls g.S.LinkedShard.fits g.S.LinkedShard.stands g.S.LinkedShard.says)
    (g.P.CellCaller.opening l.caller) (g.P.CellCaller.number l.caller) (g.P.CellCaller.own l.caller))
