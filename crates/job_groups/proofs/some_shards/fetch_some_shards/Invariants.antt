use Rattle.std.proofs.Common.{◌≡◌, ◌≤◌, length}
use Rattle.std.specs.Prelude.{vec_capacity}
use Rattle.job_groups.proofs.FetchLoops.{FetchedFrom}
use Rattle.job_groups.proofs.some_shards.fetch_some_shards.Given as goal

abbrev pub invariant-fetches : goal.invariant-fetches
invariant-fetches g l =
    g.P.CellCaller.calls_on l.board l.caller
    × (g.P.CellCaller.opening l.caller ≡ g.P.CellCaller.opening l.fn.caller)
    × (g.P.CellCaller.number l.caller ≡ g.P.CellCaller.number l.fn.caller)
    × (g.P.CellCaller.others l.caller ≡ g.P.CellCaller.others l.fn.caller)
    × (length l.numbers ≤ vec_capacity l.answers)
    × FetchedFrom g.S.LinkedShard.fits g.S.LinkedShard.stands g.S.LinkedShard.says (g.P.CellCaller.opening l.fn.caller) (g.P.CellCaller.number l.fn.caller)
    l.client l.numbers (g.P.CellCaller.own l.fn.caller) l.place l.answers.items (g.P.CellCaller.own l.caller)
