use Rattle.std.proofs.Common.{◌≡◌, drop}
use Rattle.job_groups.proofs.GroupLoops.{PostedSome}
use Rattle.job_groups.proofs.some_shards.post_some_shards.Given as goal

abbrev pub invariant-posts : goal.invariant-posts
invariant-posts g l =
    g.P.CellCaller.calls_on l.board l.caller
    × (g.P.CellCaller.opening l.caller ≡ g.P.CellCaller.opening l.fn.caller)
    × (g.P.CellCaller.number l.caller ≡ g.P.CellCaller.number l.fn.caller)
    × (g.P.CellCaller.others l.caller ≡ g.P.CellCaller.others l.fn.caller)
    × (l.calls.items ≡ drop l.place l.fn.calls.items)
    × PostedSome g.S.LinkedShard.fits g.S.LinkedShard.stands g.S.LinkedShard.says (g.P.CellCaller.opening l.fn.caller) (g.P.CellCaller.number l.fn.caller)
    l.client l.numbers l.fn.calls.items (g.P.CellCaller.own l.fn.caller) l.place (g.P.CellCaller.own l.caller)
