use Rattle.std.proofs.Common.{◌≡◌, ◌+◌}
use Rattle.shard_work.proofs.Served.{HasDone}
use Rattle.shard_work.proofs.worker.serve_waiting.Given as goal

abbrev pub invariant-jobs : goal.invariant-jobs
invariant-jobs g l =
    g.P.CellCaller.calls_on l.board l.caller
    × (g.P.CellCaller.opening l.caller ≡ g.P.CellCaller.opening l.fn.caller)
    × (g.P.CellCaller.number l.caller ≡ g.P.CellCaller.number l.fn.caller)
    × (g.P.CellCaller.others l.caller ≡ g.P.CellCaller.others l.fn.caller)
    × HasDone (g.P.CellCaller.number l.fn.caller) l.number (2 + l.size.shards + l.number) (g.P.CellCaller.own l.fn.caller)
    (g.P.CellCaller.own l.caller) l.counter
