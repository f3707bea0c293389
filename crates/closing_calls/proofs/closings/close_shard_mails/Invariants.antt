use Rattle.std.proofs.Common.{◌≡◌, ◌+◌, ◌++◌}
use Rattle.closing_calls.specs.ClosingCalls.{MainStays, close_entries}
use Rattle.closing_calls.proofs.closings.close_shard_mails.Given as goal

abbrev pub invariant-closings : goal.invariant-closings
invariant-closings g l =
    g.P.CellCaller.calls_on l.board l.caller
    × (g.P.CellCaller.opening l.caller ≡ g.P.CellCaller.opening l.fn.caller)
    × (g.P.CellCaller.number l.caller ≡ g.P.CellCaller.number l.fn.caller)
    × (g.P.CellCaller.others l.caller ≡ g.P.CellCaller.others l.fn.caller)
    × (g.P.CellCaller.own l.caller ≡ g.P.CellCaller.own l.fn.caller ++ close_entries (2 + l.size.shards) l.number)
    × MainStays (g.P.CellCaller.opening l.fn.caller) (g.P.CellCaller.own l.fn.caller) (g.P.CellCaller.opening l.caller) (g.P.CellCaller.own l.caller)
