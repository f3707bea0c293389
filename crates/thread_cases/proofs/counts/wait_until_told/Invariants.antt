use Rattle.std.proofs.Common.{◌≡◌}
use Rattle.thread_cases.proofs.counts.wait_until_told.Given as goal

abbrev pub invariant-loop : goal.invariant-loop
invariant-loop g l =
    g.P.CellCaller.calls_on l.board l.caller × (g.P.CellCaller.opening l.caller ≡ g.P.CellCaller.opening l.initial.caller)
    × (g.P.CellCaller.number l.caller ≡ g.P.CellCaller.number l.initial.caller)
    × (g.P.CellCaller.others l.caller ≡ g.P.CellCaller.others l.initial.caller)
