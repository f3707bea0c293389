use Rattle.std.proofs.Common.{◌≡◌}
use Rattle.thread_cases.proofs.counts.tell_all.Given as goal

abbrev pub invariant-loop-k : goal.invariant-loop-k
invariant-loop-k g l =
    g.P.CellCaller.calls_on l.board l.caller × (g.P.CellCaller.opening l.caller ≡ g.P.CellCaller.opening l.initial.caller)
    × (g.P.CellCaller.number l.caller ≡ g.P.CellCaller.number l.initial.caller)
    × (g.P.CellCaller.others l.caller ≡ g.P.CellCaller.others l.initial.caller)
