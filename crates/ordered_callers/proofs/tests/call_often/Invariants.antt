use Rattle.std.proofs.Common.{◌≡◌}
use Rattle.ordered_callers.proofs.tests.call_often.Given as goal

abbrev pub invariant-loop-k : goal.invariant-loop-k
invariant-loop-k g l =
    g.P.CellCaller.calls_on l.board l.caller
    × (g.P.CellCaller.opening l.caller ≡ g.P.CellCaller.opening l.initial.caller)
