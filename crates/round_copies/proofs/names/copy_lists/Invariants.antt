use Rattle.std.proofs.Common.{◌≡◌}
use Rattle.round_copies.specs.RoundCopies.{GoesOnCopying, HasMoreWith}
use Rattle.round_copies.proofs.NameLoops.{AreCubesTold}
use Rattle.round_copies.proofs.names.copy_lists.Given as goal

abbrev pub invariant-cubes : goal.invariant-cubes
invariant-cubes g l =
    g.P.CellCaller.calls_on l.board l.caller
    × (g.P.CellCaller.others l.caller ≡ g.P.CellCaller.others l.fn.caller)
    × GoesOnCopying l.span l.client (g.P.CellCaller.opening l.fn.caller) (g.P.CellCaller.number l.fn.caller) (g.P.CellCaller.own l.fn.caller)
    (g.P.CellCaller.opening l.caller) (g.P.CellCaller.number l.caller) (g.P.CellCaller.own l.caller)
    × HasMoreWith (g.P.CellCaller.own l.fn.caller) (g.P.CellCaller.own l.caller)
    (λ later. AreCubesTold (g.P.CellCaller.number l.caller) later l.counts l.texts l.lists.items l.cube)
