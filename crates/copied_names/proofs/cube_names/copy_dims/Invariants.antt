use Rattle.std.proofs.Common.{◌≡◌}
use Rattle.copied_names.proofs.CopiedLists.{HasCopiedFirst}
use Rattle.copied_names.proofs.cube_names.copy_dims.Given as goal

abbrev pub invariant-dims : goal.invariant-dims
invariant-dims g l =
    g.P.CellCaller.calls_on l.board l.caller
    × (g.P.CellCaller.opening l.caller ≡ g.P.CellCaller.opening l.fn.caller)
    × (g.P.CellCaller.number l.caller ≡ g.P.CellCaller.number l.fn.caller)
    × (g.P.CellCaller.others l.caller ≡ g.P.CellCaller.others l.fn.caller)
    × HasCopiedFirst (g.P.CellCaller.number l.fn.caller) l.place l.cube (g.P.CellCaller.own l.fn.caller) (g.P.CellCaller.own l.caller)
    l.lists l.dim
