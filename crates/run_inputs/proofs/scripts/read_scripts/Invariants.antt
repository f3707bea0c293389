use Rattle.std.proofs.Common.{◌≡◌, take}
use Rattle.run_inputs.proofs.ReadInTurns.{AreRead}
use Rattle.run_inputs.proofs.scripts.read_scripts.Given as goal

abbrev pub invariant-names : goal.invariant-names
invariant-names g l =
    (g.H.Shelf.told l.shelf ≡ g.H.Shelf.told l.fn.shelf)
    × (g.H.Shelf.fault_count l.shelf ≡ g.H.Shelf.fault_count l.fn.shelf)
    × (g.H.Shelf.absence_count l.shelf ≡ g.H.Shelf.absence_count l.fn.shelf)
    × AreRead (g.H.Shelf.told l.fn.shelf) (g.H.Shelf.call_list l.fn.shelf) (g.H.Shelf.call_list l.shelf)
    (take l.i l.names) l.scripts.items
