use Rattle.std.proofs.Common.{◌≡◌, length, vec_capacity}
use Rattle.std.specs.Vec.Iter.{into_iter_items, into_iter_len}
use Rattle.core_scripts.proofs.PlayedTexts.{StandsInTexts}
use Rattle.core_scripts.proofs.scripts.play_texts.Given as goal

abbrev pub invariant-script : goal.invariant-script
invariant-script g l =
    (goal.iterator-script g).can_next l.said-iterator × (goal.iterator-script g).is_finite l.said-iterator
    × StandsInTexts (g.P.CellCaller.opening l.fn.caller) (g.P.CellCaller.number l.fn.caller) l.fn.script.items
    (record {
      told = g.H.Shelf.told l.fn.shelf;
      faults = g.H.Shelf.fault_count l.fn.shelf;
      absences = g.H.Shelf.absence_count l.fn.shelf;
    })
    l.fn.player (g.P.CellCaller.own l.fn.caller) l.fn.replies.items (into_iter_items l.said-iterator)
    (g.P.CellCaller.own l.caller) l.replies.items
    (vec_capacity l.replies)
    (record {
      told = g.H.Shelf.told l.shelf;
      faults = g.H.Shelf.fault_count l.shelf;
      absences = g.H.Shelf.absence_count l.shelf;
    })
    l.player
    × (into_iter_len l.said-iterator ≡ length (into_iter_items l.said-iterator))
    × g.P.CellCaller.calls_on l.board l.caller
    × (g.P.CellCaller.opening l.caller ≡ g.P.CellCaller.opening l.fn.caller)
    × (g.P.CellCaller.number l.caller ≡ g.P.CellCaller.number l.fn.caller)
    × (g.P.CellCaller.others l.caller ≡ g.P.CellCaller.others l.fn.caller)
    × (vec_capacity l.replies ≡ vec_capacity l.fn.replies)
