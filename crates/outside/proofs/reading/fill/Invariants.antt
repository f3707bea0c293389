use Rattle.std.proofs.Common.{◌≡◌, ◌≤◌, ◌-◌, ℕ, List, length, take, Some}
use Rattle.outside.specs.Files.{content_of}
use Rattle.outside.specs.ShelfCalls.{ReadsPrefix, WhereKnown}
use Rattle.outside.proofs.reading.fill.Given as goal

abbrev pub invariant-pieces : goal.invariant-pieces
invariant-pieces g l = record {
  within : l.filled ≤ length l.into;
  same : g.S.Shelf.told l.shelf ≡ g.S.Shelf.told l.fn.shelf;
  quiet : g.S.Shelf.fault_count l.shelf ≡ g.S.Shelf.fault_count l.fn.shelf;
  absences : g.S.Shelf.absence_count l.shelf ≡ g.S.Shelf.absence_count l.fn.shelf;
  prefix : (files : List (List ℕ × List ℕ)) (bytes : List ℕ) →
      g.S.Shelf.told l.fn.shelf ≡ Some files → content_of files l.name ≡ Some bytes →
      (l.filled ≤ length bytes) × (take l.filled l.into ≡ take l.filled bytes);
  calls : WhereKnown (λ past now. ReadsPrefix l.name past now (take l.filled l.into))
      (g.S.Shelf.call_list l.fn.shelf) (g.S.Shelf.call_list l.shelf);
}

abbrev pub decreases-pieces : goal.decreases-pieces
decreases-pieces g l = length l.into - l.filled
