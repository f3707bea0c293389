use Rattle.std.proofs.Common.{◌≡◌, take}
use Rattle.agg_fold.specs.Standing.{StandsAlike, ArePlaces}
use Rattle.agg_fold.proofs.groups.Groups.places_of.Given as goal

abbrev pub invariant-groups : goal.invariant-groups
invariant-groups l =
    StandsAlike l.query l.fn.self l.self × (l.self.rows ≡ l.fn.self.rows)
    × ArePlaces l.self.keys l.places.items (take l.theirs l.other.keys)
