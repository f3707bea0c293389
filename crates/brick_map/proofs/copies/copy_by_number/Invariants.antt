use Rattle.std.proofs.Common.{◌≡◌, ◌++◌}
use Rattle.std.specs.List.{flat_map}
use Rattle.std.specs.Map.{keys_of}
use Rattle.brick_map.specs.Copied.{parts_at}
use Rattle.brick_map.proofs.copies.copy_by_number.Given as goal

abbrev pub invariant-places : goal.invariant-places
invariant-places l =
    l.parts.items ++ flat_map (parts_at l.from l.to l.bricks) (keys_of l.number-iterator) ≡ flat_map (parts_at l.from l.to l.bricks) (keys_of l.places.entries)
