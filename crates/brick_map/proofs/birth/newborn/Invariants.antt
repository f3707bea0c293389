use Rattle.std.proofs.Common.{◌≡◌, ◌+◌, ◌≤◌, length, take}
use Rattle.brick_map.specs.Births.{content_of_brick, newborn}
use Rattle.brick_map.specs.Lists.{home_of}
use Rattle.brick_map.proofs.birth.newborn.Given as goal

abbrev pub invariant-deletions : goal.invariant-deletions
invariant-deletions l = record {
  home : l.brick.home ≡ home_of l.shape l.number;
  content : content_of_brick l.brick ≡ newborn l.shape.shape.sizes (take l.deletion-index l.recent) l.number;
  spare : length l.recent ≤ l.deletion-index + l.brick.spare_entries;
}
