use Rattle.std.proofs.Common.{refl}
use Rattle.std.specs.List.{IsDistinct}
use Rattle.brick_map.proofs.list.BrickList.new.Goals as goal

pub invariant_of-result : goal.invariant_of-result
unfolding IsDistinct
invariant_of-result c = record {
  places = λ number. rw (c.new-2.ensures.empty, c.new.ensures.items) refl;
  distinct = rw c.new.ensures.items tt;
}
