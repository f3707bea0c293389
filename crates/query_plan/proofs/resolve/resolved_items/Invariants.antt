use Rattle.std.proofs.Common.{◌≡◌, ◌++◌, length}
use Rattle.std.specs.Prelude.{filter_map}
use Rattle.cube_language.specs.ResolvedNames.{resolved_item}
use Rattle.query_plan.proofs.resolve.resolved_items.Given as goal

abbrev pub invariant-items : goal.invariant-items
invariant-items l =
    l.found.items ++ filter_map (resolved_item l.cube) l.left ≡ filter_map (resolved_item l.cube) l.items

abbrev pub decreases-items : goal.decreases-items
decreases-items l = length l.left
