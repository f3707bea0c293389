use Rattle.std.proofs.Common.{◌≡◌, ◌++◌, length}
use Rattle.std.specs.Prelude.{filter_map}
use Rattle.cube_language.specs.ResolvedNames.{dim_place}
use Rattle.query_plan.proofs.resolve.resolved_group.Given as goal

abbrev pub invariant-names : goal.invariant-names
invariant-names l = l.found.items ++ filter_map (dim_place l.cube) l.left ≡ filter_map (dim_place l.cube) l.names

abbrev pub decreases-names : goal.decreases-names
decreases-names l = length l.left
