use Rattle.std.proofs.Common.{◌≡◌, ◌++◌, length}
use Rattle.std.specs.Prelude.{filter_map}
use Rattle.cube_language.specs.ResolvedNames.{resolved_cond}
use Rattle.query_plan.proofs.resolve.resolved_conditions.Given as goal

abbrev pub invariant-conds : goal.invariant-conds
invariant-conds l =
    l.found.items ++ filter_map (resolved_cond l.cube) l.left ≡ filter_map (resolved_cond l.cube) l.conds

abbrev pub decreases-conds : goal.decreases-conds
decreases-conds l = length l.left
