use Rattle.std.proofs.Common.{◌≡◌, ◌++◌, length}
use Rattle.std.specs.Prelude.{filter_map}
use Rattle.cube_language.specs.ResolvedNames.{resolved_key}
use Rattle.query_plan.proofs.top.resolved_keys.Given as goal

abbrev pub invariant-keys : goal.invariant-keys
invariant-keys l =
    l.found.items ++ filter_map (resolved_key l.statement) l.left ≡ filter_map (resolved_key l.statement) l.keys

abbrev pub decreases-keys : goal.decreases-keys
decreases-keys l = length l.left
