use Rattle.std.proofs.Common.{◌≡◌, ◌++◌, length}
use Rattle.std.specs.Prelude.{filter_map}
use Rattle.cube_language.specs.ResolvedNames.{resolved_test}
use Rattle.query_plan.proofs.top.resolved_tests.Given as goal

abbrev pub invariant-tests : goal.invariant-tests
invariant-tests l =
    l.found.items ++ filter_map (resolved_test l.statement) l.left ≡ filter_map (resolved_test l.statement) l.tests

abbrev pub decreases-tests : goal.decreases-tests
decreases-tests l = length l.left
