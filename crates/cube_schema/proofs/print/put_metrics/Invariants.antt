use Rattle.std.proofs.Common.{◌≡◌, ◌++◌, take}
use Rattle.std.specs.List.{flat_map}
use Rattle.cube_language.specs.Cubes.{metric_text}
use Rattle.cube_schema.proofs.print.put_metrics.Given as goal

abbrev pub invariant-metrics : goal.invariant-metrics
invariant-metrics l = l.out.items ≡ l.fn.out.items ++ flat_map metric_text (take l.name-index l.metrics)
