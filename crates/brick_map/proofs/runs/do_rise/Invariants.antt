use Rattle.std.proofs.Common.{List, take, ◌++◌}
use Rattle.brick_map.specs.declared.runs.BatchRun.{BatchRun}
use Rattle.brick_map.specs.Batches.{RunsRiseFrom}
use Rattle.brick_map.proofs.runs.do_rise.Given as goal

abbrev pub invariant-runs : goal.invariant-runs
invariant-runs l = (tail : List BatchRun) → RunsRiseFrom l.low tail → RunsRiseFrom 0 (take l.run-index l.runs ++ tail)
