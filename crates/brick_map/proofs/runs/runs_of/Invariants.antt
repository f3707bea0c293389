use Rattle.std.proofs.Common.{◌-◌, ◌≤◌, List, ◌++◌, length}
use Rattle.brick_map.specs.declared.runs.BatchRun.{BatchRun}
use Rattle.brick_map.specs.Batches.{AreRuns}
use Rattle.brick_map.proofs.runs.runs_of.Given as goal

abbrev pub invariant-runs : goal.invariant-runs
invariant-runs l = record {
  within : l.from ≤ length l.batch.rows;
  rest : (tail : List BatchRun) → AreRuns l.shape.sizes l.batch.rows l.from tail → AreRuns l.shape.sizes l.batch.rows 0 (l.runs.items ++ tail);
}

abbrev pub decreases-runs : goal.decreases-runs
decreases-runs l = length l.batch.rows - l.from
