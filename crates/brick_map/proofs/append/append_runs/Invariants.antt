use Rattle.std.proofs.Common.{ℕ, drop}
use Rattle.brick_map.proofs.Appending.{AreBetween}
use Rattle.brick_map.proofs.append.append_runs.Given as goal

abbrev pub invariant-loop-run : goal.invariant-loop-run
invariant-loop-run l = (at : ℕ) × AreBetween l.shape l.epoch l.batch.rows l.initial.list l.list (drop l.run-index l.runs) at
