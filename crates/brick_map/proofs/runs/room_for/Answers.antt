use Rattle.std.proofs.Common.{arith}
use Rattle.brick_map.specs.Batches.{run_at}
use Rattle.brick_map.proofs.BatchRuns.{one_run, rows_for_most, run_there, runs_for_most}
use Rattle.brick_map.proofs.runs.room_for.Goals as goal

pub overflow_sub-result : goal.overflow_sub-result
overflow_sub-result c = omega (arith, run_there c.args.rows 0 c.args.i c.args.runs.now c.requires.there c.requires.runs)

pub returns-then-apart-clause-rows : goal.returns-then-apart-clause-rows
returns-then-apart-clause-rows c =
    let one = one_run 0 c.args.i c.args.runs.now c.requires.there (c.requires.apart c.if-apart.true) in
    omega (arith, one.rows)

pub returns-then-apart-clause-entries : goal.returns-then-apart-clause-entries
returns-then-apart-clause-entries c =
    let one = one_run 0 c.args.i c.args.runs.now c.requires.there (c.requires.apart c.if-apart.true) in
    omega (arith, one.count)

pub returns-clause-rows : goal.returns-clause-rows
returns-clause-rows c = omega (arith, rows_for_most (run_at c.args.runs.now c.args.i).number c.args.rows 0 c.args.runs.now c.requires.runs)

pub returns-clause-entries : goal.returns-clause-entries
returns-clause-entries c = omega (arith, runs_for_most (run_at c.args.runs.now c.args.i).number c.args.runs.now)
