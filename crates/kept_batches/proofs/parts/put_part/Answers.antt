use Rattle.std.proofs.Common.{◌-◌, length, take, drop, ap, arith}
use Rattle.cube_values.specs.declared.entry.Entry.TheVariants.{Run}
use Rattle.kept_batches.proofs.Putting.{headed, run_ends}
use Rattle.kept_batches.proofs.parts.put_part.Goals as goal

pub put_run-requires-clause-within : goal.put_run-requires-clause-within
put_run-requires-clause-within c =
    let left = c.entries.left.now in
    let e = headed left (Run 0 0) (Run c.in-Run.epoch c.in-Run.end) c.in-len1-up.len_at_least c.in-Run.is in
    let rest = take (length left - 1) (drop 1 left) in
    let rows = length c.args.part.now.rows in
    let ends = run_ends c.entries.from left rest c.in-Run.epoch c.in-Run.end rows e c.entries.invariant.leads in
    omega (arith, ends.1, ap length c.rows-rows.ensures)
