use Rattle.std.proofs.Common.{◌-◌, length, take, drop}
use Rattle.cube_values.specs.declared.entry.Entry.TheVariants.{Run}
use Rattle.round_text.proofs.EntryWrites.{headed, run_ends}
use Rattle.round_text.proofs.put.put_entries.Goals as goal

pub put_run-requires-clause-end : goal.put_run-requires-clause-end
put_run-requires-clause-end c =
    let left = c.entries.left.now in
    let e = headed left (Run 0 0) (Run c.in-Run.epoch c.in-Run.end) c.in-len1-up.len_at_least c.in-Run.is in
    run_ends c.entries.from left (take (length left - 1) (drop 1 left)) c.in-Run.epoch c.in-Run.end _ e c.entries.invariant.leads
