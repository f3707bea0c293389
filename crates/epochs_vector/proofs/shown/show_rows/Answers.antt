use Rattle.std.proofs.Common.{◌-◌, length, take, drop, ◌∙◌}
use Rattle.cube_values.specs.declared.entry.Entry.TheVariants.{Run}
use Rattle.epochs_vector.proofs.VisibleRows.{headed, next_run, run_within}
use Rattle.epochs_vector.proofs.shown.show_rows.Goals as goal

pub show_run-requires-clause-within : goal.show_run-requires-clause-within
show_run-requires-clause-within c =
    let left = c.entries.left.now in
    let e = headed left (Run 0 0) (Run c.in-Run.epoch c.in-Run.end) c.in-len1-up.len_at_least c.in-Run.is in
    run_within c.args.snapshot.now c.args.limit.now c.args.entries.now left (take (length left - 1) (drop 1 left)) c.in-Run.epoch c.in-Run.end c.entries.from c.args.bits.now.bits c.entries.bits.bits e c.entries.invariant.0

pub entries-preserved-in-Run : goal.entries-preserved-in-Run
entries-preserved-in-Run c =
    let left = c.entries.left.now in
    let e = headed left (Run 0 0) (Run c.in-Run.epoch c.in-Run.end) c.in-len1-up.len_at_least c.in-Run.is in
    (next_run c.args.snapshot.now c.args.limit.now c.args.entries.now left (take (length left - 1) (drop 1 left)) c.in-Run.epoch c.in-Run.end c.entries.from c.args.bits.now.bits c.entries.bits.bits c.show_run.new.bits.bits e c.entries.invariant.0 c.show_run.ensures.shown, c.show_run.ensures.room ∙ c.entries.invariant.1)
