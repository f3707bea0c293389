use Rattle.std.proofs.Common.{◌-◌, arith, sym, ap, ◌∙◌}
use Rattle.cube_values.specs.declared.entry.Entry.{Entry}
use Rattle.cube_values.specs.EpochsVector.{is_one_with}
use Rattle.epochs_vector.proofs.Ends.{put_over, put_after, put_first}
use Rattle.epochs_vector.proofs.entry_list.put_last.Goals as goal
use Rattle.epochs_vector.proofs.entry_list.put_last.Goals.{else-len-gt0-via-then-len-gt0+else-is_one_with, else-len-gt0-via-else-len-gt0}

pub returns-then-is_one_with-clause-items : goal.returns-then-is_one_with-clause-items
returns-then-is_one_with-clause-items c =
    put_over c.args.entries.now.items (c.len-len.result - 1) c.index.result.now c.args.new (omega (arith, c.args.entries.now.ok.0)) (ap (λ (e : Entry). is_one_with e c.args.new) (sym c.index.ensures) ∙ sym c.is_one_with.ensures ∙ c.if-is_one_with.true)

pub returns-else-len-gt0-clause-items : goal.returns-else-len-gt0-clause-items
returns-else-len-gt0-clause-items c =
    c.push_reserved.ensures.items ∙ elim c.else-len-gt0.branch [
      | else-len-gt0-via-then-len-gt0+else-is_one_with w ↦ put_after c.args.entries.now.items (c.len-len.result - 1) w.index.result.now c.args.new (omega (arith, c.args.entries.now.ok.0)) (ap (λ (e : Entry). is_one_with e c.args.new) (sym w.index.ensures) ∙ sym w.is_one_with.ensures ∙ w.if-is_one_with.false)
      | else-len-gt0-via-else-len-gt0 w ↦ put_first c.args.entries.now.items c.args.new (omega (arith, c.args.entries.now.ok.0))
    ]
