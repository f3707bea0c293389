use Rattle.std.proofs.Common.{◌≡◌, ◌-◌, ◌||◌, length, take, get_or, slice_set, arith, sym, ap, ◌∙◌}
use Rattle.std.proofs.lemmas.List.{length-take-le, get_or-take, take_more_set}
use Rattle.std.proofs.Math.Seq.{take-set-lt}
use Rattle.cube_values.specs.declared.entry.Entry.{Entry}
use Rattle.cube_values.specs.declared.entry.Entry.TheVariants.{Run}
use Rattle.cube_values.specs.EpochsVector.{is_one_with}
use Rattle.purge_plan.specs.Purged.{are_old_runs, merged_entry}
use Rattle.purge_plan.proofs.Joins.{put_over, put_after, put_first}
use Rattle.purge_plan.proofs.entry_list.put_merged.Goals as goal
use Rattle.purge_plan.proofs.entry_list.put_merged.Goals.{else-len-gt0-via-then-len-gt0+else-are_merged, else-len-gt0-via-else-len-gt0}

pub returns-then-are_merged-clause-front : goal.returns-then-are_merged-clause-front
returns-then-are_merged-clause-front c =
    let xs = c.args.entries.now in
    let n = c.args.len in
    let p = c.args.epoch in
    let long : length (take n xs) ≡ n = length-take-le n xs (omega arith) in
    let last : get_or (take n xs) (n - 1) (Run 0 0) ≡ get_or xs (n - 1) (Run 0 0) = get_or-take n xs (n - 1) (Run 0 0) (omega arith) in
    take-set-lt n xs (n - 1) c.merged_entry.result (omega arith) ∙ ap (λ (e : Entry). slice_set (take n xs) (n - 1) e) (c.merged_entry.ensures ∙ ap (λ (e : Entry). merged_entry e c.args.new) (sym last)) ∙ put_over p (take n xs) (n - 1) (Run 0 0) c.args.new (omega arith) (ap (λ (e : Entry). is_one_with e c.args.new || are_old_runs p e c.args.new) last ∙ sym c.are_merged.ensures ∙ c.if-are_merged.true)

pub returns-else-len-gt0-clause-front : goal.returns-else-len-gt0-clause-front
returns-else-len-gt0-clause-front c =
    let xs = c.args.entries.now in
    let n = c.args.len in
    let p = c.args.epoch in
    let long : length (take n xs) ≡ n = length-take-le n xs (omega arith) in
    take_more_set xs n c.args.new c.requires ∙ elim c.else-len-gt0.branch [
      | else-len-gt0-via-then-len-gt0+else-are_merged w ↦ put_after p (take n xs) (n - 1) (Run 0 0) c.args.new (omega arith) (ap (λ (e : Entry). is_one_with e c.args.new || are_old_runs p e c.args.new) (get_or-take n xs (n - 1) (Run 0 0) (omega arith)) ∙ sym w.are_merged.ensures ∙ w.if-are_merged.false)
      | else-len-gt0-via-else-len-gt0 w ↦ put_first p (take n xs) c.args.new (omega arith)
    ]
