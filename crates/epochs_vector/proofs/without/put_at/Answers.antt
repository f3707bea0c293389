use Rattle.std.proofs.Common.{◌≡◌, ◌-◌, length, take, arith, sym, ap, ◌∙◌}
use Rattle.std.proofs.lemmas.List.{length-take-le, get_or-take, take_more_set}
use Rattle.std.proofs.Math.Seq.{take-set-lt}
use Rattle.cube_values.specs.declared.entry.Entry.{Entry}
use Rattle.cube_values.specs.declared.entry.Entry.TheVariants.{Run}
use Rattle.cube_values.specs.EpochsVector.{is_one_with}
use Rattle.epochs_vector.proofs.Ends.{put_over, put_after, put_first}
use Rattle.epochs_vector.proofs.without.put_at.Goals as goal
use Rattle.epochs_vector.proofs.without.put_at.Goals.{else-len-gt0-via-then-len-gt0+else-is_one_with, else-len-gt0-via-else-len-gt0}

pub returns-then-is_one_with-clause-front : goal.returns-then-is_one_with-clause-front
returns-then-is_one_with-clause-front c =
    let xs = c.args.entries.now in
    let n = c.args.len in
    let long : length (take n xs) ≡ n = length-take-le n xs (omega arith) in
    take-set-lt n xs (n - 1) c.args.new (omega arith) ∙ put_over (take n xs) (n - 1) (Run 0 0) c.args.new (omega arith) (ap (λ (e : Entry). is_one_with e c.args.new) (get_or-take n xs (n - 1) (Run 0 0) (omega arith)) ∙ sym c.is_one_with.ensures ∙ c.if-is_one_with.true)

pub returns-else-len-gt0-clause-front : goal.returns-else-len-gt0-clause-front
returns-else-len-gt0-clause-front c =
    let xs = c.args.entries.now in
    let n = c.args.len in
    let long : length (take n xs) ≡ n = length-take-le n xs (omega arith) in
    take_more_set xs n c.args.new c.requires ∙ elim c.else-len-gt0.branch [
      | else-len-gt0-via-then-len-gt0+else-is_one_with w ↦ put_after (take n xs) (n - 1) (Run 0 0) c.args.new (omega arith) (ap (λ (e : Entry). is_one_with e c.args.new) (get_or-take n xs (n - 1) (Run 0 0) (omega arith)) ∙ sym w.is_one_with.ensures ∙ w.if-is_one_with.false)
      | else-len-gt0-via-else-len-gt0 w ↦ put_first (take n xs) c.args.new (omega arith)
    ]
