use Rattle.std.proofs.Common.{◌≡◌, length, take, drop, arith, ap, ◌∙◌}
use Rattle.std.proofs.lemmas.List.{take_at}
use Rattle.purge_plan.specs.Purged.{spared_bits, purged_entries}
use Rattle.purge_plan.proofs.Counts.{vector_purged}
use Rattle.purge_plan.proofs.purge.plan.Goals as goal

pub returns-clause-vector : goal.returns-clause-vector
returns-clause-vector c =
    let old = c.args.entries.now in
    let new = c.leave-len.new.entries in
    let e : length new ≡ old.len = omega arith in
    let items = c.truncate.ensures.items ∙ ap (take c.leave-len.result) (take_at new (drop (length new) old.items) old.len e) ∙ c.leave-len.ensures.front ∙ ap (purged_entries c.args.epoch) c.as_mut_slice.ensures.value in
    let keep = c.leave-len.ensures.keep ∙ ap (spared_bits c.args.epoch) c.as_mut_slice.ensures.value in
    rw (items, keep) (vector_purged c.args.epoch old.items (length c.args.keep.now.bits) c.requires.vector)
