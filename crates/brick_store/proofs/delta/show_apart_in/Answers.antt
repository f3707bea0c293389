use Rattle.std.proofs.Common.{◌∙◌}
use Rattle.std.specs.List.{range_with_len}
use Rattle.cube_values.specs.EpochsVector.{rows_of, sees_row}
use Rattle.brick_store.specs.Deltas.{bits_apart}
use Rattle.brick_store.proofs.Apart.{tests_apart}
use Rattle.brick_store.proofs.delta.show_apart_in.Goals as goal

pub returns : goal.returns
returns c =
    let entries = c.args.epochs.now.entries in
    c.clear_where.ensures
    ∙ (λ t. bits_apart (c.in_ok-show_in.ensures t) (c.in_ok-show_in-2.ensures t))
    ∙ tests_apart (sees_row c.args.one.now entries) (sees_row c.args.other.now entries) (range_with_len 0 (rows_of entries))
