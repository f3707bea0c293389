use Rattle.std.proofs.Common.{◌<◌, [], All, map, sym, subst, arith}
use Rattle.brick_store.specs.Whole.{row_with_coords}
use Rattle.brick_store.proofs.Folds.{gains_none, gains_same, none_set}
use Rattle.brick_store.proofs.scan.fold_chosen.Goals as goal

pub cell_count-requires-clause-dims : goal.cell_count-requires-clause-dims
cell_count-requires-clause-dims c =
    rw c.as_slice.ensures (subst (λ n. All (λ dim. dim < n) c.args.query.now.group) c.requires.readable.long c.requires.sound.group)

pub returns-then-ones-eq0 : goal.returns-then-ones-eq0
returns-then-ones-eq0 c =
    let query = c.args.query.now in
    let g = c.args.into.now.groups in
    let none = none_set c.args.bits.now.bits (map (row_with_coords c.args.starts.now) c.args.columns.now.rows) (omega (arith, c.ones.ensures)) in
    gains_same query [] _ g g (sym none) (gains_none query g)
