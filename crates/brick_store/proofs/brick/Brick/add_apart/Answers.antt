use Rattle.std.proofs.Common.{All, IsTrue, [], sym, subst}
use Rattle.agg_fold.specs.Standing.{Gains}
use Rattle.brick_store.specs.Bricks.{BrickState}
use Rattle.brick_store.specs.Deltas.{rows_apart, seen_apart}
use Rattle.cube_values.specs.Spans.{span_has_row}
use Rattle.brick_store.specs.Whole.{contract_view, home_in}
use Rattle.brick_store.proofs.Covered.{all_inside, none_shown}
use Rattle.brick_store.proofs.Folds.{gains_none, gains_same}
use Rattle.brick_store.proofs.brick.Brick.add_apart.Goals as goal

pub returns-in-Outside : goal.returns-in-Outside
returns-in-Outside c =
    let b = c.self.inside in
    let query = c.args.query.now in
    let g = c.args.into.now.groups in
    let none = none_shown (home_in b) query.span (seen_apart c.args.one.now c.args.other.now b.epochs.entries) (contract_view b).rows c.in-Outside.ensures c.self.invariant.sound in
    subst (λ (v : BrickState). Gains query (rows_apart query.span c.args.one.now c.args.other.now v.entries v.rows) g g) c.self.view_is (gains_same query [] _ g g (sym none) (gains_none query g))

pub fold_apart-requires-clause-all : goal.fold_apart-requires-clause-all
fold_apart-requires-clause-all c = λ _.
    let b = c.self.inside in
    let span = c.args.query.now.span in
    subst (λ (v : BrickState). All (λ row. IsTrue (span_has_row span row)) v.rows) c.self.view_is (all_inside (home_in b) span (contract_view b).rows c.in-Inside.ensures c.self.invariant.sound)
