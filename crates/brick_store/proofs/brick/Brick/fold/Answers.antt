use Rattle.std.proofs.Common.{All, IsTrue, List, OnOk, length, sym, subst, ap}
use Rattle.cube_values.specs.declared.row.CodedRow.{CodedRow}
use Rattle.cube_values.specs.Queries.{IsSoundQuery}
use Rattle.agg_fold.specs.Standing.{Gains, HasRoom}
use Rattle.brick_store.specs.Bricks.{BrickState}
use Rattle.brick_store.specs.Rows.{rows_shown}
use Rattle.cube_values.specs.Spans.{span_has_row}
use Rattle.brick_store.proofs.Changes.{rows_known, seen_length}
use Rattle.brick_store.proofs.Readable.{dims_known, rows_readable}
use Rattle.brick_store.proofs.brick.Brick.fold.Goals as goal

pub fold_seen-requires-clause-rows : goal.fold_seen-requires-clause-rows
fold_seen-requires-clause-rows c = rows_known c.self.inside c.self.invariant

pub fold_seen-requires-clause-readable : goal.fold_seen-requires-clause-readable
fold_seen-requires-clause-readable c = rw c.as_slice.ensures.value (rows_readable c.self.inside c.self.invariant c.len-rows.ensures.sound)

pub fold_seen-requires-clause-sound : goal.fold_seen-requires-clause-sound
fold_seen-requires-clause-sound c =
    let old = c.self.inside in
    let own = subst (λ (v : BrickState). IsSoundQuery c.args.query.now (length v.home.sizes) v.home.metrics) (sym c.self.view_is) c.requires.sound in
    rw c.as_slice.ensures.value (subst (λ n. IsSoundQuery c.args.query.now n old.columns.layout.metrics) (sym (dims_known old c.self.invariant)) own)

pub fold_seen-requires-clause-all : goal.fold_seen-requires-clause-all
fold_seen-requires-clause-all c =
    rw c.as_slice.ensures.value (subst (λ (v : BrickState). IsTrue c.args.all → All (λ row. IsTrue (span_has_row c.args.query.now.span row)) v.rows) (sym c.self.view_is) c.requires.all)

pub fold_seen-requires-clause-room : goal.fold_seen-requires-clause-room
fold_seen-requires-clause-room c =
    subst (λ n. HasRoom c.args.query.now n c.args.into.now.groups) (seen_length c.self.inside c.args.self.now c.self.view_is) c.requires.room

pub returns : goal.returns
returns c =
    let b = c.self.inside in
    let query = c.args.query.now in
    let shown : List CodedRow → Type 0 = λ rows. OnOk c.fold_seen.result (Gains query rows c.args.into.now.groups c.fold_seen.new.into.groups) in
    subst shown (ap (λ (v : BrickState). rows_shown query.span c.args.snapshot.now v.entries v.rows) c.self.view_is) (rw c.as_slice.ensures.value at c.fold_seen.ensures)
