use Rattle.std.proofs.Common.{length, sym, ap, ◌∙◌, arith}
use Rattle.std.specs.List.{items_where_true}
use Rattle.std.proofs.lemmas.List.Sums.{count_by-le-length}
use Rattle.brick_columns.specs.Rows.{BrickRows}
use Rattle.brick_columns.proofs.KeptItems.{kept_length}
use Rattle.brick_columns.proofs.RowLists.{columns_len}
use Rattle.brick_columns.proofs.WholeRows.{seen_length, keeps_by, keeps_rows, keeps_whole}
use Rattle.brick_columns.proofs.columns.Columns.keep.Goals as goal

pub keep-requires : goal.keep-requires
keep-requires c =
    let old = c.self.inside in
    omega (arith, c.requires, seen_length old c.args.self.now c.self.invariant c.self.view_is, c.self.invariant.long)

pub keep_each-requires : goal.keep_each-requires
keep_each-requires c =
    let old = c.self.inside in
    let long = c.requires ∙ seen_length old c.args.self.now c.self.invariant c.self.view_is in
    rw (c.as_mut_slice.ensures.value, long) (columns_len old.metrics.items old.rows old.room c.self.invariant.metrics)

pub invariant_of-self : goal.invariant_of-self
invariant_of-self c =
    let old = c.self.inside in
    let bits = c.args.bits.now.bits in
    let long = c.requires ∙ seen_length old c.args.self.now c.self.invariant c.self.view_is in
    let by = keeps_by bits old c.keep.new.self c.keep_each.new.lists c.ones-self-inside.result c.keep.ensures (rw c.as_mut_slice.ensures.value at c.keep_each.ensures) c.ones-self-inside.ensures in
    keeps_whole bits old _ long by c.self.invariant

pub returns-clause-rows : goal.returns-clause-rows
returns-clause-rows c =
    let old = c.self.inside in
    let bits = c.args.bits.now.bits in
    let long = c.requires ∙ seen_length old c.args.self.now c.self.invariant c.self.view_is in
    let by = keeps_by bits old c.keep.new.self c.keep_each.new.lists c.ones-self-inside.result c.keep.ensures (rw c.as_mut_slice.ensures.value at c.keep_each.ensures) c.ones-self-inside.ensures in
    keeps_rows bits old _ long by ∙ ap (λ (v : BrickRows). items_where_true bits v.rows) c.self.view_is

pub returns-clause-room : goal.returns-clause-room
returns-clause-room c =
    let bits = c.args.bits.now.bits in
    let long = seen_length c.self.inside c.args.self.now c.self.invariant c.self.view_is in
    let spare = ap (λ (v : BrickRows). v.spare) c.self.view_is in
    let left = ap length (returns-clause-rows c) ∙ kept_length bits c.args.self.now.rows (sym c.requires) in
    omega (arith, count_by-le-length (λ bit. bit) bits, c.self.invariant.within, c.requires, c.ones-self-inside.ensures)

pub returns-clause-spare : goal.returns-clause-spare
returns-clause-spare c =
    let bits = c.args.bits.now.bits in
    let long = seen_length c.self.inside c.args.self.now c.self.invariant c.self.view_is in
    let spare = ap (λ (v : BrickRows). v.spare) c.self.view_is in
    omega (arith, count_by-le-length (λ bit. bit) bits, c.requires, c.ones-self-inside.ensures)
