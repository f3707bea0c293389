use Rattle.std.proofs.Common.{◌∷◌, ◌++◌, [], ap, sym, subst, ◌∙◌, ◌<◌, arith}
use Rattle.std.specs.List.{AllZip}
use Rattle.packed_words.specs.Rows.{differences}
use Rattle.brick_columns.specs.Rows.{BrickRow, BrickRows}
use Rattle.brick_columns.proofs.WholeRows.{narrow, row_of, takes_by, takes_rows, takes_whole}
use Rattle.brick_columns.proofs.columns.Columns.push_from.Goals as goal

pub push_differences-requires-clause-room : goal.push_differences-requires-clause-room
push_differences-requires-clause-room c =
    let old = c.self.inside in
    let spare = ap (λ (v : BrickRows). v.spare) c.self.view_is in
    omega (arith, c.requires.room, c.self.invariant.room, c.self.invariant.long)

pub push_differences-requires-clause-numbers : goal.push_differences-requires-clause-numbers
push_differences-requires-clause-numbers c =
    let old = c.self.inside in
    let offsets = differences c.args.coords.now c.args.starts.now in
    let below = subst (λ (v : BrickRows). AllZip ◌<◌ offsets v.layout.ranges) (sym c.self.view_is) c.requires.row.inside.offsets in
    narrow offsets old.ranges.items old.offsets.widths below c.self.invariant.widths

pub invariant_of-self : goal.invariant_of-self
invariant_of-self c =
    let old = c.self.inside in
    let row : BrickRow = record { offsets = differences c.args.coords.now c.args.starts.now; metrics = c.args.metrics.now } in
    let is = row_of old c.args.self.now row c.self.view_is c.requires.row.inside.offsets c.requires.row.inside.metrics in
    let by = takes_by row old c.push_differences.new.self c.push_each.new.lists c.all_short-self-inside.result is c.push_differences.ensures (rw c.as_mut_slice.ensures.value at c.push_each.ensures) c.all_short-self-inside.ensures.0 in
    let spare = ap (λ (v : BrickRows). v.spare) c.self.view_is in
    takes_whole row old _ is (omega (arith, c.requires.room)) by c.self.invariant

pub returns-clause-rows : goal.returns-clause-rows
returns-clause-rows c =
    let old = c.self.inside in
    let row : BrickRow = record { offsets = differences c.args.coords.now c.args.starts.now; metrics = c.args.metrics.now } in
    let is = row_of old c.args.self.now row c.self.view_is c.requires.row.inside.offsets c.requires.row.inside.metrics in
    let by = takes_by row old c.push_differences.new.self c.push_each.new.lists c.all_short-self-inside.result is c.push_differences.ensures (rw c.as_mut_slice.ensures.value at c.push_each.ensures) c.all_short-self-inside.ensures.0 in
    takes_rows row old _ is by c.self.invariant ∙ ap (λ (v : BrickRows). v.rows ++ row ∷ []) c.self.view_is
