use Rattle.std.proofs.Common.{◌<◌, ◌∷◌, ◌++◌, [], sym, subst, ap, ◌∙◌, arith}
use Rattle.std.specs.List.{AllZip}
use Rattle.packed_words.specs.Rows.{NumberRows, HasWidth, differences}
use Rattle.packed_words.proofs.HeldRows.{seen_length, row_room, hold_more, rows_pushed}
use Rattle.packed_words.proofs.packed_rows.PackedRows.push_differences.Goals as goal

pub push_above-requires-clause-narrow : goal.push_above-requires-clause-narrow
push_above-requires-clause-narrow c = rw c.as_slice.ensures.value c.self.invariant.narrow

pub push_above-requires-clause-numbers : goal.push_above-requires-clause-numbers
push_above-requires-clause-numbers c =
    let fit = subst (λ (v : NumberRows). AllZip HasWidth (differences c.args.numbers.now c.args.starts.now) v.widths) (sym c.self.view_is) c.requires.numbers in
    rw c.as_slice.ensures.value fit

pub push_above-requires-clause-room : goal.push_above-requires-clause-room
push_above-requires-clause-room c =
    let old = c.self.inside in
    let long = seen_length old c.args.self.now c.self.view_is in
    let room = ap (λ (v : NumberRows). v.room) c.self.view_is in
    let more : old.rows < old.room = omega (arith, c.requires.room) in
    rw c.as_slice.ensures.value (row_room old.widths.items old.width old.rows old.room old.bits c.self.invariant more)

pub overflow_add-self : goal.overflow_add-self
overflow_add-self c =
    let old = c.self.inside in
    let long = seen_length old c.args.self.now c.self.view_is in
    let room = ap (λ (v : NumberRows). v.room) c.self.view_is in
    omega (arith, c.requires.room)

pub invariant_of-self : goal.invariant_of-self
invariant_of-self c =
    let old = c.self.inside in
    let long = seen_length old c.args.self.now c.self.view_is in
    let room = ap (λ (v : NumberRows). v.room) c.self.view_is in
    let more : old.rows < old.room = omega (arith, c.requires.room) in
    let fit = subst (λ (v : NumberRows). AllZip HasWidth (differences c.args.numbers.now c.args.starts.now) v.widths) (sym c.self.view_is) c.requires.numbers in
    hold_more old.widths.items old.width old.rows old.room old.bits c.self.invariant (differences c.args.numbers.now c.args.starts.now) c.push_above.new.bits fit more (rw c.as_slice.ensures.value at c.push_above.ensures)

pub returns : goal.returns
returns c =
    let old = c.self.inside in
    let fit = subst (λ (v : NumberRows). AllZip HasWidth (differences c.args.numbers.now c.args.starts.now) v.widths) (sym c.self.view_is) c.requires.numbers in
    let rows = rows_pushed old.widths.items old.width old.rows old.room old.bits c.self.invariant (differences c.args.numbers.now c.args.starts.now) c.push_above.new.bits fit (rw c.as_slice.ensures.value at c.push_above.ensures) in
    (λ t. record { widths = old.widths.items; rows = rows t; room = old.room }) ∙ ap (λ (v : NumberRows). record v { rows = v.rows ++ (differences c.args.numbers.now c.args.starts.now) ∷ [] }) c.self.view_is
