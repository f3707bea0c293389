use Rattle.std.proofs.Common.{◌≡◌, ◌+◌, ◌-◌, length, refl, ap, ◌∙◌, arith, rules}
use Rattle.cube_values.specs.Rooms.{grown_room}
use Rattle.packed_words.specs.Rows.{NumberRows}
use Rattle.brick_columns.specs.Rows.{BrickRows}
use Rattle.brick_columns.proofs.WholeRows.{seen_length, grows_by, grows_rows, grows_same, grows_whole, grows_roomier}
use Rattle.brick_columns.proofs.columns.Columns.reserve.Goals as goal

pub invariant_of-self-in_err-reserve_each : goal.invariant_of-self-in_err-reserve_each
invariant_of-self-in_err-reserve_each c =
    let old = c.self.inside in
    let made = c.in_ok-reserve.ensures.ok in
    let by = grows_by old c.reserve.new.self c.reserve_each.new.lists old.room (ap (λ (o : NumberRows). o.widths) made) (ap (λ (o : NumberRows). o.rows) made) (rw c.as_mut_slice.ensures.value at c.reserve_each.ensures.grown) in
    grows_whole old _ by refl (omega (arith, ap (λ (o : NumberRows). o.room) made)) c.self.invariant

pub returns-in_err-reserve_each-clause-rows : goal.returns-in_err-reserve_each-clause-rows
returns-in_err-reserve_each-clause-rows c =
    let old = c.self.inside in
    let made = c.in_ok-reserve.ensures.ok in
    let by = grows_by old c.reserve.new.self c.reserve_each.new.lists old.room (ap (λ (o : NumberRows). o.widths) made) (ap (λ (o : NumberRows). o.rows) made) (rw c.as_mut_slice.ensures.value at c.reserve_each.ensures.grown) in
    grows_rows old _ by ∙ ap (λ (v : BrickRows). v.rows) c.self.view_is

pub returns-in_err-reserve_each-clause-same : goal.returns-in_err-reserve_each-clause-same
returns-in_err-reserve_each-clause-same c =
    let old = c.self.inside in
    let made = c.in_ok-reserve.ensures.ok in
    let by = grows_by old c.reserve.new.self c.reserve_each.new.lists old.room (ap (λ (o : NumberRows). o.widths) made) (ap (λ (o : NumberRows). o.rows) made) (rw c.as_mut_slice.ensures.value at c.reserve_each.ensures.grown) in
    let same = grows_same old _ by refl ∙ c.self.view_is in
    search rules

pub invariant_of-self-then-self-n : goal.invariant_of-self-then-self-n
invariant_of-self-then-self-n c =
    let old = c.self.inside in
    let made = c.in_ok-reserve.ensures.ok in
    grows_roomier old c.reserve.new.self c.reserve_each.new.lists (c.in_ok-room.room - old.rows) c.in_ok-room.room (ap (λ (o : NumberRows). o.widths) made) (ap (λ (o : NumberRows). o.rows) made) (omega (arith, ap (λ (o : NumberRows). o.room) made)) (rw c.as_mut_slice.ensures.value at c.reserve_each.ensures.grown) c.in_ok-reserve_each.ensures.room (omega arith) c.self.invariant

pub returns-in_ok-reserve_each-clause-rows : goal.returns-in_ok-reserve_each-clause-rows
returns-in_ok-reserve_each-clause-rows c =
    let old = c.self.inside in
    let made = c.in_ok-reserve.ensures.ok in
    let by = grows_by old c.reserve.new.self c.reserve_each.new.lists c.in_ok-room.room (ap (λ (o : NumberRows). o.widths) made) (ap (λ (o : NumberRows). o.rows) made) (rw c.as_mut_slice.ensures.value at c.reserve_each.ensures.grown) in
    grows_rows old _ by ∙ ap (λ (v : BrickRows). v.rows) c.self.view_is

pub returns-in_ok-reserve_each-clause-grown : goal.returns-in_ok-reserve_each-clause-grown
returns-in_ok-reserve_each-clause-grown c =
    let now = c.args.self.now in
    let old = c.self.inside in
    let long = seen_length old now c.self.invariant c.self.view_is in
    let spare = ap (λ (v : BrickRows). v.spare) c.self.view_is in
    let rows = ap length (returns-in_ok-reserve_each-clause-rows c) in
    let room : old.room ≡ length now.rows + now.spare = omega (arith, c.self.invariant.within) in
    let more : old.rows + c.args.n ≡ length now.rows + c.args.n = omega arith in
    omega (arith, rows, c.in_ok-room.ensures.enough) ∙ c.in_ok-room.ensures.grown ∙ (λ t. grown_room (room t) (more t))
