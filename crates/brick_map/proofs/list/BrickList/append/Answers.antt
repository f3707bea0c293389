use Rattle.std.proofs.Common.{ℕ, ◌+◌, ◌-◌, ◌++◌, length, ap, sym, ◌∙◌, arith, set}
use Rattle.cube_values.specs.declared.entry.Entry.TheVariants.{Run}
use Rattle.cube_values.specs.EpochsVector.{vector_with_entry}
use Rattle.cube_values.specs.Batches.{rows_between}
use Rattle.brick_store.specs.Bricks.{BrickState}
use Rattle.brick_map.specs.Lists.{brick_with_rows, bricks_with}
use Rattle.brick_map.proofs.Lists.{absent, numbers_set}
use Rattle.brick_map.proofs.Placed.{found, placed_still, takes_found}
use Rattle.std.specs.Vec.{with_item}
use Rattle.brick_map.proofs.BatchRuns.{length_between}
use Rattle.brick_map.proofs.list.BrickList.append.Goals as goal

pub index_mut-brick-requires : goal.index_mut-brick-requires
index_mut-brick-requires c =
    let at = found c.self.inside c.args.self.now c.args.number c.in-Some.place c.self.view_is (sym c.find.ensures ∙ c.in-Some.is) in
    omega (arith, at.within, c.self.inside.bricks.ok.0)

pub append-requires-clause-rows : goal.append-requires-clause-rows
append-requires-clause-rows c =
    let more = rows_between c.args.from c.args.to c.args.batch.now.rows in
    (takes_found c.self.inside c.args.self.now c.args.number c.in-Some.place more c.index_mut-brick.result.now c.self.view_is (sym c.find.ensures ∙ c.in-Some.is) c.requires.takes c.index_mut-brick.ensures.value).own

pub append-requires-clause-row_room : goal.append-requires-clause-row_room
append-requires-clause-row_room c =
    let more = rows_between c.args.from c.args.to c.args.batch.now.rows in
    let takes = takes_found c.self.inside c.args.self.now c.args.number c.in-Some.place more c.index_mut-brick.result.now c.self.view_is (sym c.find.ensures ∙ c.in-Some.is) c.requires.takes c.index_mut-brick.ensures.value in
    omega (arith, takes.room, length_between c.args.from c.args.to c.args.batch.now.rows (omega (arith, c.requires.some)) c.requires.within)

pub append-requires-clause-entry_room : goal.append-requires-clause-entry_room
append-requires-clause-entry_room c =
    let more = rows_between c.args.from c.args.to c.args.batch.now.rows in
    (takes_found c.self.inside c.args.self.now c.args.number c.in-Some.place more c.index_mut-brick.result.now c.self.view_is (sym c.find.ensures ∙ c.in-Some.is) c.requires.takes c.index_mut-brick.ensures.value).entry

pub invariant_of-self : goal.invariant_of-self
invariant_of-self c =
    let old = c.self.inside in
    let b = c.index_mut-brick.result.now in
    let at = found old c.args.self.now c.args.number c.in-Some.place c.self.view_is (sym c.find.ensures ∙ c.in-Some.is) in
    let home = ap (λ (b : BrickState). b.home.number) c.append.ensures ∙ ap (λ (b : BrickState). b.home.number) c.index_mut-brick.ensures.value in
    placed_still old (with_item old.bricks c.in-Some.place c.append.new.self) c.self.invariant (numbers_set old.bricks.items c.in-Some.place c.append.new.self b at.within home)

pub returns-in-None : goal.returns-in-None
returns-in-None c =
    let more = rows_between c.args.from c.args.to c.args.batch.now.rows in
    sym ((absent c.args.number c.args.self.now (sym c.find.ensures ∙ c.in-None.is)).unchanged (brick_with_rows c.args.epoch more))

pub returns-in-Some : goal.returns-in-Some
returns-in-Some c =
    let old = c.self.inside in
    let b = c.index_mut-brick.result.now in
    let more = rows_between c.args.from c.args.to c.args.batch.now.rows in
    let f : BrickState → BrickState = brick_with_rows c.args.epoch more in
    let long = length_between c.args.from c.args.to c.args.batch.now.rows (omega (arith, c.requires.some)) c.requires.within in
    let put : ℕ → BrickState = λ n. record { home = b.home; rows = b.rows ++ more; entries = vector_with_entry b.entries (Run c.args.epoch (length b.rows + n)); spare_rows = b.spare_rows - n; spare_entries = b.spare_entries - 1 } in
    let at = found old c.args.self.now c.args.number c.in-Some.place c.self.view_is (sym c.find.ensures ∙ c.in-Some.is) in
    ap (λ (new : BrickState). set old.bricks.items c.in-Some.place new) (c.append.ensures ∙ ap put (sym long) ∙ ap f c.index_mut-brick.ensures.value)
    ∙ at.change f b
    ∙ ap (bricks_with c.args.number f) c.self.view_is
