use Rattle.std.proofs.Common.{◌≡◌, [], Option, Some, refl, sym, ap, subst, ◌∙◌, arith}
use Rattle.cube_values.specs.declared.shape.CubeShape.{CubeShape}
use Rattle.brick_store.specs.Deltas.{seen_apart}
use Rattle.brick_map.specs.Births.{CubeState, brick_in, rows_count, rows_found_apart, rows_of_brick}
use Rattle.brick_map.proofs.Scans.{found_short}
use Rattle.shard_cell.specs.Answers.{brick_rows_apart}
use Rattle.shard_cell.specs.Slots.{AreGroupsOf, HasShape, slot_brick, slot_rows, untouched}
use Rattle.shard_cell.proofs.Slots.{groups_found, groups_none}
use Rattle.shard_cell.proofs.slot.CubeSlot.delta.Goals as goal

pub delta-requires-clause-came_room : goal.delta-requires-clause-came_room
delta-requires-clause-came_room c =
    let rows = ap slot_rows (sym c.in-Some.is ∙ c.self.view_is) in
    ([], c.new-came.ensures c.args.query.now, omega (arith, rows, c.requires.few))

pub delta-requires-clause-went_room : goal.delta-requires-clause-went_room
delta-requires-clause-went_room c =
    let rows = ap slot_rows (sym c.in-Some.is ∙ c.self.view_is) in
    ([], c.new-went.ensures c.args.query.now, omega (arith, rows, c.requires.few))

pub returns-in-None-clause-came : goal.returns-in-None-clause-came
returns-in-None-clause-came c =
    let query = c.args.query.now in
    let sizes = c.args.shape.now.shape.sizes in
    let one = c.args.to.now in
    let other = c.args.from.now in
    let groups = c.new-came.result.groups in
    subst (λ (slot : Option CubeState). AreGroupsOf query sizes (slot_rows slot) (λ number. brick_rows_apart query.span one other (slot_brick slot number)) groups) (sym c.in-None.is ∙ c.self.view_is)
    (groups_none query sizes 0 (λ number. brick_rows_apart query.span one other untouched) groups (c.new-came.ensures query) (λ number. refl))

pub returns-in_ok-delta-in-Some-clause-came : goal.returns-in_ok-delta-in-Some-clause-came
returns-in_ok-delta-in-Some-clause-came c =
    let query = c.args.query.now in
    let sizes = c.args.shape.now.shape.sizes in
    let one = c.args.to.now in
    let other = c.args.from.now in
    let cube = c.in-Some.cube in
    let h = c.delta.new.came.groups in
    let rows = rows_found_apart query.span one other cube.bricks in
    let is : Some cube ≡ c.args.self.now = sym c.in-Some.is ∙ c.self.view_is in
    let shape : cube.shape ≡ c.args.shape.now = subst (HasShape c.args.shape.now) (sym is) c.requires.shape in
    subst (λ (slot : Option CubeState). AreGroupsOf query sizes (slot_rows slot) (λ number. brick_rows_apart query.span one other (slot_brick slot number)) h) is
    (groups_found query sizes (rows_count cube.bricks) (λ number. brick_rows_apart query.span one other (brick_in cube number)) rows c.new-came.result.groups h (c.new-came.ensures query) c.in_ok-delta-in-Some.ensures.came (found_short query (seen_apart one other) cube.bricks)
    (λ number. ap (λ (s : CubeShape). rows_of_brick s.shape.sizes number rows) (sym shape) ∙ c.in_ok-delta-in-Some.ensures.came_by_brick number))

pub returns-in-None-clause-went : goal.returns-in-None-clause-went
returns-in-None-clause-went c =
    let query = c.args.query.now in
    let sizes = c.args.shape.now.shape.sizes in
    let one = c.args.from.now in
    let other = c.args.to.now in
    let groups = c.new-went.result.groups in
    subst (λ (slot : Option CubeState). AreGroupsOf query sizes (slot_rows slot) (λ number. brick_rows_apart query.span one other (slot_brick slot number)) groups) (sym c.in-None.is ∙ c.self.view_is)
    (groups_none query sizes 0 (λ number. brick_rows_apart query.span one other untouched) groups (c.new-went.ensures query) (λ number. refl))

pub returns-in_ok-delta-in-Some-clause-went : goal.returns-in_ok-delta-in-Some-clause-went
returns-in_ok-delta-in-Some-clause-went c =
    let query = c.args.query.now in
    let sizes = c.args.shape.now.shape.sizes in
    let one = c.args.from.now in
    let other = c.args.to.now in
    let cube = c.in-Some.cube in
    let h = c.delta.new.went.groups in
    let rows = rows_found_apart query.span one other cube.bricks in
    let is : Some cube ≡ c.args.self.now = sym c.in-Some.is ∙ c.self.view_is in
    let shape : cube.shape ≡ c.args.shape.now = subst (HasShape c.args.shape.now) (sym is) c.requires.shape in
    subst (λ (slot : Option CubeState). AreGroupsOf query sizes (slot_rows slot) (λ number. brick_rows_apart query.span one other (slot_brick slot number)) h) is
    (groups_found query sizes (rows_count cube.bricks) (λ number. brick_rows_apart query.span one other (brick_in cube number)) rows c.new-went.result.groups h (c.new-went.ensures query) c.in_ok-delta-in-Some.ensures.went (found_short query (seen_apart one other) cube.bricks)
    (λ number. ap (λ (s : CubeShape). rows_of_brick s.shape.sizes number rows) (sym shape) ∙ c.in_ok-delta-in-Some.ensures.went_by_brick number))
