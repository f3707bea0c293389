use Rattle.std.proofs.Common.{◌≡◌, [], Option, Some, refl, sym, ap, subst, ◌∙◌, arith}
use Rattle.cube_values.specs.declared.shape.CubeShape.{CubeShape}
use Rattle.epochs_vector.specs.Seen.{seen_rows}
use Rattle.brick_map.specs.Births.{CubeState, brick_in, rows_count, rows_found, rows_of_brick}
use Rattle.brick_map.proofs.Scans.{found_short}
use Rattle.shard_cell.specs.Answers.{brick_rows_shown}
use Rattle.shard_cell.specs.Slots.{AreGroupsOf, HasShape, slot_brick, slot_rows, untouched}
use Rattle.shard_cell.proofs.Slots.{groups_found, groups_none}
use Rattle.shard_cell.proofs.slot.CubeSlot.scan.Goals as goal

pub scan-requires-clause-room : goal.scan-requires-clause-room
scan-requires-clause-room c =
    let rows = ap slot_rows (sym c.in-Some.is ∙ c.self.view_is) in
    ([], c.new-found.ensures c.args.query.now, omega (arith, rows, c.requires.few))

pub returns-in-None : goal.returns-in-None
returns-in-None c =
    let query = c.args.query.now in
    let sizes = c.args.shape.now.shape.sizes in
    let seen = c.args.snapshot.now in
    let groups = c.new-found.result.groups in
    subst (λ (slot : Option CubeState). AreGroupsOf query sizes (slot_rows slot) (λ number. brick_rows_shown query.span seen (slot_brick slot number)) groups) (sym c.in-None.is ∙ c.self.view_is)
    (groups_none query sizes 0 (λ number. brick_rows_shown query.span seen untouched) groups (c.new-found.ensures query) (λ number. refl))

pub returns-in_ok-scan-in-Some : goal.returns-in_ok-scan-in-Some
returns-in_ok-scan-in-Some c =
    let query = c.args.query.now in
    let sizes = c.args.shape.now.shape.sizes in
    let seen = c.args.snapshot.now in
    let cube = c.in-Some.cube in
    let h = c.scan.new.into.groups in
    let rows = rows_found query.span seen cube.bricks in
    let is : Some cube ≡ c.args.self.now = sym c.in-Some.is ∙ c.self.view_is in
    let shape : cube.shape ≡ c.args.shape.now = subst (HasShape c.args.shape.now) (sym is) c.requires.shape in
    subst (λ (slot : Option CubeState). AreGroupsOf query sizes (slot_rows slot) (λ number. brick_rows_shown query.span seen (slot_brick slot number)) h) is
    (groups_found query sizes (rows_count cube.bricks) (λ number. brick_rows_shown query.span seen (brick_in cube number)) rows c.new-found.result.groups h (c.new-found.ensures query) c.in_ok-scan-in-Some.ensures.found (found_short query (seen_rows seen) cube.bricks)
    (λ number. ap (λ (s : CubeShape). rows_of_brick s.shape.sizes number rows) (sym shape) ∙ c.in_ok-scan-in-Some.ensures.by_brick number))
