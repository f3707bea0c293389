use Rattle.std.proofs.Common.{◌≡◌, All, refl, subst}
use Rattle.brick_store.specs.Deltas.{rows_apart, seen_apart}
use Rattle.brick_map.specs.Births.{CubeState, brick_in, rows_found_apart, rows_of_brick, cube_sizes}
use Rattle.brick_map.specs.Lists.{OwnsRows}
use Rattle.brick_map.proofs.Content.{found_in}
use Rattle.brick_map.proofs.cube.CubeBricks.delta.Goals as goal

pub returns-clause-came_by_brick : goal.returns-clause-came_by_brick
returns-clause-came_by_brick c = λ number.
    let inside = c.self.inside in
    let span = c.args.query.now.span in
    let one = c.args.to.now in
    let other = c.args.from.now in
    let P : CubeState → Type 0 = λ s. rows_of_brick (cube_sizes s) number (rows_found_apart span one other s.bricks) ≡ rows_apart span one other (brick_in s number).entries (brick_in s number).rows in
    let own = subst (All OwnsRows) c.as_slice.ensures.items c.in_ok-compare_each.ensures.own in
    subst P c.self.view_is (found_in inside.shape.shape.sizes span (seen_apart one other) inside.shape inside.recent.items number inside.list refl c.self.invariant.bricks own c.as_slice.ensures.distinct)

pub returns-clause-went_by_brick : goal.returns-clause-went_by_brick
returns-clause-went_by_brick c = λ number.
    let inside = c.self.inside in
    let span = c.args.query.now.span in
    let one = c.args.from.now in
    let other = c.args.to.now in
    let P : CubeState → Type 0 = λ s. rows_of_brick (cube_sizes s) number (rows_found_apart span one other s.bricks) ≡ rows_apart span one other (brick_in s number).entries (brick_in s number).rows in
    let own = subst (All OwnsRows) c.as_slice.ensures.items c.in_ok-compare_each.ensures.own in
    subst P c.self.view_is (found_in inside.shape.shape.sizes span (seen_apart one other) inside.shape inside.recent.items number inside.list refl c.self.invariant.bricks own c.as_slice.ensures.distinct)
