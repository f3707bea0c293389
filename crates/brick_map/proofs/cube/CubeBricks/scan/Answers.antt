use Rattle.std.proofs.Common.{◌≡◌, All, refl, subst}
use Rattle.epochs_vector.specs.Seen.{seen_rows}
use Rattle.brick_store.specs.Rows.{rows_shown}
use Rattle.brick_map.specs.Births.{CubeState, brick_in, rows_found, rows_of_brick, cube_sizes}
use Rattle.brick_map.specs.Lists.{OwnsRows}
use Rattle.brick_map.proofs.Content.{found_in}
use Rattle.brick_map.proofs.cube.CubeBricks.scan.Goals as goal

pub returns-clause-by_brick : goal.returns-clause-by_brick
returns-clause-by_brick c = λ number.
    let inside = c.self.inside in
    let span = c.args.query.now.span in
    let seen = c.args.snapshot.now in
    let P : CubeState → Type 0 = λ s. rows_of_brick (cube_sizes s) number (rows_found span seen s.bricks) ≡ rows_shown span seen (brick_in s number).entries (brick_in s number).rows in
    let own = subst (All OwnsRows) c.as_slice.ensures.items c.in_ok-scan_each.ensures.own in
    subst P c.self.view_is (found_in inside.shape.shape.sizes span (seen_rows seen) inside.shape inside.recent.items number inside.list refl c.self.invariant.bricks own c.as_slice.ensures.distinct)
