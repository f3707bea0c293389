use Rattle.std.proofs.Common.{ap, ◌∙◌, ◌<◌, subst, List, IfSome}
use Rattle.cube_values.specs.Shapes.{bricks_of}
use Rattle.cube_rounds.specs.Bricks.{BrickPart}
use Rattle.brick_map.specs.Births.{CubeState, brick_in, cube_sizes}
use Rattle.brick_map.specs.Copied.{IsCopied, part_numbered, round_part_with}
use Rattle.brick_map.proofs.Rising.{copied_among, copied_there}
use Rattle.brick_map.proofs.Cubes.{numbers_below}
use Rattle.brick_map.proofs.cube.CubeBricks.copy.Goals as goal

pub returns-clause-parts : goal.returns-clause-parts
returns-clause-parts c = λ number.
    let inside = c.self.inside in
    let parts : List BrickPart = c.from_vec.result in
    let P : CubeState → Type 0 = λ s. IsCopied (round_part_with c.args.from c.args.to number (brick_in s number)) (brick_in s number).rows (part_numbered number parts) in
    subst P c.self.view_is (copied_among c.args.from c.args.to number inside.shape.shape.sizes inside.recent.items inside.list (part_numbered number parts) (ap (part_numbered number) c.from_vec.ensures ∙ c.in_ok-parts.ensures.parts number))

pub returns-clause-there : goal.returns-clause-there
returns-clause-there c = λ number.
    let inside = c.self.inside in
    let parts : List BrickPart = c.from_vec.result in
    let P : CubeState → Type 0 = λ s. IfSome (part_numbered number parts) (λ part. number < bricks_of (cube_sizes s)) in
    subst P c.self.view_is (copied_there c.args.from c.args.to (bricks_of inside.shape.shape.sizes) number inside.list (part_numbered number parts)
    (numbers_below inside.shape inside.list c.self.invariant.bricks)
    (ap (part_numbered number) c.from_vec.ensures ∙ c.in_ok-parts.ensures.parts number))
