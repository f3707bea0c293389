use Rattle.std.proofs.Common.{◌≡◌, ap, ◌∙◌, rules, arith}
use Rattle.cube_values.specs.Shapes.{bricks_of}
use Rattle.shard_cases.proofs.Bricks.{cut_none, one_more}
use Rattle.shard_cases.proofs.checks.cuts_none.Goals as goal

pub bricks-preserved : goal.bricks-preserved
bricks-preserved c =
    one_more c.args.shape.now.sizes c.args.span.now.parts c.bricks.number c.bricks.invariant
    (c.takes_whole.ensures (search rules))

pub returns : goal.returns
returns c =
    let sizes = c.args.shape.now.sizes in
    let count : c.bricks_of-number-end.result ≡ bricks_of sizes =
    c.bricks_of-number-end.ensures ∙ ap bricks_of c.as_slice.ensures in
    λ _. cut_none sizes c.args.span.now.parts
    (λ coords are. c.coords_and_addresses_agree.ensures.there sizes coords c.requires.shape.sizes are)
    (λ number below. c.bricks.invariant number (omega (arith, below, count, c.bricks-test.false)))
