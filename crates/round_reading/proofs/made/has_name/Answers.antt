use Rattle.std.proofs.Common.{sym, ◌∙◌}
use Rattle.round_reading.proofs.MadeNames.{none_more, some_named}
use Rattle.round_reading.proofs.made.has_name.Goals as goal

pub returns-then-bears_name : goal.returns-then-bears_name
returns-then-bears_name c =
    some_named c.args.cubes.now c.cubes.cube-index c.cube-item.result c.args.name.now c.cubes-test.true c.cube-item.is
    (sym c.bears_name.ensures ∙ c.if-bears_name.true)

pub cubes-preserved : goal.cubes-preserved
cubes-preserved c =
    none_more c.args.cubes.now c.cubes.cube-index c.cube-item.result c.args.name.now c.cubes-test.true c.cube-item.is
    (sym c.bears_name.ensures ∙ c.if-bears_name.false) c.cubes.invariant
