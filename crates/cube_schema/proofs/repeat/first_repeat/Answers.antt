use Rattle.cube_schema.proofs.Repeated.{more_distinct, stands_again}
use Rattle.cube_schema.proofs.repeat.first_repeat.Goals as goal

pub names-preserved : goal.names-preserved
names-preserved c = more_distinct c.names.before c.insert.new.self c.args.names.now c.names.place _ c.in_ok-insert.field-0 c.names-test.true c.names.invariant c.if-not-branch.false c.in_ok-insert.ensures.added c.in_ok-insert.ensures.updates

pub returns-then-not-branch : goal.returns-then-not-branch
returns-then-not-branch c = stands_again c.names.before c.args.names.now c.names.place _ c.in_ok-insert.field-0 c.names-test.true c.names.invariant c.if-not-branch.true c.in_ok-insert.ensures.added
