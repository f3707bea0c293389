use Rattle.std.proofs.Common.{◌+◌}
use Rattle.core_scripts.proofs.PlainForms.{creation-performed}
use Rattle.cube_language.specs.declared.statement.Statement.TheVariants as asked
use Rattle.core_scripts.proofs.desk_forms.make_cube.Goals as goal

pub returns-clause-readers : goal.returns-clause-readers
returns-clause-readers g c =
    let before = c.args.caller.now in
    c.other_calls_leave_the_holders.ensures.statement (g.P.CellCaller.opening before) (g.P.CellCaller.number before)
    c.args.session.now.number (c.args.session.now.statements + 1) (asked.CreateCube c.args.decl)
    (g.P.CellCaller.own before) (g.P.CellCaller.own c.create_cube.new.caller) c.create_cube.ensures.calls

pub returns-clause-performed : goal.returns-clause-performed
returns-clause-performed g c =
    let before = c.args.caller.now in
    creation-performed (g.P.CellCaller.opening before) (g.P.CellCaller.number before) c.args.session.now
    c.create_cube.new.session (g.P.CellCaller.own before) (g.P.CellCaller.own c.create_cube.new.caller) c.args.decl
    c.create_cube.result c.create_cube.ensures.calls c.create_cube.ensures.executed
