use Rattle.std.proofs.Common.{◌+◌, List, ℕ, subst}
use Rattle.std.specs.Prelude.{IfOk}
use Rattle.core_cubes.specs.StandingCubes.{HasFound, StandsBefore}
use Rattle.core_cubes.proofs.looking.find_named.Goals as goal

pub returns-in-Ok-clause-stands : goal.returns-in-Ok-clause-stands
returns-in-Ok-clause-stands g c =
    subst (λ (n : List ℕ). IfOk c.find_copied.result (λ cube. StandsBefore g.S.LinkedShard.fits g.S.LinkedShard.stands
    g.S.LinkedShard.says (g.P.CellCaller.opening c.args.caller.now) (g.P.CellCaller.number c.args.caller.now)
    c.args.session.now.number (c.args.session.now.statements + 1) (g.P.CellCaller.own c.args.caller.now)
    (g.P.CellCaller.own c.find_copied.new.caller) n cube.place cube.decl)) c.in-Ok.ensures.1 c.find_copied.ensures.stands

pub returns-in-Ok-clause-searched : goal.returns-in-Ok-clause-searched
returns-in-Ok-clause-searched g c =
    subst (λ (n : List ℕ). IfOk c.find_copied.result (λ cube. HasFound (g.P.CellCaller.own c.find_copied.new.caller) n
    cube.place cube.decl)) c.in-Ok.ensures.1 c.find_copied.ensures.searched
