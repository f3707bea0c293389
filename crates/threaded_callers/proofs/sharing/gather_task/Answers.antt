use Rattle.std.proofs.Common.{subst}
use Rattle.turn_board.specs.Passes.{view_of}
use Rattle.threaded_callers.specs.Hands.{IsAmong}
use Rattle.threaded_callers.proofs.Hands.{keeps_main, takes_in}
use Rattle.threaded_callers.proofs.Tasks.{view_is}
use Rattle.threaded_callers.proofs.sharing.gather_task.Goals as goal

pub returns-clause-keeps : goal.returns-clause-keeps
returns-clause-keeps g c = keeps_main g.C.Cells.step g.C.Cells.fits (view_of c.args.pass.now)
    (view_of c.take_pass-other.result) (view_of c.gather.new.pass) c.gather.ensures.gathered c.requires.pass.some
    c.requires.main

pub returns-clause-gathered : goal.returns-clause-gathered
returns-clause-gathered g c h among = takes_in g.C.Cells.step g.C.Cells.fits (view_of c.args.pass.now)
    (view_of c.take_pass-other.result) (view_of c.gather.new.pass) c.gather.ensures.gathered c.requires.pass.some
    c.requires.main h
    (subst (λ v. IsAmong v.hands h) (view_is c.args.task.now c.take_pass-other.result c.take_pass-other.ensures.pass) among)
