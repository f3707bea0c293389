use Rattle.threaded_callers.proofs.Lent.{lent-first}
use Rattle.threaded_callers.proofs.station.Station.of.Goals as goal

pub invariant_of-result : goal.invariant_of-result
invariant_of-result g c =
    lent-first g.K.CallerWork.may_begin g.K.StepWork.so_far g.K.CallerWork.has_done g.L.Roster.board g.L.Roster.works
    g.L.Roster.from c.args.place c.args._board.now c.requires.board c.args.task c.requires.listed g.met.K.StepWork.begun
