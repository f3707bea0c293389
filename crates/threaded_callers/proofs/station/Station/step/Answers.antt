use Rattle.std.proofs.Common.{subst}
use Rattle.threaded_callers.specs.Stations.{IsLent}
use Rattle.threaded_callers.proofs.Lent.{lent-next}
use Rattle.threaded_callers.proofs.station.Station.step.Goals as goal

pub invariant_of-result-2 : goal.invariant_of-result-2
invariant_of-result-2 g c =
    let may = g.K.CallerWork.may_begin in
    let so_far = g.K.StepWork.so_far in
    let done = g.K.CallerWork.has_done in
    let s = c.self.inside in
    lent-next may so_far done g.L.Roster.board g.L.Roster.works g.L.Roster.from s.place c.args.board.now c.requires.board
    c.step_task-over.result s.task c.step_task-over.new.task
    (subst (λ o. IsLent may so_far done g.L.Roster.board g.L.Roster.works g.L.Roster.from s.place o s.task) c.if-self.false
    c.self.invariant)
    c.step_task-over.ensures
