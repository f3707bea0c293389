use Rattle.threaded_callers.proofs.LastWorkers.{rest_listed, taken_listed}
use Rattle.threaded_callers.proofs.serving.take_last.Goals as goal

pub returns-clause-listed : goal.returns-clause-listed
returns-clause-listed g c =
    rest_listed c.args._board.now g.K.CallerWork.may_begin g.L.Roster.works g.L.Roster.from c.args.workers.now.items
    c.pop.new.self.items c.requires.listed c.pop.result c.pop.ensures.items

pub returns-clause-worker : goal.returns-clause-worker
returns-clause-worker g c =
    taken_listed c.args._board.now g.K.CallerWork.may_begin g.L.Roster.works g.L.Roster.from c.args.workers.now.items
    c.pop.new.self.items c.requires.listed c.pop.result c.pop.ensures.items
