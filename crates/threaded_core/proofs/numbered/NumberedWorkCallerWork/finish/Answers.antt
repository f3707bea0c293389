use Rattle.threaded_core.proofs.numbered.NumberedWorkCallerWork.finish.Goals as goal

pub finish-requires-clause-done : goal.finish-requires-clause-done
finish-requires-clause-done g c =
    let done = c.requires.done in
    (done.0.work, done.1, done.2.0)

pub returns-clause-done : goal.returns-clause-done
returns-clause-done g c first may done = (c.finish.ensures.done first.work may done.0, done.1)
