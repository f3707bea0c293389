use Rattle.std.proofs.Common.{arith}
use Rattle.turn_board.specs.Passes.{callers_of, opening_of}
use Rattle.threaded_core.proofs.RanTasks.{core_left, has_run, works_left}
use Rattle.threaded_core.proofs.running.run_on_board.Goals as goal

pub take_apart-requires-clause-core : goal.take_apart-requires-clause-core
take_apart-requires-clause-core g c =
    let b = c.args.board in let m = g.M.MakesRounds in let w = g.W.CallerWork in
    core_left w.may_begin w.has_done m.serves m.has_kept m.becomes c.args.size (callers_of b) (opening_of b)
    c.args.sessions.items c.args.maker c.begin_all-main.result c.run_on_threads-cells.result c.requires.callers
    c.requires.may c.begin_all-main.ensures.tasks c.run_on_threads-cells.ensures.run
    c.ended_boards_are_core_runs.ensures

pub works_of-requires-clause-there : goal.works_of-requires-clause-there
works_of-requires-clause-there g c =
    let b = c.args.board in let m = g.M.MakesRounds in let w = g.W.CallerWork in
    works_left w.may_begin w.has_done m.serves m.has_kept m.becomes c.args.size (callers_of b) (opening_of b)
    c.args.sessions.items c.args.maker c.begin_all-main.result c.run_on_threads-cells.result c.requires.callers
    c.requires.may c.begin_all-main.ensures.tasks c.run_on_threads-cells.ensures.run
    c.ended_boards_are_core_runs.ensures

pub returns-clause-run : goal.returns-clause-run
returns-clause-run g c =
    let b = c.args.board in let m = g.M.MakesRounds in let w = g.W.CallerWork in
    has_run w.may_begin w.has_done m.serves m.has_kept m.becomes c.args.size (callers_of b) (opening_of b)
    c.args.sessions.items c.args.maker c.begin_all-main.result c.run_on_threads-cells.result c.requires.callers
    c.requires.may c.begin_all-main.ensures.tasks c.run_on_threads-cells.ensures.run
    c.ended_boards_are_core_runs.ensures c.take_apart.result c.works_of.result c.works_of.ensures
    c.take_apart.ensures.parts c.take_apart.ensures.many

pub run_on_threads-cells-requires-clause-callers : goal.run_on_threads-cells-requires-clause-callers
run_on_threads-cells-requires-clause-callers g c κs within =
    let tasks = c.begin_all-main.ensures.tasks in let sessions = tasks.sessions.as_many in let workers = tasks.workers in
    let many = c.requires.may.as_many in let callers = c.requires.callers in
    omega (arith, sessions, workers, many, callers)
