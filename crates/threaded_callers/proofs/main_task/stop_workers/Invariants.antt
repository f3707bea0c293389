use Rattle.turn_board.specs.Passes.{view_of}
use Rattle.threaded_callers.proofs.main_task.stop_workers.Given as goal

abbrev pub ghosts-stop_workers_from : goal.ghosts-stop_workers_from
ghosts-stop_workers_from g a = record { past = (view_of a.pass).past }
