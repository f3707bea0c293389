use Rattle.turn_board.specs.Passes.{view_of}
use Rattle.threaded_callers.proofs.main_task.stop_flusher.Given as goal

abbrev pub ghosts-stop_flusher_from : goal.ghosts-stop_flusher_from
ghosts-stop_flusher_from g a = record { past = (view_of a.pass).past }
