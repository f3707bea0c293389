use Rattle.std.proofs.Common.{◌+◌, Some, length, map}
use Rattle.threaded_callers.proofs.serving.serve.Given as goal

abbrev pub ghosts-serve_lent : goal.ghosts-serve_lent
ghosts-serve_lent g a = record {
  board = Some a.board.now;
  works = map (λ t. t.work) a.workers.items;
  from = 1 + length a.sessions.items;
}
