use Rattle.std.proofs.Common.{◌+◌, length, refl}
use Rattle.threaded_callers.proofs.LastWorkers.{ready_listed}
use Rattle.threaded_callers.proofs.serving.serve.Goals as goal

pub serve_lent-requires-clause-may : goal.serve_lent-requires-clause-may
serve_lent-requires-clause-may g c κs within = record {
  play = c.requires.may;
  serve = ready_listed c.args.board.now g.K.CallerWork.may_begin (1 + length c.args.sessions.items) c.args.workers.items
      c.requires.workers;
  flush = c.requires.flusher;
}
