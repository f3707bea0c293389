use Rattle.threaded_callers.proofs.serving.serve_all.Goals as goal

pub serve_from-served-requires-clause-may : goal.serve_from-served-requires-clause-may
serve_from-served-requires-clause-may g c κs within = c.requires.may.play

pub serve_from-served-requires-clause-listed : goal.serve_from-served-requires-clause-listed
serve_from-served-requires-clause-listed g c κs within = c.requires.may.serve

pub serve_from-served-requires-clause-flusher : goal.serve_from-served-requires-clause-flusher
serve_from-served-requires-clause-flusher g c κs within = c.requires.may.flush

pub returns : goal.returns
returns g c = let e = c.serve_from-served.ensures in record {
  long = e.long;
  worked = e.worked;
  threads = e.threads;
  first = e.first;
  ended = e.ended;
}
