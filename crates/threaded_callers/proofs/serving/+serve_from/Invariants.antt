use Rattle.std.proofs.Common.{length}
use Rattle.threaded_callers.proofs.serving.+serve_from.Given as goal

abbrev pub decreases-serve_from : goal.decreases-serve_from
decreases-serve_from g l = length l.workers.items
