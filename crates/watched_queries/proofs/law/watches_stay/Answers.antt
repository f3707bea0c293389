use Rattle.watched_queries.proofs.FollowedWatches.{watch-folds, watch-stays}
use Rattle.watched_queries.proofs.law.watches_stay.Goals as goal

pub returns-clause-more : goal.returns-clause-more
returns-clause-more c = λ cells caller session own now w more is. watch-stays cells caller session own now w more is

pub returns-clause-fold : goal.returns-clause-fold
returns-clause-fold c = λ cells caller session own w is. watch-folds cells caller session own w is
