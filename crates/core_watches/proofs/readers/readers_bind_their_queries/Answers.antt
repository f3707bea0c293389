use Rattle.core_watches.proofs.BoundAtReaders.{bound-at-reader, still-bound}
use Rattle.core_watches.proofs.readers.readers_bind_their_queries.Goals as goal

pub returns-clause-bound : goal.returns-clause-bound
returns-clause-bound c = bound-at-reader

pub returns-clause-more : goal.returns-clause-more
returns-clause-more c = still-bound
