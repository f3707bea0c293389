use Rattle.watched_queries.proofs.ReaderMoments.{scan-stands-on}
use Rattle.watched_queries.proofs.law.scans_stand_for_their_readers.Goals as goal

pub returns : goal.returns
returns c = λ cells caller session epoch own query groups acts knows.
    scan-stands-on cells caller session acts own query epoch groups knows
