use Rattle.watched_queries.proofs.ReaderMoments.{change-leads-on}
use Rattle.watched_queries.proofs.law.changes_lead_from_reader_to_reader.Goals as goal

pub returns : goal.returns
returns c = λ cells caller session from to own query change acts knows.
    change-leads-on cells caller session acts own query from to change knows
