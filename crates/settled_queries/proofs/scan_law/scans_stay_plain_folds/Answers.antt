use Rattle.settled_queries.proofs.StayingScans.{reader-found, writer-found}
use Rattle.settled_queries.proofs.scan_law.scans_stay_plain_folds.Goals as goal

pub returns-clause-reader : goal.returns-clause-reader
returns-clause-reader c = λ cells caller session own log o run query s groups client acts holds knows later.
    reader-found cells caller session own log o run s acts later
    (c.later_runs_pass_the_moment.ensures cells caller session own log o run client later) query groups knows holds

pub returns-clause-writer : goal.returns-clause-writer
returns-clause-writer c = λ cells caller session own log o run query s groups client acts holds knows later.
    writer-found cells caller session own log o run s acts later
    (c.later_runs_pass_the_moment.ensures cells caller session own log o run client later) query groups knows holds
