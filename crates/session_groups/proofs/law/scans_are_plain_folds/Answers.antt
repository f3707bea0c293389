use Rattle.session_groups.proofs.FoundFolds.{scan-stands, scan-table}
use Rattle.session_groups.proofs.law.scans_are_plain_folds.Goals as goal

pub returns-clause-stands : goal.returns-clause-stands
returns-clause-stands c = scan-stands

pub returns-clause-table : goal.returns-clause-table
returns-clause-table c = λ cells caller session own log o query s groups lists table knows is r.
    scan-table cells caller session own log o query s groups knows r lists table is
