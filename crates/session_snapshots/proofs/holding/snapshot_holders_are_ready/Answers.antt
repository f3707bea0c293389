use Rattle.session_snapshots.proofs.holding.snapshot_holders_are_ready.Goals as goal

pub returns-clause-reader : goal.returns-clause-reader
returns-clause-reader g c = λ cells caller session own s knows o log run es later are.
    (knows o log run es later are).ready

pub returns-clause-writer : goal.returns-clause-writer
returns-clause-writer g c = λ cells caller session own s knows o log run es later are.
    (knows o log run es later are).ready
