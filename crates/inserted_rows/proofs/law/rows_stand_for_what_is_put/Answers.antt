use Rattle.inserted_rows.proofs.NamesAtEnd.{rows-come, rows-posted}
use Rattle.inserted_rows.proofs.law.rows_stand_for_what_is_put.Goals as goal

pub returns-clause-come : goal.returns-clause-come
returns-clause-come c = λ cells caller place own d given rows named told coords stand.
    rows-come cells caller place own d given rows named told coords stand

pub returns-clause-posted : goal.returns-clause-posted
returns-clause-posted c = λ cells caller place shards epoch own sizes d given rows some named told coords stand.
    rows-posted cells caller place own d given rows named told coords stand shards epoch sizes some
