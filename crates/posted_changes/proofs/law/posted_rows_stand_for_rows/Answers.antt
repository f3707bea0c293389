use Rattle.posted_changes.proofs.ShardedRows.{stand-once}
use Rattle.posted_changes.proofs.law.posted_rows_stand_for_rows.Goals as goal

pub returns : goal.returns
returns c = λ sizes shards cube epoch rows d lists stored some come.
    stand-once sizes shards cube epoch rows d lists stored some come
