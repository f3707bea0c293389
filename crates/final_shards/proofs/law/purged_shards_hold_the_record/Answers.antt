use Rattle.final_shards.proofs.RecordedRows.{held-for-record}
use Rattle.final_shards.proofs.law.purged_shards_hold_the_record.Goals as goal

pub returns : goal.returns
returns c = held-for-record
