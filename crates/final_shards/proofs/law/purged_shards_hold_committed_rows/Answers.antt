use Rattle.final_shards.proofs.HeldRows.{held-permuted}
use Rattle.final_shards.proofs.law.purged_shards_hold_committed_rows.Goals as goal

pub returns : goal.returns
returns c = held-permuted
