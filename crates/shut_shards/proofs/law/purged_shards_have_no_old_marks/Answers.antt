use Rattle.shut_shards.proofs.MarkedCells.{cell-cleared}
use Rattle.shut_shards.proofs.law.purged_shards_have_no_old_marks.Goals as goal

pub returns : goal.returns
returns c = cell-cleared
