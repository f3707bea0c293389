use Rattle.shard_views.proofs.CopiedParts.{copies_the_same}
use Rattle.shard_views.proofs.law.copies_are_the_same.Goals as goal

pub returns : goal.returns
returns c = copies_the_same
