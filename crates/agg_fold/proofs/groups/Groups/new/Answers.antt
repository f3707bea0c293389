use Rattle.std.proofs.Common.{rules}
use Rattle.agg_fold.proofs.Standing.{stand_none}
use Rattle.agg_fold.proofs.groups.Groups.new.Goals as goal

pub returns : goal.returns
returns c = λ query. stand_none query _ (search rules) (search rules) (search rules) (search rules)
