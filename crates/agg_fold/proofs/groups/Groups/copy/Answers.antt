use Rattle.std.proofs.Common.{rules}
use Rattle.agg_fold.proofs.Standing.{stand_same}
use Rattle.agg_fold.proofs.groups.Groups.copy.Goals as goal

pub returns : goal.returns
returns c = λ query rows s. stand_same query rows c.args.self.now _ (search rules) (search rules) (search rules) (search rules) s
