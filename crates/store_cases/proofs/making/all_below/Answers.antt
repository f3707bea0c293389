use Rattle.std.proofs.Common.{◌<◌, All, subst, arith}
use Rattle.std.proofs.lemmas.List.{take_all}
use Rattle.std.proofs.lemmas.List.Elements.{All-more}
use Rattle.store_cases.proofs.making.all_below.Goals as goal

pub dims-preserved : goal.dims-preserved
dims-preserved c = All-more (λ dim. dim < c.args.dims) c.args.group.now c.dims.dim-index 0 (omega arith) c.dims.invariant (omega arith)

pub returns : goal.returns
returns c = λ _. subst (All (λ dim. dim < c.args.dims)) (take_all c.dims.dim-index c.args.group.now (omega arith)) c.dims.invariant
