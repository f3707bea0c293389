use Rattle.std.proofs.Common.{[], ◌∙◌, subst, arith}
use Rattle.std.proofs.lemmas.List.{append-nil, take_all}
use Rattle.brick_map.specs.Batches.{RunsRiseFrom}
use Rattle.brick_map.proofs.BatchRuns.{rise_more}
use Rattle.brick_map.proofs.runs.do_rise.Goals as goal

pub runs-preserved : goal.runs-preserved
runs-preserved c = λ tail h. rise_more c.args.runs.now c.runs.run-index c.runs.low (omega arith) c.runs.invariant (omega arith) tail h

pub returns : goal.returns
returns c = λ _. subst (RunsRiseFrom 0) (append-nil _ ∙ take_all c.runs.run-index c.args.runs.now (omega arith)) (c.runs.invariant [] tt)
