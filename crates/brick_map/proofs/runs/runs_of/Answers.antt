use Rattle.std.proofs.Common.{[], subst, arith}
use Rattle.std.proofs.lemmas.List.{append-nil}
use Rattle.brick_map.specs.Batches.{AreRuns}
use Rattle.brick_map.proofs.BatchRuns.{runs_put}
use Rattle.brick_map.proofs.runs.runs_of.Goals as goal

pub runs-preserved : goal.runs-preserved
runs-preserved c =
    let l = c.runs in
    let run = c.in_ok-run.run' in
    record {
      within = omega (arith, c.in_ok-run.ensures.within);
      rest = λ tail h. runs_put c.args.shape.now.sizes c.args.batch.now.rows l.from l.runs.items c.push.new.self.items run c.in_ok-push.ensures.items l.invariant.rest c.in_ok-run.ensures tail h;
    }

pub returns : goal.returns
returns c =
    let l = c.runs in
    subst (AreRuns c.args.shape.now.sizes c.args.batch.now.rows 0) (append-nil l.runs.items) (l.invariant.rest [] (omega (arith, l.invariant.within)))
