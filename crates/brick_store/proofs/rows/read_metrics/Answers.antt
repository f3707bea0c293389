use Rattle.std.proofs.Common.{◌≡◌, pos, sym, ◌∙◌, arith, rules, FitsSigned, w64, to_z, of_z}
use Rattle.std.proofs.lemmas.Int.{to_z-of_z}
use Rattle.std.proofs.lemmas.List.{length-set, take_all}
use Rattle.brick_columns.specs.Rows.{row_at}
use Rattle.brick_store.proofs.Coordinates.{written_more}
use Rattle.brick_store.proofs.rows.read_metrics.Goals as goal

pub loop-m-preserved : goal.loop-m-preserved
loop-m-preserved c =
    let l = c.loop-m in
    let values = (row_at c.args.columns.now.rows c.args.row).metrics in
    let fits : FitsSigned w64 c.metric.result = search rules in
    let same : to_z w64 (of_z w64 c.metric.result) ≡ c.metric.result = to_z-of_z w64 c.metric.result fits in
    record {
      front = written_more l.metrics values l.m (pos 0) (to_z w64 (of_z w64 c.metric.result)) (omega (arith, l.invariant.long)) (omega (arith, c.requires.fits.metrics, l.invariant.long)) l.invariant.front (same ∙ c.metric.ensures);
      long = length-set l.metrics l.m (to_z w64 (of_z w64 c.metric.result)) ∙ l.invariant.long;
    }

pub returns-clause-value : goal.returns-clause-value
returns-clause-value c =
    let l = c.loop-m in
    let values = (row_at c.args.columns.now.rows c.args.row).metrics in
    sym (take_all l.m l.metrics (omega arith)) ∙ l.invariant.front ∙ take_all l.m values (omega (arith, c.requires.fits.metrics, l.invariant.long))
