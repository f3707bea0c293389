use Rattle.std.proofs.Common.{pos, length, get_or, FitsSigned, w64, sym, ap, subst, ◌∙◌, arith}
use Rattle.std.proofs.lemmas.List.{get_or-map, length-map}
use Rattle.std.proofs.lemmas.Option.{unwrap_or-slice_get}
use Rattle.brick_columns.specs.Rows.{metric_at}
use Rattle.brick_store.proofs.scan.metric_fits.Goals as goal

pub returns : goal.returns
returns c = λ k d h.
    let rows = c.args.columns.now.rows in
    let m = c.args.metric in
    let long = length-map rows (metric_at m) in
    let is = ap (λ xs. get_or xs k (pos 0)) c.metrics_of.ensures ∙ get_or-map (metric_at m) rows k d (pos 0) h ∙ sym (unwrap_or-slice_get (get_or rows k d).metrics m (pos 0)) in
    subst (FitsSigned w64) is (c.all_fit.ensures k (pos 0) (omega (arith, ap length c.metrics_of.ensures, long)))
