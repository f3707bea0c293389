use Rattle.std.proofs.Common.{◌≡◌, pos, subst, sym, ap, ◌∙◌, get_or, rules, FitsSigned}
use Rattle.std.specs.Int.{w64}
use Rattle.std.specs.Option.{option_map_or}
use Rattle.std.proofs.lemmas.Int.{to_z-of_z}
use Rattle.std.proofs.lemmas.Option.{unwrap_or-slice_get}
use Rattle.agg_fold.specs.Tallies.{tally_with, metric_number, number_for}
use Rattle.agg_fold.proofs.tally.Tally.with_row.Goals as goal

pub returns-in-Some-clause-fit : goal.returns-in-Some-clause-fit
returns-in-Some-clause-fit c =
    let metrics = c.args.metrics.now in
    let m = c.in-Some.metric in
    let fits : FitsSigned w64 (get_or metrics m (pos 0)) = search rules in
    let n : number_for c.args.item metrics ≡ get_or metrics m (pos 0) = ap (λ o. option_map_or (λ metric. metric_number metric metrics) o (pos 0)) (sym c.metric_asked.ensures ∙ c.in-Some.is) ∙ unwrap_or-slice_get metrics m (pos 0) in
    subst (FitsSigned w64) (sym n) fits

pub returns-in-Some-clause-more : goal.returns-in-Some-clause-more
returns-in-Some-clause-more c =
    let metrics = c.args.metrics.now in
    let m = c.in-Some.metric in
    let fits : FitsSigned w64 (get_or metrics m (pos 0)) = search rules in
    c.with.ensures
    ∙ ap (tally_with c.args.self) (to_z-of_z w64 (get_or metrics m (pos 0)) fits ∙ sym (unwrap_or-slice_get metrics m (pos 0)))
    ∙ ap (λ o. option_map_or (λ metric. tally_with c.args.self (metric_number metric metrics)) o c.args.self) (sym (sym c.metric_asked.ensures ∙ c.in-Some.is))
