use Rattle.std.proofs.Common.{◌≡◌, ◌≢◌, take, drop, All, sym, ap, ◌∙◌, subst, arith}
use Rattle.std.proofs.lemmas.List.Elements.{All-more}
use Rattle.std.proofs.lemmas.List.{drop_more, drop_all}
use Rattle.cube_values.specs.SameValues.{same_values}
use Rattle.agg_fold.specs.Tables.{BeginOtherwise}
use Rattle.agg_fold.proofs.Parted.{tally_parted, length_parted}
use Rattle.agg_fold.proofs.Lines.{key_is, line_is}
use Rattle.agg_fold.proofs.Runs.{ends_run, others_from, once_take, run_agrees, rest_named}
use Rattle.agg_fold.proofs.finish.run_len.Goals as goal

pub returns-then-ne : goal.returns-then-ne
returns-then-ne c =
    let a = tally_parted in let b = length_parted in let d = key_is in let e = line_is in let f = ends_run in let g = others_from in let h = once_take in let j = run_agrees in let k = rest_named in
    let i = c.named.group-index in
    let item = c.group-item.result in
    let v = c.args.values.now in
    let other : item.values ≢ v = λ e. grind (arith, same_values c.as_slice.result.now v, ap (λ m. m.values) c.group-item.is) in
    record {
      within = omega arith;
      same = subst (λ n. All (λ m. m.values ≡ v) (take n c.args.named.now)) (sym c.named.invariant.0) c.named.invariant.1;
      ended = subst (λ n. BeginOtherwise v (drop n c.args.named.now)) (sym c.named.invariant.0) (subst (BeginOtherwise v) (sym (drop_more c.args.named.now i item (omega arith))) (λ e. other (ap (λ m. m.values) c.group-item.is ∙ e)));
    }

pub named-preserved : goal.named-preserved
named-preserved c =
    let i = c.named.group-index in
    let item = c.group-item.result in
    let same : item.values ≡ c.args.values.now = grind (arith, same_values c.as_slice.result.now c.args.values.now) in
    (omega arith, All-more (λ m. m.values ≡ c.args.values.now) c.args.named.now i item (omega arith) c.named.invariant.1 (ap (λ m. m.values) (sym c.group-item.is) ∙ same))

pub returns : goal.returns
returns c =
    let v = c.args.values.now in
    record {
      within = omega arith;
      same = subst (λ n. All (λ m. m.values ≡ v) (take n c.args.named.now)) (sym c.named.invariant.0) c.named.invariant.1;
      ended = subst (BeginOtherwise v) (sym (drop_all c.named.n c.args.named.now (omega arith))) tt;
    }
