use Rattle.std.proofs.Common.{◌≡◌, ◌<◌, ◌+◌, ◌==◌, ◌++◌, ◌∷◌, [], Bool, true, false, List, length, drop, get_or, cond, ap, append_assoc, ◌∙◌, sym, arith, rules}
use Rattle.std.proofs.lemmas.Bool.Decides.{nat_tests}
use Rattle.std.proofs.lemmas.List.{length-map, get_or_default}
use Rattle.std.proofs.lemmas.Option.{get_or_from_slice_get}
use Rattle.agg_fold.specs.declared.finish.Named.{Named}
use Rattle.agg_fold.specs.Coded.{metrics_with}
use Rattle.agg_fold.specs.Lines.{decoded_key}
use Rattle.agg_fold.specs.Tables.{named_from}
use Rattle.agg_fold.proofs.NamedGroups.{named_step}
use Rattle.agg_fold.proofs.finish.with_rows.Goals as goal
use Rattle.agg_fold.proofs.finish.with_rows.Goals.{then-index-gt0+in_ok-values+in_ok-push, else-index-gt0}

pub groups-preserved : goal.groups-preserved
groups-preserved c =
    let (rows, s, few) = c.requires in
    let query = c.args.query.now in
    let lists = c.args.lists.now in
    let keys = c.args.groups.now.keys in
    let counts = c.args.groups.now.counts.items in
    let p = c.groups.place in
    let inside : p < length keys = omega arith in
    let counted : p < length counts = omega (arith, ap length s.totals.counts, length-map keys (λ key. length (metrics_with query.group rows key))) in
    let step = named_step lists query.group p keys counts inside counted in
    let rest = named_from lists query.group (p + 1) (drop (p + 1) keys) (drop (p + 1) counts) in
    let group : Named = record { values = decoded_key lists query.group (get_or keys p []); place = p } in
    let tally : c.index.result.now ≡ get_or counts p 0 = c.index.ensures ∙ get_or_default counts p c.index.result.now 0 counted in
    elim c.if-index-gt0.branch [
      | then-index-gt0+in_ok-values+in_ok-push w ↦
          let some : (get_or counts p 0 == 0) ≡ false = grind (arith, nat_tests) in
          let key : w.at.result.now ≡ get_or keys p [] = sym (get_or_from_slice_get keys p w.at.result.now [] w.at.ensures) in
          let values : w.from_vec.result ≡ decoded_key lists query.group (get_or keys p []) = w.from_vec.ensures ∙ w.in_ok-values.ensures ∙ (λ i. decoded_key lists (w.as_slice.ensures i) (key i)) in
          let pushed : w.push.new.self.items ≡ c.groups.named.items ++ record { values = w.from_vec.result; place = p } ∷ [] = search rules in
          (λ i. (ap (λ v. v.items) w.named-is ∙ pushed) i ++ rest)
          ∙ append_assoc c.groups.named.items (record { values = w.from_vec.result; place = p } ∷ []) rest
          ∙ (λ i. c.groups.named.items ++ (record { values = values i; place = p } ∷ rest))
          ∙ ap (λ (ns : List Named). c.groups.named.items ++ ns) (ap (λ (b : Bool). cond b rest (group ∷ rest)) (sym some) ∙ sym step)
          ∙ c.groups.invariant
      | else-index-gt0 w ↦
          let none : (get_or counts p 0 == 0) ≡ true = grind (arith, nat_tests) in
          (λ i. ap (λ v. v.items) w.named-is i ++ rest)
          ∙ ap (λ (ns : List Named). c.groups.named.items ++ ns) (ap (λ (b : Bool). cond b rest (group ∷ rest)) (sym none) ∙ sym step)
          ∙ c.groups.invariant
    ]
