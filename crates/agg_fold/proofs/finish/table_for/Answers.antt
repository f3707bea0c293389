use Rattle.std.proofs.Common.{◌≡◌, ◌<◌, ◌∷◌, [], List, length, map, sym, ap, subst, ◌∙◌, arith, rules}
use Rattle.std.specs.List.Sorted.{IsPermutation, IsSortedBy}
use Rattle.std.specs.Ordering.{is_lt}
use Rattle.std.proofs.lemmas.List.Sorted.{answers_always, length_permutation, ranks_by}
use Rattle.std.proofs.lemmas.Bool.Decides.{nat_tests}
use Rattle.std.proofs.lemmas.List.{nil_from_length}
use Rattle.cube_values.specs.Values.{values_cmp}
use Rattle.agg_fold.specs.declared.finish.Named.{Named}
use Rattle.agg_fold.specs.Lines.{empty_field}
use Rattle.agg_fold.specs.Tables.{AreNamed, table_lines, named_from}
use Rattle.agg_fold.proofs.NamedGroups.{named_sorted, rows_named, table_is, empty_table}
use Rattle.agg_fold.proofs.Order.{values_total}
use Rattle.agg_fold.proofs.finish.table_for.Goals as goal
use Rattle.agg_fold.proofs.finish.table_for.Goals.{else-is_empty-via-then-is_empty+else-is_empty-2, else-is_empty-via-else-is_empty}

pub returns-then-is_empty-2 : goal.returns-then-is_empty-2
returns-then-is_empty-2 c = λ rows s.
    let query = c.args.query.now in
    let lists = c.args.lists.now in
    let groups = c.args.groups.now in
    let old = named_from lists query.group 0 groups.keys groups.counts.items in
    let named : c.in_ok-named.named.items ≡ old = search rules in
    let n : length c.in_ok-named.named.items ≡ 0 = grind (arith, nat_tests) in
    let none : old ≡ [] = sym named ∙ nil_from_length c.in_ok-named.named.items n in
    let line : c.from_vec.result ≡ map empty_field query.items ∷ [] = search rules in
    let group : query.group ≡ [] = search rules in
    line ∙ empty_table lists query rows groups old (rows_named lists query rows groups s) none group

pub run_lines-requires : goal.run_lines-requires
run_lines-requires c =
    let (rows, s, few) = c.requires in
    let query = c.args.query.now in
    let lists = c.args.lists.now in
    let groups = c.args.groups.now in
    let ns = c.sort_by.new.self.items in
    let by : IsSortedBy (λ (x y : Named). is_lt (values_cmp x.values y.values)) ns =
    c.in_ok-sort_by.ensures.sorted (λ (x y : Named). is_lt (values_cmp x.values y.values)) (ranks_by values_total (λ (n : Named). n.values)) (answers_always _ (λ a r. is_lt r ≡ is_lt (values_cmp a.0.now.values a.1.0.now.values)) _ (λ f a r f' k. search rules)) in
    let moved = subst (λ (old : List Named). IsPermutation old ns) c.in_ok-named.ensures c.sort_by.ensures.permutation in
    let r = named_sorted lists query rows groups ns s moved by in
    (rows, s, subst (AreNamed lists query rows groups) (sym c.as_slice-2.ensures.value) r.0)

pub returns : goal.returns
returns c = λ rows s.
    let query = c.args.query.now in
    let lists = c.args.lists.now in
    let groups = c.args.groups.now in
    let ns = c.sort_by.new.self.items in
    let by : IsSortedBy (λ (x y : Named). is_lt (values_cmp x.values y.values)) ns =
    c.in_ok-sort_by.ensures.sorted (λ (x y : Named). is_lt (values_cmp x.values y.values)) (ranks_by values_total (λ (n : Named). n.values)) (answers_always _ (λ a r. is_lt r ≡ is_lt (values_cmp a.0.now.values a.1.0.now.values)) _ (λ f a r f' k. search rules)) in
    let moved = subst (λ (old : List Named). IsPermutation old ns) c.in_ok-named.ensures c.sort_by.ensures.permutation in
    let r = named_sorted lists query rows groups ns s moved by in
    let some : query.group ≡ [] → 0 < length ns = λ e.
    elim c.else-is_empty.branch [
      | else-is_empty-via-then-is_empty+else-is_empty-2 w ↦
          let n : 0 < length c.in_ok-named.named.items = grind (arith, nat_tests) in
          omega (arith, n, length_permutation c.in_ok-named.named.items ns c.sort_by.ensures.permutation)
      | else-is_empty-via-else-is_empty w ↦
          let no : ⊥ = search rules in absurd no
    ] in
    c.from_vec-2.ensures ∙ c.in_ok-lines.ensures rows s (subst (AreNamed lists query rows groups) (sym c.as_slice-2.ensures.value) r.0)
    ∙ ap (table_lines lists query rows) c.as_slice-2.ensures.value ∙ table_is lists query rows groups ns s r.0 r.1 some
