use Rattle.std.proofs.Common.{◌≡◌, ◌<◌, ◌≤◌, ◌++◌, ◌∷◌, [], length, take, drop, List, All, append_assoc, sym, ap, subst, ◌∙◌, arith, rules, unwrap_or, slice_get, get_or}
use Rattle.std.proofs.lemmas.List.Elements.{All-take}
use Rattle.cube_values.specs.declared.table.Field.{Field}
use Rattle.cube_values.specs.declared.value.Value.{Value}
use Rattle.agg_fold.specs.declared.finish.Named.{Named}
use Rattle.agg_fold.specs.Tables.{AreNamed, IsRun, key_at, table_lines, line_of_tallies, run_metrics}
use Rattle.agg_fold.proofs.Runs.{once_take}
use Rattle.agg_fold.proofs.RunLines.{run_rest, run_lines_of, run_few}
use Rattle.agg_fold.proofs.finish.run_lines.Goals as goal

pub run_line-requires-clause-held : goal.run_line-requires-clause-held
run_line-requires-clause-held c =
    let (rows, s, named) = c.requires in
    let r = (c.runs.invariant rows s named).0 in
    let query = c.args.query.now in
    let groups = c.args.groups.now in
    let rest = c.runs.rest.now in
    let n = c.run_len.result in
    let front = c.split_at.ensures.front in (
      rows,
      record {
        stands = s;
        within = subst (λ (run : List Named). All (λ m. m.place < length groups.keys) run) (sym front) (All-take (λ m. m.place < length groups.keys) n rest r.within);
        some = subst (λ (run : List Named). All (λ m. 0 < unwrap_or (slice_get groups.counts.items m.place) 0) run) (sym front) (All-take (λ m. 0 < unwrap_or (slice_get groups.counts.items m.place) 0) n rest r.some);
        few = subst (λ (run : List Named). length (run_metrics query.group rows groups.keys run) ≤ length rows) (sym front) (run_few query.group rows groups.keys (take n rest) (once_take (key_at groups.keys) n rest r.once));
      },
    )

pub runs-preserved : goal.runs-preserved
runs-preserved c = λ rows s named.
    let (r, e) = c.runs.invariant rows s named in
    let query = c.args.query.now in
    let groups = c.args.groups.now in
    let lists = c.args.lists.now in
    let rest = c.runs.rest.now in
    let n = c.run_len.result in
    let v = c.first-item.result.values in
    let back = c.split_at.ensures.back in
    let run : IsRun v rest n = subst (λ (u : List Value). IsRun u rest n) c.as_slice.ensures c.run_len.ensures in
    let some : 0 < length rest = omega arith in
    let first : v ≡ (get_or rest 0 c.first-item.result).values = ap (λ (m : Named). m.values) c.first-item.is in
    let line : c.in_ok-run_line.field-0 ≡ line_of_tallies query v (run_metrics query.group rows groups.keys (take n rest)) =
    c.in_ok-run_line.ensures rows s ∙ (λ k. line_of_tallies query (c.as_slice-in-len1-up.ensures k) (run_metrics query.group rows groups.keys (c.split_at.ensures.front k))) in
    let pushed : c.push.new.self.items ≡ c.runs.lines.items ++ c.in_ok-run_line.field-0 ∷ [] = search rules in (
      subst (AreNamed lists query rows groups) (sym back) (run_rest lists query rows groups rest c.first-item.result n v some first s r run),
      (λ k. pushed k ++ table_lines lists query rows (back k))
          ∙ append_assoc c.runs.lines.items (c.in_ok-run_line.field-0 ∷ []) (table_lines lists query rows (drop n rest))
          ∙ (λ k. c.runs.lines.items ++ (line k ∷ table_lines lists query rows (drop n rest)))
          ∙ ap (λ (ls : List (List Field)). c.runs.lines.items ++ ls) (sym (run_lines_of lists query rows groups rest c.first-item.result n v some first s r run))
          ∙ e,
    )
