use Rattle.std.proofs.Common.{◌≡◌, ◌+◌, ◌<◌, ◌≤◌, ◌^◌, ◌++◌, All, length, length-append, map, take, get_or, slice_get, Some, [], sym, ap, subst, ◌∙◌, arith, rules}
use Rattle.std.proofs.lemmas.List.{length-map, take_all, with_items_is}
use Rattle.std.specs.List.{zip}
use Rattle.cube_values.specs.declared.query.BoundItem.{BoundItem}
use Rattle.agg_fold.specs.declared.tally.Tally.{Tally}
use Rattle.agg_fold.specs.declared.finish.Named.{Named}
use Rattle.agg_fold.specs.Tallies.{tally_of, tally_sums, chunk_of, IsSmall}
use Rattle.agg_fold.proofs.Tallying.{small_tallies, tallies_joined}
use Rattle.agg_fold.specs.Coded.{metrics_with}
use Rattle.agg_fold.specs.Lines.{field_for}
use Rattle.agg_fold.specs.Tables.{key_at, run_metrics}
use Rattle.agg_fold.proofs.Standing.{count_at, chunk_here, chunk_within, few_metrics}
use Rattle.agg_fold.proofs.RunLines.{key_here, run_more, run_bound, few_of_run, run_some}
use Rattle.agg_fold.proofs.Lists.{zip_map}
use Rattle.agg_fold.proofs.finish.run_line.Goals as goal

pub overflow_add-count : goal.overflow_add-count
overflow_add-count c =
    let (rows, r) = c.requires.held in
    let s = r.stands in
    let within = r.within in
    let bound = r.few in
    let query = c.args.query.now in
    let groups = c.args.groups.now in
    let run = c.args.run.now in
    let i = c.groups.group-index in
    let item = c.group-item.result in
    let key = key_at groups.keys item in
    let at : slice_get groups.keys item.place ≡ Some key = key_here groups.keys item (subst (λ (n : Named). n.place < length groups.keys) (sym c.group-item.is) (within i item (omega arith))) in
    let n : c.index.result.now ≡ length (metrics_with query.group rows key) = c.index.ensures ∙ count_at query.items (metrics_with query.group rows) groups s.totals item.place key at c.index.result.now in
    let same : length (metrics_with query.group rows key) ≡ length (metrics_with query.group rows (key_at groups.keys (get_or run i item))) = ap (λ (m : Named). length (metrics_with query.group rows (key_at groups.keys m))) c.group-item.is in
    let all : c.groups.count + c.index.result.now ≤ length rows = omega (arith, (c.groups.invariant rows s).0, n, same, run_bound query.group rows groups.keys run i item (omega arith), bound) in
    let few : length rows < 2 ^ 63 = s.few in
    search rules

pub chunk-requires : goal.chunk-requires
chunk-requires c =
    let (rows, r) = c.requires.held in
    let s = r.stands in
    let within = r.within in
    let bound = r.few in
    let query = c.args.query.now in
    let groups = c.args.groups.now in
    let item = c.group-item.result in
    let at : slice_get groups.keys item.place ≡ Some (key_at groups.keys item) = key_here groups.keys item (subst (λ (n : Named). n.place < length groups.keys) (sym c.group-item.is) (within c.groups.group-index item (omega arith))) in
    let w = chunk_within query.items (metrics_with query.group rows) groups s.totals item.place _ at in
    search rules

pub add_all-requires : goal.add_all-requires
add_all-requires c =
    let (rows, r) = c.requires.held in
    let s = r.stands in
    let query = c.args.query.now in
    let groups = c.args.groups.now in
    let run = c.args.run.now in
    let i = c.groups.group-index in
    let item = c.group-item.result in
    let key = key_at groups.keys item in
    let at : slice_get groups.keys item.place ≡ Some key = key_here groups.keys item (subst (λ (n : Named). n.place < length groups.keys) (sym c.group-item.is) (r.within i item (omega arith))) in
    let part : length (run_metrics query.group rows groups.keys (take i run)) < 2 ^ 63 = omega (arith, run_bound query.group rows groups.keys run i item (omega arith), r.few, s.few) in
    let mine : c.as_mut_slice.result.now ≡ map (tally_of (run_metrics query.group rows groups.keys (take i run))) query.items = c.as_mut_slice.ensures.value ∙ (c.groups.invariant rows s).1 in
    let theirs : c.chunk.result.now ≡ map (tally_of (metrics_with query.group rows key)) query.items =
    c.chunk.ensures ∙ (λ k. chunk_of item.place (length (c.as_slice-items.ensures k)) (c.as_slice.ensures.value k)) ∙ chunk_here query.items (metrics_with query.group rows) groups s.totals item.place key at in
    record {
      long = ap length mine ∙ length-map query.items (tally_of (run_metrics query.group rows groups.keys (take i run))) ∙ sym (ap length theirs ∙ length-map query.items (tally_of (metrics_with query.group rows key)));
      small = subst (All IsSmall) (sym mine) (small_tallies (run_metrics query.group rows groups.keys (take i run)) query.items (few_of_run query rows groups.keys (take i run) part s.taken));
      more = subst (All IsSmall) (sym theirs) (small_tallies (metrics_with query.group rows key) query.items (few_metrics query rows key s.few s.taken));
    }

pub groups-preserved : goal.groups-preserved
groups-preserved c = λ rows s.
    let (rows', r) = c.requires.held in
    let within = r.within in
    let query = c.args.query.now in
    let groups = c.args.groups.now in
    let run = c.args.run.now in
    let i = c.groups.group-index in
    let item = c.group-item.result in
    let key = key_at groups.keys item in
    let at : slice_get groups.keys item.place ≡ Some key = key_here groups.keys item (subst (λ (n : Named). n.place < length groups.keys) (sym c.group-item.is) (within i item (omega arith))) in
    let inv = c.groups.invariant rows s in
    let old = run_metrics query.group rows groups.keys (take i run) in
    let n : c.index.result.now ≡ length (metrics_with query.group rows key) = c.index.ensures ∙ count_at query.items (metrics_with query.group rows) groups s.totals item.place key at c.index.result.now in
    let more : run_metrics query.group rows groups.keys (take (i + 1) run) ≡ old ++ metrics_with query.group rows key =
    run_more query.group rows groups.keys run i item (omega arith) ∙ ap (λ (m : Named). old ++ metrics_with query.group rows (key_at groups.keys m)) (sym c.group-item.is) in (
      omega (arith, inv.0, n, ap length more, length-append old (metrics_with query.group rows key)),
      with_items_is c.groups.tallies c.add_all.new.tallies (search rules)
          ∙ c.add_all.ensures
          ∙ (λ k. tally_sums ((c.as_mut_slice.ensures.value ∙ inv.1) k) ((c.chunk.ensures ∙ (λ j. chunk_of item.place (length (c.as_slice-items.ensures j)) (c.as_slice.ensures.value j)) ∙ chunk_here query.items (metrics_with query.group rows) groups s.totals item.place key at) k))
          ∙ tallies_joined old (metrics_with query.group rows key) query.items
          ∙ (λ k. map (tally_of (sym more k)) query.items),
    )

pub line_for-requires-clause-some : goal.line_for-requires-clause-some
line_for-requires-clause-some c =
    let (rows, r) = c.requires.held in
    let s = r.stands in
    let within = r.within in
    let bound = r.few in
    let query = c.args.query.now in
    let groups = c.args.groups.now in
    let run = c.args.run.now in
    let whole : run_metrics query.group rows groups.keys (take c.groups.group-index run) ≡ run_metrics query.group rows groups.keys run = ap (run_metrics query.group rows groups.keys) (take_all c.groups.group-index run (omega arith)) in
    omega (arith, (c.groups.invariant rows s).0, ap length whole, run_some query rows groups run (record { values = []; place = 0 }) s within r.some c.requires.some)

pub returns : goal.returns
returns c = λ rows s.
    let query = c.args.query.now in
    let groups = c.args.groups.now in
    let run = c.args.run.now in
    let inv = c.groups.invariant rows s in
    let metrics = run_metrics query.group rows groups.keys run in
    let whole : run_metrics query.group rows groups.keys (take c.groups.group-index run) ≡ metrics = ap (run_metrics query.group rows groups.keys) (take_all c.groups.group-index run (omega arith)) in
    let count : c.groups.count ≡ length metrics = inv.0 ∙ ap length whole in
    let tallies : c.as_slice-2.result.now ≡ map (tally_of metrics) query.items = c.as_slice-2.ensures.value ∙ inv.1 ∙ (λ k. map (tally_of (whole k)) query.items) in
    c.in_ok-line.ensures
    ∙ (λ k. map (λ (p : BoundItem × Tally). field_for query.group c.args.values.now (count k) p.0 p.1) (zip query.items (tallies k)))
    ∙ zip_map (field_for query.group c.args.values.now (length metrics)) (tally_of metrics) query.items
