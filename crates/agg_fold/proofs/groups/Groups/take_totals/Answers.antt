use Rattle.std.proofs.Common.{◌≡◌, ◌+◌, ◌-◌, ◌*◌, ◌<◌, ◌≤◌, ◌++◌, [], length, length-append, set, map, List, All, slice_get, Some, refl, sym, ap, subst, ◌∙◌, arith, rules}
use Rattle.std.proofs.lemmas.List.{length-map, with_items_is}
use Rattle.std.proofs.lemmas.Option.{slice_get-get_or}
use Rattle.cube_values.specs.declared.row.CodedRow.{CodedRow}
use Rattle.agg_fold.specs.Tallies.{tally_of, tally_differences, chunk_of, with_chunk, changed_chunk, IsSmall}
use Rattle.agg_fold.specs.Coded.{IsQueryRow, metrics_of, metrics_with}
use Rattle.agg_fold.specs.Places.{group_key}
use Rattle.agg_fold.proofs.Tallying.{small_tallies, chunk_less}
use Rattle.agg_fold.proofs.Standing.{count_at, place_counted, chunk_here, chunk_within, few_metrics, few_rows, keyed_metrics, back_of, totals_changed, stand_lost}
use Rattle.agg_fold.proofs.groups.Groups.take_totals.Goals as goal

pub overflow_sub-self : goal.overflow_sub-self
overflow_sub-self c =
    let h = c.requires.held in
    omega (arith, h.whole.count, h.totals.count, length-append h.rest h.less)

pub index_mut-requires : goal.index_mut-requires
index_mut-requires c =
    let h = c.requires.held in
    let query = c.args.query.now in
    let g = c.args.self.now in
    let n = place_counted query.items (metrics_with query.group (h.rest ++ h.less)) g h.whole.totals c.args.place _ (slice_get-get_or g.keys c.args.place [] c.requires.place) in
    search rules

pub overflow_sub-index_mut : goal.overflow_sub-index_mut
overflow_sub-index_mut c =
    let h = c.requires.held in
    let query = c.args.query.now in
    let g = c.args.self.now in
    let key = group_key g.keys c.args.place in
    let rows = h.rest ++ h.less in
    let n : c.index_mut.result.now ≡ length (metrics_with query.group rows key) = c.index_mut.ensures.value ∙ count_at query.items (metrics_with query.group rows) g h.whole.totals c.args.place key (slice_get-get_or g.keys c.args.place [] c.requires.place) _ in
    omega (arith, n, ap length (keyed_metrics query.group h.rest h.less key h.totals.keyed), length-append (metrics_with query.group h.rest key) (metrics_of h.less), length-map h.less (λ (row : CodedRow). row.metrics), h.totals.count)

pub take_all_at-requires-clause-within : goal.take_all_at-requires-clause-within
take_all_at-requires-clause-within c =
    let h = c.requires.held in
    let query = c.args.query.now in
    let g = c.args.self.now in
    let w = chunk_within query.items (metrics_with query.group (h.rest ++ h.less)) g h.whole.totals c.args.place _ (slice_get-get_or g.keys c.args.place [] c.requires.place) in
    let within : c.args.place * length query.items + length query.items ≤ length c.as_mut_slice.result.now = search rules in
    subst (λ (n : _). c.args.place * n + n ≤ length c.as_mut_slice.result.now) (sym (ap length h.totals.tallied ∙ length-map query.items (tally_of (metrics_of h.less)))) within

pub take_all_at-requires-clause-small : goal.take_all_at-requires-clause-small
take_all_at-requires-clause-small c =
    let h = c.requires.held in
    let query = c.args.query.now in
    let g = c.args.self.now in
    let key = group_key g.keys c.args.place in
    let rows = h.rest ++ h.less in
    let at = chunk_here query.items (metrics_with query.group rows) g h.whole.totals c.args.place key (slice_get-get_or g.keys c.args.place [] c.requires.place) in
    let n : length c.args.less.now ≡ length query.items = ap length h.totals.tallied ∙ length-map query.items (tally_of (metrics_of h.less)) in
    subst (All IsSmall) (sym ((λ i. chunk_of c.args.place (n i) (c.as_mut_slice.ensures.value i)) ∙ at))
    (small_tallies (metrics_with query.group rows key) query.items (few_metrics query rows key h.whole.few h.whole.taken))

pub take_all_at-requires-clause-less : goal.take_all_at-requires-clause-less
take_all_at-requires-clause-less c =
    let h = c.requires.held in
    let query = c.args.query.now in
    subst (All IsSmall) (sym h.totals.tallied) (small_tallies (metrics_of h.less) query.items (few_rows query h.less (omega (arith, h.whole.few, length-append h.rest h.less)) (back_of (IsQueryRow query) h.rest h.less h.whole.taken)))

pub returns-clause-loses : goal.returns-clause-loses
returns-clause-loses c = λ rest less t s.
    let query = c.args.query.now in
    let g = c.args.self.now in
    let key = group_key g.keys c.args.place in
    let metrics = metrics_with query.group rest key in
    let at : slice_get g.keys c.args.place ≡ Some key = slice_get-get_or g.keys c.args.place [] c.requires.place in
    let both = keyed_metrics query.group rest less key t.keyed in
    let chunk = chunk_here query.items (metrics_with query.group (rest ++ less)) g s.totals c.args.place key at ∙ (λ i. map (tally_of (both i)) query.items) in
    let new : c.take_all_at.new.tallies ≡ with_chunk c.args.place (length query.items) g.tallies.items (map (tally_of metrics) query.items) =
    c.take_all_at.ensures
    ∙ ap (changed_chunk c.args.place (length c.args.less.now) (λ old. tally_differences old c.args.less.now)) c.as_mut_slice.ensures.value
    ∙ chunk_less query.items metrics (metrics_of less) c.args.place g.tallies.items c.args.less.now c.requires.additive chunk t.tallied in
    let count : c.index_mut.result.now - c.args.count ≡ length metrics =
    omega (arith, count_at query.items (metrics_with query.group (rest ++ less)) g s.totals c.args.place key at c.index_mut.result.now, c.index_mut.ensures.value, ap length both, length-append metrics (metrics_of less), t.count, length-map less (λ (row : CodedRow). row.metrics)) in
    stand_lost query rest less key g _ t.keyed (omega (arith, s.count, t.count, length-append rest less)) refl
    (totals_changed query.items (metrics_with query.group (rest ++ less)) g _ key metrics c.args.place s.once at refl (ap (set g.counts.items c.args.place) count) (with_items_is g.tallies c.take_all_at.new.tallies (search rules) ∙ new) s.totals)
    s
