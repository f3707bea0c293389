use Rattle.std.proofs.Common.{◌≡◌, ◌+◌, ◌*◌, ◌<◌, ◌≤◌, [], ◌++◌, length, length-append, set, map, List, All, slice_get, Some, refl, sym, ap, subst, ◌∙◌, arith, rules}
use Rattle.std.proofs.lemmas.List.{length-map, with_items_is}
use Rattle.std.proofs.lemmas.Option.{slice_get-get_or}
use Rattle.cube_values.specs.declared.row.CodedRow.{CodedRow}
use Rattle.agg_fold.specs.Tallies.{tally_of, tally_sums, chunk_of, with_chunk, changed_chunk, IsSmall}
use Rattle.agg_fold.specs.Coded.{metrics_of, metrics_with}
use Rattle.agg_fold.specs.Places.{group_key}
use Rattle.agg_fold.proofs.Tallying.{small_tallies, chunk_joined}
use Rattle.agg_fold.proofs.Standing.{count_at, place_counted, chunk_here, chunk_within, few_with, few_metrics, few_rows, totals_changed, stand_gained, among_from_place}
use Rattle.agg_fold.proofs.groups.Groups.add_totals.Goals as goal

pub overflow_add-self : goal.overflow_add-self
overflow_add-self c =
    let (rows, s, few) = c.requires.held in
    omega (arith, s.count, few)

pub index_mut-requires : goal.index_mut-requires
index_mut-requires c =
    let (rows, s, few) = c.requires.held in
    let query = c.args.query.now in
    let g = c.args.self.now in
    let n = place_counted query.items (metrics_with query.group rows) g s.totals c.args.place _ (slice_get-get_or g.keys c.args.place [] c.requires.place) in
    search rules

pub overflow_add-index_mut : goal.overflow_add-index_mut
overflow_add-index_mut c =
    let (rows, s, few) = c.requires.held in
    let query = c.args.query.now in
    let g = c.args.self.now in
    let key = group_key g.keys c.args.place in
    let n : c.index_mut.result.now ≡ length (metrics_with query.group rows key) = c.index_mut.ensures.value ∙ count_at query.items (metrics_with query.group rows) g s.totals c.args.place key (slice_get-get_or g.keys c.args.place [] c.requires.place) _ in
    omega (arith, n, few_with query.group rows key, few)

pub add_all_at-requires-clause-within : goal.add_all_at-requires-clause-within
add_all_at-requires-clause-within c =
    let (rows, s, few) = c.requires.held in
    let (more, t) = c.requires.some in
    let query = c.args.query.now in
    let g = c.args.self.now in
    let w = chunk_within query.items (metrics_with query.group rows) g s.totals c.args.place _ (slice_get-get_or g.keys c.args.place [] c.requires.place) in
    let within : c.args.place * length query.items + length query.items ≤ length c.as_mut_slice.result.now = search rules in
    subst (λ (n : _). c.args.place * n + n ≤ length c.as_mut_slice.result.now) (sym (ap length t.tallied ∙ length-map query.items (tally_of (metrics_of more)))) within

pub add_all_at-requires-clause-small : goal.add_all_at-requires-clause-small
add_all_at-requires-clause-small c =
    let (rows, s, few) = c.requires.held in
    let (more, t) = c.requires.some in
    let query = c.args.query.now in
    let g = c.args.self.now in
    let key = group_key g.keys c.args.place in
    let at = chunk_here query.items (metrics_with query.group rows) g s.totals c.args.place key (slice_get-get_or g.keys c.args.place [] c.requires.place) in
    let n : length c.args.more.now ≡ length query.items = ap length t.tallied ∙ length-map query.items (tally_of (metrics_of more)) in
    subst (All IsSmall) (sym ((λ i. chunk_of c.args.place (n i) (c.as_mut_slice.ensures.value i)) ∙ at))
    (small_tallies (metrics_with query.group rows key) query.items (few_metrics query rows key s.few s.taken))

pub add_all_at-requires-clause-more : goal.add_all_at-requires-clause-more
add_all_at-requires-clause-more c =
    let (rows, s, few) = c.requires.held in
    let (more, t) = c.requires.some in
    let query = c.args.query.now in
    subst (All IsSmall) (sym t.tallied) (small_tallies (metrics_of more) query.items (few_rows query more (omega (arith, t.count, few)) t.taken))

pub returns-clause-gains : goal.returns-clause-gains
returns-clause-gains c = λ more t rows s.
    let (others, u, few) = c.requires.held in
    let query = c.args.query.now in
    let g = c.args.self.now in
    let key = group_key g.keys c.args.place in
    let metrics = metrics_with query.group rows key in
    let at : slice_get g.keys c.args.place ≡ Some key = slice_get-get_or g.keys c.args.place [] c.requires.place in
    let new : c.add_all_at.new.tallies ≡ with_chunk c.args.place (length query.items) g.tallies.items (map (tally_of (metrics ++ metrics_of more)) query.items) =
    c.add_all_at.ensures
    ∙ ap (changed_chunk c.args.place (length c.args.more.now) (λ old. tally_sums old c.args.more.now)) c.as_mut_slice.ensures.value
    ∙ chunk_joined query.items metrics c.args.place g.tallies.items (chunk_here query.items (metrics_with query.group rows) g s.totals c.args.place key at) (metrics_of more) c.args.more.now t.tallied in
    let count : c.index_mut.result.now + c.args.count ≡ length (metrics ++ metrics_of more) =
    omega (arith, count_at query.items (metrics_with query.group rows) g s.totals c.args.place key at c.index_mut.result.now, c.index_mut.ensures.value, length-append metrics (metrics_of more), t.count, length-map more (λ (row : CodedRow). row.metrics)) in
    stand_gained query rows more key g _ (omega (arith, s.count, u.count, t.count, few)) t.taken t.keyed (among_from_place g.keys c.args.place key at)
    (ap (λ n. g.rows + n) t.count) refl
    (totals_changed query.items (metrics_with query.group rows) g _ key (metrics ++ metrics_of more) c.args.place s.once at refl (ap (set g.counts.items c.args.place) count) (with_items_is g.tallies c.add_all_at.new.tallies (search rules) ∙ new) s.totals)
    s
