use Rattle.std.proofs.Common.{◌≡◌, ◌+◌, ◌++◌, ◌∷◌, [], length, length-append, set, map, List, All, refl, sym, ap, subst, ◌∙◌, arith, rules}
use Rattle.std.proofs.lemmas.List.{with_items_is}
use Rattle.cube_values.specs.declared.query.BoundItem.{BoundItem}
use Rattle.cube_values.specs.Queries.{IsSoundItem}
use Rattle.cube_values.specs.declared.row.CodedRow.{CodedRow}
use Rattle.agg_fold.specs.Tallies.{tally_of, tallies_with_row, chunk_of, with_chunk, changed_chunk, Fits, IsSmall}
use Rattle.agg_fold.proofs.Tallying.{small_tallies, chunk_more}
use Rattle.std.proofs.lemmas.List.Elements.{All-nil, All-cons}
use Rattle.agg_fold.specs.Coded.{IsQueryRow, HasKey, coded_key, metrics_with}
use Rattle.agg_fold.proofs.Standing.{count_at, place_counted, chunk_here, chunk_within, few_with, few_metrics, totals_changed, stand_gained, among_from_place}
use Rattle.agg_fold.proofs.groups.Groups.add.Goals as goal

pub index_mut-requires : goal.index_mut-requires
index_mut-requires c =
    let (rows, s, few) = c.requires.held in
    let query = c.args.query.now in
    let n = place_counted query.items (metrics_with query.group rows) c.args.self.now s.totals c.args.place _ c.requires.place in
    search rules

pub overflow_add-index_mut : goal.overflow_add-index_mut
overflow_add-index_mut c =
    let (rows, s, few) = c.requires.held in
    let query = c.args.query.now in
    let key = coded_key query.group c.args.coords.now in
    let n : c.index_mut.result.now ≡ length (metrics_with query.group rows key) = c.index_mut.ensures.value ∙ count_at query.items (metrics_with query.group rows) c.args.self.now s.totals c.args.place key c.requires.place _ in
    let small = few_with query.group rows key in
    search rules

pub add_row_at-requires-clause-within : goal.add_row_at-requires-clause-within
add_row_at-requires-clause-within c =
    let (rows, s, few) = c.requires.held in
    let query = c.args.query.now in
    let w = chunk_within query.items (metrics_with query.group rows) c.args.self.now s.totals c.args.place _ c.requires.place in
    search rules

pub add_row_at-requires-clause-small : goal.add_row_at-requires-clause-small
add_row_at-requires-clause-small c =
    let (rows, s, few) = c.requires.held in
    let query = c.args.query.now in
    let key = coded_key query.group c.args.coords.now in
    let at = chunk_here query.items (metrics_with query.group rows) c.args.self.now s.totals c.args.place key c.requires.place in
    subst (All IsSmall) (sym ((λ i. chunk_of c.args.place (length (c.as_slice.ensures i)) (c.as_mut_slice.ensures.value i)) ∙ at))
    (small_tallies (metrics_with query.group rows key) query.items (few_metrics query rows key s.few s.taken))

pub add_row_at-requires-clause-items : goal.add_row_at-requires-clause-items
add_row_at-requires-clause-items c =
    (c.args.query.now.group, subst (λ (items : List BoundItem). All (IsSoundItem c.args.query.now.group (length c.args.metrics.now)) items) (sym c.as_slice.ensures) c.requires.sound.items)

pub returns : goal.returns
returns c = λ rows s.
    let (others, t, few) = c.requires.held in
    let query = c.args.query.now in
    let g = c.args.self.now in
    let row : CodedRow = record { coords = c.args.coords.now; metrics = c.args.metrics.now } in
    let key = coded_key query.group c.args.coords.now in
    let metrics = metrics_with query.group rows key in
    let e = c.as_slice.ensures in
    let new : c.add_row_at.new.tallies ≡ with_chunk c.args.place (length query.items) g.tallies.items (map (tally_of (metrics ++ row.metrics ∷ [])) query.items) =
    c.add_row_at.ensures.more
    ∙ (λ i. changed_chunk c.args.place (length (e i)) (tallies_with_row row.metrics (e i)) (c.as_mut_slice.ensures.value i))
    ∙ chunk_more query.items metrics c.args.place g.tallies.items (chunk_here query.items (metrics_with query.group rows) g s.totals c.args.place key c.requires.place) row.metrics in
    let count : c.index_mut.result.now + 1 ≡ length (metrics ++ row.metrics ∷ []) =
    omega (arith, count_at query.items (metrics_with query.group rows) g s.totals c.args.place key c.requires.place c.index_mut.result.now, c.index_mut.ensures.value, length-append metrics (row.metrics ∷ [])) in
    let taken : IsQueryRow query row = record { sound = c.requires.sound; inside = c.requires.inside; fit = subst (All (Fits row.metrics)) e c.add_row_at.ensures.fit } in
    stand_gained query rows (row ∷ []) key g _ (omega (arith, s.count, t.count))
    (All-cons (IsQueryRow query) row [] taken (All-nil (IsQueryRow query)))
    (All-cons (HasKey query.group key) row [] refl (All-nil (HasKey query.group key)))
    (among_from_place g.keys c.args.place key c.requires.place)
    refl refl
    (totals_changed query.items (metrics_with query.group rows) g _ key (metrics ++ row.metrics ∷ []) c.args.place s.once c.requires.place refl (ap (set g.counts.items c.args.place) count) (with_items_is g.tallies c.add_row_at.new.tallies (search rules) ∙ new) s.totals)
    s
