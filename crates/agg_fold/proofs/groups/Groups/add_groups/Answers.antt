use Rattle.std.proofs.Common.{◌≡◌, ◌++◌, ◌<◌, ◌+◌, List, [], Some, get_or, length, length-append, slice_get, take, refl, sym, ap, subst, ◌∙◌, arith, rules}
use Rattle.std.proofs.lemmas.List.{take_all, append-nil}
use Rattle.std.proofs.lemmas.Option.{slice_get_within, get_or_from_slice_get}
use Rattle.cube_values.specs.declared.row.CodedRow.{CodedRow}
use Rattle.agg_fold.specs.Coded.{metrics_with}
use Rattle.agg_fold.specs.Places.{group_key}
use Rattle.agg_fold.specs.Standing.{StandsFor}
use Rattle.agg_fold.specs.Tallies.{chunk_of}
use Rattle.agg_fold.specs.Totals.{AreTotals, group_rows}
use Rattle.agg_fold.proofs.GroupRows.{rows_among, among_none, among_all, key_is_at, group_totals, moved_totals, join_step, few_more}
use Rattle.agg_fold.proofs.Places.{place_at, places_long}
use Rattle.agg_fold.proofs.Standing.{place_counted, chunk_within}
use Rattle.agg_fold.proofs.groups.Groups.add_groups.Goals as goal

pub groups-init : goal.groups-init
groups-init c = (refl, λ rows more s t. subst (λ (rs : List CodedRow). StandsFor c.args.query.now rs c.args.self.now) (sym (ap (λ (w : List CodedRow). rows ++ w) (among_none c.args.query.now.group more) ∙ append-nil rows)) s)

pub chunk-more-requires : goal.chunk-more-requires
chunk-more-requires c =
    let (more, t, few) = c.requires.other in
    let query = c.args.query.now in
    let other = c.args.other.now in
    let w = chunk_within query.items (metrics_with query.group more) other t.totals c.groups.theirs _ (key_is_at query more other t c.groups.theirs (omega arith)) in
    search rules

pub index-requires : goal.index-requires
index-requires c =
    let (more, t, few) = c.requires.other in
    let query = c.args.query.now in
    let other = c.args.other.now in
    let w = place_counted query.items (metrics_with query.group more) other t.totals c.groups.theirs _ (key_is_at query more other t c.groups.theirs (omega arith)) in
    omega (arith, w, places_long c.args.self.now.keys c.args.places.now other.keys c.requires.places)

pub add_totals-requires-clause-place : goal.add_totals-requires-clause-place
add_totals-requires-clause-place c =
    let i = c.groups.theirs in
    let p = get_or c.args.places.now i 0 in
    let other = c.args.other.now in
    slice_get_within c.groups.self.keys p (group_key other.keys i) (ap (λ keys. slice_get keys p) c.groups.invariant.0 ∙ place_at c.args.self.now.keys c.args.places.now other.keys c.requires.places i 0 (omega arith))

pub add_totals-requires-clause-held : goal.add_totals-requires-clause-held
add_totals-requires-clause-held c =
    let (rows, s, bound) = c.requires.held in
    let (more, t, few) = c.requires.other in
    let query = c.args.query.now in
    let other = c.args.other.now in
    let i = c.groups.theirs in
    let a = rows_among query.group more (take i other.keys) in
    let count : c.index.result.now ≡ length (group_rows query other i more) = c.index.ensures ∙ (group_totals query more other t i (omega arith) c.index.result.now).count in
    (rows ++ a, c.groups.invariant.1 rows more s t, omega (arith, count, length-append rows a, few_more query.group more other.keys i (group_key other.keys i) t.once (key_is_at query more other t i (omega arith)), t.count, bound))

pub add_totals-requires-clause-some : goal.add_totals-requires-clause-some
add_totals-requires-clause-some c =
    let (more, t, few) = c.requires.other in
    let query = c.args.query.now in
    let other = c.args.other.now in
    let i = c.groups.theirs in
    let p = get_or c.args.places.now i 0 in
    let key : group_key c.groups.self.keys p ≡ group_key other.keys i = get_or_from_slice_get c.groups.self.keys p (group_key other.keys i) [] (ap (λ keys. slice_get keys p) c.groups.invariant.0 ∙ place_at c.args.self.now.keys c.args.places.now other.keys c.requires.places i 0 (omega arith)) in
    let chunk : c.chunk-more.result.now ≡ chunk_of i (length query.items) other.tallies.items = search rules in
    (group_rows query other i more, moved_totals query (group_rows query other i more) _ _ _ _ _ _ (sym key) (sym c.index.ensures) (sym chunk) (group_totals query more other t i (omega arith) c.index.result.now))

pub groups-preserved : goal.groups-preserved
groups-preserved c = (
  c.add_totals.ensures.keys ∙ c.groups.invariant.0,
  λ rows more s t.
      let query = c.args.query.now in
      let other = c.args.other.now in
      let i = c.groups.theirs in
      let p = get_or c.args.places.now i 0 in
      let key : group_key c.groups.self.keys p ≡ group_key other.keys i = get_or_from_slice_get c.groups.self.keys p (group_key other.keys i) [] (ap (λ keys. slice_get keys p) c.groups.invariant.0 ∙ place_at c.args.self.now.keys c.args.places.now other.keys c.requires.places i 0 (omega arith)) in
      let chunk : c.chunk-more.result.now ≡ chunk_of i (length query.items) other.tallies.items = search rules in
      let totals = moved_totals query (group_rows query other i more) _ _ _ _ _ _ (sym key) (sym c.index.ensures) (sym chunk) (group_totals query more other t i (omega arith) c.index.result.now) in
      join_step query rows more other c.add_totals.new.self t i (omega arith) (c.add_totals.ensures.gains (group_rows query other i more) totals (rows ++ rows_among query.group more (take i other.keys)) (c.groups.invariant.1 rows more s t)),
)

pub returns : goal.returns
returns c = λ more t rows s.
    let query = c.args.query.now in
    let other = c.args.other.now in
    let all = ap (rows_among query.group more) (take_all c.groups.theirs other.keys (omega arith)) ∙ among_all query.group other.keys more t.named in
    subst (λ (w : List CodedRow). StandsFor query (rows ++ w) c.groups.self) all (c.groups.invariant.1 rows more s t)
