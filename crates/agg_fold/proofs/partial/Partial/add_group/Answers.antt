use Rattle.std.proofs.Common.{◌≡◌, [], length, refl, sym, ap, ◌∙◌, arith, rules}
use Rattle.std.proofs.lemmas.List.{length-map}
use Rattle.std.proofs.lemmas.Option.{slice_get_within, get_or_from_slice_get}
use Rattle.agg_fold.specs.Coded.{metrics_of}
use Rattle.agg_fold.specs.Places.{group_key}
use Rattle.agg_fold.specs.Tallies.{tally_of, told_tallies}
use Rattle.agg_fold.proofs.GroupRows.{moved_totals}
use Rattle.agg_fold.proofs.Told.{told_long}
use Rattle.agg_fold.proofs.partial.Partial.add_group.Goals as goal

pub gather_told-requires-clause-sums : goal.gather_told-requires-clause-sums
gather_told-requires-clause-sums c =
    let (more, t) = c.requires.some in
    let items = c.args.query.now.items in
    let long = (told_long items c.args.sums.now c.args.least.now c.args.greatest.now (ap length t.tallied ∙ length-map items (tally_of (metrics_of more)))).enough_sums in
    search rules

pub gather_told-requires-clause-least : goal.gather_told-requires-clause-least
gather_told-requires-clause-least c =
    let (more, t) = c.requires.some in
    let items = c.args.query.now.items in
    let long = (told_long items c.args.sums.now c.args.least.now c.args.greatest.now (ap length t.tallied ∙ length-map items (tally_of (metrics_of more)))).enough_least in
    search rules

pub gather_told-requires-clause-greatest : goal.gather_told-requires-clause-greatest
gather_told-requires-clause-greatest c =
    let (more, t) = c.requires.some in
    let items = c.args.query.now.items in
    let long = (told_long items c.args.sums.now c.args.least.now c.args.greatest.now (ap length t.tallied ∙ length-map items (tally_of (metrics_of more)))).enough_greatest in
    search rules

pub add_totals-requires-clause-place : goal.add_totals-requires-clause-place
add_totals-requires-clause-place c = slice_get_within c.place.new.self.keys c.in_ok-place.place c.args.key.now c.in_ok-place.ensures.place

pub add_totals-requires-clause-some : goal.add_totals-requires-clause-some
add_totals-requires-clause-some c =
    let (more, t) = c.requires.some in
    let keys = c.place.new.self.keys in
    let key : group_key keys c.in_ok-place.place ≡ c.args.key.now = get_or_from_slice_get keys c.in_ok-place.place c.args.key.now [] c.in_ok-place.ensures.place in
    let told : c.as_slice.result.now ≡ told_tallies c.args.query.now.items c.args.sums.now c.args.least.now c.args.greatest.now = search rules in
    (more, moved_totals c.args.query.now more _ _ _ _ _ _ (sym key) refl (sym told) t)

pub returns-clause-ok : goal.returns-clause-ok
returns-clause-ok c = λ more t rows s.
    let keys = c.place.new.self.keys in
    let key : group_key keys c.in_ok-place.place ≡ c.args.key.now = get_or_from_slice_get keys c.in_ok-place.place c.args.key.now [] c.in_ok-place.ensures.place in
    let told : c.as_slice.result.now ≡ told_tallies c.args.query.now.items c.args.sums.now c.args.least.now c.args.greatest.now = search rules in
    c.add_totals.ensures.gains more (moved_totals c.args.query.now more _ _ _ _ _ _ (sym key) refl (sym told) t) rows (c.place.ensures.same rows s)
