use Rattle.std.proofs.Common.{◌≡◌, false, ◌++◌, ◌<◌, List, [], None, Some, get_or, length, slice_get, sym, ap, subst, ◌∙◌, arith, rules}
use Rattle.std.proofs.lemmas.List.{append-nil}
use Rattle.std.proofs.lemmas.Option.{slice_get_within, get_or_from_slice_get}
use Rattle.cube_values.specs.declared.row.CodedRow.{CodedRow}
use Rattle.agg_fold.specs.Coded.{metrics_with}
use Rattle.agg_fold.specs.Places.{is_among, IsPlaceOf, group_key}
use Rattle.agg_fold.specs.Standing.{StandsFor}
use Rattle.agg_fold.specs.Tallies.{chunk_of}
use Rattle.agg_fold.specs.Totals.{group_rows}
use Rattle.agg_fold.proofs.GroupRows.{key_is_at, group_totals, moved_totals, none_of_key}
use Rattle.agg_fold.proofs.Standing.{chunk_within}
use Rattle.agg_fold.proofs.groups.Groups.take_group.Goals as goal

pub chunk-less-requires : goal.chunk-less-requires
chunk-less-requires c =
    let h = c.requires.held in
    let query = c.args.query.now in
    let other = c.args.other.now in
    let w = chunk_within query.items (metrics_with query.group h.more) other h.part.totals c.args.theirs _ (key_is_at query h.more other h.part c.args.theirs c.requires.theirs) in
    search rules

pub take_totals-requires-clause-place : goal.take_totals-requires-clause-place
take_totals-requires-clause-place c =
    let keys = c.args.self.now.keys in
    let found : slice_get keys c.in-Some.place ≡ Some c.at.result.now = subst (IsPlaceOf keys c.at.result.now) c.in-Some.is c.find.ensures in
    slice_get_within keys c.in-Some.place c.at.result.now found

pub take_totals-requires-clause-held : goal.take_totals-requires-clause-held
take_totals-requires-clause-held c =
    let h = c.requires.held in
    let query = c.args.query.now in
    let other = c.args.other.now in
    let keys = c.args.self.now.keys in
    let i = c.args.theirs in
    let rows = group_rows query other i h.more in
    let found : slice_get keys c.in-Some.place ≡ Some c.at.result.now = subst (IsPlaceOf keys c.at.result.now) c.in-Some.is c.find.ensures in
    let key : group_key other.keys i ≡ group_key keys c.in-Some.place = get_or_from_slice_get other.keys i c.at.result.now [] c.at.ensures ∙ sym (get_or_from_slice_get keys c.in-Some.place c.at.result.now [] found) in
    let chunk : c.chunk-less.result.now ≡ chunk_of i (length query.items) other.tallies.items = search rules in
    record {
      rest = h.rest;
      less = rows;
      totals = moved_totals query rows _ _ _ _ _ _ key (sym c.index.ensures) (sym chunk) (group_totals query h.more other h.part i c.requires.theirs c.index.result.now);
      whole = h.whole;
    }

pub returns-in-Some : goal.returns-in-Some
returns-in-Some c = λ rest more t s.
    let query = c.args.query.now in
    let other = c.args.other.now in
    let keys = c.args.self.now.keys in
    let i = c.args.theirs in
    let rows = group_rows query other i more in
    let found : slice_get keys c.in-Some.place ≡ Some c.at.result.now = subst (IsPlaceOf keys c.at.result.now) c.in-Some.is c.find.ensures in
    let key : group_key other.keys i ≡ group_key keys c.in-Some.place = get_or_from_slice_get other.keys i c.at.result.now [] c.at.ensures ∙ sym (get_or_from_slice_get keys c.in-Some.place c.at.result.now [] found) in
    let chunk : c.chunk-less.result.now ≡ chunk_of i (length query.items) other.tallies.items = search rules in
    c.take_totals.ensures.loses rest rows (moved_totals query rows _ _ _ _ _ _ key (sym c.index.ensures) (sym chunk) (group_totals query more other t i c.requires.theirs c.index.result.now)) s

pub returns-in_default : goal.returns-in_default
returns-in_default c = λ rest more t s.
    let query = c.args.query.now in
    let other = c.args.other.now in
    let keys = c.args.self.now.keys in
    let i = c.args.theirs in
    let key : group_key other.keys i ≡ c.at.result.now = get_or_from_slice_get other.keys i c.at.result.now [] c.at.ensures in
    let absent : is_among keys c.at.result.now ≡ false = subst (IsPlaceOf keys c.at.result.now) c.in_default.is c.find.ensures in
    let none = none_of_key query.group (group_key other.keys i) keys rest (group_rows query other i more) (ap (is_among keys) key ∙ absent) (group_totals query more other t i c.requires.theirs 0).keyed s.named in
    subst (λ (rs : List CodedRow). StandsFor query rs c.args.self.now) (ap (λ (w : List CodedRow). rest ++ w) none ∙ append-nil rest) s
