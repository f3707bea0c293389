use Rattle.std.proofs.Common.{◌≡◌, ◌++◌, ◌∷◌, [], Some, get_or, map, slice_get, take, refl, sym, ap, subst, ◌∙◌, arith, rules}
use Rattle.std.proofs.lemmas.List.{take_all, map_more, map_push}
use Rattle.std.proofs.lemmas.Option.{get_or_from_slice_get}
use Rattle.agg_fold.specs.Standing.{ArePlaces}
use Rattle.agg_fold.proofs.Places.{places_stay}
use Rattle.agg_fold.proofs.groups.Groups.places_of.Goals as goal

pub groups-init : goal.groups-init
groups-init c =
    let none : c.in_ok-places.places.items ≡ [] = search rules in
    (λ rows s. s, refl, ap (map (slice_get c.args.self.now.keys)) none)

pub place-requires-clause-held : goal.place-requires-clause-held
place-requires-clause-held c = let (rows, s, few) = c.requires.held in (rows, c.groups.invariant.0 rows s, few)

pub groups-preserved : goal.groups-preserved
groups-preserved c = (
  λ rows s. c.place.ensures.same rows (c.groups.invariant.0 rows s),
  c.place.ensures.rows ∙ c.groups.invariant.1,
  let keys = c.place.new.self.keys in
      let theirs = c.args.other.now.keys in
      let h = c.groups.theirs in
      let key : get_or theirs h [] ≡ c.at.result.now = get_or_from_slice_get theirs h c.at.result.now [] c.at.ensures in
      let here : slice_get keys c.in_ok-place.place ≡ Some (get_or theirs h []) = c.in_ok-place.ensures.place ∙ ap Some (sym key) in
      let pushed : c.push.new.self.items ≡ c.groups.places.items ++ c.in_ok-place.place ∷ [] = search rules in
      ap (map (slice_get keys)) pushed
      ∙ map_push (slice_get keys) c.groups.places.items c.in_ok-place.place
      ∙ (λ i. places_stay c.groups.self.keys keys c.place.ensures.stay c.groups.places.items (take h theirs) c.groups.invariant.2 i ++ here i ∷ [])
      ∙ sym (map_more Some theirs h [] (omega arith)),
)

pub returns-clause-places : goal.returns-clause-places
returns-clause-places c = subst (ArePlaces c.groups.self.keys c.groups.places.items) (take_all c.groups.theirs c.args.other.now.keys (omega arith)) c.groups.invariant.2
