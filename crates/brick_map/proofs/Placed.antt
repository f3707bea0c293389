-- The map of places stays right as bricks change, and as one is born.
use Rattle.std.proofs.Common.{◌≡◌, ℕ, ◌==◌, cond, nat_eq, List, [], ◌∷◌, ◌++◌, length, get_or, take, IsSomeAnd, Option, Some, None, Vec, Global, sym, ap, subst, ◌∙◌, arith}
use Rattle.std.specs.BTreeMap.{BTreeMap, get}
use Rattle.std.specs.Cmp.{nat_eq_equiv}
use Rattle.std.specs.List.{IsDistinct}
use Rattle.std.specs.Ordering.{nat_cmp, is_eq}
use Rattle.std.proofs.lemmas.Bool.Decides.{nat_tests}
use Rattle.std.proofs.lemmas.List.{append-nil, drop_all, length-map, map-append, take_all}
use Rattle.std.specs.Vec.{with_items}
use Rattle.std.proofs.lemmas.Map.Keys.{IsDistinct-push}
use Rattle.cube_values.specs.declared.row.CodedRow.{CodedRow}
use Rattle.brick_store.specs.Bricks.{BrickState}
use Rattle.brick_map.specs.declared.list.BrickList.TheInside.{Inside}
use Rattle.brick_map.specs.Places.{ArePlaced, numbers_of_bricks, brick_place}
use Rattle.brick_map.specs.Births.{brick_numbered}
use Rattle.brick_map.specs.Lists.{TakesRows}
use Rattle.brick_map.proofs.Lists.{StandsAt, absent, place_born, place_by_numbers, stands}

pub placed_still : (l : Inside) (bricks : Vec BrickState Global) → ArePlaced l → numbers_of_bricks bricks.items ≡ numbers_of_bricks l.bricks.items → ArePlaced (record { bricks = bricks; places = l.places })
placed_still l bricks h e = record {
  places = λ number. h.places number ∙ sym (place_by_numbers number bricks.items l.bricks.items e);
  distinct = subst (IsDistinct nat_eq) (sym e) h.distinct;
}

cmp_is_eq : (a b : ℕ) → is_eq (nat_cmp a b) ≡ (a == b)
cmp_is_eq a b = grind (arith, nat_tests)

pub placed_born : (l : Inside) (bricks : Vec BrickState Global) (places : BTreeMap ℕ ℕ) (b : BrickState) (number count : ℕ) → ArePlaced l → b.home.number ≡ number → brick_place number l.bricks.items ≡ None → bricks.items ≡ l.bricks.items ++ b ∷ [] → count ≡ length l.bricks.items → ((q : ℕ) → get nat_cmp places q ≡ cond (is_eq (nat_cmp number q)) (Some count) (get nat_cmp l.places q)) → ArePlaced (record { bricks = bricks; places = places })
placed_born l bricks places b number count h e none items counted updates =
    let old = l.bricks.items in
    let new : brick_place b.home.number old ≡ None = ap (λ n. brick_place n old) e ∙ none in
    record {
      places = λ q.
          updates q
          ∙ (λ t. cond (cmp_is_eq (sym e t) q t) (Some (counted t)) (h.places q t))
          ∙ sym (place_born q old b new)
          ∙ ap (brick_place q) (sym items);
      distinct = subst (λ (l : List BrickState). IsDistinct nat_eq (numbers_of_bricks l)) (sym items)
          (subst (IsDistinct nat_eq) (sym (map-append (λ (b : BrickState). b.home.number) old (b ∷ [])))
          (IsDistinct-push nat_eq_equiv (numbers_of_bricks old) b.home.number h.distinct (absent b.home.number old new).among));
    }

-- where a number was found
pub found : (l : Inside) (v : List BrickState) (number place : ℕ) → l.bricks.items ≡ v → brick_place number v ≡ Some place → StandsAt number l.bricks.items place
found l v number place e f = stands number l.bricks.items place (ap (brick_place number) e ∙ f)

pub takes_found : (l : Inside) (v : List BrickState) (number place : ℕ) (rows : List CodedRow) (b : BrickState) → l.bricks.items ≡ v → brick_place number v ≡ Some place → IsSomeAnd (brick_numbered number v) (TakesRows rows) → b ≡ get_or l.bricks.items place b → TakesRows rows b
takes_found l v number place rows b e f takes is =
    let at = found l v number place e f in
    let there : brick_numbered number v ≡ Some b = ap (brick_numbered number) (sym e) ∙ at.is b ∙ ap Some (sym is) in
    subst (λ (o : Option BrickState). IsSomeAnd o (TakesRows rows)) there takes

-- each brick is changed
pub placed_items : (l : Inside) (new : List BrickState) → ArePlaced l → numbers_of_bricks new ≡ numbers_of_bricks l.bricks.items → ArePlaced (record { bricks = with_items l.bricks new; places = l.places })
placed_items l new h e =
    let f : BrickState → ℕ = λ b. b.home.number in
    let old = l.bricks.items in
    let long : length new ≡ length old = sym (length-map new f) ∙ ap length e ∙ length-map old f in
    let items : (with_items l.bricks new).items ≡ new =
    ap (λ rest. take l.bricks.len (new ++ rest)) (drop_all (length new) old (omega (arith, long)))
    ∙ ap (take l.bricks.len) (append-nil new)
    ∙ take_all l.bricks.len new (omega (arith, long, l.bricks.ok.0)) in
    placed_still l (with_items l.bricks new) h (ap numbers_of_bricks items ∙ e)
