-- Keys and their places.
use Rattle.std.proofs.Common.{◌≡◌, ℕ, zero, suc, ◌+◌, ◌<◌, ◌≤◌, Bool, true, false, cond, not, nat_lt, ◌||◌, Option, None, Some, List, [], ◌∷◌, ◌++◌, length, map, get_or, slice_get, refl, sym, ap, ◌∙◌, subst, ⊎_elim, arith}
use Rattle.std.specs.Option.{IfSome, option_map_or}
use Rattle.std.specs.List.{AllByRecursion, IsDistinct, position, position_or_len, list_any}
use Rattle.std.specs.Str.{bytes_eq}
use Rattle.std.proofs.lemmas.Bool.{cases_Bool, lt-ltb, le-ltb}
use Rattle.std.proofs.lemmas.Bool.Decides.{nat_tests}
use Rattle.std.proofs.lemmas.List.{map_push, length-map}
use Rattle.std.proofs.lemmas.Slice.Eq.{bytes_eq-Decides}
use Rattle.agg_fold.specs.Places.{is_among, IsPlaceOf, PlacesStay}
use Rattle.agg_fold.specs.Standing.{ArePlaces}

pub slice_get_front : {X : Type 0} (xs ys : List X) (i : ℕ) (x : X) → slice_get xs i ≡ Some x → slice_get (xs ++ ys) i ≡ Some x
slice_get_front [] ys i x h = absurd (cc)
slice_get_front (y ∷ xs) ys zero x h = h
slice_get_front (y ∷ xs) ys (suc i) x h = slice_get_front xs ys i x h

pub slice_get_end : {X : Type 0} (xs : List X) (x : X) → slice_get (xs ++ x ∷ []) (length xs) ≡ Some x
slice_get_end [] x = refl
slice_get_end (y ∷ xs) x = slice_get_end xs x

pub front_stays : (old new : List (List ℕ)) (key : List ℕ) → new ≡ old ++ key ∷ [] → PlacesStay old new
front_stays old new key e p k h = ap (λ (l : List (List ℕ)). slice_get l p) e ∙ slice_get_front old (key ∷ []) p k h

pub places_stay : (old new : List (List ℕ)) → PlacesStay old new → (places : List ℕ) (wanted : List (List ℕ)) → ArePlaces old places wanted → ArePlaces new places wanted
places_stay old new stay [] [] h = refl
places_stay old new stay [] (k ∷ wanted) h = absurd (cc)
places_stay old new stay (p ∷ places) [] h = absurd (cc)
places_stay old new stay (p ∷ places) (k ∷ wanted) h =
    let first : slice_get old p ≡ Some k = cc in
    let rest : ArePlaces old places wanted = cc in
    λ i. stay p k first i ∷ places_stay old new stay places wanted rest i

-- ---- keys that are held in another form

module _ {X : Type 0} (f : X → List ℕ) (key : List ℕ) where
  abbrev is : X → Bool
  is x = bytes_eq key (f x)

  -- the place n of a list of so many, where it is one
  abbrev shown : List (List ℕ) → ℕ → ℕ → Type 0
  shown keys long n = IsPlaceOf keys key (cond (nat_lt n long) (Some n) None)

  shown_in : (keys : List (List ℕ)) (long n : ℕ) → n < long → slice_get keys n ≡ Some key → shown keys long n
  shown_in keys long n h e = subst (λ (b : Bool). IsPlaceOf keys key (cond b (Some n) None)) (sym (lt-ltb n long h)) e

  shown_out : (keys : List (List ℕ)) (long n : ℕ) → long ≤ n → is_among keys key ≡ false → shown keys long n
  shown_out keys long n h e = subst (λ (b : Bool). IsPlaceOf keys key (cond b (Some n) None)) (sym (le-ltb n long h)) e

  later : (x : X) (xs : List X) (n : ℕ) → is x ≡ false → shown (map f xs) (length xs) n → shown (map f (x ∷ xs)) (length (x ∷ xs)) (1 + n)
  later x xs n differ h =
      ⊎_elim
      (λ yes. shown_in (map f (x ∷ xs)) (length (x ∷ xs)) (1 + n) (let l : n < length xs = grind (arith, nat_tests) in omega arith)
      (let e : 1 + n ≡ suc n = omega arith in ap (slice_get (map f (x ∷ xs))) e ∙ subst (λ (b : Bool). IsPlaceOf (map f xs) key (cond b (Some n) None)) yes h))
      (λ no.
      let out : is_among (map f xs) key ≡ false = subst (λ (b : Bool). IsPlaceOf (map f xs) key (cond b (Some n) None)) no h in
      shown_out (map f (x ∷ xs)) (length (x ∷ xs)) (1 + n) (let l : length xs ≤ n = grind (arith, nat_tests) in omega arith) (λ i. differ i || out i))
      (cases_Bool (nat_lt n (length xs)))

  found : (xs : List X) → shown (map f xs) (length xs) (position_or_len is xs)
  found [] = shown_out [] 0 0 (omega arith) refl
  found (x ∷ xs) =
      ⊎_elim
      (λ same. subst (shown (map f (x ∷ xs)) (length (x ∷ xs))) (ap (λ (b : Bool). cond (not b) (1 + position_or_len is xs) 0) (sym same)) (shown_in (map f (x ∷ xs)) (length (x ∷ xs)) 0 (omega arith) (ap Some (sym ((bytes_eq-Decides key (f x)).0 same)))))
      (λ differ. subst (shown (map f (x ∷ xs)) (length (x ∷ xs))) (ap (λ (b : Bool). cond (not b) (1 + position_or_len is xs) 0) (sym differ)) (later x xs (position_or_len is xs) differ (found xs)))
      (cases_Bool (is x))

pub place_is : {X : Type 0} (f : X → List ℕ) (xs : List X) (keys : List (List ℕ)) (key : List ℕ) (r : Option ℕ) → map f xs ≡ keys
    → r ≡ position (λ x. bytes_eq key (f x)) xs → IsPlaceOf keys key r
place_is f xs keys key r v h = subst (λ (ks : List (List ℕ)). IsPlaceOf ks key r) v (subst (IsPlaceOf (map f xs) key) (sym h) (found f key xs))

-- a key that no item is goes last
pub keys_after : {X : Type 0} (f : X → List ℕ) (xs new : List X) (owned : X) (keys : List (List ℕ)) (key : List ℕ) → map f xs ≡ keys
    → f owned ≡ key → is_among keys key ≡ false → new ≡ cond (list_any (λ x. bytes_eq (f owned) (f x)) xs) xs (xs ++ owned ∷ []) → map f new ≡ keys ++ key ∷ []
keys_after f xs new owned keys key v e none n =
    let a : list_any (λ x. bytes_eq (f owned) (f x)) xs ≡ false = (λ i. list_any (λ x. bytes_eq (e i) (f x)) xs) ∙ sym (any_map f (bytes_eq key) xs) ∙ ap (λ (ks : List (List ℕ)). list_any (bytes_eq key) ks) v ∙ none in
    ap (map f) (n ∙ ap (λ b. cond b xs (xs ++ owned ∷ [])) a) ∙ map_push f xs owned ∙ (λ i. v i ++ e i ∷ [])
  where
    any_map : {X Y : Type 0} (f : X → Y) (p : Y → Bool) (xs : List X) → list_any p (map f xs) ≡ list_any (λ x. p (f x)) xs
    any_map f p [] = refl
    any_map f p (x ∷ xs) = ap (λ b. p (f x) || b) (any_map f p xs)

-- ---- places of keys

pub places_long : (keys : List (List ℕ)) (places : List ℕ) (wanted : List (List ℕ)) → ArePlaces keys places wanted → length places ≡ length wanted
places_long keys places wanted h = omega (arith, ap length h, length-map places (slice_get keys), length-map wanted (λ (k : List ℕ). Some k))

pub place_at : (keys : List (List ℕ)) (places : List ℕ) (wanted : List (List ℕ)) → ArePlaces keys places wanted → (i : ℕ) (d : ℕ) → i < length wanted → slice_get keys (get_or places i d) ≡ Some (get_or wanted i [])
place_at keys [] [] h i d l = absurd (omega arith)
place_at keys [] (k ∷ wanted) h i d l = absurd (cc)
place_at keys (p ∷ places) [] h i d l = absurd (omega arith)
place_at keys (p ∷ places) (k ∷ wanted) h zero d l = cc
place_at keys (p ∷ places) (k ∷ wanted) h (suc i) d l =
    let rest : ArePlaces keys places wanted = cc in
    place_at keys places wanted rest i d (omega arith)

any-map : {X Y : Type 0} (f : X → Y) (P : Y → Type 0) (xs : List X) → AllByRecursion (λ x. P (f x)) xs → AllByRecursion P (map f xs)
any-map f P [] h = h
any-map f P (x ∷ xs) h = (h.0, any-map f P xs h.1)

distinct-map : {X : Type 0} (f : X → List ℕ) (xs : List X) → IsDistinct (λ x y. bytes_eq (f x) (f y)) xs → IsDistinct bytes_eq (map f xs)
unfolding IsDistinct
distinct-map f [] h = h
distinct-map f (x ∷ xs) h = (any-map f (λ y. bytes_eq (f x) y ≡ false) xs h.0, distinct-map f xs h.1)

pub distinct_keys : {X : Type 0} (f : X → List ℕ) (xs : List X) (keys : List (List ℕ)) → map f xs ≡ keys → IsDistinct (λ x y. bytes_eq (f x) (f y)) xs → IsDistinct bytes_eq keys
distinct_keys f xs keys v h = subst (IsDistinct bytes_eq) v (distinct-map f xs h)

-- and so where they are held by what may be absent
pub distinct_held : {X B : Type 0} (f : X → List ℕ) (items : B → List X) (held : Option B) (keys : List (List ℕ))
    → option_map_or (λ b. map f (items b)) held [] ≡ keys
    → IfSome held (λ b. IsDistinct (λ x y. bytes_eq (f x) (f y)) (items b)) → IsDistinct bytes_eq keys
unfolding IsDistinct
distinct_held f items None keys v h = subst (IsDistinct bytes_eq) v tt
distinct_held f items (Some b) keys v h = distinct_keys f (items b) keys v h
