-- Names of which none stands twice.
use Rattle.std.proofs.Common.{◌≡◌, ℕ, zero, suc, ◌+◌, Bool, true, false, cond, not, ◌||◌, List, [], ◌∷◌, ◌++◌, length, Option, Some, None, refl, sym, ap, ◌∙◌, arith}
use Rattle.std.specs.Prelude.{nat_lt, slice_get}
use Rattle.std.specs.List.{AllByRecursion, IsDistinct, list_any, position, position_or_len}
use Rattle.std.specs.Str.{bytes_eq}
use Rattle.std.proofs.lemmas.Bool.{both_ways, false_from_ne_true, le-ltb, lt-ltb, or_parts}
use Rattle.std.proofs.lemmas.Option.{none-some, same_Some, slice_get_within}
use Rattle.std.proofs.lemmas.Slice.Eq.{bytes_eq-Decides}
use Rattle.cube_language.specs.Cubes.{first_repeated, repeated_after}
use Rattle.cube_schema.proofs.Repeated.{or_moved, or_false}

not_repeated : (there : Bool) (x : List ℕ) (more : Option (List ℕ)) → cond there (Some x) more ≡ None → (there ≡ false) × (more ≡ None)
not_repeated true x more e = absurd cc
not_repeated false x more e = (refl, e)

-- ---- names behind others

-- Which names stand before counts, and not their order.
same_after : (a b names : List (List ℕ)) → ((name : List ℕ) → list_any (bytes_eq name) a ≡ list_any (bytes_eq name) b)
    → repeated_after a names ≡ repeated_after b names
same_after a b [] same = refl
same_after a b (x ∷ names) same =
    (λ i. cond (same x i) (Some x) (repeated_after (x ∷ a) names))
    ∙ ap (λ r. cond (list_any (bytes_eq x) b) (Some x) r)
    (same_after (x ∷ a) (x ∷ b) names (λ name. ap (λ t. bytes_eq name x || t) (same name)))

-- The names before are those that stood before and the first ones.
abbrev AreBefore : List (List ℕ) → List (List ℕ) → List (List ℕ) → Type 0
AreBefore seen xs before = (name : List ℕ) → list_any (bytes_eq name) seen ≡ (list_any (bytes_eq name) xs || list_any (bytes_eq name) before)

joined_after : (before xs ys : List (List ℕ)) → repeated_after before xs ≡ None
    → ((seen : List (List ℕ)) → AreBefore seen xs before → repeated_after seen ys ≡ None) → repeated_after before (xs ++ ys) ≡ None
joined_after before [] ys apart more = more before (λ name. refl)
joined_after before (x ∷ xs) ys apart more =
    let first = not_repeated (list_any (bytes_eq x) before) x (repeated_after (x ∷ before) xs) apart in
    rw first.0 (joined_after (x ∷ before) xs ys first.1
    (λ seen are. more seen (λ name. are name ∙ or_moved (list_any (bytes_eq name) xs) (bytes_eq name x) (list_any (bytes_eq name) before))))

pub apart_joined : (xs ys : List (List ℕ)) → first_repeated xs ≡ None → repeated_after xs ys ≡ None → first_repeated (xs ++ ys) ≡ None
apart_joined xs ys first later =
    joined_after [] xs ys first (λ seen are. same_after seen xs ys (λ name. are name ∙ or_false (list_any (bytes_eq name) xs)) ∙ later)

-- ---- distinct names

pub turned : (a b : List ℕ) → bytes_eq a b ≡ false → bytes_eq b a ≡ false
turned a b other =
    false_from_ne_true (bytes_eq b a)
    (λ same. both_ways (bytes_eq a b) other ((bytes_eq-Decides a b).1 (sym ((bytes_eq-Decides b a).0 same))))

-- None of the names is one that stands before.
none_among : (x : List ℕ) (before names : List (List ℕ)) → ((y : List ℕ) → list_any (bytes_eq y) before ≡ false → bytes_eq y x ≡ false)
    → repeated_after before names ≡ None → AllByRecursion (λ y. bytes_eq x y ≡ false) names
none_among x before [] there h = tt
none_among x before (y ∷ names) there h =
    let first = not_repeated (list_any (bytes_eq y) before) y (repeated_after (y ∷ before) names) h in (
      turned y x (there y first.0),
      none_among x (y ∷ before) names (λ z new. there z (or_parts (bytes_eq z y) (list_any (bytes_eq z) before) new).1) first.1,
    )

apart_after : (before names : List (List ℕ)) → repeated_after before names ≡ None → IsDistinct bytes_eq names
unfolding IsDistinct
apart_after before [] h = tt
apart_after before (x ∷ names) h =
    let first = not_repeated (list_any (bytes_eq x) before) x (repeated_after (x ∷ before) names) h in (
      none_among x (x ∷ before) names (λ y new. (or_parts (bytes_eq y x) (list_any (bytes_eq y) before) new).0) first.1,
      apart_after (x ∷ before) names first.1,
    )

pub apart_from : (names : List (List ℕ)) → first_repeated names ≡ None → IsDistinct bytes_eq names
apart_from names h = apart_after [] names h

pub none_distinct : IsDistinct bytes_eq []
unfolding IsDistinct
none_distinct = tt

-- ---- places of distinct names

one_more : (n : ℕ) → 1 + n ≡ suc n
one_more n = omega arith

among : (P : List ℕ → Type 0) (front : List (List ℕ)) (x : List ℕ) (back : List (List ℕ)) → AllByRecursion P (front ++ x ∷ back) → P x
among P [] x back all = all.0
among P (y ∷ front) x back all = among P front x back all.1

passed_over : (front : List (List ℕ)) (name : List ℕ) (back : List (List ℕ)) → IsDistinct bytes_eq (front ++ name ∷ back)
    → position_or_len (bytes_eq name) front ≡ length front
unfolding IsDistinct
passed_over [] name back distinct = refl
passed_over (x ∷ front) name back distinct =
    let other : bytes_eq name x ≡ false = turned x name (among (λ y. bytes_eq x y ≡ false) front name back distinct.0) in
    (λ i. cond (not (other i)) (1 + position_or_len (bytes_eq name) front) 0)
    ∙ ap (λ n. 1 + n) (passed_over front name back distinct.1)
    ∙ one_more (length front)

-- A name stands not among those before it.
pub not_found : (front : List (List ℕ)) (name : List ℕ) (back : List (List ℕ)) → IsDistinct bytes_eq (front ++ name ∷ back)
    → position (bytes_eq name) front ≡ None
not_found front name back distinct =
    let past = passed_over front name back distinct in
    (λ i. cond (nat_lt (past i) (length front)) (Some (past i)) None)
    ∙ ap (λ b. cond b (Some (length front)) None) (le-ltb (length front) (length front) (omega arith))

at_place : (P : List ℕ → Type 0) (names : List (List ℕ)) (n : ℕ) (name : List ℕ) → AllByRecursion P names → slice_get names n ≡ Some name → P name
at_place P [] n name all is = absurd (none-some name is)
at_place P (x ∷ names) zero name all is = coe 0 1 (i. P (same_Some x name is i)) all.0
at_place P (x ∷ names) (suc n) name all is = at_place P names n name all.1 is

place_of : (names : List (List ℕ)) (n : ℕ) (name : List ℕ) → IsDistinct bytes_eq names → slice_get names n ≡ Some name
    → position_or_len (bytes_eq name) names ≡ n
unfolding IsDistinct
place_of [] n name distinct is = absurd (none-some name is)
place_of (x ∷ names) zero name distinct is =
    let same : bytes_eq name x ≡ true = (bytes_eq-Decides name x).1 (sym (same_Some x name is)) in
    λ i. cond (not (same i)) (1 + position_or_len (bytes_eq name) names) 0
place_of (x ∷ names) (suc n) name distinct is =
    let other : bytes_eq name x ≡ false = turned x name (at_place (λ y. bytes_eq x y ≡ false) names n name distinct.0 is) in
    (λ i. cond (not (other i)) (1 + position_or_len (bytes_eq name) names) 0)
    ∙ ap (λ m. 1 + m) (place_of names n name distinct.1 is)
    ∙ one_more n

-- A name is found at its place.
pub found_at : (names : List (List ℕ)) (n : ℕ) (name : List ℕ) → IsDistinct bytes_eq names → slice_get names n ≡ Some name
    → position (bytes_eq name) names ≡ Some n
found_at names n name distinct is =
    let place = place_of names n name distinct is in
    (λ i. cond (nat_lt (place i) (length names)) (Some (place i)) None)
    ∙ ap (λ b. cond b (Some n) None) (lt-ltb n (length names) (slice_get_within names n name is))
