-- The parts that a round has of bricks, number by number.
use Rattle.std.proofs.Common.{◌≡◌, ℕ, suc, ◌+◌, ◌<◌, ◌≤◌, ◌==◌, Bool, true, false, cond, List, [], ◌∷◌, ◌++◌, length, slice_get, ◌||◌, Option, Some, None, option_map, IfSome, All, refl, sym, ap, ◌∙◌, arith, subst, inl, inr, append_assoc}
use Rattle.std.specs.BTreeMap.{is_at}
use Rattle.std.specs.List.{flat_map, list_any}
use Rattle.std.specs.Option.{option_map_or}
use Rattle.std.specs.Ordering.{is_eq, nat_cmp}
use Rattle.std.specs.Map.{keys_of, lookup}
use Rattle.std.specs.List.Sorted.{IsStrictlySortedBy}
use Rattle.std.proofs.lemmas.Bool.Decides.{nat_tests}
use Rattle.std.proofs.lemmas.Map.Keys.{below_from_sorted, sorted_tail}
use Rattle.cube_values.specs.declared.entry.Entry.{Entry}
use Rattle.cube_values.specs.declared.shape.Size.{Size}
use Rattle.cube_rounds.specs.Bricks.{BrickPart}
use Rattle.cube_rounds.specs.Demands.{AreRising}
use Rattle.brick_store.specs.Bricks.{BrickState}
use Rattle.brick_store.specs.Copies.{round_part}
use Rattle.brick_map.specs.declared.deletion.Deletion.{Deletion}
use Rattle.brick_map.specs.Births.{BrickContent, brick_numbered, content_among, content_of_brick, newborn}
use Rattle.brick_map.specs.Copied.{IsCopied, round_part_with, part_numbered, part_with_entries, parts_at}
use Rattle.brick_map.specs.Lists.{HasNumberBelow}
use Rattle.brick_map.specs.Places.{brick_place}
use Rattle.brick_map.proofs.Counts.{numbered_at, numbered_holds}
use Rattle.brick_map.proofs.Lists.{absent}

-- from one number on, and so from each below it
pub rises_lower : (low least : ℕ) (parts : List BrickPart) → low ≤ least → AreRising least parts → AreRising low parts
rises_lower low least [] l h = tt
rises_lower low least (p ∷ parts) l h = (omega (arith, h.0), h.1)

-- numbers that rise from one on
abbrev pub Ascend : ℕ → List ℕ → Type 0
Ascend low [] = Unit {0}
Ascend low (n ∷ numbers) = (low ≤ n) × Ascend (n + 1) numbers

-- Of a number there is no part, or one that has it.
abbrev pub IsPartOf : ℕ → List BrickPart → Type 0
IsPartOf n [] = Unit {0}
IsPartOf n (p ∷ []) = p.brick ≡ n
IsPartOf n (p ∷ q ∷ parts) = ⊥

is_same : (a b : ℕ) → a ≡ b → (a == b) ≡ true
is_same a b e = grind (arith, nat_tests)

is_other : (a n b : ℕ) → a ≡ n → (b == n) ≡ false → (a == b) ≡ false
is_other a n b e h = grind (arith, nat_tests)

equal : (a b : ℕ) → (a == b) ≡ true → a ≡ b
equal a b h = grind (arith, nat_tests)

empty : (xs : List Entry) → (length xs == 0) ≡ true → xs ≡ []
empty [] h = refl
empty (x ∷ xs) h = absurd (let none : length (x ∷ xs) ≡ 0 = equal (length (x ∷ xs)) 0 h in omega (arith, none))

some : (xs : List Entry) → (length xs == 0) ≡ false → xs ≡ [] → ⊥
some [] h e = cc
some (x ∷ xs) h e = cc

differs : (a b : ℕ) → b < a → (a == b) ≡ false
differs a b l = grind (arith, nat_tests)

module _ (f : ℕ → List BrickPart) (own : (n : ℕ) → IsPartOf n (f n)) where
  pub parts_rise : (low : ℕ) (numbers : List ℕ) → Ascend low numbers → AreRising low (flat_map f numbers)
  parts_rise low [] h = tt
  parts_rise low (n ∷ numbers) h = by_part (parts_rise (n + 1) numbers h.1) (f n) (own n) where
    by_part : AreRising (n + 1) (flat_map f numbers) → (parts : List BrickPart) → IsPartOf n parts → AreRising low (parts ++ flat_map f numbers)
    by_part again [] e = rises_lower low (n + 1) (flat_map f numbers) (omega (arith, h.0)) again
    by_part again (p ∷ []) e = (omega (arith, e, h.0), subst (λ k. AreRising (k + 1) (flat_map f numbers)) (sym e) again)
    by_part again (p ∷ q ∷ parts) e = absurd e

  -- a number below all
  none_below : (number low : ℕ) (numbers : List ℕ) → number < low → Ascend low numbers → part_numbered number (flat_map f numbers) ≡ None
  none_below number low [] l h = refl
  none_below number low (n ∷ numbers) l h = by_part (none_below number (n + 1) numbers (omega (arith, h.0)) h.1) (f n) (own n) where
    by_part : part_numbered number (flat_map f numbers) ≡ None → (parts : List BrickPart) → IsPartOf n parts → part_numbered number (parts ++ flat_map f numbers) ≡ None
    by_part again [] e = again
    by_part again (p ∷ []) e =
        let other : (p.brick == number) ≡ false = differs p.brick number (omega (arith, e, h.0)) in
        ap (λ t. cond t (Some p) (part_numbered number (flat_map f numbers))) other ∙ again
    by_part again (p ∷ q ∷ parts) e = absurd e

  -- the part of a number, where a number that is not among these has none
  pub part_is : (number low : ℕ) (numbers : List ℕ) → Ascend low numbers → (list_any (λ n. number == n) numbers ≡ false → f number ≡ []) → part_numbered number (flat_map f numbers) ≡ slice_get (f number) 0
  part_is number low [] h none = sym (ap (λ parts. slice_get parts 0) (none refl))
  part_is number low (n ∷ numbers) h none = by_test (λ none. part_is number (n + 1) numbers h.1 none) (number == n) refl where
    rest : (number == n) ≡ false → list_any (λ n. number == n) numbers ≡ false → f number ≡ []
    rest e g = none (ap (λ t. t || list_any (λ n. number == n) numbers) e ∙ g)

    one : (parts : List BrickPart) → f n ≡ parts → IsPartOf n parts → number ≡ n → part_numbered number (parts ++ flat_map f numbers) ≡ slice_get parts 0
    one [] here e is = none_below number (n + 1) numbers (omega arith) h.1
    one (p ∷ []) here e is =
        let same : (p.brick == number) ≡ true = is_same p.brick number (e ∙ sym is) in
        ap (λ t. cond t (Some p) (part_numbered number (flat_map f numbers))) same
    one (p ∷ q ∷ parts) here e is = absurd e

    other : (parts : List BrickPart) → IsPartOf n parts → (number == n) ≡ false → part_numbered number (flat_map f numbers) ≡ slice_get (f number) 0 → part_numbered number (parts ++ flat_map f numbers) ≡ slice_get (f number) 0
    other [] e apart again = again
    other (p ∷ []) e apart again =
        let differs : (p.brick == number) ≡ false = is_other p.brick n number e apart in
        ap (λ t. cond t (Some p) (part_numbered number (flat_map f numbers))) differs ∙ again
    other (p ∷ q ∷ parts) e apart again = absurd e

    by_test : ((list_any (λ n. number == n) numbers ≡ false → f number ≡ []) → part_numbered number (flat_map f numbers) ≡ slice_get (f number) 0) → (t : Bool) → (number == n) ≡ t → part_numbered number (f n ++ flat_map f numbers) ≡ slice_get (f number) 0
    by_test again true e =
        let is : number ≡ n = equal number n e in
        one (f n) refl (own n) is ∙ ap (λ k. slice_get (f k) 0) (sym is)
    by_test again false e = other (f n) (own n) e (again (rest e))

-- the numbers of an ordered map ascend
ascend_after : (n : ℕ) (numbers : List ℕ) → IsStrictlySortedBy nat_cmp (n ∷ numbers) → Ascend (n + 1) numbers
ascend_after n [] h = tt
ascend_after n (m ∷ numbers) h =
    let next = below_from_sorted (n ∷ m ∷ numbers) 0 1 0 h (omega arith) (omega arith) in
    (omega (arith, next), ascend_after m numbers (sorted_tail nat_cmp n (m ∷ numbers) h))

pub ascend : (numbers : List ℕ) → IsStrictlySortedBy nat_cmp numbers → Ascend 0 numbers
ascend [] h = tt
ascend (n ∷ numbers) h = (omega arith, ascend_after n numbers h)

-- a number that is no key is not found
cmp_is_eq : (a b : ℕ) → is_eq (nat_cmp a b) ≡ (a == b)
cmp_is_eq a b = grind (arith, nat_tests)

pub not_found : (number : ℕ) (entries : List (ℕ × ℕ)) → list_any (λ n. number == n) (keys_of entries) ≡ false → lookup (is_at (nat_cmp number)) entries ≡ None
not_found number [] e = refl
not_found number (x ∷ entries) e = by_test (λ g. not_found number entries g) (number == x.0) (cmp_is_eq number x.0) e where
  by_test : (list_any (λ n. number == n) (keys_of entries) ≡ false → lookup (is_at (nat_cmp number)) entries ≡ None) → (t : Bool) → is_eq (nat_cmp number x.0) ≡ t → (t || list_any (λ n. number == n) (keys_of entries)) ≡ false → lookup (is_at (nat_cmp number)) (x ∷ entries) ≡ None
  by_test again true h g = cc
  by_test again false h g = ap (λ t. cond t (Some x.1) (lookup (is_at (nat_cmp number)) entries)) h ∙ again g

-- where a number has a place, its brick stands there
placed_brick : (number : ℕ) (bricks : List BrickState) (place : ℕ) → brick_place number bricks ≡ Some place → slice_get bricks place ≡ brick_numbered number bricks
placed_brick number [] place e = cc
placed_brick number (b ∷ bricks) place e = by_test (λ q there. placed_brick number bricks q there) (b.home.number == number) e where
  by_option : ((q : ℕ) → brick_place number bricks ≡ Some q → slice_get bricks q ≡ brick_numbered number bricks) → (o : Option ℕ) → brick_place number bricks ≡ o → option_map suc o ≡ Some place → slice_get (b ∷ bricks) place ≡ brick_numbered number bricks
  by_option again None there e = cc
  by_option again (Some q) there e =
      let is : suc q ≡ place = cc in
      ap (slice_get (b ∷ bricks)) (sym is) ∙ again q there

  by_test : ((q : ℕ) → brick_place number bricks ≡ Some q → slice_get bricks q ≡ brick_numbered number bricks) → (t : Bool) → cond t (Some 0) (option_map suc (brick_place number bricks)) ≡ Some place → slice_get (b ∷ bricks) place ≡ cond t (Some b) (brick_numbered number bricks)
  by_test again true e =
      let is : 0 ≡ place = cc in
      ap (slice_get (b ∷ bricks)) (sym is)
  by_test again false e = by_option again (brick_place number bricks) refl e

-- the parts of bricks
module _ (from to : ℕ) (bricks : List BrickState) where
  own_part : (n : ℕ) (part : BrickPart) → part.brick ≡ n → IsPartOf n (part_with_entries part)
  own_part n part e = by_test (length part.entries == 0) where
    by_test : (t : Bool) → IsPartOf n (cond t [] (part ∷ []))
    by_test true = tt
    by_test false = e

  pub own_parts : (n : ℕ) → IsPartOf n (parts_at from to bricks n)
  own_parts n = by_option (brick_numbered n bricks) refl where
    by_option : (o : Option BrickState) → brick_numbered n bricks ≡ o → IsPartOf n (option_map_or (λ b. part_with_entries (round_part from to b)) o [])
    by_option None e = tt
    by_option (Some b) e = own_part n (round_part from to b) (numbered_at n bricks b e)

  pub no_parts : (n : ℕ) → brick_numbered n bricks ≡ None → parts_at from to bricks n ≡ []
  no_parts n e = ap (λ (o : Option BrickState). option_map_or (λ b. part_with_entries (round_part from to b)) o []) e

  -- the brick of one more number is copied
  pub one_more : (parts new whole : List BrickPart) (left rest : List (ℕ × ℕ)) (n place : ℕ) → left ≡ (n, place) ∷ rest → brick_place n bricks ≡ Some place → new ≡ parts ++ option_map_or (λ b. part_with_entries (round_part from to b)) (slice_get bricks place) [] → parts ++ flat_map (parts_at from to bricks) (keys_of left) ≡ whole → new ++ flat_map (parts_at from to bricks) (keys_of rest) ≡ whole
  one_more parts new whole left rest n place next there is before =
      ap (λ l. l ++ flat_map (parts_at from to bricks) (keys_of rest)) (is ∙ ap (λ (o : Option BrickState). parts ++ option_map_or (λ b. part_with_entries (round_part from to b)) o []) (placed_brick n bricks place there))
      ∙ append_assoc parts (parts_at from to bricks n) (flat_map (parts_at from to bricks) (keys_of rest))
      ∙ ap (λ (l : List (ℕ × ℕ)). parts ++ flat_map (parts_at from to bricks) (keys_of l)) (sym next)
      ∙ before

  -- all are copied
  pub all_rise : (numbers : List ℕ) (parts : List BrickPart) → IsStrictlySortedBy nat_cmp numbers → parts ≡ flat_map (parts_at from to bricks) numbers → AreRising 0 parts
  all_rise numbers parts sorted is = subst (AreRising 0) (sym is) (parts_rise (parts_at from to bricks) own_parts 0 numbers (ascend numbers sorted))

  pub all_found : (entries : List (ℕ × ℕ)) (parts : List BrickPart) (number : ℕ) → IsStrictlySortedBy nat_cmp (keys_of entries) → lookup (is_at (nat_cmp number)) entries ≡ brick_place number bricks → parts ≡ flat_map (parts_at from to bricks) (keys_of entries) → part_numbered number parts ≡ slice_get (parts_at from to bricks number) 0
  all_found entries parts number sorted places is =
      ap (part_numbered number) is
      ∙ part_is (parts_at from to bricks) own_parts number 0 (keys_of entries) (ascend (keys_of entries) sorted) (λ e. no_parts number (absent number bricks (sym places ∙ not_found number entries e)).none)

-- what is copied, by what each brick has, there or not
pub copied_among : (from to number : ℕ) (sizes : List Size) (recent : List Deletion) (bricks : List BrickState) (found : Option BrickPart) → found ≡ slice_get (parts_at from to bricks number) 0 → (let c = content_among sizes recent bricks number in IsCopied (round_part_with from to number c) c.rows found)
copied_among from to number sizes recent bricks found e =
    subst (IsCopied (round_part_with from to number (content_among sizes recent bricks number)) (content_among sizes recent bricks number).rows) (sym e) (by_option (brick_numbered number bricks) refl) where
      born : BrickContent
      born = newborn sizes recent number

      there : (b : BrickState) → b.home.number ≡ number → IsCopied (round_part_with from to number (content_of_brick b)) b.rows (slice_get (part_with_entries (round_part from to b)) 0)
      there b is = subst (λ n. IsCopied (round_part_with from to n (content_of_brick b)) b.rows (slice_get (part_with_entries (round_part from to b)) 0)) is (by_test (length (round_part from to b).entries == 0) refl) where
        by_test : (t : Bool) → (length (round_part from to b).entries == 0) ≡ t → IsCopied (round_part from to b) b.rows (slice_get (cond t [] (round_part from to b ∷ [])) 0)
        by_test true h = inl (empty (round_part from to b).entries h)
        by_test false h = (refl, λ g. absurd (some (round_part from to b).entries h g))

      by_option : (o : Option BrickState) → brick_numbered number bricks ≡ o → IsCopied (round_part_with from to number (option_map_or content_of_brick o born)) (option_map_or content_of_brick o born).rows (slice_get (option_map_or (λ b. part_with_entries (round_part from to b)) o []) 0)
      by_option None g = inr refl
      by_option (Some b) g = there b (numbered_at number bricks b g)

-- each is of a brick that the cube has
pub copied_there : (from to most number : ℕ) (bricks : List BrickState) (found : Option BrickPart) → All (HasNumberBelow most) bricks → found ≡ slice_get (parts_at from to bricks number) 0 → IfSome found (λ part. number < most)
copied_there from to most number bricks found all e = subst (λ (o : Option BrickPart). IfSome o (λ part. number < most)) (sym e) (by_option (brick_numbered number bricks) refl) where
  where_some : (o : Option BrickPart) → number < most → IfSome o (λ part. number < most)
  where_some None low = tt
  where_some (Some part) low = low

  by_option : (o : Option BrickState) → brick_numbered number bricks ≡ o → IfSome (slice_get (option_map_or (λ b. part_with_entries (round_part from to b)) o []) 0) (λ part. number < most)
  by_option None g = tt
  by_option (Some b) g =
      let held = numbered_holds (HasNumberBelow most) number bricks b all g in
      where_some (slice_get (part_with_entries (round_part from to b)) 0) (subst (λ n. n < most) held.1 held.0)
