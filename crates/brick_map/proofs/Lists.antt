-- Bricks in a list by their numbers.
use Rattle.std.proofs.Common.{◌≡◌, ℕ, ◌<◌, ◌==◌, ◌||◌, nat_eq, Bool, true, false, cond, suc, zero, List, [], ◌∷◌, ◌++◌, length, get_or, set, Option, Some, None, option_map, refl, sym, ap, ◌∙◌, arith, subst}
use Rattle.std.specs.List.{list_any}
use Rattle.std.proofs.lemmas.Bool.Decides.{nat_tests}
use Rattle.brick_store.specs.Bricks.{BrickState}
use Rattle.brick_map.specs.Births.{brick_numbered}
use Rattle.brick_map.specs.Lists.{bricks_with}
use Rattle.brick_map.specs.Places.{brick_place, numbers_of_bricks}

-- A change that keeps the number.
abbrev pub KeepsNumber : (BrickState → BrickState) → Type 0
KeepsNumber change = (b : BrickState) → (change b).home.number ≡ b.home.number

-- the place of a number depends on the numbers alone
pub place_by_numbers : (number : ℕ) (a b : List BrickState) → numbers_of_bricks a ≡ numbers_of_bricks b → brick_place number a ≡ brick_place number b
place_by_numbers number [] [] e = refl
place_by_numbers number [] (y ∷ b) e = cc
place_by_numbers number (x ∷ a) [] e = cc
place_by_numbers number (x ∷ a) (y ∷ b) e =
    let first : x.home.number ≡ y.home.number = cc in
    let rest : numbers_of_bricks a ≡ numbers_of_bricks b = cc in
    λ t. cond (first t == number) (Some 0) (option_map suc (place_by_numbers number a b rest t))

-- where a number has a place, its brick stands there
pub record StandsAt (number : ℕ) (bricks : List BrickState) (place : ℕ) : Type 0 where
  pub within : place < length bricks
  pub is : (d : BrickState) → brick_numbered number bricks ≡ Some (get_or bricks place d)
  pub change : (change : BrickState → BrickState) (d : BrickState) → set bricks place (change (get_or bricks place d)) ≡ bricks_with number change bricks

pub stands : (number : ℕ) (bricks : List BrickState) (place : ℕ) → brick_place number bricks ≡ Some place → StandsAt number bricks place
stands number [] place e = cc
stands number (b ∷ bricks) place e = by_test (λ q there. stands number bricks q there) (b.home.number == number) refl e where
  by_option : ((q : ℕ) → brick_place number bricks ≡ Some q → StandsAt number bricks q) → (o : Option ℕ) → brick_place number bricks ≡ o → (b.home.number == number) ≡ false → option_map suc o ≡ Some place → StandsAt number (b ∷ bricks) place
  by_option again None there h e = cc
  by_option again (Some q) there h e =
      let is_next : suc q ≡ place = cc in
      let rest = again q there in
      subst (StandsAt number (b ∷ bricks)) is_next (record {
        within = omega (arith, rest.within);
        is = λ d. ap (λ t. cond t (Some b) (brick_numbered number bricks)) h ∙ rest.is d;
        change = λ change d. ap (λ l. b ∷ l) (rest.change change d) ∙ sym (ap (λ t. cond t (change b ∷ bricks) (b ∷ bricks_with number change bricks)) h);
      })

  by_test : ((q : ℕ) → brick_place number bricks ≡ Some q → StandsAt number bricks q) → (t : Bool) → (b.home.number == number) ≡ t → cond t (Some 0) (option_map suc (brick_place number bricks)) ≡ Some place → StandsAt number (b ∷ bricks) place
  by_test again true h e =
      let is_first : 0 ≡ place = cc in
      subst (StandsAt number (b ∷ bricks)) is_first (record {
        within = omega arith;
        is = λ d. ap (λ t. cond t (Some b) (brick_numbered number bricks)) h;
        change = λ change d. sym (ap (λ t. cond t (change b ∷ bricks) (b ∷ bricks_with number change bricks)) h);
      })
  by_test again false h e = by_option again (brick_place number bricks) refl h e

-- where it has none, no brick has it
pub record IsAbsent (number : ℕ) (bricks : List BrickState) : Type 0 where
  pub none : brick_numbered number bricks ≡ None
  pub unchanged : (change : BrickState → BrickState) → bricks_with number change bricks ≡ bricks
  pub among : list_any (nat_eq number) (numbers_of_bricks bricks) ≡ false

other_way : (a b : ℕ) → (a == b) ≡ false → (b == a) ≡ false
other_way a b h = grind (arith, nat_tests)

pub absent : (number : ℕ) (bricks : List BrickState) → brick_place number bricks ≡ None → IsAbsent number bricks
absent number [] e = record { none = refl; unchanged = λ change. refl; among = refl }
absent number (b ∷ bricks) e = by_test (λ there. absent number bricks there) (b.home.number == number) refl e where
  by_option : (brick_place number bricks ≡ None → IsAbsent number bricks) → (o : Option ℕ) → brick_place number bricks ≡ o → (b.home.number == number) ≡ false → option_map suc o ≡ None → IsAbsent number (b ∷ bricks)
  by_option again (Some q) there h e = cc
  by_option again None there h e =
      let rest = again there in
      record {
        none = ap (λ t. cond t (Some b) (brick_numbered number bricks)) h ∙ rest.none;
        unchanged = λ change. ap (λ t. cond t (change b ∷ bricks) (b ∷ bricks_with number change bricks)) h ∙ ap (λ l. b ∷ l) (rest.unchanged change);
        among = ap (λ t. t || list_any (nat_eq number) (numbers_of_bricks bricks)) (other_way b.home.number number h) ∙ rest.among;
      }

  by_test : (brick_place number bricks ≡ None → IsAbsent number bricks) → (t : Bool) → (b.home.number == number) ≡ t → cond t (Some 0) (option_map suc (brick_place number bricks)) ≡ None → IsAbsent number (b ∷ bricks)
  by_test again true h e = cc
  by_test again false h e = by_option again (brick_place number bricks) refl h e

-- a brick of another number than all others is born
not_first : (number : ℕ) (b : BrickState) (bricks : List BrickState) → brick_place number (b ∷ bricks) ≡ None → (b.home.number == number) ≡ false
not_first number b bricks e = by_test (b.home.number == number) refl e where
  by_test : (t : Bool) → (b.home.number == number) ≡ t → cond t (Some 0) (option_map suc (brick_place number bricks)) ≡ None → (b.home.number == number) ≡ false
  by_test true h e = cc
  by_test false h e = h

not_later : (number : ℕ) (b : BrickState) (bricks : List BrickState) → brick_place number (b ∷ bricks) ≡ None → brick_place number bricks ≡ None
not_later number b bricks e = by_option (brick_place number bricks) refl (sym (ap (λ t. cond t (Some 0) (option_map suc (brick_place number bricks))) (not_first number b bricks e)) ∙ e) where
  by_option : (o : Option ℕ) → brick_place number bricks ≡ o → option_map suc o ≡ None → brick_place number bricks ≡ None
  by_option None h e = h
  by_option (Some q) h e = cc

apart : (a b m : ℕ) → (a == b) ≡ false → (a == m) ≡ true → (b == m) ≡ false
apart a b m h k = grind (arith, nat_tests)

pub numbered_born : (number : ℕ) (bricks : List BrickState) (b : BrickState) → brick_place b.home.number bricks ≡ None → brick_numbered number (bricks ++ b ∷ []) ≡ cond (b.home.number == number) (Some b) (brick_numbered number bricks)
numbered_born number [] b e = refl
numbered_born number (x ∷ bricks) b e = by_test (numbered_born number bricks b (not_later b.home.number x bricks e)) (x.home.number == number) refl where
  by_test : brick_numbered number (bricks ++ b ∷ []) ≡ cond (b.home.number == number) (Some b) (brick_numbered number bricks) → (t : Bool) → (x.home.number == number) ≡ t → cond t (Some x) (brick_numbered number (bricks ++ b ∷ [])) ≡ cond (b.home.number == number) (Some b) (cond t (Some x) (brick_numbered number bricks))
  by_test again true h = sym (ap (λ t. cond t (Some b) (Some x)) (apart x.home.number b.home.number number (not_first b.home.number x bricks e) h))
  by_test again false h = again

pub place_born : (number : ℕ) (bricks : List BrickState) (b : BrickState) → brick_place b.home.number bricks ≡ None → brick_place number (bricks ++ b ∷ []) ≡ cond (b.home.number == number) (Some (length bricks)) (brick_place number bricks)
place_born number [] b e = refl
place_born number (x ∷ bricks) b e = by_test (place_born number bricks b (not_later b.home.number x bricks e)) (x.home.number == number) refl where
  push_in : (t : Bool) (o : Option ℕ) → option_map suc (cond t (Some (length bricks)) o) ≡ cond t (Some (suc (length bricks))) (option_map suc o)
  push_in true o = refl
  push_in false o = refl

  by_test : brick_place number (bricks ++ b ∷ []) ≡ cond (b.home.number == number) (Some (length bricks)) (brick_place number bricks) → (t : Bool) → (x.home.number == number) ≡ t → cond t (Some 0) (option_map suc (brick_place number (bricks ++ b ∷ []))) ≡ cond (b.home.number == number) (Some (suc (length bricks))) (cond t (Some 0) (option_map suc (brick_place number bricks)))
  by_test again true h = sym (ap (λ t. cond t (Some (suc (length bricks))) (Some 0)) (apart x.home.number b.home.number number (not_first b.home.number x bricks e) h))
  by_test again false h = ap (option_map suc) again ∙ push_in (b.home.number == number) (brick_place number bricks)

-- the brick of a number is changed
pub numbers_with : (number : ℕ) (change : BrickState → BrickState) (bricks : List BrickState) → KeepsNumber change → numbers_of_bricks (bricks_with number change bricks) ≡ numbers_of_bricks bricks
numbers_with number change [] keeps = refl
numbers_with number change (b ∷ bricks) keeps = by_test (numbers_with number change bricks keeps) (b.home.number == number) where
  by_test : numbers_of_bricks (bricks_with number change bricks) ≡ numbers_of_bricks bricks → (t : Bool) → numbers_of_bricks (cond t (change b ∷ bricks) (b ∷ bricks_with number change bricks)) ≡ b.home.number ∷ numbers_of_bricks bricks
  by_test again true = ap (λ n. n ∷ numbers_of_bricks bricks) (keeps b)
  by_test again false = ap (λ l. b.home.number ∷ l) again

same_one : (a m n : ℕ) → (a == n) ≡ true → (a == m) ≡ true → (m == n) ≡ true
same_one a m n h k = grind (arith, nat_tests)

not_one : (a m n : ℕ) → (a == n) ≡ true → (a == m) ≡ false → (m == n) ≡ false
not_one a m n h k = grind (arith, nat_tests)

not_two : (a m n : ℕ) → (a == n) ≡ false → (a == m) ≡ true → (m == n) ≡ false
not_two a m n h k = grind (arith, nat_tests)

pub numbered_with : (m number : ℕ) (change : BrickState → BrickState) (bricks : List BrickState) → KeepsNumber change → brick_numbered m (bricks_with number change bricks) ≡ cond (m == number) (option_map change (brick_numbered m bricks)) (brick_numbered m bricks)
numbered_with m number change [] keeps = by_test (m == number) where
  by_test : (t : Bool) → let none : Option BrickState = None in none ≡ cond t none none
  by_test true = refl
  by_test false = refl
numbered_with m number change (b ∷ bricks) keeps = by_tests (numbered_with m number change bricks keeps) (keeps b) (b.home.number == number) refl (b.home.number == m) refl where
  by_tests : (brick_numbered m (bricks_with number change bricks)) ≡ cond (m == number) (option_map change (brick_numbered m bricks)) (brick_numbered m bricks) → (change b).home.number ≡ b.home.number → (t : Bool) → (b.home.number == number) ≡ t → (u : Bool) → (b.home.number == m) ≡ u → brick_numbered m (cond t (change b ∷ bricks) (b ∷ bricks_with number change bricks)) ≡ cond (m == number) (option_map change (cond (b.home.number == m) (Some b) (brick_numbered m bricks))) (cond (b.home.number == m) (Some b) (brick_numbered m bricks))
  by_tests again here true h true k =
      ap (λ n. cond (n == m) (Some (change b)) (brick_numbered m bricks)) here
      ∙ ap (λ t. cond t (Some (change b)) (brick_numbered m bricks)) k
      ∙ sym (ap (λ t. cond t (option_map change (cond (b.home.number == m) (Some b) (brick_numbered m bricks))) (cond (b.home.number == m) (Some b) (brick_numbered m bricks))) (same_one b.home.number m number h k)
      ∙ ap (λ t. option_map change (cond t (Some b) (brick_numbered m bricks))) k)
  by_tests again here true h false k =
      ap (λ n. cond (n == m) (Some (change b)) (brick_numbered m bricks)) here
      ∙ ap (λ t. cond t (Some (change b)) (brick_numbered m bricks)) k
      ∙ sym (ap (λ t. cond t (option_map change (cond (b.home.number == m) (Some b) (brick_numbered m bricks))) (cond (b.home.number == m) (Some b) (brick_numbered m bricks))) (not_one b.home.number m number h k)
      ∙ ap (λ t. cond t (Some b) (brick_numbered m bricks)) k)
  by_tests again here false h true k =
      ap (λ t. cond t (Some b) (brick_numbered m (bricks_with number change bricks))) k
      ∙ sym (ap (λ t. cond t (option_map change (cond (b.home.number == m) (Some b) (brick_numbered m bricks))) (cond (b.home.number == m) (Some b) (brick_numbered m bricks))) (not_two b.home.number m number h k)
      ∙ ap (λ t. cond t (Some b) (brick_numbered m bricks)) k)
  by_tests again here false h false k =
      ap (λ t. cond t (Some b) (brick_numbered m (bricks_with number change bricks))) k
      ∙ again
      ∙ sym (ap (λ t. cond (m == number) (option_map change (cond t (Some b) (brick_numbered m bricks))) (cond t (Some b) (brick_numbered m bricks))) k)

-- a brick is put in the place of one with its number
pub numbers_set : (bricks : List BrickState) (place : ℕ) (new d : BrickState) → place < length bricks → new.home.number ≡ (get_or bricks place d).home.number → numbers_of_bricks (set bricks place new) ≡ numbers_of_bricks bricks
numbers_set [] place new d l e = absurd (omega arith)
numbers_set (b ∷ bricks) zero new d l e = ap (λ n. n ∷ numbers_of_bricks bricks) e
numbers_set (b ∷ bricks) (suc place) new d l e = ap (λ l. b.home.number ∷ l) (numbers_set bricks place new d (omega arith) e)
