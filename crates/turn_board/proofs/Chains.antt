-- Numbers that are moved between a reversed list and the rest of another.
use Rattle.std.proofs.Common.{◌≡◌, ℕ, Bool, true, false, cond, ltb, zero, suc, ◌+◌, ◌-◌, ◌≤◌, ◌<◌, List, [], ◌∷◌, ◌++◌, length, take, drop, map, refl, ap, ◌∙◌, arith, append_assoc}
use mathlib.Core.List.{reverse}
use Rattle.std.proofs.lemmas.Bool.{lt-ltb, le-ltb, leb-true, leb-false}
use Rattle.std.proofs.lemmas.List.{reverse-append}
use Rattle.turn_board.specs.declared.history.Hand.{Hand}
use Rattle.turn_board.specs.Hands.{hand_number, new_hands}
use Rattle.turn_board.specs.Rising.{rising_with, rising_union, itself, numbers_from, starts_within}

module _ {X : Type 0} where
  pub reverse_first : (x : X) (xs : List X) → reverse (x ∷ xs) ≡ reverse xs ++ x ∷ []
  reverse_first x xs = reverse-append (x ∷ []) xs

  -- the first of a reversed list may go before what follows it
  pub turned_over : (x : X) (xs ys : List X) → reverse (x ∷ xs) ++ ys ≡ reverse xs ++ x ∷ ys
  turned_over x xs ys = ap (λ l. l ++ ys) (reverse_first x xs) ∙ append_assoc (reverse xs) (x ∷ []) ys

  pub cut_more : (n : ℕ) (x : X) (xs ys : List X) → drop n ys ≡ x ∷ xs → (take (suc n) ys ≡ take n ys ++ x ∷ [])
      × (drop (suc n) ys ≡ xs)
  cut_more zero x xs [] e = absurd (let n = ap length e in omega arith)
  cut_more zero x xs (y ∷ ys) e = ((λ i. ap (λ l. head_or y l) e i ∷ []), ap (drop 1) e)
    where
      head_or : X → List X → X
      head_or d [] = d
      head_or d (z ∷ zs) = z
  cut_more (suc n) x xs [] e = absurd (let n = ap length e in omega arith)
  cut_more (suc n) x xs (y ∷ ys) e = let r = cut_more n x xs ys e in (ap (λ l. y ∷ l) r.0, r.1)

pub placed_later : (n x : ℕ) (xs : List ℕ) → starts_within n (x ∷ xs) ≡ true
    → rising_with itself n (x ∷ xs) ≡ x ∷ rising_with itself n xs
placed_later n x xs e = let le = leb-true x n e in
    ap (λ b. cond b (n ∷ x ∷ xs) (x ∷ rising_with itself n xs)) (le-ltb n x le)

pub placed_first : (n : ℕ) (xs : List ℕ) → starts_within n xs ≡ false → rising_with itself n xs ≡ n ∷ xs
placed_first n [] e = refl
placed_first n (x ∷ xs) e = let lt = leb-false x n e in
    ap (λ b. cond b (n ∷ x ∷ xs) (x ∷ rising_with itself n xs)) (lt-ltb n x lt)

pub one_before : (n count : ℕ) → 0 < n → n ≤ count
    → numbers_from (n - 1) (count - (n - 1)) ≡ (n - 1) ∷ numbers_from n (count - n)
one_before n count some le =
    let more : count - (n - 1) ≡ suc (count - n) = omega arith in let next : suc (n - 1) ≡ n = omega arith in
    ap (numbers_from (n - 1)) more ∙ ap (λ t. (n - 1) ∷ numbers_from t (count - n)) next

module _ {Q A : Type 0} where
  map_placed : (h : Hand Q A) (hs : List (Hand Q A))
      → map hand_number (rising_with hand_number h hs) ≡ rising_with itself h.number (map hand_number hs)
  map_placed h [] = refl
  map_placed h (x ∷ xs) = go (map_placed h xs) (ltb h.number x.number)
    where
      go : map hand_number (rising_with hand_number h xs) ≡ rising_with itself h.number (map hand_number xs)
          → (b : Bool)
          → map hand_number (cond b (h ∷ x ∷ xs) (x ∷ rising_with hand_number h xs)) ≡ cond b
          (h.number ∷ x.number ∷ map hand_number xs) (x.number ∷ rising_with itself h.number (map hand_number xs))
      go later true = refl
      go later false = ap (λ l. x.number ∷ l) later

  pub map_merged : (xs ys : List (Hand Q A))
      → map hand_number (rising_union hand_number xs ys) ≡ rising_union itself (map hand_number xs) (map hand_number ys)
  map_merged xs [] = refl
  map_merged xs (y ∷ ys) = map_merged (rising_with hand_number y xs) ys
      ∙ ap (λ l. rising_union itself l (map hand_number ys)) (map_placed y xs)

  pub map_take : (n : ℕ) (xs : List (Hand Q A)) → map hand_number (take n xs) ≡ take n (map hand_number xs)
  map_take zero xs = refl
  map_take (suc n) [] = refl
  map_take (suc n) (x ∷ xs) = ap (λ l. x.number ∷ l) (map_take n xs)

  pub map_drop : (n : ℕ) (xs : List (Hand Q A)) → map hand_number (drop n xs) ≡ drop n (map hand_number xs)
  map_drop zero xs = refl
  map_drop (suc n) [] = refl
  map_drop (suc n) (x ∷ xs) = map_drop n xs

  length_placed : (h : Hand Q A) (hs : List (Hand Q A)) → length (rising_with hand_number h hs) ≡ suc (length hs)
  length_placed h [] = refl
  length_placed h (x ∷ xs) = go (length_placed h xs) (ltb h.number x.number)
    where
      go : length (rising_with hand_number h xs) ≡ suc (length xs) → (b : Bool)
          → length (cond b (h ∷ x ∷ xs) (x ∷ rising_with hand_number h xs)) ≡ suc (suc (length xs))
      go later true = refl
      go later false = ap suc later

  pub length_merged : (xs ys : List (Hand Q A)) → length (rising_union hand_number xs ys) ≡ length xs + length ys
  length_merged xs [] = omega arith
  length_merged xs (y ∷ ys) = let r = length_merged (rising_with hand_number y xs) ys in let l = length_placed y xs in
      omega arith

pub length_fresh : (Q A : Type 0) (count from : ℕ) → length (new_hands {Q = Q} {A = A} from count) ≡ count
length_fresh Q A zero from = refl
length_fresh Q A (suc count) from = ap suc (length_fresh Q A count (suc from))

pub map_fresh : (Q A : Type 0) (count from : ℕ)
    → map hand_number (new_hands {Q = Q} {A = A} from count) ≡ numbers_from from count
map_fresh Q A zero from = refl
map_fresh Q A (suc count) from = ap (λ l. from ∷ l) (map_fresh Q A count (suc from))
