-- The items of lists whose bit is set.
use Rattle.std.proofs.Common.{◌≡◌, ℕ, ◌+◌, Bool, true, false, cond, zero, suc, List, [], ◌∷◌, length, map, replicate, All, refl, sym, ap, ◌∙◌, arith}
use Rattle.std.specs.List.{zip, items_where_true}
use Rattle.std.proofs.lemmas.List.Elements.{All-nil, All-cons, All-head, All-tail}
use Rattle.std.proofs.lemmas.List.Sums.{sum_by-cons}
use Rattle.cube_values.specs.BitRows.{set_bits}

ones_cons : (b : Bool) (bits : List Bool) → set_bits (b ∷ bits) ≡ cond b 1 0 + set_bits bits
ones_cons b bits = sum_by-cons (λ b. cond b 1 0) b bits

module _ {A : Type 0} where
  pub kept_length : (bits : List Bool) (xs : List A) → length xs ≡ length bits → length (items_where_true bits xs) ≡ set_bits bits
  kept_length [] xs h = refl
  kept_length (b ∷ bits) [] h = absurd (omega arith)
  kept_length (true ∷ bits) (x ∷ xs) h = omega (arith, kept_length bits xs (omega arith), ones_cons true bits)
  kept_length (false ∷ bits) (x ∷ xs) h = omega (arith, kept_length bits xs (omega arith), ones_cons false bits)

  pub kept_all : (P : A → Type 0) (bits : List Bool) (xs : List A) → All P xs → All P (items_where_true bits xs)
  kept_all P [] xs h = All-nil P
  kept_all P (b ∷ bits) [] h = All-nil P
  kept_all P (true ∷ bits) (x ∷ xs) h =
      All-cons P x (items_where_true bits xs) (All-head P x xs h) (kept_all P bits xs (All-tail P x xs h))
  kept_all P (false ∷ bits) (x ∷ xs) h = kept_all P bits xs (All-tail P x xs h)

  pub kept_same : (bits : List Bool) (n : ℕ) (x : A) → length bits ≡ n → items_where_true bits (replicate n x) ≡ replicate (set_bits bits) x
  kept_same [] n x h = refl
  kept_same (b ∷ bits) zero x h = absurd (omega arith)
  kept_same (true ∷ bits) (suc n) x h =
      let more : suc (set_bits bits) ≡ set_bits (true ∷ bits) = omega (arith, ones_cons true bits) in
      ap (λ l. x ∷ l) (kept_same bits n x (omega arith)) ∙ ap (λ k. replicate k x) more
  kept_same (false ∷ bits) (suc n) x h =
      let same : set_bits bits ≡ set_bits (false ∷ bits) = omega (arith, ones_cons false bits) in
      kept_same bits n x (omega arith) ∙ ap (λ k. replicate k x) same

  zip_none : {B : Type 0} (xs : List A) → zip {X = B} xs [] ≡ []
  zip_none [] = refl
  zip_none (x ∷ xs) = refl

  pub kept_map : {B : Type 0} (f : A → B) (bits : List Bool) (xs : List A) → items_where_true bits (map f xs) ≡ map f (items_where_true bits xs)
  kept_map f [] xs = refl
  kept_map f (b ∷ bits) [] = refl
  kept_map f (true ∷ bits) (x ∷ xs) = ap (λ l. f x ∷ l) (kept_map f bits xs)
  kept_map f (false ∷ bits) (x ∷ xs) = kept_map f bits xs

pub kept_zip : {A B : Type 0} (bits : List Bool) (xs : List A) (ys : List B) → items_where_true bits (zip xs ys) ≡ zip (items_where_true bits xs) (items_where_true bits ys)
kept_zip [] xs ys = refl
kept_zip (b ∷ bits) [] ys = refl
kept_zip (true ∷ bits) (x ∷ xs) [] = refl
kept_zip (false ∷ bits) (x ∷ xs) [] = sym (zip_none (items_where_true bits xs))
kept_zip (true ∷ bits) (x ∷ xs) (y ∷ ys) = ap (λ l. (x, y) ∷ l) (kept_zip bits xs ys)
kept_zip (false ∷ bits) (x ∷ xs) (y ∷ ys) = kept_zip bits xs ys
