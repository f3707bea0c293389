-- Lists of equal chunks, one for each key, and a change of one of them.
use Rattle.std.proofs.Common.{◌≡◌, ℕ, zero, suc, ◌+◌, ◌*◌, ◌≤◌, false, ◌||◌, Some, List, [], ◌∷◌, ◌++◌, length, map, take, drop, set, slice_get, refl, sym, ap, ◌∙◌, subst, append_assoc, length-append, arith}
use Rattle.std.specs.List.{flat_map, IsDistinct, AllByRecursion}
use Rattle.std.specs.Str.{bytes_eq}
use Rattle.std.proofs.lemmas.List.{take_at}
use Rattle.agg_fold.specs.Places.{is_among}
use Rattle.std.proofs.lemmas.Cmp.{nat_list_eq_equiv}
use Rattle.std.proofs.lemmas.Map.Keys.{IsDistinct-head, IsDistinct-tail}

-- g gives what f gives, but at one key
abbrev pub AgreeBut : {Y : Type 0} → List ℕ → (List ℕ → Y) → (List ℕ → Y) → Type 0
AgreeBut key f g = (other : List ℕ) → bytes_eq key other ≡ false → f other ≡ g other

-- a key at a place after another differs from it
pub apart_from : (key other : List ℕ) (keys : List (List ℕ)) (p : ℕ) → AllByRecursion (λ k. bytes_eq other k ≡ false) keys → slice_get keys p ≡ Some key → bytes_eq key other ≡ false
apart_from key other [] p h at = absurd (cc)
apart_from key other (k ∷ keys) zero h at = nat_list_eq_equiv.symm key other ∙ ap (bytes_eq other) (cc) ∙ h.0
apart_from key other (k ∷ keys) (suc p) h at = apart_from key other keys p h.1 at

-- a key is not among those in front of its place
pub fresh : (keys : List (List ℕ)) (h : ℕ) (key : List ℕ) → IsDistinct bytes_eq keys → slice_get keys h ≡ Some key → is_among (take h keys) key ≡ false
fresh [] h key once at = absurd (cc)
fresh (k ∷ keys) zero key once at = refl
fresh (k ∷ keys) (suc h) key once at =
    λ i. apart_from key k keys h (IsDistinct-head bytes_eq k keys once) at i || fresh keys h key (IsDistinct-tail bytes_eq k keys once) at i

module _ {Y : Type 0} (key : List ℕ) (f g : List ℕ → Y) (agree : AgreeBut key f g) where
  map_apart : (keys : List (List ℕ)) → AllByRecursion (λ k. bytes_eq key k ≡ false) keys → map f keys ≡ map g keys
  map_apart [] h = refl
  map_apart (k ∷ keys) h = λ i. agree k h.0 i ∷ map_apart keys h.1 i

  pub map_changed : (keys : List (List ℕ)) (p : ℕ) → IsDistinct bytes_eq keys → slice_get keys p ≡ Some key → set (map f keys) p (g key) ≡ map g keys
  map_changed [] p once at = absurd (cc)
  map_changed (k ∷ keys) zero once at =
      let e : k ≡ key = cc in
      (λ i. g (sym e i) ∷ map_apart keys (subst (λ (l : List ℕ). AllByRecursion (λ x. bytes_eq l x ≡ false) keys) e (IsDistinct-head bytes_eq k keys once)) i)
  map_changed (k ∷ keys) (suc p) once at =
      λ i. agree k (apart_from key k keys p (IsDistinct-head bytes_eq k keys once) at) i ∷ map_changed keys p (IsDistinct-tail bytes_eq k keys once) at i

-- past the first part of a list
module _ {Y : Type 0} where
  take_past : (xs ys : List Y) (width n : ℕ) → length xs ≡ width → take (width + n) (xs ++ ys) ≡ xs ++ take n ys
  take_past [] ys width n h = let e : width + n ≡ n = omega arith in λ i. take (e i) ys
  take_past (x ∷ xs) ys zero n h = absurd (cc)
  take_past (x ∷ xs) ys (suc width) n h =
      let e : suc width + n ≡ suc (width + n) = omega arith in
      (λ i. take (e i) (x ∷ (xs ++ ys))) ∙ (λ i. x ∷ take_past xs ys width n (omega arith) i)

  drop_past : (xs ys : List Y) (width n : ℕ) → length xs ≡ width → drop (width + n) (xs ++ ys) ≡ drop n ys
  drop_past [] ys width n h = let e : width + n ≡ n = omega arith in λ i. drop (e i) ys
  drop_past (x ∷ xs) ys zero n h = absurd (cc)
  drop_past (x ∷ xs) ys (suc width) n h =
      let e : suc width + n ≡ suc (width + n) = omega arith in
      (λ i. drop (e i) (x ∷ (xs ++ ys))) ∙ drop_past xs ys width n (omega arith)

module _ {Y : Type 0} (width : ℕ) (f : List ℕ → List Y) (wide : (key : List ℕ) → length (f key) ≡ width) where
  pub length_chunks : (keys : List (List ℕ)) → length (flat_map f keys) ≡ length keys * width
  length_chunks [] = omega arith
  length_chunks (k ∷ keys) = length-append (f k) (flat_map f keys) ∙ omega (arith, wide k, length_chunks keys)

  pub chunk_at : (keys : List (List ℕ)) (p : ℕ) (key : List ℕ) → slice_get keys p ≡ Some key → take width (drop (p * width) (flat_map f keys)) ≡ f key
  chunk_at [] p key at = absurd (cc)
  chunk_at (k ∷ keys) zero key at =
      let e : k ≡ key = cc in
      let n : zero * width ≡ 0 = omega arith in
      (λ i. take width (drop (n i) (f k ++ flat_map f keys))) ∙ take_at (f k) (flat_map f keys) width (wide k) ∙ ap f e
  chunk_at (k ∷ keys) (suc p) key at =
      let n : suc p * width ≡ width + p * width = omega arith in
      (λ i. take width (drop (n i) (f k ++ flat_map f keys)))
      ∙ ap (take width) (drop_past (f k) (flat_map f keys) width (p * width) (wide k))
      ∙ chunk_at keys p key at

pub place_within : (keys : List (List ℕ)) (p width : ℕ) (key : List ℕ) → slice_get keys p ≡ Some key → p * width + width ≤ length keys * width
place_within [] p width key at = absurd (cc)
place_within (k ∷ keys) zero width key at = omega arith
place_within (k ∷ keys) (suc p) width key at = omega (arith, place_within keys p width key at)

module _ {Y : Type 0} (width : ℕ) (key : List ℕ) (f g : List ℕ → List Y) (wide : (k : List ℕ) → length (f k) ≡ width) (agree : AgreeBut key f g) where
  chunks_apart : (keys : List (List ℕ)) → AllByRecursion (λ k. bytes_eq key k ≡ false) keys → flat_map f keys ≡ flat_map g keys
  chunks_apart [] h = refl
  chunks_apart (k ∷ keys) h = λ i. agree k h.0 i ++ chunks_apart keys h.1 i

  pub chunk_changed : (keys : List (List ℕ)) (p : ℕ) → IsDistinct bytes_eq keys → slice_get keys p ≡ Some key
      → take (p * width) (flat_map f keys) ++ (g key ++ drop (p * width + width) (flat_map f keys)) ≡ flat_map g keys
  chunk_changed [] p once at = absurd (cc)
  chunk_changed (k ∷ keys) zero once at =
      let e : k ≡ key = cc in
      let rest : flat_map f keys ≡ flat_map g keys = chunks_apart keys (subst (λ (l : List ℕ). AllByRecursion (λ x. bytes_eq l x ≡ false) keys) e (IsDistinct-head bytes_eq k keys once)) in
      (λ i. take (none i) (f k ++ flat_map f keys) ++ (g (sym e i) ++ drop (one i) (f k ++ flat_map f keys)))
      ∙ ap (λ (ys : List Y). g k ++ ys) (drop_past (f k) (flat_map f keys) width 0 (wide k) ∙ rest)
    where
      none : zero * width ≡ 0
      none = omega arith

      one : zero * width + width ≡ width + 0
      one = omega arith
  chunk_changed (k ∷ keys) (suc p) once at =
      let same : f k ≡ g k = agree k (apart_from key k keys p (IsDistinct-head bytes_eq k keys once) at) in
      (λ i. take (front i) (f k ++ flat_map f keys) ++ (g key ++ drop (back i) (f k ++ flat_map f keys)))
      ∙ (λ i. take_past (f k) (flat_map f keys) width (p * width) (wide k) i ++ (g key ++ drop_past (f k) (flat_map f keys) width (p * width + width) (wide k) i))
      ∙ append_assoc (f k) (take (p * width) (flat_map f keys)) (g key ++ drop (p * width + width) (flat_map f keys))
      ∙ (λ i. same i ++ chunk_changed keys p (IsDistinct-tail bytes_eq k keys once) at i)
    where
      front : suc p * width ≡ width + p * width
      front = omega arith

      back : suc p * width + width ≡ width + (p * width + width)
      back = omega arith
