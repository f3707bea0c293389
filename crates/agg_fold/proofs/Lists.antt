-- Lists that a loop rewrites from its front.
use Rattle.std.specs.List.{zip}
use Rattle.std.proofs.lemmas.Slice.Zip.{get_or-zip}
use Rattle.std.proofs.Common.{◌≡◌, refl, ℕ, ◌+◌, ◌-◌, ◌*◌, ◌<◌, ◌≤◌, List, [], ◌∷◌, ◌++◌, length, map, take, drop, get_or, set, sym, ap, ◌∙◌, append_assoc, arith}
use borrow.Rule.Slice.PartMut.{put_mid}
use Rattle.agg_fold.specs.declared.tally.Tally.{Tally}
use Rattle.agg_fold.specs.Tallies.{with_chunk}
use Rattle.std.proofs.lemmas.List.{drop-drop, append-nil, length-map, length-take-le, get_or_at, set_at, take_all, drop_all, drop_more, map_more}

module _ {X Y : Type 0} (f g : X → Y) where
  -- the first i elements are g of the list's, and the others f
  abbrev pub half : ℕ → List X → List Y
  half i xs = map g (take i xs) ++ map f (drop i xs)

  front : (xs : List X) (i : ℕ) → i < length xs → length (map g (take i xs)) ≡ i
  front xs i h = length-map (take i xs) g ∙ length-take-le i xs (omega arith)

  pub half_at : (xs : List X) (i : ℕ) (d : X) (e : Y) → i < length xs → get_or (half i xs) i e ≡ f (get_or xs i d)
  half_at xs i d e h =
      ap (λ (ys : List X). get_or (map g (take i xs) ++ map f ys) i e) (drop_more xs i d h)
      ∙ get_or_at (map g (take i xs)) (f (get_or xs i d)) (map f (drop (i + 1) xs)) e i (front xs i h)

  pub half_more : (xs : List X) (i : ℕ) (d : X) → i < length xs → set (half i xs) i (g (get_or xs i d)) ≡ half (i + 1) xs
  half_more xs i d h =
      ap (λ (ys : List X). set (map g (take i xs) ++ map f ys) i (g (get_or xs i d))) (drop_more xs i d h)
      ∙ set_at (map g (take i xs)) (f (get_or xs i d)) (map f (drop (i + 1) xs)) (g (get_or xs i d)) i (front xs i h)
      ∙ sym (append_assoc (map g (take i xs)) (g (get_or xs i d) ∷ []) (map f (drop (i + 1) xs)))
      ∙ ap (λ (ys : List Y). ys ++ map f (drop (i + 1) xs)) (sym (map_more g xs i d h))

  pub half_all : (xs : List X) (i : ℕ) → length xs ≤ i → half i xs ≡ map g xs
  half_all xs i h = (λ k. map g (take_all i xs h k) ++ map f (drop_all i xs h k)) ∙ append-nil (map g xs)

pub zip_long : {X Y : Type 0} (xs : List X) (ys : List Y) → length xs ≡ length ys → length (zip xs ys) ≡ length ys
zip_long [] [] h = refl
zip_long [] (y ∷ ys) h = absurd (omega arith)
zip_long (x ∷ xs) [] h = absurd (omega arith)
zip_long (x ∷ xs) (y ∷ ys) h = omega (arith, zip_long xs ys (omega arith))

pub zip_firsts : {X Y : Type 0} (xs : List X) (ys : List Y) → length xs ≡ length ys → map (λ (p : X × Y). p.0) (zip xs ys) ≡ xs
zip_firsts [] [] h = refl
zip_firsts [] (y ∷ ys) h = refl
zip_firsts (x ∷ xs) [] h = absurd (omega arith)
zip_firsts (x ∷ xs) (y ∷ ys) h = ap (λ (l : List _). x ∷ l) (zip_firsts xs ys (omega arith))

pub zip_seconds : {X Y : Type 0} (xs : List X) (ys : List Y) → length xs ≡ length ys → map (λ (p : X × Y). p.1) (zip xs ys) ≡ ys
zip_seconds [] [] h = refl
zip_seconds [] (y ∷ ys) h = absurd (omega arith)
zip_seconds (x ∷ xs) [] h = refl
zip_seconds (x ∷ xs) (y ∷ ys) h = ap (λ (l : List _). y ∷ l) (zip_seconds xs ys (omega arith))

-- two functions of the items of a list, pair by pair
pub zip_maps : {X Y Z : Type 0} (op : Y → Y → Z) (f g : X → Y) (xs : List X) → map (λ (p : Y × Y). op p.0 p.1) (zip (map f xs) (map g xs)) ≡ map (λ x. op (f x) (g x)) xs
zip_maps op f g [] = refl
zip_maps op f g (x ∷ xs) = ap (λ (zs : List _). op (f x) (g x) ∷ zs) (zip_maps op f g xs)

pub zip_map : {X Y Z : Type 0} (h : X → Y → Z) (f : X → Y) (xs : List X) → map (λ (p : X × Y). h p.0 p.1) (zip xs (map f xs)) ≡ map (λ x. h x (f x)) xs
zip_map h f [] = refl
zip_map h f (x ∷ xs) = ap (λ (zs : List _). h x (f x) ∷ zs) (zip_map h f xs)

module _ {X Y Z : Type 0} (f g : X × Y → Z) (xs : List X) (ys : List Y) (long : length xs ≡ length ys) (i : ℕ) (d : X) (e : Y) (h : i < length ys) where
  here : get_or (zip xs ys) i (d, e) ≡ (get_or xs i d, get_or ys i e)
  here = get_or-zip xs ys i (d, e) (omega arith) h

  pub zipped_at : (z : Z) → get_or (half f g i (zip xs ys)) i z ≡ f (get_or xs i d, get_or ys i e)
  zipped_at z = half_at f g (zip xs ys) i (d, e) z (omega (arith, zip_long xs ys long)) ∙ ap f here

  pub zipped_more : set (half f g i (zip xs ys)) i (g (get_or xs i d, get_or ys i e)) ≡ half f g (i + 1) (zip xs ys)
  zipped_more = ap (λ (p : X × Y). set (half f g i (zip xs ys)) i (g p)) (sym here) ∙ half_more f g (zip xs ys) i (d, e) (omega (arith, zip_long xs ys long))

-- a write to the chunk at a place
pub put_chunk : (place width : ℕ) (tallies chunk : List Tally) → put_mid (place * width) (place * width + width - place * width) tallies chunk ≡ with_chunk place width tallies chunk
put_chunk place width tallies chunk =
    let k : place * width + width - place * width ≡ width = omega arith in
    (λ i. take (place * width) tallies ++ (chunk ++ drop (k i) (drop (place * width) tallies)))
    ∙ (λ i. take (place * width) tallies ++ (chunk ++ drop-drop width (place * width) tallies i))
