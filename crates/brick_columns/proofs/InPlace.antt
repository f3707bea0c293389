-- A loop that changes the items of a list one after another, and one that moves items to the front.
use Rattle.std.proofs.Common.{◌≡◌, ℕ, ◌+◌, ◌<◌, ◌≤◌, Bool, true, false, List, [], ◌∷◌, ◌++◌, length, get_or, set, take, drop, refl, sym, ap, ◌∙◌, arith, add-zero}
use Rattle.std.specs.Int.{from_bool}
use Rattle.std.specs.List.{AllZip, items_where_true}
use Rattle.std.proofs.lemmas.List.{take_more, take_more_set, drop_more, drop_all, drop-set-lt, take-set, take_all, take-append-drop, get_or-drop, drop-drop, append-nil, append_assoc}
use Rattle.std.proofs.lemmas.Slice.Zip.{all_zipped_more}

-- The first i of the items ys are what R makes of those of xs, and the others are as they were.
pub record ChangesEach {A B : Type 0} (R : A → B → Type 0) (xs : List A) (old ys : List B) (i : ℕ) : Type 0 where
  pub front : AllZip R (take i xs) (take i ys)
  pub rest : drop i ys ≡ drop i old

zip_append : {A B : Type 0} (R : A → B → Type 0) (us : List A) (vs : List B) (xs : List A) (ys : List B) → AllZip R us vs → AllZip R xs ys → AllZip R (us ++ xs) (vs ++ ys)
zip_append R [] [] xs ys p q = q
zip_append R [] (v ∷ vs) xs ys p q = absurd p
zip_append R (u ∷ us) [] xs ys p q = absurd p
zip_append R (u ∷ us) (v ∷ vs) xs ys p q = (p.0, zip_append R us vs xs ys p.1 q)

zip_same : {A : Type 0} (R : A → A → Type 0) → ((x : A) → R x x) → (xs : List A) → AllZip R xs xs
zip_same R r [] = tt
zip_same R r (x ∷ xs) = (r x, zip_same R r xs)

module _ {A B : Type 0} (R : A → B → Type 0) where
  pub each_none : (xs : List A) (old : List B) → ChangesEach R xs old old 0
  each_none xs old = record { front = tt; rest = refl }

  -- the item at i, before it is changed
  pub each_here : (xs : List A) (old ys : List B) (i : ℕ) (d : B) → ChangesEach R xs old ys i → get_or ys i d ≡ get_or old i d
  each_here xs old ys i d h =
      let at_ys : get_or (drop i ys) 0 d ≡ get_or ys i d = get_or-drop i ys 0 d ∙ ap (λ k. get_or ys k d) (add-zero i) in
      let at_old : get_or (drop i old) 0 d ≡ get_or old i d = get_or-drop i old 0 d ∙ ap (λ k. get_or old k d) (add-zero i) in
      sym at_ys ∙ ap (λ l. get_or l 0 d) h.rest ∙ at_old

  pub each_more : (xs : List A) (old ys : List B) (i : ℕ) (d : A) (y : B) → i < length xs → i < length ys → R (get_or xs i d) y → ChangesEach R xs old ys i → ChangesEach R xs old (set ys i y) (i + 1)
  each_more xs old ys i d y hx hy r h = record {
    front = rw (take_more xs i d hx, take_more_set ys i y hy) (all_zipped_more R (take i xs) (take i ys) (get_or xs i d) y h.front r);
    rest = drop-set-lt (i + 1) ys i y (omega arith) ∙ sym (drop-drop 1 i ys) ∙ ap (drop 1) h.rest ∙ drop-drop 1 i old;
  }

  pub each_all : (xs : List A) (old ys : List B) (i : ℕ) → length xs ≤ i → length ys ≤ i → ChangesEach R xs old ys i → AllZip R xs ys
  each_all xs old ys i hx hy h = rw (take_all i xs hx, take_all i ys hy) at h.front

-- the first i alone are changed
pub each_left : {A : Type 0} (R : A → A → Type 0) → ((x : A) → R x x) → (xs ys : List A) (i : ℕ) → ChangesEach R xs xs ys i → AllZip R xs ys
each_left R r xs ys i h =
    rw (← take-append-drop i xs, ← take-append-drop i ys, h.rest) (zip_append R (take i xs) (take i ys) (drop i xs) (drop i xs) h.front (zip_same R r (drop i xs)))

-- Of the items, those of the first i whose bit is set stand in the first k places, and the later ones are as they were.
pub record Moves {A : Type 0} (bits : List Bool) (old ys : List A) (i k : ℕ) : Type 0 where
  pub whole : take k ys ++ items_where_true (drop i bits) (drop i ys) ≡ items_where_true bits old
  pub behind : k ≤ i

module _ {A : Type 0} (bits : List Bool) (old : List A) where
  pub moves_none : Moves bits old old 0 0
  moves_none = record { whole = refl; behind = omega arith }

  -- the item at i goes to place k, and its bit says whether it stays there
  pub moves_next : (ys : List A) (i k : ℕ) (b : Bool) (x : A) → i < length bits → i < length ys → get_or bits i false ≡ b → x ≡ get_or ys i x → Moves bits old ys i k → Moves bits old (set ys k x) (i + 1) (k + from_bool b)
  moves_next ys i k b x hb hy e here h = by_bit b e where
    behind : k ≤ i
    behind = h.behind

    bit : (b : Bool) → get_or bits i false ≡ b → drop i bits ≡ b ∷ drop (i + 1) bits
    bit b e = drop_more bits i false hb ∙ ap (λ v. v ∷ drop (i + 1) bits) e

    item : drop i ys ≡ x ∷ drop (i + 1) ys
    item = drop_more ys i x hy ∙ ap (λ v. v ∷ drop (i + 1) ys) (sym here)

    by_bit : (b : Bool) → get_or bits i false ≡ b → Moves bits old (set ys k x) (i + 1) (k + from_bool b)
    by_bit true e =
        let next : items_where_true (drop i bits) (drop i ys) ≡ x ∷ items_where_true (drop (i + 1) bits) (drop (i + 1) ys) = λ t. items_where_true (bit true e t) (item t) in
        record {
          whole = rw (take_more_set ys k x (omega arith), drop-set-lt (i + 1) ys k x (omega arith), append_assoc, ← next) h.whole;
          behind = omega arith;
        }
    by_bit false e =
        let next : items_where_true (drop i bits) (drop i ys) ≡ items_where_true (drop (i + 1) bits) (drop (i + 1) ys) = λ t. items_where_true (bit false e t) (item t) in
        record {
          whole = rw (add-zero, take-set ys k x, drop-set-lt (i + 1) ys k x (omega arith), ← next) h.whole;
          behind = omega arith;
        }

  pub moves_all : (ys : List A) (i k : ℕ) → length bits ≤ i → Moves bits old ys i k → take k ys ≡ items_where_true bits old
  moves_all ys i k hb h =
      sym (append-nil (take k ys)) ∙ ap (λ l. take k ys ++ items_where_true l (drop i ys)) (sym (drop_all i bits hb)) ∙ h.whole
