-- The rows of columns, as the columns are made, lent, pushed to, kept in part and grown.
use Rattle.std.proofs.Common.{◌≡◌, ℕ, ◌+◌, ◌<◌, ◌≤◌, Bool, suc, zero, List, [], ◌∷◌, ◌++◌, length, map, get_or, All, vec_len, vec_capacity, Vec, Global, refl, sym, ap, ◌∙◌, arith}
use Rattle.std.specs.List.{AllZip, zip, items_where_true}
use Rattle.std.proofs.lemmas.List.{length-map, length-replicate, replicate-append-replicate, map-append, length_push, nil_from_length}
use Rattle.std.proofs.lemmas.List.Elements.{All-nil, All-cons, All-head, All-tail, length_all_zip}
use Rattle.std.proofs.lemmas.Slice.Zip.{length-zip, firsts-zip, seconds-zip}
use Rattle.cube_values.specs.BitRows.{set_bits}
use Rattle.brick_columns.specs.Lists.{column_rows, AreColumns, HaveSpare, IsGrown, IsPushed, IsSelection, ArePushed}
use Rattle.brick_columns.proofs.KeptItems.{kept_length, kept_same, kept_map, kept_zip}

pub map_map : {A B C : Type 0} (f : A → B) (g : B → C) (xs : List A) → map g (map f xs) ≡ map (λ x. g (f x)) xs
map_map f g [] = refl
map_map f g (x ∷ xs) = ap (λ l. g (f x) ∷ l) (map_map f g xs)

pub zip_push : {A B : Type 0} (xs : List A) (ys : List B) (x : A) (y : B) → length xs ≡ length ys → zip (xs ++ x ∷ []) (ys ++ y ∷ []) ≡ zip xs ys ++ (x, y) ∷ []
zip_push [] [] x y h = refl
zip_push [] (v ∷ ys) x y h = absurd (omega arith)
zip_push (u ∷ xs) [] x y h = absurd (omega arith)
zip_push (u ∷ xs) (v ∷ ys) x y h = ap (λ l. (u, v) ∷ l) (zip_push xs ys x y (omega arith))

-- what R gives of the items of one list holds of those of the other
pub all_across : {A B : Type 0} (R : A → B → Type 0) (P : A → Type 0) (Q : B → Type 0) (xs : List A) (ys : List B) → ((x : A) (y : B) → R x y → P x → Q y) → AllZip R xs ys → All P xs → All Q ys
all_across R P Q [] [] f r p = All-nil Q
all_across R P Q [] (y ∷ ys) f r p = absurd r
all_across R P Q (x ∷ xs) [] f r p = absurd r
all_across R P Q (x ∷ xs) (y ∷ ys) f r p =
    All-cons Q y ys (f x y r.0 (All-head P x xs p)) (all_across R P Q xs ys f r.1 (All-tail P x xs p))

module _ {T : Type 0} where
  columns_rest : (c : Vec T Global) (cs : List (Vec T Global)) (n room : ℕ) → AreColumns (c ∷ cs) n room → AreColumns cs n room
  columns_rest c cs n room h = record {
    long = All-tail (λ c. length c.items ≡ n) c cs h.long;
    memory = All-tail (λ c. room ≤ vec_capacity c) c cs h.memory;
  }

  pub rows_length : (columns : List (Vec T Global)) (n room : ℕ) → AreColumns columns n room → length (column_rows columns n) ≡ n
  rows_length columns n room h = by_long columns h.long where
    by_long : (columns : List (Vec T Global)) → All (λ c. length c.items ≡ n) columns → length (column_rows columns n) ≡ n
    by_long [] h = length-replicate {A = List T} n []
    by_long (c ∷ cs) h =
        let first = All-head (λ (c : Vec T Global). length c.items ≡ n) c cs h in
        let others = by_long cs (All-tail (λ (c : Vec T Global). length c.items ≡ n) c cs h) in
        length-map (zip c.items (column_rows cs n)) (λ p. p.0 ∷ p.1) ∙ omega (arith, length-zip c.items (column_rows cs n))

  pub rows_none : (columns : List (Vec T Global)) (room : ℕ) → AreColumns columns 0 room → column_rows columns 0 ≡ []
  rows_none columns room h = nil_from_length (column_rows columns 0) (rows_length columns 0 room h)

  pub grown_none : (columns : List (Vec T Global)) → AllZip IsGrown columns columns
  grown_none [] = tt
  grown_none (c ∷ cs) = (record { items = refl; memory = omega arith }, grown_none cs)

  pub rows_grown : (old new : List (Vec T Global)) (n : ℕ) → AllZip IsGrown old new → column_rows new n ≡ column_rows old n
  rows_grown [] [] n g = refl
  rows_grown [] (d ∷ ds) n g = absurd g
  rows_grown (c ∷ cs) [] n g = absurd g
  rows_grown (c ∷ cs) (d ∷ ds) n g = λ t. map (λ p. p.0 ∷ p.1) (zip (g.0.items t) (rows_grown cs ds n g.1 t))

  pub rows_pushed : (old : List (Vec T Global)) (row : List T) (new : List (Vec T Global)) (n room : ℕ) → AreColumns old n room → length row ≡ length old → ArePushed old row new → column_rows new (n + 1) ≡ column_rows old n ++ row ∷ []
  rows_pushed [] [] [] n room h w p = sym (replicate-append-replicate {A = List T} n 1 [])
  rows_pushed [] [] (d ∷ ds) n room h w p = absurd p
  rows_pushed [] (v ∷ vs) new n room h w p = absurd (omega arith)
  rows_pushed (c ∷ cs) [] new n room h w p = absurd (omega arith)
  rows_pushed (c ∷ cs) (v ∷ vs) [] n room h w p = absurd p
  rows_pushed (c ∷ cs) (v ∷ vs) (d ∷ ds) n room h w p =
      let others : AreColumns cs n room = columns_rest c cs n room h in
      let long : length c.items ≡ length (column_rows cs n) = All-head (λ (c : Vec T Global). length c.items ≡ n) c cs h.long ∙ sym (rows_length cs n room others) in
      let same = rows_pushed cs vs ds n room others (omega arith) p.1 in
      (λ t. map (λ q. q.0 ∷ q.1) (zip (p.0.items t) (same t))) ∙ ap (λ l. map (λ q. q.0 ∷ q.1) l) (zip_push c.items (column_rows cs n) v vs long) ∙ map-append (λ q. q.0 ∷ q.1) (zip c.items (column_rows cs n)) ((v, vs) ∷ [])

  pub rows_kept : (bits : List Bool) (old new : List (Vec T Global)) (n : ℕ) → length bits ≡ n → AllZip (IsSelection bits) old new → column_rows new (set_bits bits) ≡ items_where_true bits (column_rows old n)
  rows_kept bits [] [] n e k = sym (kept_same bits n [] e)
  rows_kept bits [] (d ∷ ds) n e k = absurd k
  rows_kept bits (c ∷ cs) [] n e k = absurd k
  rows_kept bits (c ∷ cs) (d ∷ ds) n e k =
      let others = rows_kept bits cs ds n e k.1 in
      (λ t. map (λ p. p.0 ∷ p.1) (zip (k.0.items t) (others t))) ∙ ap (λ l. map (λ p. p.0 ∷ p.1) l) (sym (kept_zip bits c.items (column_rows cs n))) ∙ sym (kept_map (λ p. p.0 ∷ p.1) bits (zip c.items (column_rows cs n)))

  -- a column is what its rows have at its place
  pub column_of_rows : (columns : List (Vec T Global)) (n room i : ℕ) (column : Vec T Global) (d : T) → AreColumns columns n room → i < length columns → map (λ row. get_or row i d) (column_rows columns n) ≡ (get_or columns i column).items
  column_of_rows [] n room i column d h l = absurd (omega arith)
  column_of_rows (c ∷ cs) n room zero column d h l =
      let long : length (column_rows cs n) ≡ length c.items = rows_length cs n room (columns_rest c cs n room h) ∙ sym (All-head (λ (c : Vec T Global). length c.items ≡ n) c cs h.long) in
      map_map (λ p. p.0 ∷ p.1) (λ row. get_or row 0 d) (zip c.items (column_rows cs n)) ∙ firsts-zip c.items (column_rows cs n) long
  column_of_rows (c ∷ cs) n room (suc i) column d h l =
      let others = columns_rest c cs n room h in
      let long : length (column_rows cs n) ≡ length c.items = rows_length cs n room others ∙ sym (All-head (λ (c : Vec T Global). length c.items ≡ n) c cs h.long) in
      map_map (λ p. p.0 ∷ p.1) (λ row. get_or row (suc i) d) (zip c.items (column_rows cs n)) ∙ sym (map_map (λ p. p.1) (λ row. get_or row i d) (zip c.items (column_rows cs n))) ∙ ap (λ rows. map (λ row. get_or row i d) rows) (seconds-zip c.items (column_rows cs n) long) ∙ column_of_rows cs n room i column d others (omega arith)

  pub columns_grown : (old new : List (Vec T Global)) (n room : ℕ) → AllZip IsGrown old new → AreColumns old n room → AreColumns new n room
  columns_grown old new n room g h = record {
    long = all_across IsGrown (λ c. length c.items ≡ n) (λ c. length c.items ≡ n) old new (λ c d g e. ap length g.items ∙ e) g h.long;
    memory = all_across IsGrown (λ c. room ≤ vec_capacity c) (λ c. room ≤ vec_capacity c) old new (λ c d g m. omega (arith, g.memory)) g h.memory;
  }

  pub columns_kept : (bits : List Bool) (old new : List (Vec T Global)) (n room : ℕ) → length bits ≡ n → AllZip (IsSelection bits) old new → AreColumns old n room → AreColumns new (set_bits bits) room
  columns_kept bits old new n room e k h = record {
    long = all_across (IsSelection bits) (λ c. length c.items ≡ n) (λ c. length c.items ≡ set_bits bits) old new (λ c d k l. ap length k.items ∙ kept_length bits c.items (l ∙ sym e)) k h.long;
    memory = all_across (IsSelection bits) (λ c. room ≤ vec_capacity c) (λ c. room ≤ vec_capacity c) old new (λ c d k m. omega (arith, k.memory)) k h.memory;
  }

  pushed_each : (old : List (Vec T Global)) (row : List T) (new : List (Vec T Global)) → length row ≡ length old → ArePushed old row new → AllZip (λ c d. (v : T) × IsPushed c v d) old new
  pushed_each [] [] [] w p = tt
  pushed_each [] [] (d ∷ ds) w p = absurd p
  pushed_each [] (v ∷ vs) new w p = absurd (omega arith)
  pushed_each (c ∷ cs) [] new w p = absurd (omega arith)
  pushed_each (c ∷ cs) (v ∷ vs) [] w p = absurd p
  pushed_each (c ∷ cs) (v ∷ vs) (d ∷ ds) w p = ((v, p.0), pushed_each cs vs ds (omega arith) p.1)

  pub columns_pushed : (old : List (Vec T Global)) (row : List T) (new : List (Vec T Global)) (n room : ℕ) → length row ≡ length old → ArePushed old row new → AreColumns old n room → AreColumns new (n + 1) room
  columns_pushed old row new n room w p h =
      let R : Vec T Global → Vec T Global → Type 0 = λ c d. (v : T) × IsPushed c v d in
      let each = pushed_each old row new w p in
      record {
        long = all_across R (λ c. length c.items ≡ n) (λ c. length c.items ≡ n + 1) old new (λ c d r e. ap length r.1.items ∙ length_push c.items r.0 ∙ ap (λ k. k + 1) e) each h.long;
        memory = all_across R (λ c. room ≤ vec_capacity c) (λ c. room ≤ vec_capacity c) old new (λ c d r m. omega (arith, r.1.memory)) each h.memory;
      }

  pub length_pushed : (old : List (Vec T Global)) (row : List T) (new : List (Vec T Global)) → length row ≡ length old → ArePushed old row new → length new ≡ length old
  length_pushed old row new w p = sym (length_all_zip (λ c d. (v : T) × IsPushed c v d) old new (pushed_each old row new w p))

  pub columns_len : (columns : List (Vec T Global)) (n room : ℕ) → AreColumns columns n room → All (λ c. vec_len c ≡ n) columns
  columns_len columns n room h = λ k d l. (get_or columns k d).ok.0 ∙ h.long k d l

  pub columns_roomier : (columns : List (Vec T Global)) (n room more wider : ℕ) → AreColumns columns n room → HaveSpare more columns → n + more ≡ wider → AreColumns columns n wider
  columns_roomier columns n room more wider h m e = record {
    long = h.long;
    memory = λ k d l. omega (arith, columns_len columns n room h k d l, m k d l);
  }

  pub columns_empty : (columns : List (Vec T Global)) → All (λ c. c.items ≡ []) columns → AreColumns columns 0 0
  columns_empty columns h = record {
    long = λ k d l. ap length (h k d l);
    memory = λ k d l. omega arith;
  }
