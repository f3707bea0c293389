-- Rows parted by their keys, folded key by key.
use Rattle.std.proofs.Common.{◌≡◌, ℕ, ◌+◌, ℤ, pos, ◌+ℤ◌, Bool, true, false, cond, ◌||◌, List, [], ◌∷◌, ◌++◌, length, map, filter, fold, refl, sym, ap, ◌∙◌, subst, ⊎_elim, arith}
use Rattle.std.specs.List.{flat_map, IsDistinct, AllByRecursion}
use Rattle.std.specs.Int.{int_min, int_max}
use Rattle.std.specs.Str.{bytes_eq}
use Rattle.std.proofs.lemmas.Bool.{cases_Bool, false≢true}
use Rattle.std.proofs.lemmas.Int.{ints, clamps}
use Rattle.std.proofs.lemmas.List.Folds.{fold-map}
use Rattle.std.proofs.lemmas.List.Sums.{fold-append}
use Rattle.std.proofs.lemmas.Map.Keys.{IsDistinct-head, IsDistinct-tail}
use Rattle.std.proofs.lemmas.Slice.Eq.{bytes_eq-Decides}
use Rattle.cube_values.specs.declared.query.BoundItem.{BoundItem}
use Rattle.cube_values.specs.declared.query.BoundItem.TheVariants.{Group, Count, Sum, Min, Max, Avg}
use Rattle.cube_values.specs.declared.row.CodedRow.{CodedRow}
use Rattle.agg_fold.specs.declared.tally.Tally.TheVariants.{Total, Least, Greatest}
use Rattle.agg_fold.specs.Tallies.{metric_number, numbers_of, lowest, highest, tally_of}
use Rattle.agg_fold.specs.Coded.{coded_key, metrics_with}
use Rattle.agg_fold.specs.Places.{is_among}

-- the metrics of the rows whose keys are among these
abbrev pub metrics_among : List ℕ → List CodedRow → List (List ℕ) → List (List ℤ)
metrics_among group rows ks = map (λ row. row.metrics) (filter (λ row. is_among ks (coded_key group row.coords)) rows)

pub head_absent : (k : List ℕ) (ks : List (List ℕ)) → AllByRecursion (λ y. bytes_eq k y ≡ false) ks → is_among ks k ≡ false
head_absent k [] h = refl
head_absent k (y ∷ ks) h = λ i. h.0 i || head_absent k ks h.1 i

neither : (a b : Bool) → (a || b) ≡ false → (a ≡ false) × (b ≡ false)
neither true b h = absurd (false≢true (sym h))
neither false b h = (refl, h)

module _ (group : List ℕ) (row : CodedRow) (rows : List CodedRow) where
  with_row : (b : Bool) (k : List ℕ) → bytes_eq (coded_key group row.coords) k ≡ b → metrics_with group (row ∷ rows) k ≡ map (λ r. r.metrics) (cond b (row ∷ filter (λ r. bytes_eq (coded_key group r.coords) k) rows) (filter (λ r. bytes_eq (coded_key group r.coords) k) rows))
  with_row b k e = ap (λ (c : Bool). map (λ (r : CodedRow). r.metrics) (cond c (row ∷ filter (λ r. bytes_eq (coded_key group r.coords) k) rows) (filter (λ r. bytes_eq (coded_key group r.coords) k) rows))) e

  no_hit : (ks : List (List ℕ)) → is_among ks (coded_key group row.coords) ≡ false → flat_map (metrics_with group (row ∷ rows)) ks ≡ flat_map (metrics_with group rows) ks
  no_hit [] h = refl
  no_hit (k ∷ ks) h =
      let both = neither (bytes_eq (coded_key group row.coords) k) (is_among ks (coded_key group row.coords)) h in
      λ i. with_row false k both.0 i ++ no_hit ks both.1 i

module _ {B : Type 0} (F : B → List ℤ → B) (comm : (a : B) (x y : List ℤ) → F (F a x) y ≡ F (F a y) x) (group : List ℕ) where
  late : (a : B) (x : List ℤ) (ms : List (List ℤ)) → fold F (F a x) ms ≡ F (fold F a ms) x
  late a x [] = refl
  late a x (m ∷ ms) = ap (λ (b : B). fold F b ms) (comm a x m) ∙ late (F a m) x ms

  one_more : (row : CodedRow) (rows : List CodedRow) (ks : List (List ℕ)) → IsDistinct bytes_eq ks → is_among ks (coded_key group row.coords) ≡ true
      → (a : B) → fold F a (flat_map (metrics_with group (row ∷ rows)) ks) ≡ fold F (F a row.metrics) (flat_map (metrics_with group rows) ks)
  one_more row rows [] once h a = absurd (false≢true h)
  one_more row rows (k ∷ ks) once h a =
      let key = coded_key group row.coords in
      let old = metrics_with group rows k in
      ⊎_elim
      (λ same.
      let e : key ≡ k = (bytes_eq-Decides key k).0 same in
      let absent : is_among ks key ≡ false = subst (λ (l : List ℕ). is_among ks l ≡ false) (sym e) (head_absent k ks (IsDistinct-head bytes_eq k ks once)) in
      λ i. fold F a (with_row group row rows true k same i ++ no_hit group row rows ks absent i))
      (λ differ.
      let among : is_among ks key ≡ true = ap (λ (b : Bool). b || is_among ks key) (sym differ) ∙ h in
      (λ i. fold F a (with_row group row rows false k differ i ++ flat_map (metrics_with group (row ∷ rows)) ks))
      ∙ fold-append F a old (flat_map (metrics_with group (row ∷ rows)) ks)
      ∙ one_more row rows ks (IsDistinct-tail bytes_eq k ks once) among (fold F a old)
      ∙ ap (λ (b : B). fold F b (flat_map (metrics_with group rows) ks)) (sym (late a row.metrics old))
      ∙ sym (fold-append F (F a row.metrics) old (flat_map (metrics_with group rows) ks)))
      (cases_Bool (bytes_eq key k))

  no_rows : (ks : List (List ℕ)) → flat_map (metrics_with group []) ks ≡ []
  no_rows [] = refl
  no_rows (k ∷ ks) = no_rows ks

  pub parted : (rows : List CodedRow) (ks : List (List ℕ)) → IsDistinct bytes_eq ks → (a : B) → fold F a (flat_map (metrics_with group rows) ks) ≡ fold F a (metrics_among group rows ks)
  parted [] ks once a = ap (fold F a) (no_rows ks)
  parted (row ∷ rows) ks once a =
      let key = coded_key group row.coords in
      let shown = λ (b : Bool). fold F a (map (λ (r : CodedRow). r.metrics) (cond b (row ∷ filter (λ r. is_among ks (coded_key group r.coords)) rows) (filter (λ r. is_among ks (coded_key group r.coords)) rows))) in
      ⊎_elim
      (λ among. one_more row rows ks once among a ∙ parted rows ks once (F a row.metrics) ∙ ap shown (sym among))
      (λ absent. ap (fold F a) (no_hit group row rows ks absent) ∙ parted rows ks once a ∙ ap shown (sym absent))
      (cases_Bool (is_among ks key))

counted : (n : ℕ) (ms : List (List ℤ)) → fold (λ (m : ℕ) (x : List ℤ). m + 1) n ms ≡ n + length ms
counted n [] = omega arith
counted n (m ∷ ms) = counted (n + 1) ms ∙ omega arith

add_comm : (a x y : ℤ) → (a +ℤ x) +ℤ y ≡ (a +ℤ y) +ℤ x
add_comm a x y = omega (arith, ints)

min_comm : (a x y : ℤ) → int_min (int_min a x) y ≡ int_min (int_min a y) x
min_comm a x y = omega (arith, ints, clamps)

max_comm : (a x y : ℤ) → int_max (int_max a x) y ≡ int_max (int_max a y) x
max_comm a x y = omega (arith, ints, clamps)

-- two lists of rows over which all folds agree in which the order counts for nothing
module _ (ms ns : List (List ℤ)) (agree : (B : Type 0) (F : B → List ℤ → B) → ((a : B) (x y : List ℤ) → F (F a x) y ≡ F (F a y) x) → (a : B) → fold F a ms ≡ fold F a ns) where
  same_length : length ms ≡ length ns
  same_length = omega (arith, counted 0 ms, counted 0 ns, agree ℕ (λ (m : ℕ) (x : List ℤ). m + 1) (λ a x y. refl) 0)

  same_numbers : (f : ℤ → ℤ → ℤ) → ((a x y : ℤ) → f (f a x) y ≡ f (f a y) x) → (a : ℤ) (m : ℕ) → fold f a (numbers_of m ms) ≡ fold f a (numbers_of m ns)
  same_numbers f comm a m =
      fold-map f (metric_number m) a ms
      ∙ agree ℤ (λ (b : ℤ) (x : List ℤ). f b (metric_number m x)) (λ b x y. comm b (metric_number m x) (metric_number m y)) a
      ∙ sym (fold-map f (metric_number m) a ns)

  same_tally : (item : BoundItem) → tally_of ms item ≡ tally_of ns item
  same_tally (Group dim) = refl
  same_tally Count = refl
  same_tally (Sum m) = ap Total (same_numbers ◌+ℤ◌ add_comm (pos 0) m)
  same_tally (Min m) = ap Least (same_numbers int_min min_comm highest m)
  same_tally (Max m) = ap Greatest (same_numbers int_max max_comm lowest m)
  same_tally (Avg m) = ap Total (same_numbers ◌+ℤ◌ add_comm (pos 0) m)

  pub tally_folded : (length ms ≡ length ns) × ((item : BoundItem) → tally_of ms item ≡ tally_of ns item)
  tally_folded = (same_length, same_tally)

module _ (group : List ℕ) (rows : List CodedRow) (ks : List (List ℕ)) (once : IsDistinct bytes_eq ks) where
  pub length_parted : length (flat_map (metrics_with group rows) ks) ≡ length (metrics_among group rows ks)
  length_parted = (tally_folded (flat_map (metrics_with group rows) ks) (metrics_among group rows ks) (λ B F comm a. parted F comm group rows ks once a)).0

  pub tally_parted : (item : BoundItem) → tally_of (flat_map (metrics_with group rows) ks) item ≡ tally_of (metrics_among group rows ks) item
  tally_parted = (tally_folded (flat_map (metrics_with group rows) ks) (metrics_among group rows ks) (λ B F comm a. parted F comm group rows ks once a)).1
