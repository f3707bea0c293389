-- The rows that groups stand for, group by group, and in another order.
use Rattle.std.proofs.Common.{◌≡◌, ℕ, zero, suc, ◌+◌, ◌<◌, ◌≤◌, ℤ, pos, ◌+ℤ◌, Bool, true, false, cond, ◌||◌, List, [], ◌∷◌, ◌++◌, length, length-append, map, filter, fold, take, drop, get_or, slice_get, Some, All, refl, sym, ap, ◌∙◌, subst, ⊎_elim, arith, append_assoc}
use Rattle.std.specs.List.{flat_map, list_any, IsDistinct, AllByRecursion}
use Rattle.std.specs.List.Sorted.{IsPermutation}
use Rattle.std.specs.Str.{bytes_eq}
use Rattle.std.proofs.lemmas.Bool.{cases_Bool, false≢true}
use Rattle.std.proofs.lemmas.Cmp.{nat_list_eq_equiv}
use Rattle.std.proofs.lemmas.List.{append-nil, length-map, drop_more}
use Rattle.std.proofs.lemmas.List.Elements.{All-head, All-tail, All-filter, All-weaker, filter_passes}
use Rattle.std.proofs.lemmas.List.Folds.{list_any_more, fold-map}
use Rattle.std.proofs.lemmas.List.Sorted.{All-permutation, IsPermutation-sym, IsPermutation-trans, IsPermutation-append_right, length_permutation}
use Rattle.std.proofs.lemmas.List.Sums.{length-filter, count_by-le-length}
use Rattle.std.proofs.lemmas.Map.Keys.{IsDistinct-head, IsDistinct-tail}
use Rattle.std.proofs.lemmas.Option.{slice_get_within, get_or_from_slice_get, slice_get-get_or}
use Rattle.std.proofs.lemmas.Slice.Eq.{bytes_eq-Decides}
use Rattle.cube_values.specs.declared.query.BoundItem.{BoundItem}
use Rattle.cube_values.specs.declared.query.BoundQuery.{BoundQuery}
use Rattle.cube_values.specs.declared.row.CodedRow.{CodedRow}
use Rattle.agg_fold.specs.declared.groups.Groups.{Groups}
use Rattle.agg_fold.specs.declared.tally.Tally.{Tally}
use Rattle.agg_fold.specs.Tallies.{tally_of, chunk_of}
use Rattle.agg_fold.specs.Coded.{IsQueryRow, HasKey, coded_key, metrics_of, metrics_with, rows_with}
use Rattle.agg_fold.specs.Places.{is_among, group_key}
use Rattle.agg_fold.specs.Standing.{StandsFor, HasGroup, HoldTotals}
use Rattle.agg_fold.specs.Totals.{AreTotals, group_rows}
use Rattle.agg_fold.proofs.Chunks.{fresh}
use Rattle.agg_fold.proofs.Parted.{head_absent, tally_folded}
use Rattle.agg_fold.proofs.Permuted.{fold_permuted, fold_filtered, filter_either, filter_all}
use Rattle.agg_fold.proofs.Standing.{count_at, chunk_here, back_of}

-- ---- the same rows in another order

module _ (group : List ℕ) (key : List ℕ) (rows others : List CodedRow) (moved : IsPermutation rows others) where
  same_fold : {B : Type 0} (F : B → List ℤ → B) → ((a : B) (x y : List ℤ) → F (F a x) y ≡ F (F a y) x) → (a : B)
      → fold F a (metrics_with group others key) ≡ fold F a (metrics_with group rows key)
  same_fold {B} F comm a =
      let test = λ (row : CodedRow). bytes_eq (coded_key group row.coords) key in
      let G = λ (b : B) (row : CodedRow). F b row.metrics in
      let H = λ (b : B) (row : CodedRow). cond (test row) (G b row) b in
      let flat = λ (rs : List CodedRow). fold-map F (λ (row : CodedRow). row.metrics) a (filter test rs) ∙ fold_filtered G test a rs in
      flat others ∙ fold_permuted H (λ b x y. swapped b x y (test x) (test y)) a rows others moved ∙ sym (flat rows)
    where
      swapped : (b : B) (x y : CodedRow) (p q : Bool) → cond q (F (cond p (F b x.metrics) b) y.metrics) (cond p (F b x.metrics) b) ≡ cond p (F (cond q (F b y.metrics) b) x.metrics) (cond q (F b y.metrics) b)
      swapped b x y true true = comm b x.metrics y.metrics
      swapped b x y true false = refl
      swapped b x y false true = refl
      swapped b x y false false = refl

  count_same : length (metrics_with group rows key) ≡ length (metrics_with group others key)
  count_same = (tally_folded (metrics_with group rows key) (metrics_with group others key) (λ B F comm a. sym (same_fold F comm a))).0

  tally_same : (item : BoundItem) → tally_of (metrics_with group rows key) item ≡ tally_of (metrics_with group others key) item
  tally_same = (tally_folded (metrics_with group rows key) (metrics_with group others key) (λ B F comm a. sym (same_fold F comm a))).1

pub stand_moved : (query : BoundQuery) (rows others : List CodedRow) (g : Groups) → IsPermutation rows others → StandsFor query rows g → StandsFor query others g
stand_moved query rows others g moved s = record {
  count = omega (arith, s.count, length_permutation rows others moved);
  few = omega (arith, s.few, length_permutation rows others moved);
  taken = All-permutation (IsQueryRow query) rows others moved s.taken;
  named = All-permutation (HasGroup query.group g.keys) rows others moved s.named;
  wide = s.wide;
  once = s.once;
  totals = record {
    counts = s.totals.counts ∙ (λ i. map (λ key. count_same query.group key rows others moved i) g.keys);
    tallies = s.totals.tallies ∙ (λ i. flat_map (λ key. map (λ item. tally_same query.group key rows others moved item i) query.items) g.keys);
  };
}

-- ---- rows whose keys are among some

abbrev pub rows_among : List ℕ → List CodedRow → List (List ℕ) → List CodedRow
rows_among group rows keys = filter (λ row. is_among keys (coded_key group row.coords)) rows

pub among_all : (group : List ℕ) (keys : List (List ℕ)) (rows : List CodedRow) → All (HasGroup group keys) rows → rows_among group rows keys ≡ rows
among_all group keys rows named = filter_all (λ row. is_among keys (coded_key group row.coords)) rows named

pub among_none : (group : List ℕ) (rows : List CodedRow) → rows_among group rows [] ≡ []
among_none group [] = refl
among_none group (row ∷ rows) = among_none group rows

-- a key is not among those after its place
fresh_after : (keys : List (List ℕ)) (h : ℕ) (key : List ℕ) → IsDistinct bytes_eq keys → slice_get keys h ≡ Some key → is_among (drop (h + 1) keys) key ≡ false
fresh_after [] h key once at = absurd (cc)
fresh_after (k ∷ keys) zero key once at =
    let e : k ≡ key = cc in
    subst (λ (l : List ℕ). is_among keys l ≡ false) e (head_absent k keys (IsDistinct-head bytes_eq k keys once))
fresh_after (k ∷ keys) (suc h) key once at =
    let e : suc (h + 1) ≡ suc h + 1 = omega arith in
    subst (λ (n : ℕ). is_among (drop n (k ∷ keys)) key ≡ false) e (fresh_after keys h key (IsDistinct-tail bytes_eq k keys once) at)

or-turned : (a b : Bool) → (a || b) ≡ (b || a)
or-turned true true = refl
or-turned true false = refl
or-turned false true = refl
or-turned false false = refl

module _ (group : List ℕ) (rows : List CodedRow) (keys : List (List ℕ)) (h : ℕ) (key : List ℕ) (once : IsDistinct bytes_eq keys) (at : slice_get keys h ≡ Some key) where
  here : h < length keys
  here = slice_get_within keys h key at

  is : get_or keys h [] ≡ key
  is = get_or_from_slice_get keys h key [] at

  apart : (others : List (List ℕ)) → is_among others key ≡ false → (row : CodedRow) → bytes_eq (coded_key group row.coords) key ≡ true → is_among others (coded_key group row.coords) ≡ false
  apart others absent row same = ap (is_among others) ((bytes_eq-Decides (coded_key group row.coords) key).0 same) ∙ absent

  pub among_more : IsPermutation (rows_among group rows (take (h + 1) keys)) (rows_among group rows (take h keys) ++ rows_with group rows key)
  among_more =
      filter_either (λ row. is_among (take h keys) (coded_key group row.coords)) (λ row. bytes_eq (coded_key group row.coords) key) (λ row. is_among (take (h + 1) keys) (coded_key group row.coords))
      (λ row. list_any_more (bytes_eq (coded_key group row.coords)) keys h [] here ∙ ap (λ (k : List ℕ). is_among (take h keys) (coded_key group row.coords) || bytes_eq (coded_key group row.coords) k) is)
      (apart (take h keys) (fresh keys h key once at)) rows

  pub among_fewer : IsPermutation (rows_among group rows (drop h keys)) (rows_among group rows (drop (h + 1) keys) ++ rows_with group rows key)
  among_fewer =
      filter_either (λ row. is_among (drop (h + 1) keys) (coded_key group row.coords)) (λ row. bytes_eq (coded_key group row.coords) key) (λ row. is_among (drop h keys) (coded_key group row.coords))
      (λ row. ap (λ (ks : List (List ℕ)). is_among ks (coded_key group row.coords)) (drop_more keys h [] here ∙ ap (λ (k : List ℕ). k ∷ drop (h + 1) keys) is) ∙ or-turned (bytes_eq (coded_key group row.coords) key) (is_among (drop (h + 1) keys) (coded_key group row.coords)))
      (apart (drop (h + 1) keys) (fresh_after keys h key once at)) rows

  pub few_more : length (rows_among group rows (take h keys)) + length (rows_with group rows key) ≤ length rows
  few_more =
      let test = λ (row : CodedRow). is_among (take (h + 1) keys) (coded_key group row.coords) in
      omega (arith, length_permutation _ _ among_more, length-append (rows_among group rows (take h keys)) (rows_with group rows key), length-filter test rows, count_by-le-length test rows)

-- ---- a group's totals

module _ (query : BoundQuery) (more : List CodedRow) (other : Groups) (t : StandsFor query more other) (i : ℕ) (h : i < length other.keys) where
  pub key_is_at : slice_get other.keys i ≡ Some (group_key other.keys i)
  key_is_at = slice_get-get_or other.keys i [] h

  pub group_totals : (d : ℕ) → AreTotals query (group_key other.keys i) (get_or other.counts.items i d) (chunk_of i (length query.items) other.tallies.items) (group_rows query other i more)
  group_totals d =
      let key = group_key other.keys i in
      let test = λ (row : CodedRow). bytes_eq (coded_key query.group row.coords) key in
      record {
        count = count_at query.items (metrics_with query.group more) other t.totals i key key_is_at d ∙ length-map (filter test more) (λ (row : CodedRow). row.metrics);
        taken = All-filter test (IsQueryRow query) more t.taken;
        keyed = All-weaker (λ row. test row ≡ true) (HasKey query.group key) (λ row e. (bytes_eq-Decides (coded_key query.group row.coords) key).0 e) (filter test more) (filter_passes test more);
        tallied = chunk_here query.items (metrics_with query.group more) other t.totals i key key_is_at;
      }

pub moved_totals : (query : BoundQuery) (more : List CodedRow) (key others : List ℕ) (n m : ℕ) (tallies told : List Tally) → key ≡ others → n ≡ m → tallies ≡ told → AreTotals query key n tallies more → AreTotals query others m told more
moved_totals query more key others n m tallies told k e t h = coe 0 1 (i. AreTotals query (k i) (e i) (t i) more) h

-- ---- the rows of others, group by group

module _ (query : BoundQuery) (rows more : List CodedRow) (other g : Groups) (t : StandsFor query more other) (i : ℕ) (h : i < length other.keys) where
  pub join_step : StandsFor query ((rows ++ rows_among query.group more (take i other.keys)) ++ group_rows query other i more) g → StandsFor query (rows ++ rows_among query.group more (take (i + 1) other.keys)) g
  join_step s =
      let a = rows_among query.group more (take i other.keys) in
      let w = group_rows query other i more in
      stand_moved query (rows ++ (a ++ w)) (rows ++ rows_among query.group more (take (i + 1) other.keys)) g
      (IsPermutation-append_right rows _ _ (IsPermutation-sym _ _ (among_more query.group more other.keys i (group_key other.keys i) t.once (key_is_at query more other t i h))))
      (subst (λ (rs : List CodedRow). StandsFor query rs g) (append_assoc rows a w) s)

  pub part_step : StandsFor query (rows ++ rows_among query.group more (drop i other.keys)) g → StandsFor query ((rows ++ rows_among query.group more (drop (i + 1) other.keys)) ++ group_rows query other i more) g
  part_step s =
      let a = rows_among query.group more (drop (i + 1) other.keys) in
      let w = group_rows query other i more in
      subst (λ (rs : List CodedRow). StandsFor query rs g) (sym (append_assoc rows a w))
      (stand_moved query (rows ++ rows_among query.group more (drop i other.keys)) (rows ++ (a ++ w)) g
      (IsPermutation-append_right rows _ _ (among_fewer query.group more other.keys i (group_key other.keys i) t.once (key_is_at query more other t i h))) s)

-- no row has a key that is not among those of the groups
pub none_of_key : (group key : List ℕ) (keys : List (List ℕ)) (rest less : List CodedRow) → is_among keys key ≡ false → All (HasKey group key) less → All (HasGroup group keys) (rest ++ less) → less ≡ []
none_of_key group key keys rest [] absent keyed named = refl
none_of_key group key keys rest (row ∷ less) absent keyed named =
    absurd (false≢true (sym absent ∙ ap (is_among keys) (sym (All-head (HasKey group key) row less keyed)) ∙ All-head (HasGroup group keys) row less (back_of (HasGroup group keys) rest (row ∷ less) named)))
