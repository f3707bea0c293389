-- The groups that have rows, and the table of their lines.
use Rattle.std.proofs.Common.{◌≡◌, ◌⊎◌, inl, inr, ℕ, zero, suc, ◌+◌, ◌<◌, ◌≤◌, ◌==◌, Bool, true, false, cond, ◌||◌, List, [], ◌∷◌, length, map, filter, fold, zero-add, option_map, drop, All, slice_get, unwrap_or, get_or, Option, Some, refl, sym, ap, ◌∙◌, subst, ⊎_elim, arith}
use Rattle.std.specs.List.{IsDistinct, AllByRecursion, Contains}
use Rattle.std.specs.List.Sorted.{IsPermutation, IsSortedBy}
use Rattle.std.specs.Ordering.{is_lt}
use Rattle.std.specs.Str.{bytes_eq}
use Rattle.std.proofs.lemmas.Bool.{cases_Bool, false≢true}
use Rattle.std.proofs.lemmas.Bool.Decides.{nat_tests}
use Rattle.std.proofs.lemmas.Cmp.{nat_list_eq_equiv}
use Rattle.std.proofs.lemmas.List.{drop_more}
use Rattle.std.proofs.lemmas.List.Elements.{All-head, All-tail, All-from_recursion}
use Rattle.std.proofs.lemmas.List.Sorted.{All-permutation, Contains-permutation, IsPermutation-map, sorted_far, ranks_by}
use Rattle.std.proofs.lemmas.Map.Keys.{IsDistinct-head, IsDistinct-tail, IsDistinct-cons, IsDistinct-IsPermutation}
use Rattle.std.proofs.lemmas.Option.{unwrap_or-slice_get, slice_get-map, slice_get_within}
use Rattle.std.proofs.lemmas.Slice.Eq.{bytes_eq-Decides}
use Rattle.cube_values.specs.declared.query.BoundItem.{BoundItem}
use Rattle.cube_values.specs.declared.query.BoundItem.TheVariants.{Group, Count, Sum, Min, Max, Avg}
use Rattle.cube_values.specs.declared.query.BoundQuery.{BoundQuery}
use Rattle.cube_values.specs.declared.row.CodedRow.{CodedRow}
use Rattle.cube_values.specs.declared.value.Value.{Value}
use Rattle.cube_values.specs.Answer.{key_of, keys_of, with_key, item_of, table_of}
use Rattle.cube_values.specs.Values.{values_cmp}
use Rattle.agg_fold.specs.declared.finish.Named.{Named}
use Rattle.agg_fold.specs.declared.groups.Groups.{Groups}
use Rattle.agg_fold.specs.Coded.{IsQueryRow, coded_key, metrics_with, row_for}
use Rattle.agg_fold.specs.Lines.{decoded_key, empty_field}
use Rattle.agg_fold.specs.Places.{is_among}
use Rattle.agg_fold.specs.Standing.{StandsFor}
use Rattle.agg_fold.specs.Tables.{named_from, key_at, values_of, AreSorted, IsIn, AreNamed, distinct_values, line_of, table_lines}
use Rattle.agg_fold.proofs.Lines.{key_is}
use Rattle.agg_fold.proofs.Order.{values_total, Rising, rising_same, keys_rising, from_keys, to_keys, ends_rising, from_ends, to_ends}
use Rattle.agg_fold.proofs.Runs.{in_values}
use Rattle.agg_fold.proofs.Standing.{none_once, count_at}
use Rattle.agg_fold.proofs.RunLines.{key_here as place_key}

-- ---- the groups that have rows

pub named_step : (lists : List (List (List ℕ))) (group : List ℕ) (p : ℕ) (keys : List (List ℕ)) (counts : List ℕ) → p < length keys → p < length counts
    → named_from lists group p (drop p keys) (drop p counts)
    ≡ cond (get_or counts p 0 == 0) (named_from lists group (p + 1) (drop (p + 1) keys) (drop (p + 1) counts))
    (record { values = decoded_key lists group (get_or keys p []); place = p } ∷ named_from lists group (p + 1) (drop (p + 1) keys) (drop (p + 1) counts))
named_step lists group p keys counts h k = λ i. named_from lists group p (drop_more keys p [] h i) (drop_more counts p 0 k i)

none_positive : (n : ℕ) → (n == 0) ≡ true → 0 < n → ⊥
none_positive n h k = grind (arith, nat_tests)

positive : (n : ℕ) → (n == 0) ≡ false → 0 < n
positive n h = grind (arith, nat_tests)

module _ (lists : List (List (List ℕ))) (group : List ℕ) (all : List (List ℕ)) (tally : List ℕ) where
  -- these stand from a place on
  abbrev StandFrom : {X : Type 0} → List X → ℕ → List X → Type 0
  StandFrom {X} whole p xs = (i : ℕ) (x : X) → slice_get xs i ≡ Some x → slice_get whole (p + i) ≡ Some x

  next : {X : Type 0} (whole : List X) (p : ℕ) (x : X) (xs : List X) → StandFrom whole p (x ∷ xs) → StandFrom whole (p + 1) xs
  next whole p x xs h i y e = let n : p + suc i ≡ p + 1 + i = omega arith in (λ k. slice_get whole (sym n k)) ∙ h (suc i) y e

  here : {X : Type 0} (whole : List X) (p : ℕ) (x : X) (xs : List X) → StandFrom whole p (x ∷ xs) → slice_get whole p ≡ Some x
  here whole p x xs h = let n : p + 0 ≡ p = omega arith in (λ k. slice_get whole (sym n k)) ∙ h 0 x refl

  -- what holds of a group with rows
  abbrev pub IsNamed : Named → Type 0
  IsNamed n = (n.place < length all) × (0 < unwrap_or (slice_get tally n.place) 0) × (n.values ≡ decoded_key lists group (key_at all n))

  pub named_all : (p : ℕ) (keys : List (List ℕ)) (counts : List ℕ) → StandFrom all p keys → StandFrom tally p counts → AllByRecursion IsNamed (named_from lists group p keys counts)
  named_all p [] counts h k = tt
  named_all p (key ∷ keys) [] h k = tt
  named_all p (key ∷ keys) (count ∷ counts) h k = at (count == 0) refl (named_all (p + 1) keys counts (next all p key keys h) (next tally p count counts k))
    where
      n : Named
      n = record { values = decoded_key lists group key; place = p }

      named : (count == 0) ≡ false → IsNamed n
      named e =
          let at = here all p key keys h in
          let some : 0 < count = positive count e in (
            slice_get_within all p key at,
            subst (λ (o : Option ℕ). 0 < unwrap_or o 0) (sym (here tally p count counts k)) some,
            ap (λ (o : Option (List ℕ)). decoded_key lists group (unwrap_or o [])) (sym at),
          )

      at : (b : Bool) → (count == 0) ≡ b → AllByRecursion IsNamed (named_from lists group (p + 1) keys counts) → AllByRecursion IsNamed (cond b (named_from lists group (p + 1) keys counts) (n ∷ named_from lists group (p + 1) keys counts))
      at true e rest = rest
      at false e rest = (named e, rest)

  key_here : (p : ℕ) (key : List ℕ) (keys : List (List ℕ)) → StandFrom all p (key ∷ keys) → (values : List Value) → key_at all (record { values = values; place = p }) ≡ key
  key_here p key keys h values = ap (λ (o : Option (List ℕ)). unwrap_or o []) (here all p key keys h)

  named_keys : (P : List ℕ → Type 0) (p : ℕ) (keys : List (List ℕ)) (counts : List ℕ) → StandFrom all p keys → AllByRecursion P keys → AllByRecursion P (map (key_at all) (named_from lists group p keys counts))
  named_keys P p [] counts h a = tt
  named_keys P p (key ∷ keys) [] h a = tt
  named_keys P p (key ∷ keys) (count ∷ counts) h a = at (count == 0) (named_keys P (p + 1) keys counts (next all p key keys h) a.1)
    where
      n : Named
      n = record { values = decoded_key lists group key; place = p }

      at : (b : Bool) → AllByRecursion P (map (key_at all) (named_from lists group (p + 1) keys counts)) → AllByRecursion P (map (key_at all) (cond b (named_from lists group (p + 1) keys counts) (n ∷ named_from lists group (p + 1) keys counts)))
      at true rest = rest
      at false rest = (subst P (sym (key_here p key keys h (decoded_key lists group key))) a.0, rest)

  pub named_once : (p : ℕ) (keys : List (List ℕ)) (counts : List ℕ) → StandFrom all p keys → IsDistinct bytes_eq keys → IsDistinct bytes_eq (map (key_at all) (named_from lists group p keys counts))
  named_once p [] counts h once = none_once
  named_once p (key ∷ keys) [] h once = none_once
  named_once p (key ∷ keys) (count ∷ counts) h once = at (count == 0) (named_once (p + 1) keys counts (next all p key keys h) (IsDistinct-tail bytes_eq key keys once))
    where
      n : Named
      n = record { values = decoded_key lists group key; place = p }

      at : (b : Bool) → IsDistinct bytes_eq (map (key_at all) (named_from lists group (p + 1) keys counts)) → IsDistinct bytes_eq (map (key_at all) (cond b (named_from lists group (p + 1) keys counts) (n ∷ named_from lists group (p + 1) keys counts)))
      at true rest = rest
      at false rest = IsDistinct-cons bytes_eq (key_at all n) (map (key_at all) (named_from lists group (p + 1) keys counts))
          (named_keys (λ k. bytes_eq (key_at all n) k ≡ false) (p + 1) keys counts (next all p key keys h)
          (subst (λ (l : List ℕ). AllByRecursion (λ k. bytes_eq l k ≡ false) keys) (sym (key_here p key keys h (decoded_key lists group key))) (IsDistinct-head bytes_eq key keys once))) rest

  pub named_has : (p : ℕ) (keys : List (List ℕ)) (counts : List ℕ) → StandFrom all p keys → (i : ℕ) (k : List ℕ) (c : ℕ) → slice_get keys i ≡ Some k → slice_get counts i ≡ Some c → 0 < c → IsIn k (map (key_at all) (named_from lists group p keys counts))
  named_has p [] counts h i k c e f some = absurd (cc)
  named_has p (key ∷ keys) [] h i k c e f some = absurd (cc)
  named_has p (key ∷ keys) (count ∷ counts) h zero k c e f some = at (count == 0) refl
    where
      n : Named
      n = record { values = decoded_key lists group key; place = p }

      same : count ≡ c
      same = cc

      at : (b : Bool) → (count == 0) ≡ b → IsIn k (map (key_at all) (cond b (named_from lists group (p + 1) keys counts) (n ∷ named_from lists group (p + 1) keys counts)))
      at true z = absurd (none_positive count z (subst (λ (m : ℕ). 0 < m) (sym same) some))
      at false z = let e' : key ≡ k = cc in inl (sym (key_here p key keys h (decoded_key lists group key) ∙ e'))
  named_has p (key ∷ keys) (count ∷ counts) h (suc i) k c e f some = at (count == 0) (named_has (p + 1) keys counts (next all p key keys h) i k c e f some)
    where
      n : Named
      n = record { values = decoded_key lists group key; place = p }

      at : (b : Bool) → IsIn k (map (key_at all) (named_from lists group (p + 1) keys counts)) → IsIn k (map (key_at all) (cond b (named_from lists group (p + 1) keys counts) (n ∷ named_from lists group (p + 1) keys counts)))
      at true rest = rest
      at false rest = inr rest

-- ---- rows and groups

among_place : (keys : List (List ℕ)) (key : List ℕ) → is_among keys key ≡ true → (i : ℕ) × (slice_get keys i ≡ Some key)
among_place [] key h = absurd (false≢true h)
among_place (k ∷ keys) key h =
    ⊎_elim
    (λ same. (0, ap Some (sym ((bytes_eq-Decides key k).0 same))))
    (λ differ. let rest = among_place keys key (ap (λ (b : Bool). b || is_among keys key) (sym differ) ∙ h) in (suc rest.0, rest.1))
    (cases_Bool (bytes_eq key k))

some_metrics : (group : List ℕ) (rows : List CodedRow) (j : ℕ) (d : CodedRow) → j < length rows → 0 < length (metrics_with group rows (coded_key group (get_or rows j d).coords))
some_metrics group [] j d h = absurd (omega arith)
some_metrics group (row ∷ rows) zero d h = first (bytes_eq (coded_key group row.coords) (coded_key group row.coords)) (nat_list_eq_equiv.refl (coded_key group row.coords))
  where
    rest : List CodedRow
    rest = filter (λ r. bytes_eq (coded_key group r.coords) (coded_key group row.coords)) rows

    first : (b : Bool) → b ≡ true → 0 < length (map (λ (r : CodedRow). r.metrics) (cond b (row ∷ rest) rest))
    first true e = omega arith
    first false e = absurd (false≢true e)
some_metrics group (row ∷ rows) (suc j) d h = more (bytes_eq (coded_key group row.coords) (coded_key group (get_or rows j d).coords)) (some_metrics group rows j d (omega arith))
  where
    rest : List CodedRow
    rest = filter (λ r. bytes_eq (coded_key group r.coords) (coded_key group (get_or rows j d).coords)) rows

    more : (b : Bool) → 0 < length (map (λ (r : CodedRow). r.metrics) rest) → 0 < length (map (λ (r : CodedRow). r.metrics) (cond b (row ∷ rest) rest))
    more true k = omega arith
    more false k = k

in_at : {X : Type 0} (xs : List X) (k : ℕ) (d : X) → k < length xs → IsIn (get_or xs k d) xs
in_at [] k d h = absurd (omega arith)
in_at (x ∷ xs) zero d h = inl refl
in_at (x ∷ xs) (suc k) d h = inr (in_at xs k d (omega arith))

in_from_contains : {X : Type 0} (xs : List X) (x : X) → Contains xs x → IsIn x xs
in_from_contains {X} xs x c = subst (λ (y : X). IsIn y xs) c.2 (in_at xs c.0 x c.1)

contains_from_in : {X : Type 0} (xs : List X) (x : X) → IsIn x xs → Contains xs x
contains_from_in [] x i = absurd i
contains_from_in (y ∷ xs) x (inl e) = (0, omega arith, sym e)
contains_from_in (y ∷ xs) x (inr i) = let c = contains_from_in xs x i in (suc c.0, omega (arith, c.1), c.2)

-- each row has its group among these
abbrev pub HasNamed : List ℕ → List (List ℕ) → List Named → CodedRow → Type 0
HasNamed group keys named row = IsIn (coded_key group row.coords) (map (key_at keys) named)

pub rows_named : (lists : List (List (List ℕ))) (query : BoundQuery) (rows : List CodedRow) (groups : Groups) → StandsFor query rows groups → All (HasNamed query.group groups.keys (named_from lists query.group 0 groups.keys groups.counts.items)) rows
rows_named lists query rows groups s j d h =
    let key = coded_key query.group (get_or rows j d).coords in
    let at = among_place groups.keys key (s.named j d h) in
    let f = λ (k : List ℕ). length (metrics_with query.group rows k) in
    named_has lists query.group groups.keys groups.counts.items 0 groups.keys groups.counts.items (λ i x e. (λ k. slice_get groups.keys (zero-add i k)) ∙ e) at.0 key (f key) at.1
    (ap (λ (xs : List ℕ). slice_get xs at.0) s.totals.counts ∙ slice_get-map f groups.keys at.0 ∙ ap (option_map f) at.1) (some_metrics query.group rows j d h)

above_from : (x : Named) (ys : List Named) → ((k : ℕ) → k < length ys → is_lt (values_cmp (get_or ys k x).values x.values) ≡ false) → AllByRecursion (λ w. is_lt (values_cmp w x.values) ≡ false) (values_of ys)
above_from x [] h = tt
above_from x (y ∷ ys) h = (h 0 (omega arith), above_from x ys (λ k l. h (suc k) (omega arith)))

sorted_from : (xs : List Named) → ((i j : ℕ) (d : Named) → i ≤ j → j < length xs → is_lt (values_cmp (get_or xs j d).values (get_or xs i d).values) ≡ false) → AreSorted (values_of xs)
sorted_from [] h = tt
sorted_from (x ∷ xs) h = (above_from x xs (λ k l. h 0 (suc k) x (omega arith) (omega arith)), sorted_from xs (λ i j d l k. h (suc i) (suc j) d (omega arith) (omega arith)))

pub named_sorted : (lists : List (List (List ℕ))) (query : BoundQuery) (rows : List CodedRow) (groups : Groups) (ns : List Named) → StandsFor query rows groups → IsPermutation (named_from lists query.group 0 groups.keys groups.counts.items) ns → IsSortedBy (λ x y. is_lt (values_cmp x.values y.values)) ns
    → AreNamed lists query rows groups ns × All (HasNamed query.group groups.keys ns) rows
named_sorted lists query rows groups ns s moved sorted =
    let keys = groups.keys in
    let counts = groups.counts.items in
    let old = named_from lists query.group 0 keys counts in
    let named = All-permutation (IsNamed lists query.group keys counts) old ns moved (All-from_recursion (IsNamed lists query.group keys counts) old (named_all lists query.group keys counts 0 keys counts (λ i x e. (λ k. slice_get keys (zero-add i k)) ∙ e) (λ i x e. (λ k. slice_get counts (zero-add i k)) ∙ e))) in
    let has : All (HasNamed query.group keys ns) rows = λ j d h. in_from_contains (map (key_at keys) ns) _ (Contains-permutation (map (key_at keys) old) (map (key_at keys) ns) _ (IsPermutation-map (key_at keys) old ns moved) (contains_from_in (map (key_at keys) old) _ (rows_named lists query rows groups s j d h))) in (
      record {
        within = λ k d h. (named k d h).0;
        some = λ k d h. (named k d h).1;
        values = λ k d h. (named k d h).2;
        once = IsDistinct-IsPermutation bytes_eq nat_list_eq_equiv.symm (map (key_at keys) old) (map (key_at keys) ns) (IsPermutation-map (key_at keys) old ns moved) (named_once lists query.group keys counts 0 keys counts (λ i x e. (λ k. slice_get keys (zero-add i k)) ∙ e) s.once);
        all = λ j d h. inl (has j d h);
        sorted = sorted_from ns (sorted_far (λ x y. is_lt (values_cmp x.values y.values)) (ranks_by values_total (λ (n : Named). n.values)) ns sorted);
      },
      has,
    )

-- ---- the table

no_rows : (group : List ℕ) (keys : List (List ℕ)) (ns : List Named) → ns ≡ [] → (rows : List CodedRow) → All (HasNamed group keys ns) rows → rows ≡ []
no_rows group keys ns none [] has = refl
no_rows group keys ns none (row ∷ rows) has = absurd (subst (λ (ms : List Named). IsIn (coded_key group row.coords) (map (key_at keys) ms)) none (All-head (HasNamed group keys ns) row rows has))

items_empty : (items : List BoundItem) → map empty_field items ≡ map (item_of []) items
items_empty [] = refl
items_empty (Group dim ∷ items) = λ i. item_of [] (Group dim) ∷ items_empty items i
items_empty (Count ∷ items) = λ i. item_of [] Count ∷ items_empty items i
items_empty (Sum m ∷ items) = λ i. item_of [] (Sum m) ∷ items_empty items i
items_empty (Min m ∷ items) = λ i. item_of [] (Min m) ∷ items_empty items i
items_empty (Max m ∷ items) = λ i. item_of [] (Max m) ∷ items_empty items i
items_empty (Avg m ∷ items) = λ i. item_of [] (Avg m) ∷ items_empty items i

ends_are : (vs ks : List (List Value)) → AreSorted vs → Rising ks → ((u : List Value) → IsIn u vs → IsIn u ks) → ((u : List Value) → IsIn u ks → IsIn u vs) → distinct_values vs ≡ ks
ends_are [] ks s r f g = rising_same [] ks tt r f g
ends_are (v ∷ vs) ks s r f g = rising_same (distinct_values (v ∷ vs)) ks (ends_rising v vs s) r (λ u i. f u (from_ends u v vs i)) (λ u i. to_ends u v vs (g u i))

module _ (lists : List (List (List ℕ))) (query : BoundQuery) where
  abbrev keys_in : List CodedRow → List (List Value)
  keys_in rows = map (key_of query.group) (map (row_for lists) rows)

  row_key : (rows : List CodedRow) (k : List ℕ) → All (IsQueryRow query) rows → 0 < length (metrics_with query.group rows k) → IsIn (decoded_key lists query.group k) (keys_in rows)
  row_key [] k taken h = absurd (omega arith)
  row_key (row ∷ rows) k taken h =
      ⊎_elim
      (λ same. inl (ap (decoded_key lists query.group) (sym ((bytes_eq-Decides (coded_key query.group row.coords) k).0 same)) ∙ key_is lists query.group row (All-head (IsQueryRow query) row rows taken).sound.group))
      (λ differ. inr (row_key rows k (All-tail (IsQueryRow query) row rows taken) (subst (λ (b : Bool). 0 < length (map (λ (r : CodedRow). r.metrics) (cond b (row ∷ rest) rest))) differ h)))
      (cases_Bool (bytes_eq (coded_key query.group row.coords) k))
    where
      rest : List CodedRow
      rest = filter (λ r. bytes_eq (coded_key query.group r.coords) k) rows

  key_row : (keys : List (List ℕ)) (ns : List Named) → All (λ n. n.values ≡ decoded_key lists query.group (key_at keys n)) ns → (rows : List CodedRow) → All (IsQueryRow query) rows → All (HasNamed query.group keys ns) rows → (u : List Value) → IsIn u (keys_in rows) → IsIn u (values_of ns)
  key_row keys ns values [] taken has u i = absurd i
  key_row keys ns values (row ∷ rows) taken has u (inl e) =
      subst (λ (w : List Value). IsIn w (values_of ns)) (key_is lists query.group row (All-head (IsQueryRow query) row rows taken).sound.group ∙ sym e)
      (in_values (key_at keys) (decoded_key lists query.group) ns (coded_key query.group row.coords) values (All-head (HasNamed query.group keys ns) row rows has))
  key_row keys ns values (row ∷ rows) taken has u (inr i) = key_row keys ns values rows (All-tail (IsQueryRow query) row rows taken) (All-tail (HasNamed query.group keys ns) row rows has) u i

  value_row : (rows : List CodedRow) (groups : Groups) → StandsFor query rows groups → (ns : List Named) → All (λ n. n.place < length groups.keys) ns → All (λ n. 0 < unwrap_or (slice_get groups.counts.items n.place) 0) ns
      → All (λ n. n.values ≡ decoded_key lists query.group (key_at groups.keys n)) ns → (u : List Value) → IsIn u (values_of ns) → IsIn u (keys_in rows)
  value_row rows groups s [] within some values u i = absurd i
  value_row rows groups s (n ∷ ns) within some values u (inl e) =
      let k = key_at groups.keys n in
      let count = count_at query.items (metrics_with query.group rows) groups s.totals n.place k (place_key groups.keys n (All-head (λ m. m.place < length groups.keys) n ns within)) 0 in
      subst (λ (w : List Value). IsIn w (keys_in rows)) (sym (e ∙ All-head (λ m. m.values ≡ decoded_key lists query.group (key_at groups.keys m)) n ns values))
      (row_key rows k s.taken (omega (arith, All-head (λ m. 0 < unwrap_or (slice_get groups.counts.items m.place) 0) n ns some, unwrap_or-slice_get groups.counts.items n.place 0, count)))
  value_row rows groups s (n ∷ ns) within some values u (inr i) =
      value_row rows groups s ns (All-tail (λ m. m.place < length groups.keys) n ns within) (All-tail (λ m. 0 < unwrap_or (slice_get groups.counts.items m.place) 0) n ns some) (All-tail (λ m. m.values ≡ decoded_key lists query.group (key_at groups.keys m)) n ns values) u i

  pub table_is : (rows : List CodedRow) (groups : Groups) (ns : List Named) → StandsFor query rows groups → AreNamed lists query rows groups ns → All (HasNamed query.group groups.keys ns) rows → (query.group ≡ [] → 0 < length ns)
      → table_lines lists query rows ns ≡ table_of query.group query.items (map (row_for lists) rows)
  table_is rows groups ns s r has some = ap (map (line_of lists query rows)) (at query.group refl)
    where
      to : (u : List Value) → IsIn u (values_of ns) → IsIn u (keys_in rows)
      to = value_row rows groups s ns r.within r.some r.values

      back : (u : List Value) → IsIn u (keys_in rows) → IsIn u (values_of ns)
      back = key_row groups.keys ns r.values rows s.taken has

      none : (g : List ℕ) → g ≡ [] → (rs : List CodedRow) → (u : List Value) → IsIn u (map (key_of g) (map (row_for lists) rs)) → IsIn u ([] ∷ [])
      none g e [] u i = absurd i
      none g e (row ∷ rs) u (inl f) = inl (f ∙ ap (λ (h : List ℕ). key_of h (row_for lists row)) e)
      none g e (row ∷ rs) u (inr i) = none g e rs u i

      fold_in : (ws : List (List Value)) (u : List Value) → IsIn u (fold with_key [] ws) → IsIn u ws
      fold_in ws u i = out (from_keys u [] ws i)
        where
          out : IsIn u [] ⊎ IsIn u ws → IsIn u ws
          out (inl j) = absurd j
          out (inr j) = j

      first : (ms : List Named) → 0 < length ms → ((u : List Value) → IsIn u (values_of ms) → IsIn u ([] ∷ [])) → IsIn [] (values_of ms)
      first [] h f = absurd (omega arith)
      first (m ∷ ms) h f = only (f m.values (inl refl))
        where
          only : IsIn m.values ([] ∷ []) → IsIn [] (values_of (m ∷ ms))
          only (inl e) = inl (sym e)
          only (inr j) = absurd j

      at : (g : List ℕ) → query.group ≡ g → distinct_values (values_of ns) ≡ keys_of g (map (row_for lists) rows)
      at [] e =
          let only = λ (u : List Value) (i : IsIn u (values_of ns)). none query.group e rows u (to u i) in
          ends_are (values_of ns) ([] ∷ []) r.sorted (tt, tt) only (λ u i. empty u i (first ns (some e) only))
        where
          empty : (u : List Value) → IsIn u ([] ∷ []) → IsIn [] (values_of ns) → IsIn u (values_of ns)
          empty u (inl f) j = subst (λ (w : List Value). IsIn w (values_of ns)) (sym f) j
          empty u (inr i) j = absurd i
      at (place ∷ g) e =
          let ws = map (key_of (place ∷ g)) (map (row_for lists) rows) in
          let same : keys_in rows ≡ ws = ap (λ (h : List ℕ). map (key_of h) (map (row_for lists) rows)) e in
          ends_are (values_of ns) (fold with_key [] ws) r.sorted (keys_rising [] ws tt)
          (λ u i. to_keys u [] ws (subst (IsIn u) same (to u i)))
          (λ u i. back u (subst (IsIn u) (sym same) (fold_in ws u i)))

  pub empty_table : (rows : List CodedRow) (groups : Groups) (ns : List Named) → All (HasNamed query.group groups.keys ns) rows → ns ≡ [] → query.group ≡ []
      → map empty_field query.items ∷ [] ≡ table_of query.group query.items (map (row_for lists) rows)
  empty_table rows groups ns has none e =
      let is_empty : rows ≡ [] = no_rows query.group groups.keys ns none rows has in
      (λ i. items_empty query.items i ∷ []) ∙ (λ i. table_of (sym e i) query.items (map (row_for lists) (sym is_empty i)))
