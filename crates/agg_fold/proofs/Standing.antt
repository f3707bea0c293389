-- What groups stand for, as they change.
use Rattle.std.proofs.Common.{◌≡◌, ℕ, zero, suc, ◌+◌, ◌<◌, ◌≤◌, ◌^◌, ℤ, get_or, option_map, FitsSigned, length-append, Bool, true, false, cond, ◌||◌, List, [], ◌∷◌, ◌++◌, length, map, filter, take, set, slice_get, Some, ◌*◌, All, refl, sym, ap, ◌∙◌, subst, ⊎_elim, arith}
use Rattle.std.specs.List.{flat_map, IsDistinct, list_any}
use Rattle.std.specs.Str.{bytes_eq}
use Rattle.std.proofs.lemmas.Bool.{cases_Bool, false≢true}
use Rattle.std.proofs.lemmas.Cmp.{nat_list_eq_equiv}
use Rattle.std.proofs.lemmas.List.{map-append, append-nil, length-map}
use Rattle.std.proofs.lemmas.List.Concat.{flat_map-append}
use Rattle.std.proofs.lemmas.List.Elements.{All-head, All-tail, All-nil, All-cons, All-push, All-weaker, All-map, All-filter, All-append, filter-append}
use Rattle.std.proofs.lemmas.List.Sums.{length-filter, count_by-le-length}
use Rattle.std.proofs.lemmas.Option.{slice_get-map, slice_get_within, get_or_from_slice_get}
use Rattle.std.specs.Int.{w64}
use Rattle.std.proofs.lemmas.List.Folds.{list_any-append, list_any_more}
use Rattle.std.proofs.lemmas.Map.Keys.{IsDistinct-push, IsDistinct-head, IsDistinct-tail, any_passes_from_place}
use Rattle.std.proofs.lemmas.Slice.Eq.{bytes_eq-Decides}
use Rattle.cube_values.specs.declared.query.BoundItem.{BoundItem}
use Rattle.cube_values.specs.declared.query.BoundQuery.{BoundQuery}
use Rattle.cube_values.specs.declared.row.CodedRow.{CodedRow}
use Rattle.agg_fold.specs.declared.groups.Groups.{Groups}
use Rattle.agg_fold.specs.Tallies.{tally_of, chunk_of, with_chunk, number_for, AreFew}
use Rattle.agg_fold.specs.Coded.{IsQueryRow, HasKey, coded_key, metrics_of, metrics_with, rows_with}
use Rattle.agg_fold.specs.Places.{is_among}
use Rattle.agg_fold.proofs.Chunks.{AgreeBut, apart_from, map_changed, chunk_changed, chunk_at, length_chunks, place_within}
use Rattle.agg_fold.specs.Standing.{HoldTotals, HasGroup, StandsFor, with_metrics}

pub none_once : IsDistinct bytes_eq []
unfolding IsDistinct
none_once = tt

pub stand_none : (query : BoundQuery) (g : Groups) → g.rows ≡ 0 → g.keys ≡ [] → g.counts.items ≡ [] → g.tallies.items ≡ [] → StandsFor query [] g
stand_none query g r k cs ce = record {
  count = r;
  few = omega arith;
  taken = All-nil (IsQueryRow query);
  named = All-nil (HasGroup query.group g.keys);
  wide = subst (λ (keys : List (List ℕ)). All (λ key. length key ≡ length query.group) keys) (sym k) (All-nil (λ key. length key ≡ length query.group));
  once = subst (λ (keys : List (List ℕ)). IsDistinct bytes_eq keys) (sym k) none_once;
  totals = record { counts = cs ∙ ap (map _) (sym k); tallies = ce ∙ ap (flat_map _) (sym k) };
}

pub stand_same : (query : BoundQuery) (rows : List CodedRow) (g h : Groups) → h.rows ≡ g.rows → h.keys ≡ g.keys → h.counts.items ≡ g.counts.items → h.tallies.items ≡ g.tallies.items → StandsFor query rows g → StandsFor query rows h
stand_same query rows g h r k cs ce s = record {
  count = r ∙ s.count;
  few = s.few;
  taken = s.taken;
  named = subst (λ (keys : List (List ℕ)). All (HasGroup query.group keys) rows) (sym k) s.named;
  wide = subst (λ (keys : List (List ℕ)). All (λ key. length key ≡ length query.group) keys) (sym k) s.wide;
  once = subst (λ (keys : List (List ℕ)). IsDistinct bytes_eq keys) (sym k) s.once;
  totals = record { counts = cs ∙ s.totals.counts ∙ ap (map _) (sym k); tallies = ce ∙ s.totals.tallies ∙ ap (flat_map _) (sym k) };
}

-- no row has a key that is not among those of the rows
pub no_metrics : (group : List ℕ) (keys : List (List ℕ)) (key : List ℕ) → is_among keys key ≡ false → (rows : List CodedRow) → All (HasGroup group keys) rows → metrics_with group rows key ≡ []
no_metrics group keys key absent [] h = refl
no_metrics group keys key absent (row ∷ rows) h =
    ⊎_elim
    (λ same. absurd (false≢true (sym absent ∙ ap (is_among keys) (sym ((bytes_eq-Decides (coded_key group row.coords) key).0 same)) ∙ All-head (HasGroup group keys) row rows h)))
    (λ differ. ap (λ (b : Bool). map (λ (r : CodedRow). r.metrics) (cond b (row ∷ filter (λ r. bytes_eq (coded_key group r.coords) key) rows) (filter (λ r. bytes_eq (coded_key group r.coords) key) rows))) differ ∙ no_metrics group keys key absent rows (All-tail (HasGroup group keys) row rows h))
    (cases_Bool (bytes_eq (coded_key group row.coords) key))

pub stand_push : (query : BoundQuery) (rows : List CodedRow) (g h : Groups) (key : List ℕ) → length key ≡ length query.group → is_among g.keys key ≡ false
    → h.rows ≡ g.rows → h.keys ≡ g.keys ++ key ∷ [] → h.counts.items ≡ g.counts.items ++ 0 ∷ [] → h.tallies.items ≡ g.tallies.items ++ map (tally_of []) query.items → StandsFor query rows g → StandsFor query rows h
stand_push query rows g h key long absent r k cs ce s = record {
  count = r ∙ s.count;
  few = s.few;
  taken = s.taken;
  named = subst (λ (keys : List (List ℕ)). All (HasGroup query.group keys) rows) (sym k) (All-weaker (HasGroup query.group g.keys) (HasGroup query.group (g.keys ++ key ∷ [])) (λ row e. list_any-append (bytes_eq (coded_key query.group row.coords)) g.keys (key ∷ []) ∙ ap (λ (b : Bool). b || list_any (bytes_eq (coded_key query.group row.coords)) (key ∷ [])) e) rows s.named);
  wide = subst (λ (keys : List (List ℕ)). All (λ key. length key ≡ length query.group) keys) (sym k) (All-push (λ key. length key ≡ length query.group) g.keys key s.wide long);
  once = subst (λ (keys : List (List ℕ)). IsDistinct bytes_eq keys) (sym k) (IsDistinct-push nat_list_eq_equiv g.keys key s.once absent);
  totals = record {
    counts = cs ∙ (λ i. s.totals.counts i ++ length (sym empty i) ∷ []) ∙ sym (map-append (λ key. length (metrics_with query.group rows key)) g.keys (key ∷ [])) ∙ ap (map _) (sym k);
    tallies = ce ∙ (λ i. s.totals.tallies i ++ sym (append-nil (map (tally_of (sym empty i)) query.items)) i) ∙ sym (flat_map-append (λ key. map (tally_of (metrics_with query.group rows key)) query.items) g.keys (key ∷ [])) ∙ ap (flat_map _) (sym k);
  };
}
  where
    empty : metrics_with query.group rows key ≡ []
    empty = no_metrics query.group g.keys key absent rows s.named

-- ---- what is kept of one key changes

pub totals_same : (items : List BoundItem) (old new : List ℕ → List (List ℤ)) (g : Groups) → ((key : List ℕ) → old key ≡ new key) → HoldTotals items old g → HoldTotals items new g
totals_same items old new g same k = record {
  counts = k.counts ∙ (λ i. map (λ key. length (same key i)) g.keys);
  tallies = k.tallies ∙ (λ i. flat_map (λ key. map (tally_of (same key i)) items) g.keys);
}

pub changed_here : (metrics : List ℕ → List (List ℤ)) (key : List ℕ) (now : List (List ℤ)) → with_metrics metrics key now key ≡ now
changed_here metrics key now = ap (λ (b : Bool). cond b now (metrics key)) (nat_list_eq_equiv.refl key)

agree_count : (metrics : List ℕ → List (List ℤ)) (key : List ℕ) (now : List (List ℤ)) → AgreeBut key (λ k. length (metrics k)) (λ k. length (with_metrics metrics key now k))
agree_count metrics key now other apart = ap (λ (b : Bool). length (cond b now (metrics other))) (sym apart)

agree_cells : (items : List BoundItem) (metrics : List ℕ → List (List ℤ)) (key : List ℕ) (now : List (List ℤ)) → AgreeBut key (λ k. map (tally_of (metrics k)) items) (λ k. map (tally_of (with_metrics metrics key now k)) items)
agree_cells items metrics key now other apart = ap (λ (b : Bool). map (tally_of (cond b now (metrics other))) items) (sym apart)

pub totals_changed : (items : List BoundItem) (metrics : List ℕ → List (List ℤ)) (g h : Groups) (key : List ℕ) (now : List (List ℤ)) (p : ℕ) → IsDistinct bytes_eq g.keys → slice_get g.keys p ≡ Some key
    → h.keys ≡ g.keys → h.counts.items ≡ set g.counts.items p (length now)
    → h.tallies.items ≡ with_chunk p (length items) g.tallies.items (map (tally_of now) items)
    → HoldTotals items metrics g → HoldTotals items (with_metrics metrics key now) h
totals_changed items metrics g h key now p once at same counts tallies k = record {
  counts = counts
      ∙ (λ i. set (k.counts i) p (length (sym (changed_here metrics key now) i)))
      ∙ map_changed key (λ q. length (metrics q)) (λ q. length (with_metrics metrics key now q)) (agree_count metrics key now) g.keys p once at
      ∙ ap (map _) (sym same);
  tallies = tallies
      ∙ (λ i. with_chunk p (length items) (k.tallies i) (map (tally_of (sym (changed_here metrics key now) i)) items))
      ∙ chunk_changed (length items) key (λ q. map (tally_of (metrics q)) items) (λ q. map (tally_of (with_metrics metrics key now q)) items) (λ q. length-map items (tally_of (metrics q))) (agree_cells items metrics key now) g.keys p once at
      ∙ ap (flat_map _) (sym same);
}

-- ---- what is kept at a place

module _ (items : List BoundItem) (metrics : List ℕ → List (List ℤ)) (g : Groups) (k : HoldTotals items metrics g) (p : ℕ) (key : List ℕ) (at : slice_get g.keys p ≡ Some key) where
  pub count_at : (d : ℕ) → get_or g.counts.items p d ≡ length (metrics key)
  count_at d =
      ap (λ (xs : List ℕ). get_or xs p d) k.counts
      ∙ get_or_from_slice_get (map (λ q. length (metrics q)) g.keys) p (length (metrics key)) d (slice_get-map (λ q. length (metrics q)) g.keys p ∙ ap (option_map (λ q. length (metrics q))) at)

  pub place_counted : p < length g.counts.items
  place_counted = omega (arith, ap length k.counts, length-map g.keys (λ q. length (metrics q)), slice_get_within g.keys p key at)

  pub chunk_here : chunk_of p (length items) g.tallies.items ≡ map (tally_of (metrics key)) items
  chunk_here = ap (chunk_of p (length items)) k.tallies ∙ chunk_at (length items) (λ q. map (tally_of (metrics q)) items) (λ q. length-map items (tally_of (metrics q))) g.keys p key at

  pub chunk_within : p * length items + length items ≤ length g.tallies.items
  chunk_within =
      let long : length g.tallies.items ≡ length g.keys * length items = ap length k.tallies ∙ length_chunks (length items) (λ q. map (tally_of (metrics q)) items) (λ q. length-map items (tally_of (metrics q))) g.keys in
      omega (arith, place_within g.keys p (length items) key at)

pub few_with : (group : List ℕ) (rows : List CodedRow) (key : List ℕ) → length (metrics_with group rows key) ≤ length rows
few_with group rows key =
    let test = λ (row : CodedRow). bytes_eq (coded_key group row.coords) key in
    omega (arith, length-map (filter test rows) (λ (row : CodedRow). row.metrics), length-filter test rows, count_by-le-length test rows)

pub few_metrics : (query : BoundQuery) (rows : List CodedRow) (key : List ℕ) → length rows < 2 ^ 63 → All (IsQueryRow query) rows → All (λ item. AreFew item (metrics_with query.group rows key)) query.items
few_metrics query rows key few taken i d within =
    let test = λ (row : CodedRow). bytes_eq (coded_key query.group row.coords) key in
    let fits = λ (m : List ℤ). FitsSigned w64 (number_for (get_or query.items i d) m) in
    record {
      fit = All-map fits (λ (row : CodedRow). row.metrics) (filter test rows) (All-filter test (λ row. fits row.metrics) rows (All-weaker (IsQueryRow query) (λ row. fits row.metrics) (λ row h. h.fit i d within) rows taken));
      few = omega (arith, few_with query.group rows key);
    }

-- rows of one key are few, and an item asks of them for numbers of 64 bits
pub few_rows : (query : BoundQuery) (rows : List CodedRow) → length rows < 2 ^ 63 → All (IsQueryRow query) rows → All (λ item. AreFew item (metrics_of rows)) query.items
few_rows query rows few taken i d within =
    let fits = λ (m : List ℤ). FitsSigned w64 (number_for (get_or query.items i d) m) in
    record {
      fit = All-map fits (λ (row : CodedRow). row.metrics) rows (All-weaker (IsQueryRow query) (λ row. fits row.metrics) (λ row h. h.fit i d within) rows taken);
      few = omega (arith, length-map rows (λ (row : CodedRow). row.metrics));
    }

-- ---- rows of one key come and go

pub metrics_append : (group : List ℕ) (rows more : List CodedRow) (key : List ℕ) → metrics_with group (rows ++ more) key ≡ metrics_with group rows key ++ metrics_with group more key
metrics_append group rows more key =
    let test = λ (row : CodedRow). bytes_eq (coded_key group row.coords) key in
    ap (map (λ (row : CodedRow). row.metrics)) (filter-append test rows more) ∙ map-append (λ (row : CodedRow). row.metrics) (filter test rows) (filter test more)

keyed_here : (group key : List ℕ) (more : List CodedRow) → All (HasKey group key) more → rows_with group more key ≡ more
keyed_here group key [] h = refl
keyed_here group key (row ∷ more) h =
    ap (λ (b : Bool). cond b (row ∷ rows_with group more key) (rows_with group more key)) ((bytes_eq-Decides (coded_key group row.coords) key).1 (All-head (HasKey group key) row more h))
    ∙ ap (λ (l : List CodedRow). row ∷ l) (keyed_here group key more (All-tail (HasKey group key) row more h))

keyed_apart : (group key other : List ℕ) (more : List CodedRow) → bytes_eq key other ≡ false → All (HasKey group key) more → rows_with group more other ≡ []
keyed_apart group key other [] apart h = refl
keyed_apart group key other (row ∷ more) apart h =
    ap (λ (b : Bool). cond b (row ∷ rows_with group more other) (rows_with group more other)) (ap (λ (k : List ℕ). bytes_eq k other) (All-head (HasKey group key) row more h) ∙ apart)
    ∙ keyed_apart group key other more apart (All-tail (HasKey group key) row more h)

-- the metrics of each key, with those of more rows of one key, are those of all these rows
metrics_gained : (group : List ℕ) (rows more : List CodedRow) (key : List ℕ) → All (HasKey group key) more → (other : List ℕ)
    → with_metrics (metrics_with group rows) key (metrics_with group rows key ++ metrics_of more) other ≡ metrics_with group (rows ++ more) other
metrics_gained group rows more key keyed other =
    let now = λ (b : Bool). cond b (metrics_with group rows key ++ metrics_of more) (metrics_with group rows other) in
    ⊎_elim
    (λ same.
    let e : key ≡ other = (bytes_eq-Decides key other).0 same in
    ap now same
    ∙ (λ i. metrics_with group rows key ++ metrics_of (sym (keyed_here group key more keyed) i))
    ∙ (λ i. metrics_with group rows (e i) ++ metrics_with group more (e i)))
    (λ differ.
    ap now differ
    ∙ sym (append-nil (metrics_with group rows other))
    ∙ (λ i. metrics_with group rows other ++ metrics_of (sym (keyed_apart group key other more differ keyed) i)))
    (cases_Bool (bytes_eq key other))
    ∙ sym (metrics_append group rows more other)

metrics_lost : (group : List ℕ) (rest less : List CodedRow) (key : List ℕ) → All (HasKey group key) less → (other : List ℕ)
    → with_metrics (metrics_with group (rest ++ less)) key (metrics_with group rest key) other ≡ metrics_with group rest other
metrics_lost group rest less key keyed other =
    let now = λ (b : Bool). cond b (metrics_with group rest key) (metrics_with group (rest ++ less) other) in
    ⊎_elim
    (λ same. ap now same ∙ ap (metrics_with group rest) ((bytes_eq-Decides key other).0 same))
    (λ differ.
    ap now differ
    ∙ metrics_append group rest less other
    ∙ (λ i. metrics_with group rest other ++ metrics_of (keyed_apart group key other less differ keyed i))
    ∙ append-nil (metrics_with group rest other))
    (cases_Bool (bytes_eq key other))

-- of rows of one key, all metrics are those of the key
pub keyed_metrics : (group : List ℕ) (rest less : List CodedRow) (key : List ℕ) → All (HasKey group key) less → metrics_with group (rest ++ less) key ≡ metrics_with group rest key ++ metrics_of less
keyed_metrics group rest less key keyed = metrics_append group rest less key ∙ (λ i. metrics_with group rest key ++ metrics_of (keyed_here group key less keyed i))

pub stand_gained : (query : BoundQuery) (rows more : List CodedRow) (key : List ℕ) (g h : Groups) → length rows + length more < 2 ^ 63 → All (IsQueryRow query) more → All (HasKey query.group key) more → is_among g.keys key ≡ true
    → h.rows ≡ g.rows + length more → h.keys ≡ g.keys
    → HoldTotals query.items (with_metrics (metrics_with query.group rows) key (metrics_with query.group rows key ++ metrics_of more)) h
    → StandsFor query rows g → StandsFor query (rows ++ more) h
stand_gained query rows more key g h few taken keyed among r k totals s = record {
  count = omega (arith, r, s.count, length-append rows more);
  few = omega (arith, length-append rows more);
  taken = All-append (IsQueryRow query) rows more s.taken taken;
  named = subst (λ (keys : List (List ℕ)). All (HasGroup query.group keys) (rows ++ more)) (sym k) (All-append (HasGroup query.group g.keys) rows more s.named (All-weaker (HasKey query.group key) (HasGroup query.group g.keys) (λ row e. ap (is_among g.keys) e ∙ among) more keyed));
  wide = subst (λ (keys : List (List ℕ)). All (λ key. length key ≡ length query.group) keys) (sym k) s.wide;
  once = subst (λ (keys : List (List ℕ)). IsDistinct bytes_eq keys) (sym k) s.once;
  totals = totals_same query.items _ (metrics_with query.group (rows ++ more)) h (metrics_gained query.group rows more key keyed) totals;
}

front_of : {X : Type 0} (P : X → Type 0) (xs ys : List X) → All P (xs ++ ys) → All P xs
front_of P [] ys h = All-nil P
front_of P (x ∷ xs) ys h = All-cons P x xs (All-head P x (xs ++ ys) h) (front_of P xs ys (All-tail P x (xs ++ ys) h))

pub back_of : {X : Type 0} (P : X → Type 0) (xs ys : List X) → All P (xs ++ ys) → All P ys
back_of P [] ys h = h
back_of P (x ∷ xs) ys h = back_of P xs ys (All-tail P x (xs ++ ys) h)

pub stand_lost : (query : BoundQuery) (rest less : List CodedRow) (key : List ℕ) (g h : Groups) → All (HasKey query.group key) less
    → h.rows + length less ≡ g.rows → h.keys ≡ g.keys
    → HoldTotals query.items (with_metrics (metrics_with query.group (rest ++ less)) key (metrics_with query.group rest key)) h
    → StandsFor query (rest ++ less) g → StandsFor query rest h
stand_lost query rest less key g h keyed r k totals s = record {
  count = omega (arith, r, s.count, length-append rest less);
  few = omega (arith, s.few, length-append rest less);
  taken = front_of (IsQueryRow query) rest less s.taken;
  named = subst (λ (keys : List (List ℕ)). All (HasGroup query.group keys) rest) (sym k) (front_of (HasGroup query.group g.keys) rest less s.named);
  wide = subst (λ (keys : List (List ℕ)). All (λ key. length key ≡ length query.group) keys) (sym k) s.wide;
  once = subst (λ (keys : List (List ℕ)). IsDistinct bytes_eq keys) (sym k) s.once;
  totals = totals_same query.items _ (metrics_with query.group rest) h (metrics_lost query.group rest less key keyed) totals;
}

pub among_from_place : (keys : List (List ℕ)) (p : ℕ) (key : List ℕ) → slice_get keys p ≡ Some key → is_among keys key ≡ true
among_from_place keys p key at = any_passes_from_place (bytes_eq key) keys p key at (nat_list_eq_equiv.refl key)
