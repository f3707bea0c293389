-- The entries that a purge leaves, over the rows that it spares, in the core's words.
use Rattle.std.proofs.Common.{◌≡◌, ℕ, ◌+◌, ◌-◌, ◌*◌, ◌<◌, ◌≤◌, ◌==◌, ◌&&◌, ◌||◌, not, nat_le, nat_lt, Bool, true, false, cond, if◌then◌else◌, List, [], ◌∷◌, Some, length, take, drop, get_or, refl, sym, ap, subst, ◌∙◌, arith}
use Rattle.std.specs.List.{items_where_true, list_any}
use Rattle.std.specs.Option.{option_map_or}
use Rattle.std.proofs.lemmas.Bool.Decides.{nat_tests}
use Rattle.std.proofs.lemmas.List.FromFn.{get_or-map-range_with_len}
use Rattle.cube_values.specs.declared.entry.Entry.{Entry}
use Rattle.cube_values.specs.declared.entry.Entry.TheVariants.{Run, Mark}
use Rattle.cube_values.specs.declared.row.CodedRow.{CodedRow}
use Rattle.cube_values.specs.EpochsVector.{IsVector, Leads, epoch_at, mark_hides, rows_of}
use Rattle.epochs_vector.specs.Without.{set_bits_before}
use Rattle.epochs_vector.proofs.Ends.{vector_rows}
use Rattle.epochs_vector.proofs.VisibleRows.{in_run, lead_up, past_run}
use Rattle.purge_plan.specs.Purged.{counted_entries, is_removed_by, is_spared, spared_bits}
use Rattle.purge_plan.proofs.Counts.{counted_new, counted_old, leads_kept, length-kept, rows_alike}
use Rattle.core_events.specs.ShardView.{BrickEntry, RowRun, RowMark, EpochSet, entries_after_purge, epochs_above, every_epoch, is_below_mark, is_up_to, rows_where}
use Rattle.shard_views.proofs.Alike.{view_from}
use Rattle.shard_events.proofs.Merged.{AreLater}
use Rattle.shard_views.proofs.Rollbacks.{segment}

-- the epochs whose rows the old marks among entries leave where they stood before them
abbrev pub epochs_left : ℕ → List Entry → EpochSet
epochs_left p [] = every_epoch
epochs_left p (Run k end ∷ es) = epochs_left p es
epochs_left p (Mark k at ∷ es) = if nat_le k p then epochs_above k (epochs_left p es) else epochs_left p es

-- an old mark removes the rows that stood before it of its epoch and lower ones
removes : (old left : Bool) (j k at i : ℕ) → i < at → ((old && mark_hides k at j i) || not left) ≡ not (if old then left && nat_lt k j else left)
removes true true j k at i l = grind (arith, nat_tests)
removes true false j k at i l = or_true (mark_hides k at j i) where
  or_true : (b : Bool) → (b || true) ≡ true
  or_true true = refl
  or_true false = refl
removes false left j k at i l = refl

if_left : (t : Bool) (k j : ℕ) (left : EpochSet) → (if t then epochs_above k left else left) j ≡ (if t then left j && nat_lt k j else left j)
if_left true k j left = refl
if_left false k j left = refl

removed_before : (p j : ℕ) (es : List Entry) (n to i : ℕ) → Leads n es to → i < n → list_any (is_removed_by p j i) es ≡ not (epochs_left p es j)
removed_before p j [] n to i l m = refl
removed_before p j (Run k end ∷ es) n to i l m = removed_before p j es end to i l.1 (omega (arith, l.0))
removed_before p j (Mark k at ∷ es) n to i l m =
    ap (λ b. (nat_le k p && mark_hides k at j i) || b) (removed_before p j es n to i l.1 m)
    ∙ removes (nat_le k p) (epochs_left p es j) j k at i (omega (arith, l.0))
    ∙ ap not (sym (if_left (nat_le k p) k j (epochs_left p es)))

-- row i is left: neither older entries remove it nor those that come
abbrev is_left : ℕ → List BrickEntry → List Entry → ℕ → Bool
is_left p older es i = not (option_map_or (λ j. is_below_mark (is_up_to p) j older || list_any (is_removed_by p j i) es) (epoch_at es i) false)

-- the bits are true to the rows from n on
pub record AreTrue (p : ℕ) (bits : List Bool) (older : List BrickEntry) (es : List Entry) (n : ℕ) : Type 0 where
  pub leads : Leads n es (length bits)
  pub left : (i : ℕ) → n ≤ i → i < length bits → get_or bits i false ≡ is_left p older es i

-- past a mark
mark_passed : (old lower below any here : Bool) → here ≡ lower → (below || ((old && here) || any)) ≡ (((old && lower) || below) || any)
mark_passed old lower below any here e = ap (λ b. below || ((old && b) || any)) e ∙ swapped (old && lower) below any where
  swapped : (a b c : Bool) → (b || (a || c)) ≡ ((a || b) || c)
  swapped true true c = refl
  swapped true false c = refl
  swapped false true c = refl
  swapped false false c = refl

not_before : (j k at i : ℕ) → at ≤ i → mark_hides k at j i ≡ nat_lt j k
not_before j k at i l = grind (arith, nat_tests)

past_mark : (p : ℕ) (bits : List Bool) (older : List BrickEntry) (k at : ℕ) (es : List Entry) (n : ℕ) → AreTrue p bits older (Mark k at ∷ es) n → AreTrue p bits (RowMark k ∷ older) es n
past_mark p bits older k at es n h = record {
  leads = h.leads.1;
  left = λ i l m. h.left i l m ∙ (λ t. not (option_map_or (λ j. mark_passed (nat_le k p) (nat_lt j k) (is_below_mark (is_up_to p) j older) (list_any (is_removed_by p j i) es) (mark_hides k at j i) (not_before j k at i (omega (arith, h.leads.0, l))) t) (epoch_at es i) false));
}

past_run_left : (p : ℕ) (bits : List Bool) (older : List BrickEntry) (j end : ℕ) (rows : List CodedRow) (es : List Entry) (n : ℕ) → AreTrue p bits older (Run j end ∷ es) n → AreTrue p bits (RowRun j rows ∷ older) es end
past_run_left p bits older j end rows es n h = record {
  leads = h.leads.1;
  left = λ i l m. h.left i (omega (arith, h.leads.0, l)) m ∙ ap (λ o. not (option_map_or (λ j. is_below_mark (is_up_to p) j older || list_any (is_removed_by p j i) es) o false)) (past_run es j end i l);
}

spared : (left below : Bool) → not (below || not left) ≡ (left && not below)
spared true true = refl
spared true false = refl
spared false true = refl
spared false false = refl

in_run_left : (p : ℕ) (bits : List Bool) (older : List BrickEntry) (j end : ℕ) (es : List Entry) (n : ℕ) → AreTrue p bits older (Run j end ∷ es) n → (i : ℕ) → n ≤ i → i < end → get_or bits i false ≡ (epochs_left p es j && not (is_below_mark (is_up_to p) j older))
in_run_left p bits older j end es n h i l m =
    let up = lead_up end es (length bits) h.leads.1 in
    h.left i l (omega (arith, up, m))
    ∙ ap (λ o. not (option_map_or (λ j. is_below_mark (is_up_to p) j older || list_any (is_removed_by p j i) es) o false)) (in_run es j end i m)
    ∙ ap (λ b. not (is_below_mark (is_up_to p) j older || b)) (removed_before p j es end (length bits) i h.leads.1 m)
    ∙ spared (epochs_left p es j) (is_below_mark (is_up_to p) j older)

-- the rows of a run, all of which stay or none
rows_left : (bits : List Bool) (rows : List CodedRow) → length rows ≡ length bits → (n end : ℕ) → n ≤ end → end ≤ length bits → (b : Bool) → ((i : ℕ) → n ≤ i → i < end → get_or bits i false ≡ b)
    → take (set_bits_before bits end - set_bits_before bits n) (drop (set_bits_before bits n) (items_where_true bits rows)) ≡ rows_where b (take (end - n) (drop n rows))
rows_left bits rows long n end l m true h =
    let count = rows_alike bits n end true l m h in
    ap (λ k. take k (drop (set_bits_before bits n) (items_where_true bits rows))) (let same : set_bits_before bits end - set_bits_before bits n ≡ end - n = omega (arith, count) in same)
    ∙ segment bits rows long n end l m h
rows_left bits rows long n end l m false h =
    let count = rows_alike bits n end false l m h in
    ap (λ k. take k (drop (set_bits_before bits n) (items_where_true bits rows))) (let same : set_bits_before bits end - set_bits_before bits n ≡ 0 = omega (arith, count) in same)

module _ (p : ℕ) (bits : List Bool) (rows : List CodedRow) (long : length rows ≡ length bits) where
  abbrev stay : List CodedRow
  stay = items_where_true bits rows

  abbrev at : ℕ → ℕ
  at n = set_bits_before bits n

  pub spared_view : (es : List Entry) (n : ℕ) (older gone : List BrickEntry) → AreTrue p bits older es n → gone ≡ entries_after_purge (epochs_left p es) p older → view_from gone (at n) stay (counted_entries p bits es) ≡ entries_after_purge every_epoch p (view_from older n rows es)
  spared_view [] n older gone h e = e
  spared_view (Run j end ∷ es) n older gone h e =
      let up = lead_up end es (length bits) h.leads.1 in
      let some : List CodedRow = take (end - n) (drop n rows) in
      let part = rows_left bits rows long n end (omega (arith, h.leads.0)) up (epochs_left p es j && not (is_below_mark (is_up_to p) j older)) (in_run_left p bits older j end es n h) in
      spared_view es end (RowRun j some ∷ older) (RowRun j (take (at end - at n) (drop (at n) stay)) ∷ gone) (past_run_left p bits older j end some es n h) (λ t. RowRun j (part t) ∷ e t)
  spared_view (Mark k m ∷ es) n older gone h e =
      by_test (λ next q. spared_view es n (RowMark k ∷ older) next (past_mark p bits older k m es n h) q) (nat_le k p) refl where
        by_test : ((next : List BrickEntry) → next ≡ entries_after_purge (epochs_left p es) p (RowMark k ∷ older) → view_from next (at n) stay (counted_entries p bits es) ≡ entries_after_purge every_epoch p (view_from (RowMark k ∷ older) n rows es)) → (t : Bool) → nat_le k p ≡ t → view_from gone (at n) stay (counted_entries p bits (Mark k m ∷ es)) ≡ entries_after_purge every_epoch p (view_from (RowMark k ∷ older) n rows es)
        by_test again true f =
            ap (view_from gone (at n) stay) (counted_old p bits k m es f)
            ∙ again gone (e
            ∙ ap (λ b. entries_after_purge (if b then epochs_above k (epochs_left p es) else epochs_left p es) p older) f
            ∙ sym (ap (λ b. if b then entries_after_purge (epochs_above k (epochs_left p es)) p older else RowMark k ∷ entries_after_purge (epochs_left p es) p older) f))
        by_test again false f =
            ap (view_from gone (at n) stay) (counted_new p bits k m es f)
            ∙ again (RowMark k ∷ gone) (ap (λ l. RowMark k ∷ l) (e ∙ ap (λ b. entries_after_purge (if b then epochs_above k (epochs_left p es) else epochs_left p es) p older) f)
            ∙ sym (ap (λ b. if b then entries_after_purge (epochs_above k (epochs_left p es)) p older else RowMark k ∷ entries_after_purge (epochs_left p es) p older) f))

-- the whole vector
pub all_true : (p : ℕ) (es : List Entry) (rows : ℕ) → IsVector es rows → AreTrue p (spared_bits p es) [] es 0
all_true p es rows v = record {
  leads = leads_kept p es rows v;
  left = λ i l m. get_or-map-range_with_len (is_spared p es) 0 (rows_of es) i i false (omega (arith, m, length-kept p es rows v, vector_rows es rows v)) (omega arith);
}

-- the marks that are left are later ones
pub counted_later : (p : ℕ) (bits : List Bool) (es : List Entry) → AreLater p (counted_entries p bits es)
counted_later p bits [] = tt
counted_later p bits (Run k end ∷ es) = counted_later p bits es
counted_later p bits (Mark k at ∷ es) = by_test (counted_later p bits es) (nat_le k p) refl where
  by_test : AreLater p (counted_entries p bits es) → (t : Bool) → nat_le k p ≡ t → AreLater p (counted_entries p bits (Mark k at ∷ es))
  by_test rest true h = subst (AreLater p) (sym (counted_old p bits k at es h)) rest
  by_test rest false h = subst (AreLater p) (sym (counted_new p bits k at es h)) ((let l : p < k = grind (arith, nat_tests) in l), rest)
