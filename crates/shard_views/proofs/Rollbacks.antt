-- What a rollback makes of a brick, in the core's words.
use Rattle.std.proofs.Common.{◌≡◌, ℕ, zero, suc, ◌+◌, ◌-◌, ◌<◌, ◌≤◌, ◌==◌, not, Bool, true, false, cond, List, [], ◌∷◌, ◌++◌, length, take, drop, get_or, fold, refl, sym, ap, subst, ◌∙◌, arith, append_assoc, append-nil}
use Rattle.std.specs.List.{items_where_true}
use Rattle.std.proofs.lemmas.List.{get_or-drop, length-drop, length-take-le, take-append-drop}
use Rattle.std.proofs.Math.Seq.{drop-append_seam}
use Rattle.cube_values.specs.BitRows.{set_bits}
use Rattle.cube_values.specs.declared.entry.Entry.{Entry}
use Rattle.cube_values.specs.declared.entry.Entry.TheVariants.{Run, Mark}
use Rattle.cube_values.specs.declared.row.CodedRow.{CodedRow}
use Rattle.cube_values.specs.EpochsVector.{Leads, rows_after, vector_with_entry}
use Rattle.cube_rounds.specs.Bricks.{entries_with_rows}
use Rattle.epochs_vector.specs.Without.{other_entries, set_bits_before, staying_bits}
use Rattle.epochs_vector.proofs.Ends.{lead_more, vector_rows}
use Rattle.epochs_vector.proofs.WhatStays.{IsLeft, IsNext, counted_other, counted_same, lead_others, left_whole, length-staying, one_on, others_other, others_same}
use Rattle.brick_columns.proofs.KeptItems.{kept_length}
use Rattle.brick_map.specs.Births.{BrickContent, content_without}
use Rattle.core_events.specs.ShardView.{BrickEntry, RowRun, RowMark, entries_without_epoch}
use Rattle.shard_views.specs.Views.{IsWholeContent, RollsBackTheSame, brick_view}
use Rattle.shard_views.proofs.Alike.{AreAlike, show_alike, alike_newest, alike_same, alike_then, joined_alike, leads_push, view_from}
use Rattle.shard_views.proofs.Items.{items_append}

-- entries that are put one after another show as they do in a row
view_append : (xs ys : List Entry) (rows : List CodedRow) (n to : ℕ) (older : List BrickEntry) → Leads n xs to → view_from older n rows (xs ++ ys) ≡ view_from (view_from older n rows xs) to rows ys
view_append [] ys rows n to older l = ap (λ k. view_from older k rows ys) l
view_append (Run k end ∷ xs) ys rows n to older l = view_append xs ys rows end to (RowRun k (take (end - n) (drop n rows)) ∷ older) l.1
view_append (Mark k at ∷ xs) ys rows n to older l = view_append xs ys rows n to (RowMark k ∷ older) l.1

lead_first : (y : Entry) (ys : List Entry) (m to : ℕ) → Leads m (y ∷ ys) to → Leads m (y ∷ []) (rows_after y) × Leads (rows_after y) ys to
lead_first (Run j end) ys m to l = ((l.0, refl), l.1)
lead_first (Mark j at) ys m to l = ((l.0, sym l.0), subst (λ n. Leads n ys to) (sym l.0) l.1)

fold_alike : (ys xs : List Entry) (rows : List CodedRow) (m to : ℕ) → Leads 0 xs m → Leads m ys to → AreAlike (view_from [] 0 rows (fold vector_with_entry xs ys)) (view_from [] 0 rows (xs ++ ys))
fold_alike [] xs rows m to l k = alike_same (view_from [] 0 rows xs) (view_from [] 0 rows (xs ++ [])) (ap (view_from [] 0 rows) (sym (append-nil xs)))
fold_alike (y ∷ ys) xs rows m to l k =
    let next = lead_first y ys m to k in
    let joined : List Entry = vector_with_entry xs y in
    let apart : List Entry = xs ++ y ∷ [] in
    let n : ℕ = rows_after y in
    let a : List BrickEntry = view_from [] 0 rows joined in
    let b : List BrickEntry = view_from [] 0 rows apart in
    let one = lead_more xs y 0 m n l next.0 in
    let two = leads_push xs y 0 m n l next.0 in
    let all = fold_alike ys joined rows n to one next.1 in
    let parted = joined_alike xs y rows 0 n [] two in
    let later = alike_newest (entries_with_rows n rows ys) a b parted in
    alike_then (view_from [] 0 rows (fold vector_with_entry joined ys)) (view_from [] 0 rows (joined ++ ys)) (view_from [] 0 rows (xs ++ y ∷ ys)) all
    (alike_then (view_from [] 0 rows (joined ++ ys)) (view_from a n rows ys) (view_from [] 0 rows (xs ++ y ∷ ys)) (alike_same (view_from [] 0 rows (joined ++ ys)) (view_from a n rows ys) (view_append joined ys rows 0 n [] one))
    (alike_then (view_from a n rows ys) (view_from b n rows ys) (view_from [] 0 rows (xs ++ y ∷ ys)) later
    (alike_same (view_from b n rows ys) (view_from [] 0 rows (xs ++ y ∷ ys)) (sym (view_append apart ys rows 0 n [] two) ∙ ap (view_from [] 0 rows) (append_assoc xs (y ∷ []) ys)))))

-- rows that all stay, in front
front_all : (m : ℕ) (bits : List Bool) (rows : List CodedRow) → length rows ≡ length bits → m ≤ length bits → ((i : ℕ) → i < m → get_or bits i false ≡ true) → take m (items_where_true bits rows) ≡ take m rows
front_all zero bits rows e l h = refl
front_all (suc m) [] rows e l h = absurd (omega arith)
front_all (suc m) (b ∷ bits) [] e l h = absurd (omega arith)
front_all (suc m) (true ∷ bits) (x ∷ rows) e l h = ap (λ l. x ∷ l) (front_all m bits rows (omega arith) (omega arith) (λ i p. h (suc i) (omega arith)))
front_all (suc m) (false ∷ bits) (x ∷ rows) e l h = let never : false ≡ true = h 0 (omega arith) in cc

module _ (bits : List Bool) (rows : List CodedRow) (long : length rows ≡ length bits) where
  abbrev pub kept : List CodedRow
  kept = items_where_true bits rows

  abbrev pub before : ℕ → ℕ
  before n = set_bits_before bits n

  -- the rows that stay from a place on
  left_from : (n : ℕ) → n ≤ length bits → drop (before n) kept ≡ items_where_true (drop n bits) (drop n rows)
  left_from n l =
      let some = length-take-le n bits l in
      let few = length-take-le n rows (omega (arith, long)) in
      let first : List CodedRow = items_where_true (take n bits) (take n rows) in
      let rest : List CodedRow = items_where_true (drop n bits) (drop n rows) in
      let parts : kept ≡ first ++ rest =
      (λ t. items_where_true (sym (take-append-drop n bits) t) (sym (take-append-drop n rows) t)) ∙ items_append (take n bits) (drop n bits) (take n rows) (drop n rows) (some ∙ sym few) in
      let count : length first ≡ before n = kept_length (take n bits) (take n rows) (few ∙ sym some) in
      ap (drop (before n)) parts ∙ ap (λ m. drop m (first ++ rest)) (sym count) ∙ drop-append_seam first rest

  pub segment : (n end : ℕ) → n ≤ end → end ≤ length bits → ((i : ℕ) → n ≤ i → i < end → get_or bits i false ≡ true) → take (end - n) (drop (before n) kept) ≡ take (end - n) (drop n rows)
  segment n end l m h =
      let some = length-drop n bits in
      let few = length-drop n rows in
      ap (take (end - n)) (left_from n (omega (arith, l, m)))
      ∙ front_all (end - n) (drop n bits) (drop n rows) (omega (arith, some, few, long)) (omega (arith, some, l, m)) (λ i p. get_or-drop n bits i false ∙ h (n + i) (omega arith) (omega (arith, p, l)))

  -- the entries that stay, over the rows that stay
  kept_view : (k : ℕ) (es : List Entry) (n : ℕ) (older gone : List BrickEntry) → IsLeft k bits es n → gone ≡ entries_without_epoch k older → view_from gone (before n) kept (other_entries k bits es) ≡ entries_without_epoch k (view_from older n rows es)
  kept_view k [] n older gone l e = e
  kept_view k (Run j end ∷ es) n older gone l e = by_test (one_on k bits (Run j end) es n l) (λ o g p. kept_view k es end o g (one_on k bits (Run j end) es n l).next p) (j == k) refl where
    by_test : IsNext k bits (Run j end) es n → ((o g : List BrickEntry) → g ≡ entries_without_epoch k o → view_from g (before end) kept (other_entries k bits es) ≡ entries_without_epoch k (view_from o end rows es)) → (t : Bool) → (j == k) ≡ t → view_from gone (before n) kept (other_entries k bits (Run j end ∷ es)) ≡ entries_without_epoch k (view_from (RowRun j (take (end - n) (drop n rows)) ∷ older) end rows es)
    by_test next again true h =
        ap (view_from gone (before n) kept) (others_same k bits (Run j end) es h)
        ∙ ap (λ m. view_from gone m kept (other_entries k bits es)) (sym (counted_same k bits (Run j end) es n next h))
        ∙ again (RowRun j (take (end - n) (drop n rows)) ∷ older) gone (e ∙ sym (ap (λ t. cond t (entries_without_epoch k older) (RowRun j (take (end - n) (drop n rows)) ∷ entries_without_epoch k older)) h))
    by_test next again false h =
        let count = counted_other k bits (Run j end) es n next h in
        let part : take (before end - before n) (drop (before n) kept) ≡ take (end - n) (drop n rows) =
        ap (λ m. take m (drop (before n) kept)) (let same : before end - before n ≡ end - n = omega (arith, count) in same)
        ∙ segment n end next.order next.within (λ i p q. next.here i p q ∙ ap not h) in
        ap (view_from gone (before n) kept) (others_other k bits (Run j end) es h)
        ∙ ap (λ r. view_from (RowRun j r ∷ gone) (before end) kept (other_entries k bits es)) part
        ∙ again (RowRun j (take (end - n) (drop n rows)) ∷ older) (RowRun j (take (end - n) (drop n rows)) ∷ gone) (ap (λ l. RowRun j (take (end - n) (drop n rows)) ∷ l) e ∙ sym (ap (λ t. cond t (entries_without_epoch k older) (RowRun j (take (end - n) (drop n rows)) ∷ entries_without_epoch k older)) h))
  kept_view k (Mark j at ∷ es) n older gone l e = by_test (λ o g p. kept_view k es n o g (subst (IsLeft k bits es) l.leads.0 (one_on k bits (Mark j at) es n l).next) p) (j == k) refl where
    by_test : ((o g : List BrickEntry) → g ≡ entries_without_epoch k o → view_from g (before n) kept (other_entries k bits es) ≡ entries_without_epoch k (view_from o n rows es)) → (t : Bool) → (j == k) ≡ t → view_from gone (before n) kept (other_entries k bits (Mark j at ∷ es)) ≡ entries_without_epoch k (view_from (RowMark j ∷ older) n rows es)
    by_test again true h =
        ap (view_from gone (before n) kept) (others_same k bits (Mark j at) es h)
        ∙ again (RowMark j ∷ older) gone (e ∙ sym (ap (λ t. cond t (entries_without_epoch k older) (RowMark j ∷ entries_without_epoch k older)) h))
    by_test again false h =
        ap (view_from gone (before n) kept) (others_other k bits (Mark j at) es h)
        ∙ again (RowMark j ∷ older) (RowMark j ∷ gone) (ap (λ l. RowMark j ∷ l) e ∙ sym (ap (λ t. cond t (entries_without_epoch k older) (RowMark j ∷ entries_without_epoch k older)) h))

pub rolled_back_alike : (k : ℕ) (c : BrickContent) → IsWholeContent c → AreAlike (brick_view (content_without k c)) (entries_without_epoch k (brick_view c))
rolled_back_alike k c v =
    let bits : List Bool = staying_bits k c.entries in
    let rows : List CodedRow = items_where_true bits c.rows in
    let long : length c.rows ≡ length bits = sym (length-staying k c.entries ∙ vector_rows c.entries (length c.rows) v) in
    let left = left_whole k c.entries (length c.rows) v in
    alike_then (brick_view (content_without k c)) (view_from [] 0 rows (other_entries k bits c.entries)) (entries_without_epoch k (brick_view c))
    (fold_alike (other_entries k bits c.entries) [] rows 0 (set_bits bits) refl (lead_others k bits c.entries 0 left))
    (alike_same (view_from [] 0 rows (other_entries k bits c.entries)) (entries_without_epoch k (brick_view c)) (kept_view bits c.rows long k c.entries 0 [] [] left refl))

pub rolls_back_the_same : RollsBackTheSame
rolls_back_the_same k c v = show_alike (brick_view (content_without k c)) (entries_without_epoch k (brick_view c)) (rolled_back_alike k c v)
