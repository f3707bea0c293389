-- The rows that a vector shows to a test of epochs and one of marks, entry by entry.
use Rattle.std.proofs.Common.{◌≡◌, ℕ, ◌+◌, ◌-◌, ◌<◌, ◌≤◌, ◌&&◌, ◌||◌, not, nat_lt, Bool, true, false, cond, List, [], ◌∷◌, ◌++◌, Some, None, length, map, take, drop, refl, sym, ap, ◌∙◌, arith, inl, inr, append_assoc, append-nil}
use Rattle.std.proofs.Math.Seq.{take-add}
use Rattle.std.specs.List.{items_where_true, list_any, range_with_len}
use Rattle.std.specs.Option.{option_map_or}
use Rattle.std.proofs.lemmas.Bool.{cases_lt}
use Rattle.std.proofs.lemmas.Bool.Decides.{nat_tests}
use Rattle.std.proofs.lemmas.List.{length-take-le, length-drop, map-append}
use Rattle.std.proofs.lemmas.List.Folds.{list_any-append}
use Rattle.std.proofs.lemmas.List.FromFn.{length-map-range_with_len}
use Rattle.cube_values.specs.declared.entry.Entry.{Entry}
use Rattle.cube_values.specs.declared.entry.Entry.TheVariants.{Run, Mark}
use Rattle.cube_values.specs.declared.row.CodedRow.{CodedRow}
use Rattle.cube_values.specs.EpochsVector.{Leads, epoch_at, mark_hides}
use Rattle.cube_rounds.specs.Bricks.{entries_with_rows}
use Rattle.epochs_vector.proofs.VisibleRows.{lead_up}
use Rattle.core_events.specs.Runs.{Sight, rows_shown_besides, shows_run, sight_before_mark}
use Rattle.core_events.specs.ShardView.{BrickEntry, RowRun, RowMark, epochs_before_mark, is_below_mark, rows_shown_to, rows_where}
use Rattle.shard_views.specs.Views.{entries_newest_first}
use Rattle.shard_views.proofs.Items.{items_append, items_alike, range_append, range_same}

-- an entry hides row i of epoch j from whoever obeys these marks
abbrev pub hides : (ℕ → Bool) → ℕ → ℕ → Entry → Bool
hides marks j i (Run epoch end) = false
hides marks j i (Mark epoch at) = marks epoch && mark_hides epoch at j i

abbrev pub is_hidden : (ℕ → Bool) → ℕ → ℕ → List Entry → Bool
is_hidden marks j i entries = list_any (hides marks j i) entries

-- row i is shown
abbrev pub shows : (ℕ → Bool) → (ℕ → Bool) → List Entry → ℕ → Bool
shows epochs marks entries i = option_map_or (λ j. epochs j && not (is_hidden marks j i entries)) (epoch_at entries i) false

abbrev pub shows_to : Sight → List Entry → ℕ → Bool
shows_to sight entries i = shows sight.epochs sight.marks entries i

abbrev pub bits_to : (ℕ → Bool) → ℕ → List Bool
bits_to test n = map test (range_with_len 0 n)

-- entries over the first n of the rows show what a brick in the core's words shows
pub record ShowsAs (rows : List CodedRow) (n : ℕ) (entries : List Entry) (view : List BrickEntry) : Type 0 where
  pub within : n ≤ length rows
  pub shown : (epochs marks : ℕ → Bool) → items_where_true (bits_to (shows epochs marks entries) n) (take n rows) ≡ rows_shown_to epochs marks view
  pub apart : (one other : Sight) → items_where_true (bits_to (λ i. shows_to one entries i && not (shows_to other entries i)) n) (take n rows) ≡ rows_shown_besides one other view
  pub hidden : (marks : ℕ → Bool) (j i : ℕ) → n ≤ i → is_hidden marks j i entries ≡ is_below_mark marks j view
  pub found : (i : ℕ) → i < n → (j : ℕ) × (epoch_at entries i ≡ Some j)
  pub past : (i : ℕ) → n ≤ i → epoch_at entries i ≡ None

-- the epoch of a row, with more entries behind
epoch_found : (xs ys : List Entry) (i j : ℕ) → epoch_at xs i ≡ Some j → epoch_at (xs ++ ys) i ≡ Some j
epoch_found [] ys i j e = cc
epoch_found (Run k end ∷ xs) ys i j e = by_test (λ e. epoch_found xs ys i j e) (nat_lt i end) refl e where
  by_test : (epoch_at xs i ≡ Some j → epoch_at (xs ++ ys) i ≡ Some j) → (t : Bool) → nat_lt i end ≡ t → cond t (Some k) (epoch_at xs i) ≡ Some j → cond t (Some k) (epoch_at (xs ++ ys) i) ≡ Some j
  by_test again true h e = e
  by_test again false h e = again e
epoch_found (Mark k at ∷ xs) ys i j e = epoch_found xs ys i j e

epoch_past : (xs ys : List Entry) (i : ℕ) → epoch_at xs i ≡ None → epoch_at (xs ++ ys) i ≡ epoch_at ys i
epoch_past [] ys i e = refl
epoch_past (Run k end ∷ xs) ys i e = by_test (λ e. epoch_past xs ys i e) (nat_lt i end) refl e where
  by_test : (epoch_at xs i ≡ None → epoch_at (xs ++ ys) i ≡ epoch_at ys i) → (t : Bool) → nat_lt i end ≡ t → cond t (Some k) (epoch_at xs i) ≡ None → cond t (Some k) (epoch_at (xs ++ ys) i) ≡ epoch_at ys i
  by_test again true h e = cc
  by_test again false h e = again e
epoch_past (Mark k at ∷ xs) ys i e = epoch_past xs ys i e

-- no rows
pub shows_none : (rows : List CodedRow) → ShowsAs rows 0 [] []
shows_none rows = record {
  within = omega arith;
  shown = λ epochs marks. refl;
  apart = λ one other. refl;
  hidden = λ marks j i h. refl;
  found = λ i h. absurd (omega arith);
  past = λ i h. refl;
}

or-none : (a : Bool) → (a || (false || false)) ≡ a
or-none true = refl
or-none false = refl

take_parts : {A : Type 0} (n end : ℕ) (xs : List A) → n ≤ end → take end xs ≡ take n xs ++ take (end - n) (drop n xs)
take_parts n end xs l = ap (λ m. take m xs) (let e : end ≡ n + (end - n) = omega arith in e) ∙ take-add n (end - n) xs

-- a run comes
module _ (rows : List CodedRow) (n end k : ℕ) (entries : List Entry) (view : List BrickEntry) (h : ShowsAs rows n entries view) (l : n < end) (m : end ≤ length rows) where
  abbrev with_run : List Entry
  with_run = entries ++ Run k end ∷ []

  abbrev more : List CodedRow
  more = take (end - n) (drop n rows)

  more_long : length more ≡ end - n
  more_long = let left = length-drop n rows in length-take-le (end - n) (drop n rows) (omega (arith, left))

  front : take end rows ≡ take n rows ++ more
  front = take_parts n end rows (omega arith)

  run_hides_none : (marks : ℕ → Bool) (j i : ℕ) → is_hidden marks j i with_run ≡ is_hidden marks j i entries
  run_hides_none marks j i = list_any-append (hides marks j i) entries (Run k end ∷ []) ∙ or-none (is_hidden marks j i entries)

  epoch_new : (i : ℕ) → n ≤ i → i < end → epoch_at with_run i ≡ Some k
  epoch_new i p q = epoch_past entries (Run k end ∷ []) i (h.past i p) ∙ ap (λ t. cond t (Some k) None) (let below : nat_lt i end ≡ true = grind (arith, nat_tests) in below)

  shows_old : (epochs marks : ℕ → Bool) (i : ℕ) → i < n → shows epochs marks with_run i ≡ shows epochs marks entries i
  shows_old epochs marks i p =
      let at = h.found i p in
      ap (λ o. option_map_or (λ j. epochs j && not (is_hidden marks j i with_run)) o false) (epoch_found entries (Run k end ∷ []) i at.0 at.1)
      ∙ ap (λ b. epochs at.0 && not b) (run_hides_none marks at.0 i)
      ∙ sym (ap (λ o. option_map_or (λ j. epochs j && not (is_hidden marks j i entries)) o false) at.1)

  shows_new : (epochs marks : ℕ → Bool) (i : ℕ) → n ≤ i → i < end → shows epochs marks with_run i ≡ (epochs k && not (is_below_mark marks k view))
  shows_new epochs marks i p q =
      ap (λ o. option_map_or (λ j. epochs j && not (is_hidden marks j i with_run)) o false) (epoch_new i p q)
      ∙ ap (λ b. epochs k && not b) (run_hides_none marks k i ∙ h.hidden marks k i p)

  -- of tests that are as they were below n, and one thing from there on
  by_parts : (test old : ℕ → Bool) (b : Bool) (shown : List CodedRow) → ((i : ℕ) → i < n → test i ≡ old i) → ((i : ℕ) → n ≤ i → i < end → test i ≡ b) → items_where_true (bits_to old n) (take n rows) ≡ shown → items_where_true (bits_to test end) (take end rows) ≡ shown ++ rows_where b more
  by_parts test old b shown below above before =
      let e : end ≡ n + (end - n) = omega arith in
      let z : 0 + n ≡ n = omega arith in
      let short = length-take-le n rows (omega (arith, h.within)) in
      (λ t. items_where_true (bits_to test (e t)) (front t))
      ∙ ap (λ bits. items_where_true (map test bits) (take n rows ++ more)) (range_append 0 n (end - n) ∙ ap (λ a. range_with_len 0 n ++ range_with_len a (end - n)) z)
      ∙ ap (λ bits. items_where_true bits (take n rows ++ more)) (map-append test (range_with_len 0 n) (range_with_len n (end - n)))
      ∙ items_append (bits_to test n) (map test (range_with_len n (end - n))) (take n rows) more (length-map-range_with_len test 0 n ∙ sym short)
      ∙ (λ t. (ap (λ bits. items_where_true bits (take n rows)) (range_same test old 0 n (λ i p q. below i (omega arith))) ∙ before) t
      ++ items_alike test b n (end - n) more more_long (λ i p q. above i p (omega arith)) t)

  pub run_shown : ShowsAs rows end with_run (RowRun k more ∷ view)
  run_shown = record {
    within = m;
    shown = λ epochs marks. by_parts (shows epochs marks with_run) (shows epochs marks entries) (epochs k && not (is_below_mark marks k view)) (rows_shown_to epochs marks view) (shows_old epochs marks) (shows_new epochs marks) (h.shown epochs marks);
    apart = λ one other. by_parts (λ i. shows_to one with_run i && not (shows_to other with_run i)) (λ i. shows_to one entries i && not (shows_to other entries i)) (shows_run one k view && not (shows_run other k view)) (rows_shown_besides one other view)
        (λ i p t. shows_old one.epochs one.marks i p t && not (shows_old other.epochs other.marks i p t))
        (λ i p q t. shows_new one.epochs one.marks i p q t && not (shows_new other.epochs other.marks i p q t))
        (h.apart one other);
    hidden = λ marks j i p. run_hides_none marks j i ∙ h.hidden marks j i (omega arith);
    found = λ i p. elim (cases_lt i n) [
      | inl a ↦ (let at = h.found i a in (at.0, epoch_found entries (Run k end ∷ []) i at.0 at.1))
      | inr a ↦ (k, epoch_new i a p)
    ];
    past = λ i p. epoch_past entries (Run k end ∷ []) i (h.past i (omega arith)) ∙ ap (λ t. cond t (Some k) None) (let above : nat_lt i end ≡ false = grind (arith, nat_tests) in above);
  }

-- what a mark leaves
mark_leaves : (j k i n : ℕ) → i < n → mark_hides k n j i ≡ not (nat_lt k j)
mark_leaves j k i n h = grind (arith, nat_tests)

mark_past : (j k i n : ℕ) → n ≤ i → mark_hides k n j i ≡ nat_lt j k
mark_past j k i n h = grind (arith, nat_tests)

seen_before : (r any above : Bool) → (r && not (any || ((true && not above) || false))) ≡ ((r && above) && not any)
seen_before true true true = refl
seen_before true true false = refl
seen_before true false true = refl
seen_before true false false = refl
seen_before false any above = refl

seen_always : (r any here : Bool) → (r && not (any || ((false && here) || false))) ≡ (r && not any)
seen_always true true here = refl
seen_always true false here = refl
seen_always false any here = refl

or-first : (any marks lower : Bool) → (any || ((marks && lower) || false)) ≡ ((marks && lower) || any)
or-first true true true = refl
or-first true true false = refl
or-first true false lower = refl
or-first false true true = refl
or-first false true false = refl
or-first false false lower = refl

-- a mark comes
module _ (rows : List CodedRow) (n k : ℕ) (entries : List Entry) (view : List BrickEntry) (h : ShowsAs rows n entries view) where
  abbrev with_mark : List Entry
  with_mark = entries ++ Mark k n ∷ []

  mark_hides_more : (marks : ℕ → Bool) (j i : ℕ) → is_hidden marks j i with_mark ≡ (is_hidden marks j i entries || ((marks k && mark_hides k n j i) || false))
  mark_hides_more marks j i = list_any-append (hides marks j i) entries (Mark k n ∷ [])

  shows_before : (epochs marks : ℕ → Bool) (i : ℕ) → i < n → shows epochs marks with_mark i ≡ shows (epochs_before_mark (marks k) k epochs) marks entries i
  shows_before epochs marks i p =
      let at = h.found i p in
      let j = at.0 in
      let any : Bool = is_hidden marks j i entries in
      ap (λ o. option_map_or (λ j. epochs j && not (is_hidden marks j i with_mark)) o false) (epoch_found entries (Mark k n ∷ []) i j at.1)
      ∙ ap (λ b. epochs j && not b) (mark_hides_more marks j i)
      ∙ by_mark epochs j any (marks k) (mark_hides k n j i) (mark_leaves j k i n p)
      ∙ sym (ap (λ o. option_map_or (λ j. epochs_before_mark (marks k) k epochs j && not (is_hidden marks j i entries)) o false) at.1) where
        by_mark : (epochs : ℕ → Bool) (j : ℕ) (any t here : Bool) → here ≡ not (nat_lt k j) → (epochs j && not (any || ((t && here) || false))) ≡ (epochs_before_mark t k epochs j && not any)
        by_mark epochs j any true here e = ap (λ b. epochs j && not (any || ((true && b) || false))) e ∙ seen_before (epochs j) any (nat_lt k j)
        by_mark epochs j any false here e = seen_always (epochs j) any here

  pub mark_shown : ShowsAs rows n with_mark (RowMark k ∷ view)
  mark_shown = record {
    within = h.within;
    shown = λ epochs marks. ap (λ bits. items_where_true bits (take n rows)) (range_same (shows epochs marks with_mark) (shows (epochs_before_mark (marks k) k epochs) marks entries) 0 n (λ i p q. shows_before epochs marks i (omega arith)))
        ∙ h.shown (epochs_before_mark (marks k) k epochs) marks;
    apart = λ one other. ap (λ bits. items_where_true bits (take n rows)) (range_same (λ i. shows_to one with_mark i && not (shows_to other with_mark i)) (λ i. shows_to (sight_before_mark k one) entries i && not (shows_to (sight_before_mark k other) entries i)) 0 n
        (λ i p q. let b : i < n = omega arith in λ t. shows_before one.epochs one.marks i b t && not (shows_before other.epochs other.marks i b t)))
        ∙ h.apart (sight_before_mark k one) (sight_before_mark k other);
    hidden = λ marks j i p. mark_hides_more marks j i ∙ ap (λ b. is_hidden marks j i entries || ((marks k && b) || false)) (mark_past j k i n p) ∙ or-first (is_hidden marks j i entries) (marks k) (nat_lt j k) ∙ ap (λ b. (marks k && nat_lt j k) || b) (h.hidden marks j i p);
    found = λ i p. let at = h.found i p in (at.0, epoch_found entries (Mark k n ∷ []) i at.0 at.1);
    past = λ i p. epoch_past entries (Mark k n ∷ []) i (h.past i p);
  }

-- all entries
pub all_shown : (rest entries : List Entry) (rows : List CodedRow) (n to : ℕ) (view : List BrickEntry) → to ≤ length rows → Leads n rest to → ShowsAs rows n entries view → ShowsAs rows to (entries ++ rest) (entries_newest_first view (entries_with_rows n rows rest))
all_shown [] entries rows n to view m l h = same where
  same : ShowsAs rows to (entries ++ []) view
  same = rw (append-nil entries, ← l) h
all_shown (Run k end ∷ rest) entries rows n to view m l h =
    let up = lead_up end rest to l.1 in
    let next = all_shown rest (entries ++ Run k end ∷ []) rows end to (RowRun k (take (end - n) (drop n rows)) ∷ view) m l.1 (run_shown rows n end k entries view h l.0 (omega arith)) in
    rw append_assoc at next
all_shown (Mark k at ∷ rest) entries rows n to view m l h =
    let next = all_shown rest (entries ++ Mark k n ∷ []) rows n to (RowMark k ∷ view) m l.1 (mark_shown rows n k entries view h) in
    ap_mark (rw append_assoc at next) where
      ap_mark : ShowsAs rows to (entries ++ Mark k n ∷ rest) (entries_newest_first (RowMark k ∷ view) (entries_with_rows n rows rest)) → ShowsAs rows to (entries ++ Mark k at ∷ rest) (entries_newest_first (RowMark k ∷ view) (entries_with_rows n rows rest))
      ap_mark s = rw l.0 s
