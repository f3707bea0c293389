-- Entries that a purge puts one after another, of which old runs become one, show as they do in a row.
use Rattle.std.proofs.Common.{◌≡◌, ℕ, zero, suc, ◌+◌, ◌-◌, ◌<◌, ◌≤◌, ◌==◌, ◌&&◌, ◌||◌, not, nat_le, nat_lt, max, Bool, true, false, cond, List, [], ◌∷◌, ◌++◌, take, drop, fold, refl, sym, ap, subst, ◌∙◌, arith, append_assoc, append-nil}
use Rattle.std.proofs.lemmas.Bool.Decides.{nat_tests}
use Rattle.cube_values.specs.declared.entry.Entry.{Entry}
use Rattle.cube_values.specs.declared.entry.Entry.TheVariants.{Run, Mark}
use Rattle.cube_values.specs.declared.row.CodedRow.{CodedRow}
use Rattle.cube_values.specs.EpochsVector.{is_one_with, rows_after, rows_from, rows_of}
use Rattle.purge_plan.specs.Purged.{are_old_runs, merged_entry, with_counted_entry, with_merged_entry}
use Rattle.purge_plan.proofs.Joins.{LeadsOn}
use Rattle.core_events.specs.Runs.{Sight, rows_shown_besides, shows_run, sight_before_mark}
use Rattle.core_events.specs.ShardView.{BrickEntry, RowRun, RowMark, EpochSet, is_below_mark, rows_where}
use Rattle.shard_views.specs.Views.{IsUniform, ShowAlikeAbove}
use Rattle.shard_views.proofs.Above.{above, uniform_before}
use Rattle.shard_views.proofs.Alike.{AreAlike, alike_empty, alike_marks, both_true, equal, rows_split, view_from, where_append}

-- alike to whoever does not tell the epochs up to p apart, where all epochs are hidden alike
pub record AreMerged (p : ℕ) (a b : List BrickEntry) : Type 0 where
  pub apart : (one other : Sight) → IsUniform p one.epochs → IsUniform p other.epochs → rows_shown_besides one other a ≡ rows_shown_besides one other b
  pub hidden : (marks : EpochSet) (epoch : ℕ) → is_below_mark marks epoch a ≡ is_below_mark marks epoch b

pub merged_above : (p : ℕ) (a b : List BrickEntry) → AreMerged p a b → ShowAlikeAbove p a b
merged_above p a b h = above p a b h.apart (λ marks epoch l. h.hidden marks epoch)

merged_alike : (p : ℕ) (a b : List BrickEntry) → AreAlike a b → AreMerged p a b
merged_alike p a b h = record { apart = λ one other u w. h.apart one other; hidden = h.hidden }

merged_same : (p : ℕ) (a b : List BrickEntry) → a ≡ b → AreMerged p a b
merged_same p a b e = record { apart = λ one other u w. ap (rows_shown_besides one other) e; hidden = λ marks epoch. ap (is_below_mark marks epoch) e }

merged_then : (p : ℕ) (a b c : List BrickEntry) → AreMerged p a b → AreMerged p b c → AreMerged p a c
merged_then p a b c h k = record { apart = λ one other u w. h.apart one other u w ∙ k.apart one other u w; hidden = λ marks epoch. h.hidden marks epoch ∙ k.hidden marks epoch }

-- marks above p
abbrev pub AreLater : ℕ → List Entry → Type 0
AreLater p [] = Unit {0}
AreLater p (Run k end ∷ es) = AreLater p es
AreLater p (Mark k at ∷ es) = (p < k) × AreLater p es

-- no epoch up to p is hidden otherwise than another
HidesAlike : ℕ → List BrickEntry → Type 0
HidesAlike p view = (marks : EpochSet) (e f : ℕ) → e ≤ p → f ≤ p → is_below_mark marks e view ≡ is_below_mark marks f view

newer_lt : (e k p : ℕ) → p < k → e ≤ p → nat_lt e k ≡ true
newer_lt e k p l m = grind (arith, nat_tests)

mark_hides_alike : (p k : ℕ) (view : List BrickEntry) → p < k → HidesAlike p view → HidesAlike p (RowMark k ∷ view)
unfolding HidesAlike
mark_hides_alike p k view l h = λ marks e f a b i. (marks k && (newer_lt e k p l a ∙ sym (newer_lt f k p l b)) i) || h marks e f a b i

run_hides_alike : (p k : ℕ) (rows : List CodedRow) (view : List BrickEntry) → HidesAlike p view → HidesAlike p (RowRun k rows ∷ view)
unfolding HidesAlike
run_hides_alike p k rows view h = h

none_hides_alike : (p : ℕ) → HidesAlike p []
unfolding HidesAlike
none_hides_alike p = λ marks e f a b. refl

-- more entries behind
merged_newest : (p : ℕ) (es : List Entry) (n : ℕ) (rows : List CodedRow) (a b : List BrickEntry) → AreLater p es → AreMerged p a b → AreMerged p (view_from a n rows es) (view_from b n rows es)
merged_newest p [] n rows a b l h = h
merged_newest p (Run k end ∷ es) n rows a b l h = merged_newest p es end rows (RowRun k more ∷ a) (RowRun k more ∷ b) l one_more where
  more : List CodedRow
  more = take (end - n) (drop n rows)

  one_more : AreMerged p (RowRun k more ∷ a) (RowRun k more ∷ b)
  one_more = record {
    apart = λ one other u w t. h.apart one other u w t ++ rows_where ((one.epochs k && not (h.hidden one.marks k t)) && not (other.epochs k && not (h.hidden other.marks k t))) more;
    hidden = λ marks epoch. h.hidden marks epoch;
  }
merged_newest p (Mark k at ∷ es) n rows a b l h = merged_newest p es n rows (RowMark k ∷ a) (RowMark k ∷ b) l.1 one_more where
  one_more : AreMerged p (RowMark k ∷ a) (RowMark k ∷ b)
  one_more = record {
    apart = λ one other u w. h.apart (sight_before_mark k one) (sight_before_mark k other) (uniform_before p k (one.marks k) one.epochs l.0 u) (uniform_before p k (other.marks k) other.epochs l.0 w);
    hidden = λ marks epoch t. (marks k && nat_lt epoch k) || h.hidden marks epoch t;
  }

-- two runs of one epoch, or up to p
record IsTied (p : ℕ) (f : EpochSet) (k j : ℕ) : Type 0 where
  pub first : f (max k j) ≡ f k
  pub second : f (max k j) ≡ f j

tied : (p : ℕ) (f : EpochSet) (k j : ℕ) (t : Bool) → (k == j) ≡ t → IsUniform p f → (t || (nat_le k p && nat_le j p)) ≡ true → IsTied p f k j
tied p f k j true e u h =
    let same : k ≡ j = equal k j e in
    record { first = ap f (let g : max k j ≡ k = omega (arith, same) in g); second = ap f (let g : max k j ≡ j = omega (arith, same) in g) }
tied p f k j false e u h =
    let two = both_true (nat_le k p) (nat_le j p) h in
    let a : k ≤ p = let t = two.0 in grind (arith, nat_tests) in
    let b : j ≤ p = let t = two.1 in grind (arith, nat_tests) in
    record { first = u (max k j) k (omega (arith, a, b)) a; second = u (max k j) j (omega (arith, a, b)) b }

uniform_run : (p : ℕ) (one other : Sight) (view : List BrickEntry) → HidesAlike p view → IsUniform p one.epochs → IsUniform p other.epochs → IsUniform p (λ e. shows_run one e view && not (shows_run other e view))
unfolding HidesAlike
uniform_run p one other view h u w = λ a b x y i. (u a b x y i && not (h one.marks a b x y i)) && not (w a b x y i && not (h other.marks a b x y i))

runs_merged : (p k j : ℕ) (xs ys zs : List CodedRow) (older : List BrickEntry) → HidesAlike p older → (k == j || (nat_le k p && nat_le j p)) ≡ true → zs ≡ xs ++ ys → AreMerged p (RowRun (max k j) zs ∷ older) (RowRun j ys ∷ RowRun k xs ∷ older)
runs_merged p k j xs ys zs older a h e = record {
  apart = λ one other u w.
      let test : EpochSet = λ e. shows_run one e older && not (shows_run other e older) in
      let t = tied p test k j (k == j) refl (uniform_run p one other older a u w) h in
      let shown : List CodedRow = rows_shown_besides one other older in
      ap (λ l. shown ++ l) (ap (rows_where (test (max k j))) e ∙ where_append (test (max k j)) xs ys ∙ (λ i. rows_where (t.first i) xs ++ rows_where (t.second i) ys))
      ∙ sym (append_assoc shown (rows_where (test k) xs) (rows_where (test j) ys));
  hidden = λ marks epoch. refl;
}

or_none : (a : Bool) → (a || false) ≡ true → a ≡ true
or_none true h = h
or_none false h = h

joined_merged : (p : ℕ) (xs : List Entry) (new : Entry) (rows : List CodedRow) (n to : ℕ) (older : List BrickEntry) → LeadsOn n (xs ++ new ∷ []) to → AreLater p xs → HidesAlike p older → AreMerged p (view_from older n rows (with_merged_entry p xs new)) (view_from older n rows (xs ++ new ∷ []))
joined_merged p [] new rows n to older l m h = merged_same p (view_from older n rows (new ∷ [])) (view_from older n rows (new ∷ [])) refl
joined_merged p (last ∷ []) new rows n to older l m h = ends last new l (is_one_with last new || are_old_runs p last new) refl where
  ends : (last new : Entry) → LeadsOn n (last ∷ new ∷ []) to → (t : Bool) → (is_one_with last new || are_old_runs p last new) ≡ t → AreMerged p (view_from older n rows (cond t (merged_entry last new ∷ []) (last ∷ new ∷ []))) (view_from older n rows (last ∷ new ∷ []))
  ends last new l false e = merged_same p (view_from older n rows (last ∷ new ∷ [])) (view_from older n rows (last ∷ new ∷ [])) refl
  ends (Run k end) (Run j more) l true e =
      runs_merged p k j (take (end - n) (drop n rows)) (take (more - end) (drop end rows)) (take (more - n) (drop n rows)) older h e (rows_split n end more rows l.0 l.1.0)
  ends (Mark k at) (Mark j more) l true e =
      let same : j ≡ k = sym (equal k j (both_true (k == j) (at == more) (or_none (k == j && at == more) e)).0) in
      merged_then p (RowMark j ∷ older) (RowMark j ∷ RowMark j ∷ older) (RowMark j ∷ RowMark k ∷ older)
      (merged_alike p (RowMark j ∷ older) (RowMark j ∷ RowMark j ∷ older) (alike_marks j older))
      (merged_same p (RowMark j ∷ RowMark j ∷ older) (RowMark j ∷ RowMark k ∷ older) (ap (λ i. RowMark j ∷ RowMark i ∷ older) same))
  ends (Run k end) (Mark j at) l true e = cc
  ends (Mark k at) (Run j end) l true e = cc
joined_merged p (Run k end ∷ next ∷ xs) new rows n to older l m h =
    joined_merged p (next ∷ xs) new rows end to (RowRun k (take (end - n) (drop n rows)) ∷ older) l.1 m (run_hides_alike p k (take (end - n) (drop n rows)) older h)
joined_merged p (Mark k at ∷ next ∷ xs) new rows n to older l m h =
    joined_merged p (next ∷ xs) new rows n to (RowMark k ∷ older) l.1 m.1 (mark_hides_alike p k older m.0 h)

-- entries one after another, where a run may be empty
leads_push : (xs : List Entry) (new : Entry) (n to more : ℕ) → LeadsOn n xs to → LeadsOn to (new ∷ []) more → LeadsOn n (xs ++ new ∷ []) more
leads_push [] new n to more l m = rw l m
leads_push (Run k end ∷ xs) new n to more l m = (l.0, leads_push xs new end to more l.1 m)
leads_push (Mark k at ∷ xs) new n to more l m = (l.0, leads_push xs new n to more l.1 m)

leads_merged : (p : ℕ) (xs : List Entry) (new : Entry) (n to : ℕ) → LeadsOn n (xs ++ new ∷ []) to → LeadsOn n (with_merged_entry p xs new) to
leads_merged p [] new n to l = l
leads_merged p (last ∷ []) new n to l = ends last new l (is_one_with last new || are_old_runs p last new) refl where
  ends : (last new : Entry) → LeadsOn n (last ∷ new ∷ []) to → (t : Bool) → (is_one_with last new || are_old_runs p last new) ≡ t → LeadsOn n (cond t (merged_entry last new ∷ []) (last ∷ new ∷ [])) to
  ends last new l false e = l
  ends (Run k end) (Run j more) l true e = (omega (arith, l.0, l.1.0), l.1.1)
  ends (Mark k at) (Mark j more) l true e = l.1
  ends (Run k end) (Mark j at) l true e = cc
  ends (Mark k at) (Run j end) l true e = cc
leads_merged p (Run k end ∷ next ∷ xs) new n to l = (l.0, leads_merged p (next ∷ xs) new end to l.1)
leads_merged p (Mark k at ∷ next ∷ xs) new n to l = (l.0, leads_merged p (next ∷ xs) new n to l.1)

later_merged : (p : ℕ) (xs : List Entry) (new : Entry) → AreLater p xs → AreLater p (new ∷ []) → AreLater p (with_merged_entry p xs new)
later_merged p [] new l m = m
later_merged p (last ∷ []) new l m = ends last new l m (is_one_with last new || are_old_runs p last new) where
  ends : (last new : Entry) → AreLater p (last ∷ []) → AreLater p (new ∷ []) → (t : Bool) → AreLater p (cond t (merged_entry last new ∷ []) (last ∷ new ∷ []))
  ends (Run k end) (Run j more) l m true = tt
  ends (Run k end) (Mark j at) l m true = m
  ends (Mark k at) (Run j more) l m true = tt
  ends (Mark k at) (Mark j more) l m true = m
  ends (Run k end) new l m false = m
  ends (Mark k at) new l m false = (l.0, m)
later_merged p (Run k end ∷ next ∷ xs) new l m = later_merged p (next ∷ xs) new l m
later_merged p (Mark k at ∷ next ∷ xs) new l m = (l.0, later_merged p (next ∷ xs) new l.1 m)

led_on : (n : ℕ) (xs : List Entry) (to : ℕ) → LeadsOn n xs to → rows_from n xs ≡ to
led_on n [] to l = l
led_on n (Run k end ∷ xs) to l = led_on end xs to l.1
led_on n (Mark k at ∷ xs) to l = led_on n xs to l.1

view_append : (xs ys : List Entry) (rows : List CodedRow) (n to : ℕ) (older : List BrickEntry) → LeadsOn n xs to → view_from older n rows (xs ++ ys) ≡ view_from (view_from older n rows xs) to rows ys
view_append [] ys rows n to older l = ap (λ k. view_from older k rows ys) l
view_append (Run k end ∷ xs) ys rows n to older l = view_append xs ys rows end to (RowRun k (take (end - n) (drop n rows)) ∷ older) l.1
view_append (Mark k at ∷ xs) ys rows n to older l = view_append xs ys rows n to (RowMark k ∷ older) l.1

-- one counted entry more
record IsPut (p : ℕ) (rows : List CodedRow) (xs : List Entry) (new : Entry) (more : ℕ) (put : List Entry) : Type 0 where
  pub leads : LeadsOn 0 put more
  pub later : AreLater p put
  pub alike : AreMerged p (view_from [] 0 rows put) (view_from [] 0 rows (xs ++ new ∷ []))

put_merged : (p : ℕ) (rows : List CodedRow) (xs : List Entry) (new : Entry) (n more : ℕ) → LeadsOn 0 xs n → LeadsOn n (new ∷ []) more → AreLater p xs → AreLater p (new ∷ []) → IsPut p rows xs new more (with_merged_entry p xs new)
put_merged p rows xs new n more l m a b =
    let all = leads_push xs new 0 n more l m in
    record { leads = leads_merged p xs new 0 more all; later = later_merged p xs new a b; alike = joined_merged p xs new rows 0 more [] all a (none_hides_alike p) }

put_counted : (p : ℕ) (rows : List CodedRow) (xs : List Entry) (new : Entry) (n more : ℕ) → LeadsOn 0 xs n → LeadsOn n (new ∷ []) more → AreLater p xs → AreLater p (new ∷ []) → IsPut p rows xs new more (with_counted_entry p xs new)
put_counted p rows xs (Run k end) n more l m a b = by_test (end == rows_of xs) refl where
  by_test : (t : Bool) → (end == rows_of xs) ≡ t → IsPut p rows xs (Run k end) more (cond t xs (with_merged_entry p xs (Run k end)))
  by_test false e = put_merged p rows xs (Run k end) n more l m a b
  by_test true e =
      let led = led_on 0 xs n l in
      let same : end ≡ n = equal end (rows_of xs) e ∙ led in
      let on = m.1 in
      let view : List BrickEntry = view_from [] 0 rows xs in
      let nothing : [] ≡ take (end - n) (drop n rows) = ap (λ k. take k (drop n rows)) (let z : 0 ≡ end - n = omega (arith, same) in z) in
      let next : RowRun k [] ∷ view ≡ view_from [] 0 rows (xs ++ Run k end ∷ []) = ap (λ r. RowRun k r ∷ view) nothing ∙ sym (view_append xs (Run k end ∷ []) rows 0 n [] l) in
      record {
        leads = subst (λ k. LeadsOn 0 xs k) (sym same ∙ on) l;
        later = a;
        alike = merged_then p view (RowRun k [] ∷ view) (view_from [] 0 rows (xs ++ Run k end ∷ []))
            (merged_alike p view (RowRun k [] ∷ view) (alike_empty k view))
            (merged_same p (RowRun k [] ∷ view) (view_from [] 0 rows (xs ++ Run k end ∷ [])) next);
      }
put_counted p rows xs (Mark k at) n more l m a b = put_merged p rows xs (Mark k at) n more l m a b

lead_first : (y : Entry) (ys : List Entry) (m to : ℕ) → LeadsOn m (y ∷ ys) to → LeadsOn m (y ∷ []) (rows_after y) × LeadsOn (rows_after y) ys to
lead_first (Run j end) ys m to l = ((l.0, refl), l.1)
lead_first (Mark j at) ys m to l = ((l.0, sym l.0), subst (λ n. LeadsOn n ys to) (sym l.0) l.1)

later_first : (p : ℕ) (y : Entry) (ys : List Entry) → AreLater p (y ∷ ys) → AreLater p (y ∷ []) × AreLater p ys
later_first p (Run j end) ys l = (tt, l)
later_first p (Mark j at) ys l = ((l.0, tt), l.1)

-- counted entries put one after another
pub fold_merged : (p : ℕ) (rows : List CodedRow) (ys xs : List Entry) (m to : ℕ) → LeadsOn 0 xs m → LeadsOn m ys to → AreLater p xs → AreLater p ys → AreMerged p (view_from [] 0 rows (fold (with_counted_entry p) xs ys)) (view_from [] 0 rows (xs ++ ys))
fold_merged p rows [] xs m to l k a b = merged_same p (view_from [] 0 rows xs) (view_from [] 0 rows (xs ++ [])) (ap (view_from [] 0 rows) (sym (append-nil xs)))
fold_merged p rows (y ∷ ys) xs m to l k a b =
    let next = lead_first y ys m to k in
    let new = later_first p y ys b in
    let put : List Entry = with_counted_entry p xs y in
    let row : List Entry = xs ++ y ∷ [] in
    let n : ℕ = rows_after y in
    let one = put_counted p rows xs y m n l next.0 a new.0 in
    let two = leads_push xs y 0 m n l next.0 in
    let v : List BrickEntry = view_from [] 0 rows put in
    let w : List BrickEntry = view_from [] 0 rows row in
    let all : List BrickEntry = view_from [] 0 rows (xs ++ y ∷ ys) in
    let first : List BrickEntry = view_from [] 0 rows (fold (with_counted_entry p) put ys) in
    let rest : List BrickEntry = view_from [] 0 rows (put ++ ys) in
    merged_then p first rest all (fold_merged p rows ys put n to one.leads next.1 one.later new.1)
    (merged_then p rest (view_from v n rows ys) all (merged_same p rest (view_from v n rows ys) (view_append put ys rows 0 n [] one.leads))
    (merged_then p (view_from v n rows ys) (view_from w n rows ys) all (merged_newest p ys n rows v w new.1 one.alike)
    (merged_same p (view_from w n rows ys) all (sym (view_append row ys rows 0 n [] two) ∙ ap (view_from [] 0 rows) (append_assoc xs (y ∷ []) ys)))))
