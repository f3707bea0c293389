-- What a pass that purges a vector has done so far.
use Rattle.std.proofs.Common.{◌≡◌, ℕ, ◌+◌, ◌-◌, ◌<◌, ◌≤◌, not, nat_lt, Bool, true, false, List, [], ◌∷◌, length, fold, take, drop, replicate, get_or, refl, ap, sym, subst, ◌∙◌, inl, inr, arith}
use Rattle.std.specs.List.{list_any}
use Rattle.std.specs.Option.{option_map_or}
use Rattle.std.proofs.lemmas.Bool.{cases_lt}
use Rattle.std.proofs.lemmas.Bool.Decides.{nat_tests}
use Rattle.std.proofs.lemmas.List.{ext_get_or, get_or-drop, get_or-replicate, drop_all, drop_more}
use Rattle.std.proofs.lemmas.Grind.{drop_more_same}
use Rattle.std.proofs.lemmas.List.FromFn.{get_or-map-range_with_len}
use Rattle.cube_values.specs.declared.entry.Entry.{Entry}
use Rattle.cube_values.specs.declared.entry.Entry.TheVariants.{Run, Mark}
use Rattle.cube_values.specs.BitRows.{filled_bits}
use Rattle.cube_values.specs.EpochsVector.{IsVector, Leads, epoch_at, maker, rows_after, rows_from, rows_of, with_rows_after}
use Rattle.epochs_vector.specs.Without.{set_bits_before}
use Rattle.epochs_vector.proofs.Ends.{vector_rows}
use Rattle.epochs_vector.proofs.VisibleRows.{in_run, past_run, lead_up, long_filled, at_below, at_inside, at_above}
use Rattle.epochs_vector.specs.declared.limit.Limit.{Limit}
use Rattle.epochs_vector.specs.Limits.{is_below}
use Rattle.purge_plan.specs.Purged.{is_removed_by, is_spared, spared_bits, is_old_mark, counted_entries, with_counted_entry, purged_entries}
use Rattle.purge_plan.proofs.Counts.{counted_old, counted_new, leads_kept, length-kept, rows_alike}
use Rattle.purge_plan.proofs.Joins.{rows_counted}

-- the entries left begin at `from`, and the bits are clear where the limit says so of their rows
pub record IsLeft (limit : Limit) (bits : List Bool) (left : List Entry) (from : ℕ) : Type 0 where
  pub leads : Leads from left (length bits)
  pub true_to : (i : ℕ) → from ≤ i → i < length bits → get_or bits i false ≡ not (option_map_or (λ j. is_below limit j i) (epoch_at left i) false)

-- one entry on
pub record IsNext (limit : Limit) (bits : List Bool) (entry : Entry) (rest : List Entry) (from : ℕ) : Type 0 where
  pub one : Leads from (entry ∷ []) (rows_after entry)
  pub order : from ≤ rows_after entry
  pub within : rows_after entry ≤ length bits
  pub next : IsLeft limit bits rest (rows_after entry)
  pub here : (i : ℕ) → from ≤ i → i < rows_after entry → get_or bits i false ≡ not (is_below limit (maker entry) i)

one_on : (limit : Limit) (bits : List Bool) (entry : Entry) (rest : List Entry) (from : ℕ) → IsLeft limit bits (entry ∷ rest) from → IsNext limit bits entry rest from
one_on limit bits (Run j end) rest from k =
    let up : from < end = k.leads.0 in
    let on : end ≤ length bits = lead_up end rest (length bits) k.leads.1 in
    record {
      one = (up, refl);
      order = omega arith;
      within = on;
      next = record {
        leads = k.leads.1;
        true_to = λ i p q. k.true_to i (omega arith) q ∙ ap (λ o. not (option_map_or (λ e. is_below limit e i) o false)) (past_run rest j end i p);
      };
      here = λ i p q. k.true_to i p (omega arith) ∙ ap (λ o. not (option_map_or (λ e. is_below limit e i) o false)) (in_run rest j end i q);
    }
one_on limit bits (Mark j at) rest from k =
    let same : at ≡ from = k.leads.0 in
    let on : from ≤ length bits = lead_up from rest (length bits) k.leads.1 in
    let P : ℕ → Type 0 = λ n. Leads n rest (length bits) in
    record {
      one = (same, sym same);
      order = omega arith;
      within = omega arith;
      next = record { leads = subst P (sym same) k.leads.1; true_to = λ i p q. k.true_to i (omega arith) q };
      here = λ i p q. absurd (omega arith);
    }

-- the bits: those of the first `from` rows are right, the others set
pub record IsCleared (bits keep : List Bool) (from : ℕ) : Type 0 where
  pub long : length keep ≡ length bits
  pub done : (i : ℕ) → i < from → get_or keep i false ≡ get_or bits i false
  pub full : (i : ℕ) → from ≤ i → i < length bits → get_or keep i false ≡ true

-- of the rows from `from` up to `to` those below `first` are removed
abbrev pub IsParted : List Bool → ℕ → ℕ → ℕ → Type 0
IsParted bits from first to = (i : ℕ) → from ≤ i → i < to → get_or bits i false ≡ not (nat_lt i first)

removed : (bits : List Bool) (from first to : ℕ) → IsParted bits from first to → first ≤ to → (i : ℕ) → from ≤ i → i < first → get_or bits i false ≡ false
removed bits from first to k h i p q = let b : nat_lt i first ≡ true = grind (arith, nat_tests) in k i p (omega arith) ∙ ap not b

stays : (bits : List Bool) (from first to : ℕ) → IsParted bits from first to → from ≤ first → (i : ℕ) → first ≤ i → i < to → get_or bits i false ≡ true
stays bits from first to k h i p q = let b : nat_lt i first ≡ false = grind (arith, nat_tests) in k i (omega arith) q ∙ ap not b

cleared_more : (bits keep new : List Bool) (from first to : ℕ) → IsCleared bits keep from → IsParted bits from first to → from ≤ first → first ≤ to → to ≤ length bits → new ≡ filled_bits keep from first false → IsCleared bits new to
cleared_more bits keep new from first to k s low high w f =
    let u : first ≤ length keep = omega (arith, k.long) in
    let there : (i : ℕ) → get_or new i false ≡ get_or (filled_bits keep from first false) i false = λ i. ap (λ (l : List Bool). get_or l i false) f in
    record {
      long = ap length f ∙ long_filled keep from first false low u ∙ k.long;
      done = λ i p. there i ∙ elim (cases_lt i from) [
        | inl a ↦ at_below keep from first false low u i a ∙ k.done i a
        | inr a ↦ elim (cases_lt i first) [
          | inl b ↦ at_inside keep from first false u i a b ∙ sym (removed bits from first to s high i a b)
          | inr b ↦ at_above keep from first false low u i b ∙ k.full i a (omega arith) ∙ sym (stays bits from first to s low i b p)
        ]
      ];
      full = λ i p q. there i ∙ at_above keep from first false low u i (omega arith) ∙ k.full i (omega arith) q;
    }

parted_rows : (bits : List Bool) (from first to : ℕ) → IsParted bits from first to → from ≤ first → first ≤ to → to ≤ length bits → set_bits_before bits to ≡ set_bits_before bits from + (to - first)
parted_rows bits from first to s low high w =
    omega (arith, rows_alike bits from first false low (omega arith) (removed bits from first to s high), rows_alike bits first to true high w (stays bits from first to s low))

-- the entries: after `at` of them, `len` are at the front, which lead to `rows` rows
pub record IsPlaced (p : ℕ) (bits : List Bool) (old items : List Entry) (at len from rows : ℕ) : Type 0 where
  pub rest : drop at items ≡ drop at old
  pub within : len ≤ at
  pub counted_rows : rows ≡ set_bits_before bits from
  pub below : rows ≤ from
  pub led : rows_of (take len items) ≡ rows
  pub front : fold (with_counted_entry p) (take len items) (counted_entries p bits (drop at old)) ≡ fold (with_counted_entry p) [] (counted_entries p bits old)

pub record IsPurgedSoFar (p : ℕ) (limit : Limit) (bits : List Bool) (old items : List Entry) (keep : List Bool) (at len from rows : ℕ) : Type 0 where
  pub left : IsLeft limit bits (drop at old) from
  pub cleared : IsCleared bits keep from
  pub placed : IsPlaced p bits old items at len from rows

-- at the start
true_kept : (p : ℕ) (limit : Limit) (xs : List Entry) → ((j i : ℕ) → list_any (is_removed_by p j i) xs ≡ is_below limit j i) → (i : ℕ) → i < rows_of xs → get_or (spared_bits p xs) i false ≡ not (option_map_or (λ j. is_below limit j i) (epoch_at xs i) false)
true_kept p limit xs h i q =
    get_or-map-range_with_len (is_spared p xs) 0 (rows_of xs) i i false q (omega arith) ∙ ap (λ (f : ℕ → Bool). not (option_map_or f (epoch_at xs i) false)) (λ t j. h j i t)

pub purged_none : (p : ℕ) (limit : Limit) (old : List Entry) (keep : List Bool) → IsVector old (length keep) → keep ≡ replicate (length keep) true → ((j i : ℕ) → list_any (is_removed_by p j i) old ≡ is_below limit j i) → IsPurgedSoFar p limit (spared_bits p old) old old keep 0 0 0 0
purged_none p limit old keep v a h =
    let e : length (spared_bits p old) ≡ length keep = length-kept p old (length keep) v in
    let r : rows_of old ≡ length keep = vector_rows old (length keep) v in
    record {
      left = record {
        leads = leads_kept p old (length keep) v;
        true_to = λ i _ q. true_kept p limit old h i (omega arith);
      };
      cleared = record {
        long = sym e;
        done = λ i q. absurd (omega arith);
        full = λ i _ q. ap (λ (l : List Bool). get_or l i false) a ∙ get_or-replicate (length keep) i true false (omega arith);
      };
      placed = record {
        rest = refl;
        within = omega arith;
        counted_rows = refl;
        below = omega arith;
        led = refl;
        front = refl;
      };
    }

-- the entry at `at`
same_there : (xs ys : List Entry) (at : ℕ) (d : Entry) → drop at xs ≡ drop at ys → get_or xs at d ≡ get_or ys at d
same_there xs ys at d e = ap (λ n. get_or xs n d) (omega arith) ∙ sym (get_or-drop at xs 0 d) ∙ ap (λ (l : List Entry). get_or l 0 d) e ∙ get_or-drop at ys 0 d ∙ ap (λ n. get_or ys n d) (omega arith)

from_here : (p : ℕ) (limit : Limit) (bits : List Bool) (old items : List Entry) (keep : List Bool) (at len from rows : ℕ) (d entry : Entry) → at < length old → get_or items at d ≡ entry → IsPurgedSoFar p limit bits old items keep at len from rows → drop at old ≡ entry ∷ drop (at + 1) old
from_here p limit bits old items keep at len from rows d entry h e k =
    drop_more old at d h ∙ ap (λ y. y ∷ drop (at + 1) old) (sym (same_there items old at d k.placed.rest) ∙ e)

pub purged_next : (p : ℕ) (limit : Limit) (bits : List Bool) (old items : List Entry) (keep : List Bool) (at len from rows : ℕ) (d entry : Entry) → at < length old → get_or items at d ≡ entry → IsPurgedSoFar p limit bits old items keep at len from rows → IsNext limit bits entry (drop (at + 1) old) from
purged_next p limit bits old items keep at len from rows d entry h e k =
    let P : List Entry → Type 0 = λ l. IsLeft limit bits l from in
    one_on limit bits entry (drop (at + 1) old) from (subst P (from_here p limit bits old items keep at len from rows d entry h e k) k.left)

-- the rows that it adds
rows_put : (entry : Entry) (from rows first : ℕ) → Leads from (entry ∷ []) (rows_after entry) → from ≤ first → rows_from rows (with_rows_after entry (rows + (rows_after entry - first)) ∷ []) ≡ rows + (rows_after entry - first)
rows_put (Run e end) from rows first l h = refl
rows_put (Mark e at) from rows first l h = omega (arith, l.0)

rows_still : (p : ℕ) (entry : Entry) (from rows first : ℕ) → is_old_mark p entry ≡ true → Leads from (entry ∷ []) (rows_after entry) → from ≤ first → rows ≡ rows + (rows_after entry - first)
rows_still p (Run e end) from rows first b l h = cc
rows_still p (Mark e at) from rows first b l h = omega (arith, l.0)

drops_old : (p : ℕ) (bits : List Bool) (entry : Entry) (xs : List Entry) → is_old_mark p entry ≡ true → counted_entries p bits (entry ∷ xs) ≡ counted_entries p bits xs
drops_old p bits (Run e end) xs b = cc
drops_old p bits (Mark e at) xs b = counted_old p bits e at xs b

counts_new : (p : ℕ) (bits : List Bool) (entry : Entry) (xs : List Entry) → is_old_mark p entry ≡ false → counted_entries p bits (entry ∷ xs) ≡ with_rows_after entry (set_bits_before bits (rows_after entry)) ∷ counted_entries p bits xs
counts_new p bits (Run e end) xs b = refl
counts_new p bits (Mark e at) xs b = counted_new p bits e at xs b

-- what code knows of one iteration: where the rows that are kept begin, and the bits that it leaves
pub record IsStep (limit : Limit) (entry : Entry) (from first : ℕ) (keep new : List Bool) : Type 0 where
  pub low : from ≤ first
  pub high : first ≤ rows_after entry
  pub below : (i : ℕ) → from ≤ i → i < rows_after entry → is_below limit (maker entry) i ≡ nat_lt i first
  pub fill : new ≡ filled_bits keep from first false

parted : (limit : Limit) (bits keep new : List Bool) (entry : Entry) (rest : List Entry) (from first : ℕ) → IsNext limit bits entry rest from → IsStep limit entry from first keep new → IsParted bits from first (rows_after entry)
parted limit bits keep new entry rest from first n t = λ i p q. n.here i p q ∙ ap not (t.below i p q)

-- past a mark that goes, and past an entry that stays
pub purged_old : (p : ℕ) (limit : Limit) (bits : List Bool) (old items : List Entry) (keep new : List Bool) (at len from rows first : ℕ) (d entry : Entry) → at < length old → get_or items at d ≡ entry → is_old_mark p entry ≡ true → IsPurgedSoFar p limit bits old items keep at len from rows → IsStep limit entry from first keep new → IsPurgedSoFar p limit bits old items new (at + 1) len (rows_after entry) (rows + (rows_after entry - first))
purged_old p limit bits old items keep new at len from rows first d entry h e b k t =
    let n = purged_next p limit bits old items keep at len from rows d entry h e k in
    let x = from_here p limit bits old items keep at len from rows d entry h e k in
    let s = parted limit bits keep new entry (drop (at + 1) old) from first n t in
    record {
      left = n.next;
      cleared = cleared_more bits keep new from first (rows_after entry) k.cleared s t.low t.high n.within t.fill;
      placed = record {
        rest = drop_more_same items old at k.placed.rest;
        within = omega (arith, k.placed.within);
        counted_rows = omega (arith, k.placed.counted_rows, parted_rows bits from first (rows_after entry) s t.low t.high n.within);
        below = omega (arith, k.placed.below, t.low, t.high);
        led = k.placed.led ∙ rows_still p entry from rows first b n.one t.low;
        front = ap (fold (with_counted_entry p) (take len items)) (sym (ap (counted_entries p bits) x ∙ drops_old p bits entry (drop (at + 1) old) b)) ∙ k.placed.front;
      };
    }

pub purged_new : (p : ℕ) (limit : Limit) (bits : List Bool) (old items placed : List Entry) (keep new : List Bool) (at len more from rows first : ℕ) (d entry : Entry) → at < length old → get_or items at d ≡ entry → is_old_mark p entry ≡ false → IsPurgedSoFar p limit bits old items keep at len from rows → IsStep limit entry from first keep new → take more placed ≡ with_counted_entry p (take len items) (with_rows_after entry (rows + (rows_after entry - first))) → ((n : ℕ) → len < n → drop n placed ≡ drop n items) → more ≤ len + 1 → IsPurgedSoFar p limit bits old placed new (at + 1) more (rows_after entry) (rows + (rows_after entry - first))
purged_new p limit bits old items placed keep new at len more from rows first d entry h e b k t f r m =
    let n = purged_next p limit bits old items keep at len from rows d entry h e k in
    let x = from_here p limit bits old items keep at len from rows d entry h e k in
    let s = parted limit bits keep new entry (drop (at + 1) old) from first n t in
    let c : rows + (rows_after entry - first) ≡ set_bits_before bits (rows_after entry) = omega (arith, k.placed.counted_rows, parted_rows bits from first (rows_after entry) s t.low t.high n.within) in
    let o : counted_entries p bits (drop at old) ≡ with_rows_after entry (rows + (rows_after entry - first)) ∷ counted_entries p bits (drop (at + 1) old) = ap (counted_entries p bits) x ∙ counts_new p bits entry (drop (at + 1) old) b ∙ ap (λ y. with_rows_after entry y ∷ counted_entries p bits (drop (at + 1) old)) (sym c) in
    record {
      left = n.next;
      cleared = cleared_more bits keep new from first (rows_after entry) k.cleared s t.low t.high n.within t.fill;
      placed = record {
        rest = r (at + 1) (omega (arith, k.placed.within)) ∙ drop_more_same items old at k.placed.rest;
        within = omega (arith, k.placed.within);
        counted_rows = c;
        below = omega (arith, k.placed.below, t.low, t.high);
        led = ap rows_of f ∙ rows_counted p (take len items) (with_rows_after entry (rows + (rows_after entry - first))) ∙ ap (λ y. rows_from y (with_rows_after entry (rows + (rows_after entry - first)) ∷ [])) k.placed.led ∙ rows_put entry from rows first n.one t.low;
        front = ap (λ l. fold (with_counted_entry p) l (counted_entries p bits (drop (at + 1) old))) f ∙ ap (fold (with_counted_entry p) (take len items)) (sym o) ∙ k.placed.front;
      };
    }

-- past all entries
pub purged_all : (p : ℕ) (limit : Limit) (old items : List Entry) (keep : List Bool) (at len from rows : ℕ) → length old ≤ at → IsPurgedSoFar p limit (spared_bits p old) old items keep at len from rows → (take len items ≡ purged_entries p old) × (keep ≡ spared_bits p old)
purged_all p limit old items keep at len from rows h k =
    let bits : List Bool = spared_bits p old in
    let x : drop at old ≡ [] = drop_all at old h in
    let P : List Entry → Type 0 = λ l. Leads from l (length bits) in
    let end : from ≡ length bits = subst P x k.left.leads in
    (ap (λ l. fold (with_counted_entry p) (take len items) (counted_entries p bits l)) (sym x) ∙ k.placed.front, ext_get_or false keep bits k.cleared.long (λ i q. k.cleared.done i (omega (arith, k.cleared.long))))
