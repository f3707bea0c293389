-- What a pass that takes one epoch out of a vector has done so far, and that it leaves a vector.
use Rattle.std.proofs.Common.{◌≡◌, ℕ, ◌+◌, ◌-◌, ◌<◌, ◌≤◌, ◌==◌, not, cond, Bool, true, false, List, [], ◌∷◌, ◌++◌, length, map, filter, fold, take, drop, replicate, get_or, suc, zero, refl, ap, sym, subst, ◌∙◌, inl, inr, arith}
use Rattle.std.specs.Option.{option_map_or}
use Rattle.std.proofs.lemmas.Bool.{cases_lt}
use Rattle.std.proofs.lemmas.List.{ext_get_or, get_or-drop, take_all, drop_all, drop_more, get_or-replicate}
use Rattle.std.proofs.lemmas.Grind.{drop_more_same}
use Rattle.std.proofs.lemmas.List.FromFn.{length-map-range_with_len, get_or-map-range_with_len}
use Rattle.std.proofs.lemmas.List.Sums.{count_by_more_yes, count_by_more_no}
use Rattle.cube_values.specs.declared.entry.Entry.{Entry}
use Rattle.cube_values.specs.declared.entry.Entry.TheVariants.{Run, Mark}
use Rattle.cube_values.specs.BitRows.{filled_bits, set_bits}
use Rattle.cube_values.specs.EpochsVector.{IsVector, Leads, maker, rows_after, rows_of, vector_with_entry, with_rows_after}
use Rattle.epochs_vector.specs.Without.{stays, staying_bits, set_bits_before, other_entries, entries_without}
use Rattle.epochs_vector.proofs.Ends.{vector_rows, vector_more}
use Rattle.epochs_vector.proofs.VisibleRows.{in_run, past_run, lead_up, long_filled, at_below, at_inside, at_above}

-- rows in a row that all stay, or none of which does
all_stay : (kept : List Bool) (from n to : ℕ) → to ≡ from + n → to ≤ length kept → ((i : ℕ) → from ≤ i → i < to → get_or kept i false ≡ true) → set_bits_before kept to ≡ set_bits_before kept from + n
all_stay kept from zero to e h k = let f : to ≡ from = omega arith in omega (arith, ap (set_bits_before kept) f)
all_stay kept from (suc n) to e h k =
    let m : to ≡ from + n + 1 = omega arith in
    let s = all_stay kept from n (from + n) refl (omega arith) (λ i p q. k i p (omega arith)) in
    let t = count_by_more_yes (λ (bit : Bool). bit) kept (from + n) false (omega arith) (k (from + n) (omega arith) (omega arith)) in
    ap (set_bits_before kept) m ∙ t ∙ omega (arith, s)

none_stays : (kept : List Bool) (from n to : ℕ) → to ≡ from + n → to ≤ length kept → ((i : ℕ) → from ≤ i → i < to → get_or kept i false ≡ false) → set_bits_before kept to ≡ set_bits_before kept from
none_stays kept from zero to e h k = ap (set_bits_before kept) (omega arith)
none_stays kept from (suc n) to e h k =
    let m : to ≡ from + n + 1 = omega arith in
    let s = none_stays kept from n (from + n) refl (omega arith) (λ i p q. k i p (omega arith)) in
    let t = count_by_more_no (λ (bit : Bool). bit) kept (from + n) false (omega arith) (k (from + n) (omega arith) (omega arith)) in
    ap (set_bits_before kept) m ∙ t ∙ s

-- the entries left begin at `from`, and `kept` is true to them
pub record IsLeft (epoch : ℕ) (kept : List Bool) (left : List Entry) (from : ℕ) : Type 0 where
  pub leads : Leads from left (length kept)
  pub true_to : (i : ℕ) → from ≤ i → i < length kept → get_or kept i false ≡ stays epoch left i

-- one entry on
pub record IsNext (epoch : ℕ) (kept : List Bool) (entry : Entry) (rest : List Entry) (from : ℕ) : Type 0 where
  pub order : from ≤ rows_after entry
  pub within : rows_after entry ≤ length kept
  pub next : IsLeft epoch kept rest (rows_after entry)
  pub here : (i : ℕ) → from ≤ i → i < rows_after entry → get_or kept i false ≡ not (maker entry == epoch)

pub one_on : (epoch : ℕ) (kept : List Bool) (entry : Entry) (rest : List Entry) (from : ℕ) → IsLeft epoch kept (entry ∷ rest) from → IsNext epoch kept entry rest from
one_on epoch kept (Run j end) rest from k =
    let up : from < end = k.leads.0 in
    let on : end ≤ length kept = lead_up end rest (length kept) k.leads.1 in
    record {
      order = omega arith;
      within = on;
      next = record {
        leads = k.leads.1;
        true_to = λ i p q. k.true_to i (omega arith) q ∙ ap (λ o. not (option_map_or (λ e. e == epoch) o false)) (past_run rest j end i p);
      };
      here = λ i p q. k.true_to i p (omega arith) ∙ ap (λ o. not (option_map_or (λ e. e == epoch) o false)) (in_run rest j end i q);
    }
one_on epoch kept (Mark j at) rest from k =
    let same : at ≡ from = k.leads.0 in
    let on : from ≤ length kept = lead_up from rest (length kept) k.leads.1 in
    let P : ℕ → Type 0 = λ n. Leads n rest (length kept) in
    record {
      order = omega arith;
      within = omega arith;
      next = record { leads = subst P (sym same) k.leads.1; true_to = λ i p q. k.true_to i (omega arith) q };
      here = λ i p q. absurd (omega arith);
    }

-- the rows that stay, past an entry of another epoch and past one of the epoch
pub counted_other : (epoch : ℕ) (kept : List Bool) (entry : Entry) (rest : List Entry) (from : ℕ) → IsNext epoch kept entry rest from → (maker entry == epoch) ≡ false → set_bits_before kept (rows_after entry) ≡ set_bits_before kept from + (rows_after entry - from)
counted_other epoch kept entry rest from n b =
    all_stay kept from (rows_after entry - from) (rows_after entry) (omega (arith, n.order)) n.within (λ i p q. n.here i p q ∙ ap not b)

pub counted_same : (epoch : ℕ) (kept : List Bool) (entry : Entry) (rest : List Entry) (from : ℕ) → IsNext epoch kept entry rest from → (maker entry == epoch) ≡ true → set_bits_before kept (rows_after entry) ≡ set_bits_before kept from
counted_same epoch kept entry rest from n b =
    none_stays kept from (rows_after entry - from) (rows_after entry) (omega (arith, n.order)) n.within (λ i p q. n.here i p q ∙ ap not b)

-- the others' entries lead to the rows that stay
lead_one : (kept : List Bool) (entry : Entry) (rest : List Entry) (ys : List Entry) (epoch from rows : ℕ) → IsLeft epoch kept (entry ∷ rest) from → (b : Bool) → (maker entry == epoch) ≡ b → Leads (set_bits_before kept (rows_after entry)) ys rows → Leads (set_bits_before kept from) (map (λ e. with_rows_after e (set_bits_before kept (rows_after e))) (cond (not b) (entry ∷ []) []) ++ ys) rows
lead_one kept (Run j end) rest ys epoch from rows k false e l =
    let n = one_on epoch kept (Run j end) rest from k in
    (omega (arith, k.leads.0, counted_other epoch kept (Run j end) rest from n e), l)
lead_one kept (Mark j at) rest ys epoch from rows k false e l =
    let n = one_on epoch kept (Mark j at) rest from k in
    let s : at ≡ from = k.leads.0 in
    let P : ℕ → Type 0 = λ m. Leads m ys rows in
    (ap (set_bits_before kept) s, subst P (ap (set_bits_before kept) s) l)
lead_one kept entry rest ys epoch from rows k true e l =
    let n = one_on epoch kept entry rest from k in
    let P : ℕ → Type 0 = λ m. Leads m ys rows in
    subst P (counted_same epoch kept entry rest from n e) l

split_one : (f : Entry → Entry) (b : Bool) (entry : Entry) (ys : List Entry) → map f (cond b (entry ∷ []) []) ++ map f ys ≡ map f (cond b (entry ∷ ys) ys)
split_one f true entry ys = refl
split_one f false entry ys = refl

pub lead_others : (epoch : ℕ) (kept : List Bool) (xs : List Entry) (from : ℕ) → IsLeft epoch kept xs from → Leads (set_bits_before kept from) (other_entries epoch kept xs) (set_bits kept)
lead_others epoch kept [] from k = ap set_bits (take_all from kept (omega (arith, k.leads)))
lead_others epoch kept (entry ∷ xs) from k =
    let P : List Entry → Type 0 = λ l. Leads (set_bits_before kept from) l (set_bits kept) in
    let n = one_on epoch kept entry xs from k in
    subst P (split_one (λ e. with_rows_after e (set_bits_before kept (rows_after e))) (not (maker entry == epoch)) entry (filter (λ e. not (maker e == epoch)) xs)) (lead_one kept entry xs (other_entries epoch kept xs) epoch from (set_bits kept) k (maker entry == epoch) refl (lead_others epoch kept xs (rows_after entry) n.next))

-- entries put one after another after a vector
vector_fold : (ys xs : List Entry) (rows more : ℕ) → IsVector xs rows → Leads rows ys more → IsVector (fold vector_with_entry xs ys) more
vector_fold [] xs rows more v l = let P : ℕ → Type 0 = λ n. IsVector xs n in subst P l v
vector_fold (Run j end ∷ ys) xs rows more v l = vector_fold ys (vector_with_entry xs (Run j end)) end more (vector_more xs (Run j end) rows end v (l.0, refl)) l.1
vector_fold (Mark j at ∷ ys) xs rows more v l = vector_fold ys (vector_with_entry xs (Mark j at)) rows more (vector_more xs (Mark j at) rows rows v (l.0, refl)) l.1

-- the whole vector
pub length-staying : (epoch : ℕ) (xs : List Entry) → length (staying_bits epoch xs) ≡ rows_of xs
length-staying epoch xs = length-map-range_with_len (stays epoch xs) 0 (rows_of xs)

pub left_whole : (epoch : ℕ) (xs : List Entry) (rows : ℕ) → IsVector xs rows → IsLeft epoch (staying_bits epoch xs) xs 0
left_whole epoch xs rows v =
    let l = length-staying epoch xs in
    let P : ℕ → Type 0 = λ n. Leads 0 xs n in
    record {
      leads = subst P (sym (l ∙ vector_rows xs rows v)) v.leads;
      true_to = λ i p q. get_or-map-range_with_len (stays epoch xs) 0 (rows_of xs) i i false (omega arith) (omega arith);
    }

pub vector_without : (epoch : ℕ) (xs : List Entry) (rows : ℕ) → IsVector xs rows → IsVector (entries_without epoch xs) (set_bits (staying_bits epoch xs))
vector_without epoch xs rows v =
    let kept : List Bool = staying_bits epoch xs in
    vector_fold (other_entries epoch kept xs) [] 0 (set_bits kept) (record { leads = refl; apart = tt }) (lead_others epoch kept xs 0 (left_whole epoch xs rows v))

-- the pass: after `at` entries, `len` are at the front, and the bits are true to the first `from` rows
pub record IsTakenOut (epoch : ℕ) (kept : List Bool) (old items : List Entry) (keep : List Bool) (at len from rows : ℕ) : Type 0 where
  pub left : IsLeft epoch kept (drop at old) from
  pub rest : drop at items ≡ drop at old
  pub within : len ≤ at
  pub counted : rows ≡ set_bits_before kept from
  pub below : rows ≤ from
  pub front : fold vector_with_entry (take len items) (other_entries epoch kept (drop at old)) ≡ fold vector_with_entry [] (other_entries epoch kept old)
  pub long : length keep ≡ length kept
  pub done : (i : ℕ) → i < from → get_or keep i false ≡ get_or kept i false
  pub full : (i : ℕ) → from ≤ i → i < length kept → get_or keep i false ≡ true

pub out_none : (epoch : ℕ) (old : List Entry) (keep : List Bool) → IsVector old (length keep) → keep ≡ replicate (length keep) true → IsTakenOut epoch (staying_bits epoch old) old old keep 0 0 0 0
out_none epoch old keep v a =
    let e : length keep ≡ length (staying_bits epoch old) = sym (vector_rows old (length keep) v) ∙ sym (length-staying epoch old) in
    record {
      left = left_whole epoch old (length keep) v;
      rest = refl;
      within = omega arith;
      counted = refl;
      below = omega arith;
      front = refl;
      long = e;
      done = λ i h. absurd (omega arith);
      full = λ i _ q. ap (λ (l : List Bool). get_or l i false) a ∙ get_or-replicate (length keep) i true false (omega arith);
    }

at_head : (epoch : ℕ) (kept : List Bool) (old : List Entry) (at from : ℕ) (d entry : Entry) → at < length old → get_or old at d ≡ entry → IsLeft epoch kept (drop at old) from → IsNext epoch kept entry (drop (at + 1) old) from
at_head epoch kept old at from d entry h e k =
    let P : List Entry → Type 0 = λ l. IsLeft epoch kept l from in
    let x : drop at old ≡ entry ∷ drop (at + 1) old = drop_more old at d h ∙ ap (λ y. y ∷ drop (at + 1) old) e in
    one_on epoch kept entry (drop (at + 1) old) from (subst P x k)

same_there : (xs ys : List Entry) (at : ℕ) (d : Entry) → drop at xs ≡ drop at ys → get_or xs at d ≡ get_or ys at d
same_there xs ys at d e = ap (λ n. get_or xs n d) (omega arith) ∙ sym (get_or-drop at xs 0 d) ∙ ap (λ (l : List Entry). get_or l 0 d) e ∙ get_or-drop at ys 0 d ∙ ap (λ n. get_or ys n d) (omega arith)

pub out_next : (epoch : ℕ) (kept : List Bool) (old items : List Entry) (keep : List Bool) (at len from rows : ℕ) (d entry : Entry) → at < length old → get_or items at d ≡ entry → IsTakenOut epoch kept old items keep at len from rows → IsNext epoch kept entry (drop (at + 1) old) from
out_next epoch kept old items keep at len from rows d entry h e k = at_head epoch kept old at from d entry h (sym (same_there items old at d k.rest) ∙ e) k.left

pub others_same : (epoch : ℕ) (kept : List Bool) (entry : Entry) (rest : List Entry) → (maker entry == epoch) ≡ true → other_entries epoch kept (entry ∷ rest) ≡ other_entries epoch kept rest
others_same epoch kept entry rest b = rw b

pub others_other : (epoch : ℕ) (kept : List Bool) (entry : Entry) (rest : List Entry) → (maker entry == epoch) ≡ false → other_entries epoch kept (entry ∷ rest) ≡ with_rows_after entry (set_bits_before kept (rows_after entry)) ∷ other_entries epoch kept rest
others_other epoch kept entry rest b = rw b

-- past an entry of the epoch
pub out_same : (epoch : ℕ) (kept : List Bool) (old items : List Entry) (keep new : List Bool) (at len from rows : ℕ) (d entry : Entry) → at < length old → get_or items at d ≡ entry → (maker entry == epoch) ≡ true → IsTakenOut epoch kept old items keep at len from rows → new ≡ filled_bits keep from (rows_after entry) false → IsTakenOut epoch kept old items new (at + 1) len (rows_after entry) rows
out_same epoch kept old items keep new at len from rows d entry h e b k f =
    let n = out_next epoch kept old items keep at len from rows d entry h e k in
    let x : drop at old ≡ entry ∷ drop (at + 1) old = drop_more old at d h ∙ ap (λ y. y ∷ drop (at + 1) old) (sym (same_there items old at d k.rest) ∙ e) in
    let w : rows_after entry ≤ length keep = omega (arith, n.within, k.long) in
    let there : (i : ℕ) → get_or new i false ≡ get_or (filled_bits keep from (rows_after entry) false) i false = λ i. ap (λ (l : List Bool). get_or l i false) f in
    record {
      left = n.next;
      rest = drop_more_same items old at k.rest;
      within = omega (arith, k.within);
      counted = k.counted ∙ sym (counted_same epoch kept entry (drop (at + 1) old) from n b);
      below = omega (arith, k.below, n.order);
      front = ap (fold vector_with_entry (take len items)) (sym (ap (other_entries epoch kept) x ∙ others_same epoch kept entry (drop (at + 1) old) b)) ∙ k.front;
      long = ap length f ∙ long_filled keep from (rows_after entry) false n.order w ∙ k.long;
      done = λ i p. there i ∙ elim (cases_lt i from) [
        | inl a ↦ at_below keep from (rows_after entry) false n.order w i a ∙ k.done i a
        | inr a ↦ at_inside keep from (rows_after entry) false w i a p ∙ sym (n.here i a p ∙ ap not b)
      ];
      full = λ i p q. there i ∙ at_above keep from (rows_after entry) false n.order w i p ∙ k.full i (omega (arith, n.order)) q;
    }

-- past an entry of another epoch
pub out_other : (epoch : ℕ) (kept : List Bool) (old items new : List Entry) (keep : List Bool) (at len more from rows : ℕ) (d entry : Entry) → at < length old → get_or items at d ≡ entry → (maker entry == epoch) ≡ false → IsTakenOut epoch kept old items keep at len from rows → take more new ≡ vector_with_entry (take len items) (with_rows_after entry (rows + (rows_after entry - from))) → ((n : ℕ) → len < n → drop n new ≡ drop n items) → more ≤ len + 1 → IsTakenOut epoch kept old new keep (at + 1) more (rows_after entry) (rows + (rows_after entry - from))
out_other epoch kept old items new keep at len more from rows d entry h e b k f r m =
    let n = out_next epoch kept old items keep at len from rows d entry h e k in
    let x : drop at old ≡ entry ∷ drop (at + 1) old = drop_more old at d h ∙ ap (λ y. y ∷ drop (at + 1) old) (sym (same_there items old at d k.rest) ∙ e) in
    let c : rows + (rows_after entry - from) ≡ set_bits_before kept (rows_after entry) = ap (λ y. y + (rows_after entry - from)) k.counted ∙ sym (counted_other epoch kept entry (drop (at + 1) old) from n b) in
    let o : other_entries epoch kept (drop at old) ≡ with_rows_after entry (rows + (rows_after entry - from)) ∷ other_entries epoch kept (drop (at + 1) old) = ap (other_entries epoch kept) x ∙ others_other epoch kept entry (drop (at + 1) old) b ∙ ap (λ y. with_rows_after entry y ∷ other_entries epoch kept (drop (at + 1) old)) (sym c) in
    record {
      left = n.next;
      rest = r (at + 1) (omega (arith, k.within)) ∙ drop_more_same items old at k.rest;
      within = omega (arith, k.within);
      counted = c;
      below = omega (arith, k.below, n.order);
      front = ap (λ l. fold vector_with_entry l (other_entries epoch kept (drop (at + 1) old))) f ∙ ap (fold vector_with_entry (take len items)) (sym o) ∙ k.front;
      long = k.long;
      done = λ i p. elim (cases_lt i from) [
        | inl a ↦ k.done i a
        | inr a ↦ k.full i a (omega (arith, n.within)) ∙ sym (n.here i a p ∙ ap not b)
      ];
      full = λ i p q. k.full i (omega (arith, n.order)) q;
    }

-- past all entries
pub out_all : (epoch : ℕ) (old items : List Entry) (keep : List Bool) (at len from rows : ℕ) → length old ≤ at → IsTakenOut epoch (staying_bits epoch old) old items keep at len from rows → (take len items ≡ entries_without epoch old) × ((rows ≡ set_bits (staying_bits epoch old)) × (keep ≡ staying_bits epoch old))
out_all epoch old items keep at len from rows h k =
    let kept : List Bool = staying_bits epoch old in
    let x : drop at old ≡ [] = drop_all at old h in
    let P : List Entry → Type 0 = λ l. Leads from l (length kept) in
    let end : from ≡ length kept = subst P x k.left.leads in
    (ap (λ l. fold vector_with_entry (take len items) (other_entries epoch kept l)) (sym x) ∙ k.front, (k.counted ∙ ap set_bits (take_all from kept (omega arith)), ext_get_or false keep kept k.long (λ i p. k.done i (omega (arith, k.long)))))
