-- A vector without an epoch says of the rows that stay what the whole vector said of them.
use Rattle.std.proofs.Common.{◌≡◌, ℕ, ◌+◌, ◌-◌, ◌<◌, ◌≤◌, ◌==◌, ◌&&◌, ◌||◌, not, nat_lt, Bool, true, false, List, [], ◌∷◌, ◌++◌, Option, Some, None, length, fold, get_or, if◌then◌else◌, suc, zero, refl, ap, sym, ◌∙◌, inl, inr, arith, append-nil}
use Rattle.std.specs.List.{list_any}
use Rattle.std.specs.Option.{option_map_or}
use Rattle.std.proofs.lemmas.Bool.{cases_lt}
use Rattle.std.proofs.lemmas.Bool.Decides.{nat_tests}
use Rattle.std.proofs.lemmas.List.Sums.{count_by_more_yes, count_by_more_no}
use Rattle.cube_values.specs.declared.entry.Entry.{Entry}
use Rattle.cube_values.specs.declared.entry.Entry.TheVariants.{Run, Mark}
use Rattle.cube_values.specs.declared.snapshot.Snapshot.{Snapshot}
use Rattle.cube_values.specs.BitRows.{set_bits}
use Rattle.cube_values.specs.EpochsVector.{Leads, epoch_at, is_hidden_by, is_one_with, maker, rows_after, vector_with_entry, with_rows_after}
use Rattle.cube_values.specs.Sees.{sees}
use Rattle.epochs_vector.specs.Without.{staying_bits, set_bits_before, other_entries, entries_without, ChangesNoOtherRow}
use Rattle.epochs_vector.proofs.Ends.{lead_more, vector_rows}
use Rattle.epochs_vector.proofs.VisibleRows.{in_run, past_run}
use Rattle.epochs_vector.proofs.WhatStays.{IsLeft, one_on, others_same, others_other, lead_others, left_whole, length-staying}

-- joined neighbours say what they said apart: the epochs of rows
epoch_end : (last new : Entry) (zs : List Entry) (n from to more : ℕ) (b : Bool) → is_one_with last new ≡ b → Leads from (last ∷ []) to → Leads to (new ∷ []) more → epoch_at ((if b then new ∷ [] else last ∷ new ∷ []) ++ zs) n ≡ epoch_at (last ∷ new ∷ zs) n
epoch_end last new zs n from to more false h l m = refl
epoch_end (Run e x) (Run f y) zs n from to more true h l m =
    let same : e ≡ f = grind (arith, nat_tests) in
    elim (cases_lt n x) [
      | inl a ↦ in_run zs f y n (omega (arith, l.1, m.0)) ∙ ap Some (sym same) ∙ sym (in_run (Run f y ∷ zs) e x n a)
      | inr a ↦ sym (past_run (Run f y ∷ zs) e x n a)
    ]
epoch_end (Mark e x) (Mark f y) zs n from to more true h l m = refl
epoch_end (Run e x) (Mark f y) zs n from to more true h l m = cc
epoch_end (Mark e x) (Run f y) zs n from to more true h l m = cc

epoch_with : (xs : List Entry) (new : Entry) (zs : List Entry) (n from to more : ℕ) → Leads from xs to → Leads to (new ∷ []) more → epoch_at (vector_with_entry xs new ++ zs) n ≡ epoch_at (xs ++ new ∷ zs) n
epoch_with [] new zs n from to more l m = refl
epoch_with (last ∷ []) new zs n from to more l m = epoch_end last new zs n from to more (is_one_with last new) refl l m
epoch_with (Run e x ∷ next ∷ xs) new zs n from to more l m = ap (λ o. if nat_lt n x then Some e else o) (epoch_with (next ∷ xs) new zs n x to more l.1 m)
epoch_with (Mark e x ∷ next ∷ xs) new zs n from to more l m = epoch_with (next ∷ xs) new zs n from to more l.1 m

epoch_fold : (ys xs : List Entry) (n from to more : ℕ) → Leads from xs to → Leads to ys more → epoch_at (fold vector_with_entry xs ys) n ≡ epoch_at (xs ++ ys) n
epoch_fold [] xs n from to more l m = ap (λ z. epoch_at z n) (sym (append-nil xs))
epoch_fold (Run j end ∷ ys) xs n from to more l m = epoch_fold ys (vector_with_entry xs (Run j end)) n from end more (lead_more xs (Run j end) from to end l (m.0, refl)) m.1 ∙ epoch_with xs (Run j end) ys n from to end l (m.0, refl)
epoch_fold (Mark j at ∷ ys) xs n from to more l m = epoch_fold ys (vector_with_entry xs (Mark j at)) n from to more (lead_more xs (Mark j at) from to to l (m.0, refl)) m.1 ∙ epoch_with xs (Mark j at) ys n from to to l (m.0, refl)

-- the same: what is hidden
twice : (a b x : Bool) → a ≡ b → (b || x) ≡ (a || (b || x))
twice true b x e = rw (← e)
twice false b x e = refl

hidden_end : (s : Snapshot) (j n : ℕ) (last new : Entry) (zs : List Entry) (b : Bool) → is_one_with last new ≡ b → list_any (is_hidden_by s j n) ((if b then new ∷ [] else last ∷ new ∷ []) ++ zs) ≡ list_any (is_hidden_by s j n) (last ∷ new ∷ zs)
hidden_end s j n last new zs false h = refl
hidden_end s j n (Run e x) (Run f y) zs true h = refl
hidden_end s j n (Mark e x) (Mark f y) zs true h =
    let p : e ≡ f = grind (arith, nat_tests) in
    let q : x ≡ y = grind (arith, nat_tests) in
    twice (is_hidden_by s j n (Mark e x)) (is_hidden_by s j n (Mark f y)) (list_any (is_hidden_by s j n) zs) (λ i. is_hidden_by s j n (Mark (p i) (q i)))
hidden_end s j n (Run e x) (Mark f y) zs true h = cc
hidden_end s j n (Mark e x) (Run f y) zs true h = cc

hidden_with : (s : Snapshot) (j n : ℕ) (xs : List Entry) (new : Entry) (zs : List Entry) → list_any (is_hidden_by s j n) (vector_with_entry xs new ++ zs) ≡ list_any (is_hidden_by s j n) (xs ++ new ∷ zs)
hidden_with s j n [] new zs = refl
hidden_with s j n (last ∷ []) new zs = hidden_end s j n last new zs (is_one_with last new) refl
hidden_with s j n (x ∷ next ∷ xs) new zs = ap (λ b. is_hidden_by s j n x || b) (hidden_with s j n (next ∷ xs) new zs)

hidden_fold : (s : Snapshot) (j n : ℕ) (ys xs : List Entry) → list_any (is_hidden_by s j n) (fold vector_with_entry xs ys) ≡ list_any (is_hidden_by s j n) (xs ++ ys)
hidden_fold s j n [] xs = ap (list_any (is_hidden_by s j n)) (sym (append-nil xs))
hidden_fold s j n (y ∷ ys) xs = hidden_fold s j n ys (vector_with_entry xs y) ∙ hidden_with s j n xs y ys

-- rows that stay keep their order
climbs : (kept : List Bool) (i : ℕ) (b : Bool) → get_or kept i false ≡ b → i < length kept → set_bits_before kept i ≤ set_bits_before kept (i + 1)
climbs kept i true e h = omega (arith, count_by_more_yes (λ (bit : Bool). bit) kept i false h e)
climbs kept i false e h = omega (arith, count_by_more_no (λ (bit : Bool). bit) kept i false h e)

rises : (kept : List Bool) (m k n : ℕ) → n ≡ m + k → n ≤ length kept → set_bits_before kept m ≤ set_bits_before kept n
rises kept m zero n e h = let f : m ≡ n = omega arith in omega (arith, ap (set_bits_before kept) f)
rises kept m (suc k) n e h =
    let f : n ≡ m + k + 1 = omega arith in
    omega (arith, rises kept m k (m + k) refl (omega arith), climbs kept (m + k) (get_or kept (m + k) false) refl (omega arith), ap (set_bits_before kept) f)

above : (kept : List Bool) (i n : ℕ) → i < n → n ≤ length kept → get_or kept i false ≡ true → set_bits_before kept i < set_bits_before kept n
above kept i n p h k = omega (arith, count_by_more_yes (λ (bit : Bool). bit) kept i false (omega arith) k, rises kept (i + 1) (n - (i + 1)) n (omega arith) h)

not_above : (kept : List Bool) (i n : ℕ) → n ≤ i → i ≤ length kept → set_bits_before kept n ≤ set_bits_before kept i
not_above kept i n p h = rises kept n (i - n) i (omega arith) h

both_lt : (a b c d : ℕ) → a < b → c < d → nat_lt a b ≡ nat_lt c d
both_lt a b c d p q = grind (arith, nat_tests)

both_ge : (a b c d : ℕ) → b ≤ a → d ≤ c → nat_lt a b ≡ nat_lt c d
both_ge a b c d p q = grind (arith, nat_tests)

same_order : (kept : List Bool) (i n : ℕ) → i < length kept → n ≤ length kept → get_or kept i false ≡ true → nat_lt (set_bits_before kept i) (set_bits_before kept n) ≡ nat_lt i n
same_order kept i n p h k = elim (cases_lt i n) [
  | inl a ↦ let q = above kept i n a h k in both_lt (set_bits_before kept i) (set_bits_before kept n) i n q a
  | inr a ↦ let q = not_above kept i n a (omega arith) in both_ge (set_bits_before kept i) (set_bits_before kept n) i n q a
]

-- a row that stays is of its epoch still
epoch_one : (epoch : ℕ) (kept : List Bool) (entry : Entry) (xs : List Entry) (from i : ℕ) (b : Bool) → (maker entry == epoch) ≡ b → IsLeft epoch kept (entry ∷ xs) from → from ≤ i → i < length kept → get_or kept i false ≡ true → (rows_after entry ≤ i → epoch_at (other_entries epoch kept xs) (set_bits_before kept i) ≡ epoch_at xs i) → epoch_at (other_entries epoch kept (entry ∷ xs)) (set_bits_before kept i) ≡ epoch_at (entry ∷ xs) i
epoch_one epoch kept (Mark j at) xs from i true e k p q t later = ap (λ l. epoch_at l (set_bits_before kept i)) (others_same epoch kept (Mark j at) xs e) ∙ later (omega (arith, k.leads.0))
epoch_one epoch kept (Mark j at) xs from i false e k p q t later = ap (λ l. epoch_at l (set_bits_before kept i)) (others_other epoch kept (Mark j at) xs e) ∙ later (omega (arith, k.leads.0))
epoch_one epoch kept (Run j end) xs from i true e k p q t later =
    ap (λ l. epoch_at l (set_bits_before kept i)) (others_same epoch kept (Run j end) xs e) ∙ elim (cases_lt i end) [
      | inl a ↦ let n = one_on epoch kept (Run j end) xs from k in let f = n.here i p a ∙ ap not e in cc
      | inr a ↦ later a ∙ sym (past_run xs j end i a)
    ]
epoch_one epoch kept (Run j end) xs from i false e k p q t later =
    let n = one_on epoch kept (Run j end) xs from k in
    ap (λ l. epoch_at l (set_bits_before kept i)) (others_other epoch kept (Run j end) xs e) ∙ elim (cases_lt i end) [
      | inl a ↦ in_run (other_entries epoch kept xs) j (set_bits_before kept end) (set_bits_before kept i) (above kept i end a n.within t) ∙ sym (in_run xs j end i a)
      | inr a ↦ past_run (other_entries epoch kept xs) j (set_bits_before kept end) (set_bits_before kept i) (not_above kept i end a (omega arith)) ∙ later a ∙ sym (past_run xs j end i a)
    ]

epoch_there : (epoch : ℕ) (kept : List Bool) (xs : List Entry) (from i : ℕ) → IsLeft epoch kept xs from → from ≤ i → i < length kept → get_or kept i false ≡ true → epoch_at (other_entries epoch kept xs) (set_bits_before kept i) ≡ epoch_at xs i
epoch_there epoch kept [] from i k p q t = refl
epoch_there epoch kept (entry ∷ xs) from i k p q t =
    epoch_one epoch kept entry xs from i (maker entry == epoch) refl k p q t (λ a. epoch_there epoch kept xs (rows_after entry) i (one_on epoch kept entry xs from k).next a q t)

-- a row that stays is hidden by the same marks
hidden_one : (s : Snapshot) (epoch : ℕ) (kept : List Bool) (j i : ℕ) (entry : Entry) → i < length kept → rows_after entry ≤ length kept → get_or kept i false ≡ true → is_hidden_by s j (set_bits_before kept i) (with_rows_after entry (set_bits_before kept (rows_after entry))) ≡ is_hidden_by s j i entry
hidden_one s epoch kept j i (Run e end) q h t = refl
hidden_one s epoch kept j i (Mark e at) q h t = ap (λ b. sees s e && (nat_lt j e || (j == e && b))) (same_order kept i at q h t)

unseen_mark : (s : Snapshot) (epoch j i : ℕ) (entry : Entry) → sees s epoch ≡ false → (maker entry == epoch) ≡ true → is_hidden_by s j i entry ≡ false
unseen_mark s epoch j i (Run e end) u b = refl
unseen_mark s epoch j i (Mark e at) u b =
    let same : e ≡ epoch = grind (arith, nat_tests) in
    ap (λ x. x && (nat_lt j e || (j == e && nat_lt i at))) (ap (sees s) same ∙ u)

hidden_step : (s : Snapshot) (epoch : ℕ) (kept : List Bool) (j i : ℕ) (entry : Entry) (xs : List Entry) (b : Bool) → (maker entry == epoch) ≡ b → sees s epoch ≡ false → i < length kept → rows_after entry ≤ length kept → get_or kept i false ≡ true → list_any (is_hidden_by s j (set_bits_before kept i)) (other_entries epoch kept xs) ≡ list_any (is_hidden_by s j i) xs → list_any (is_hidden_by s j (set_bits_before kept i)) (other_entries epoch kept (entry ∷ xs)) ≡ list_any (is_hidden_by s j i) (entry ∷ xs)
hidden_step s epoch kept j i entry xs true e u q h t later =
    ap (list_any (is_hidden_by s j (set_bits_before kept i))) (others_same epoch kept entry xs e) ∙ later ∙ ap (λ b. b || list_any (is_hidden_by s j i) xs) (sym (unseen_mark s epoch j i entry u e))
hidden_step s epoch kept j i entry xs false e u q h t later =
    ap (list_any (is_hidden_by s j (set_bits_before kept i))) (others_other epoch kept entry xs e) ∙ (λ n. hidden_one s epoch kept j i entry q h t n || later n)

hidden_there : (s : Snapshot) (epoch : ℕ) (kept : List Bool) (j i : ℕ) (xs : List Entry) (from : ℕ) → IsLeft epoch kept xs from → sees s epoch ≡ false → i < length kept → get_or kept i false ≡ true → list_any (is_hidden_by s j (set_bits_before kept i)) (other_entries epoch kept xs) ≡ list_any (is_hidden_by s j i) xs
hidden_there s epoch kept j i [] from k u q t = refl
hidden_there s epoch kept j i (entry ∷ xs) from k u q t =
    let n = one_on epoch kept entry xs from k in
    hidden_step s epoch kept j i entry xs (maker entry == epoch) refl u q n.within t (hidden_there s epoch kept j i xs (rows_after entry) n.next u q t)

-- so a snapshot that does not see the epoch sees it or not as before
alike_at : (s : Snapshot) (o : Option ℕ) (f g : ℕ → Bool) → ((j : ℕ) → f j ≡ g j) → option_map_or (λ j. sees s j && not (f j)) o false ≡ option_map_or (λ j. sees s j && not (g j)) o false
alike_at s None f g h = refl
alike_at s (Some j) f g h = ap (λ x. sees s j && not x) (h j)

alike : (s : Snapshot) (a b : Option ℕ) (f g : ℕ → Bool) → a ≡ b → ((j : ℕ) → f j ≡ g j) → option_map_or (λ j. sees s j && not (f j)) a false ≡ option_map_or (λ j. sees s j && not (g j)) b false
alike s a b f g e h = ap (λ o. option_map_or (λ j. sees s j && not (f j)) o false) e ∙ alike_at s b f g h

pub no_other_row : ChangesNoOtherRow
no_other_row s epoch rows entries v u i p t =
    let kept : List Bool = staying_bits epoch entries in
    let k = left_whole epoch entries rows v in
    let q : i < length kept = omega (arith, length-staying epoch entries, vector_rows entries rows v) in
    let on : get_or kept i false ≡ true = k.true_to i (omega arith) q ∙ t in
    let n : ℕ = set_bits_before kept i in
    alike s (epoch_at (entries_without epoch entries) n) (epoch_at entries i) (λ j. list_any (is_hidden_by s j n) (entries_without epoch entries)) (λ j. list_any (is_hidden_by s j i) entries) (epoch_fold (other_entries epoch kept entries) [] n 0 0 (set_bits kept) refl (lead_others epoch kept entries 0 k) ∙ epoch_there epoch kept entries 0 i k (omega arith) q on) (λ j. hidden_fold s j n (other_entries epoch kept entries) [] ∙ hidden_there s epoch kept j i entries 0 k u q on)
