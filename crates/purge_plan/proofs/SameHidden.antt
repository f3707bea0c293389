-- A purged vector hides the rows that are kept from those who are admissible as the whole vector did.
use Rattle.std.proofs.Common.{◌≡◌, ℕ, ◌<◌, ◌≤◌, ◌==◌, ◌&&◌, ◌||◌, nat_le, nat_lt, max, Bool, true, false, List, [], ◌∷◌, ◌++◌, length, fold, get_or, if◌then◌else◌, refl, ap, sym, ◌∙◌, inl, inr, arith, append-nil}
use Rattle.std.specs.List.{list_any}
use Rattle.std.proofs.lemmas.Bool.{cases_lt}
use Rattle.std.proofs.lemmas.Bool.Decides.{nat_tests}
use Rattle.std.proofs.lemmas.List.Folds.{list_any-append}
use Rattle.cube_values.specs.declared.entry.Entry.{Entry}
use Rattle.cube_values.specs.declared.entry.Entry.TheVariants.{Run, Mark}
use Rattle.cube_values.specs.declared.snapshot.Snapshot.{Snapshot}
use Rattle.cube_values.specs.EpochsVector.{Leads, is_hidden_by, is_one_with, rows_of}
use Rattle.cube_values.specs.Sees.{sees}
use Rattle.epochs_vector.specs.Without.{set_bits_before}
use Rattle.epochs_vector.proofs.VisibleRows.{lead_up}
use Rattle.purge_plan.specs.Purged.{is_removed_by, are_old_runs, merged_entry, with_merged_entry, with_counted_entry, counted_entries}
use Rattle.purge_plan.proofs.Counts.{rises, climbs, counted_old, counted_new}

-- tests
or_first : (a b : Bool) → (a || b) ≡ false → a ≡ false
or_first false b h = refl
or_first true b h = h

or_rest : (a b : Bool) → (a || b) ≡ false → b ≡ false
or_rest false b h = h
or_rest true b h = cc

or_on : (a b : Bool) → b ≡ true → (a || b) ≡ true
or_on true b h = refl
or_on false b h = h

pub and_off : (a b : Bool) → b ≡ false → (a && b) ≡ false
and_off true b h = h
and_off false b h = refl

-- joined neighbours hide what they hid apart
twice : (a b x : Bool) → a ≡ b → (b || x) ≡ (a || (b || x))
twice true b x e = rw (← e)
twice false b x e = refl

hidden_end : (p : ℕ) (s : Snapshot) (j n : ℕ) (last new : Entry) (zs : List Entry) (b : Bool) → (is_one_with last new || are_old_runs p last new) ≡ b → list_any (is_hidden_by s j n) ((if b then merged_entry last new ∷ [] else last ∷ new ∷ []) ++ zs) ≡ list_any (is_hidden_by s j n) (last ∷ new ∷ zs)
hidden_end p s j n last new zs false h = refl
hidden_end p s j n (Run e x) (Run f y) zs true h = refl
hidden_end p s j n (Mark e x) (Mark f y) zs true h =
    let a : e ≡ f = grind (arith, nat_tests) in
    let c : x ≡ y = grind (arith, nat_tests) in
    twice (is_hidden_by s j n (Mark e x)) (is_hidden_by s j n (Mark f y)) (list_any (is_hidden_by s j n) zs) (λ t. is_hidden_by s j n (Mark (a t) (c t)))
hidden_end p s j n (Run e x) (Mark f y) zs true h = cc
hidden_end p s j n (Mark e x) (Run f y) zs true h = cc

hidden_joined : (p : ℕ) (s : Snapshot) (j n : ℕ) (xs : List Entry) (new : Entry) (zs : List Entry) → list_any (is_hidden_by s j n) (with_merged_entry p xs new ++ zs) ≡ list_any (is_hidden_by s j n) (xs ++ new ∷ zs)
hidden_joined p s j n [] new zs = refl
hidden_joined p s j n (last ∷ []) new zs = hidden_end p s j n last new zs (is_one_with last new || are_old_runs p last new) refl
hidden_joined p s j n (x ∷ next ∷ xs) new zs = ap (λ b. is_hidden_by s j n x || b) (hidden_joined p s j n (next ∷ xs) new zs)

hidden_run : (p : ℕ) (s : Snapshot) (j n : ℕ) (xs zs : List Entry) (e end : ℕ) (b : Bool) → list_any (is_hidden_by s j n) ((if b then xs else with_merged_entry p xs (Run e end)) ++ zs) ≡ list_any (is_hidden_by s j n) (xs ++ Run e end ∷ zs)
hidden_run p s j n xs zs e end true = list_any-append (is_hidden_by s j n) xs zs ∙ sym (list_any-append (is_hidden_by s j n) xs (Run e end ∷ zs))
hidden_run p s j n xs zs e end false = hidden_joined p s j n xs (Run e end) zs

hidden_with : (p : ℕ) (s : Snapshot) (j n : ℕ) (xs : List Entry) (new : Entry) (zs : List Entry) → list_any (is_hidden_by s j n) (with_counted_entry p xs new ++ zs) ≡ list_any (is_hidden_by s j n) (xs ++ new ∷ zs)
hidden_with p s j n xs (Run e end) zs = hidden_run p s j n xs zs e end (end == rows_of xs)
hidden_with p s j n xs (Mark e at) zs = hidden_joined p s j n xs (Mark e at) zs

pub hidden_fold : (p : ℕ) (s : Snapshot) (j n : ℕ) (ys xs : List Entry) → list_any (is_hidden_by s j n) (fold (with_counted_entry p) xs ys) ≡ list_any (is_hidden_by s j n) (xs ++ ys)
hidden_fold p s j n [] xs = ap (list_any (is_hidden_by s j n)) (sym (append-nil xs))
hidden_fold p s j n (y ∷ ys) xs = hidden_fold p s j n ys (with_counted_entry p xs y) ∙ hidden_with p s j n xs y ys

-- marks above p hide rows of all epochs at or below p alike
lt_level : (p j e : ℕ) → nat_le e p ≡ false → nat_lt j e ≡ nat_lt (max p j) e
lt_level p j e h = grind (arith, nat_tests)

eq_level : (p j e : ℕ) → nat_le e p ≡ false → (j == e) ≡ (max p j == e)
eq_level p j e h = grind (arith, nat_tests)

level_mark : (p : ℕ) (s : Snapshot) (j n e at : ℕ) → nat_le e p ≡ false → is_hidden_by s j n (Mark e at) ≡ is_hidden_by s (max p j) n (Mark e at)
level_mark p s j n e at h = λ t. sees s e && (lt_level p j e h t || (eq_level p j e h t && nat_lt n at))

level_step : (p : ℕ) (s : Snapshot) (bits : List Bool) (j n e at : ℕ) (xs : List Entry) (b : Bool) → nat_le e p ≡ b → list_any (is_hidden_by s j n) (counted_entries p bits xs) ≡ list_any (is_hidden_by s (max p j) n) (counted_entries p bits xs) → list_any (is_hidden_by s j n) (counted_entries p bits (Mark e at ∷ xs)) ≡ list_any (is_hidden_by s (max p j) n) (counted_entries p bits (Mark e at ∷ xs))
level_step p s bits j n e at xs true h r =
    ap (list_any (is_hidden_by s j n)) (counted_old p bits e at xs h) ∙ r ∙ sym (ap (list_any (is_hidden_by s (max p j) n)) (counted_old p bits e at xs h))
level_step p s bits j n e at xs false h r =
    ap (list_any (is_hidden_by s j n)) (counted_new p bits e at xs h) ∙ (λ t. level_mark p s j n e (set_bits_before bits at) h t || r t) ∙ sym (ap (list_any (is_hidden_by s (max p j) n)) (counted_new p bits e at xs h))

pub hidden_level : (p : ℕ) (s : Snapshot) (bits : List Bool) (j n : ℕ) (xs : List Entry) → list_any (is_hidden_by s j n) (counted_entries p bits xs) ≡ list_any (is_hidden_by s (max p j) n) (counted_entries p bits xs)
hidden_level p s bits j n [] = refl
hidden_level p s bits j n (Run e end ∷ xs) = hidden_level p s bits j n xs
hidden_level p s bits j n (Mark e at ∷ xs) = level_step p s bits j n e at xs (nat_le e p) refl (hidden_level p s bits j n xs)

-- rows that are kept keep their order
both_lt : (a b c d : ℕ) → a < b → c < d → nat_lt a b ≡ nat_lt c d
both_lt a b c d p q = grind (arith, nat_tests)

both_ge : (a b c d : ℕ) → b ≤ a → d ≤ c → nat_lt a b ≡ nat_lt c d
both_ge a b c d p q = grind (arith, nat_tests)

same_order : (bits : List Bool) (i n : ℕ) → i < length bits → n ≤ length bits → get_or bits i false ≡ true → nat_lt (set_bits_before bits i) (set_bits_before bits n) ≡ nat_lt i n
same_order bits i n p h k = elim (cases_lt i n) [
  | inl a ↦ let q = climbs bits i n a h k in both_lt (set_bits_before bits i) (set_bits_before bits n) i n q a
  | inr a ↦ let q = rises bits n i a in both_ge (set_bits_before bits i) (set_bits_before bits n) i n q a
]

-- and a row that no old mark removes is hidden by the counted entries where the whole vector hides it
removed_off : (a x : Bool) → a ≡ true → (a && x) ≡ false → x ≡ false
removed_off true x e h = h
removed_off false x e h = cc

hidden_step : (p : ℕ) (s : Snapshot) (bits : List Bool) (j i e at : ℕ) (xs : List Entry) (b : Bool) → nat_le e p ≡ b → i < length bits → at ≤ length bits → get_or bits i false ≡ true → is_removed_by p j i (Mark e at) ≡ false → list_any (is_hidden_by s j (set_bits_before bits i)) (counted_entries p bits xs) ≡ list_any (is_hidden_by s j i) xs → list_any (is_hidden_by s j (set_bits_before bits i)) (counted_entries p bits (Mark e at ∷ xs)) ≡ list_any (is_hidden_by s j i) (Mark e at ∷ xs)
hidden_step p s bits j i e at xs true h q w t k r =
    let x = and_off (sees s e) (nat_lt j e || (j == e && nat_lt i at)) (removed_off (nat_le e p) (nat_lt j e || (j == e && nat_lt i at)) h k) in
    ap (list_any (is_hidden_by s j (set_bits_before bits i))) (counted_old p bits e at xs h) ∙ r ∙ ap (λ b. b || list_any (is_hidden_by s j i) xs) (sym x)
hidden_step p s bits j i e at xs false h q w t k r =
    ap (list_any (is_hidden_by s j (set_bits_before bits i))) (counted_new p bits e at xs h) ∙ (λ z. (sees s e && (nat_lt j e || (j == e && same_order bits i at q w t z))) || r z)

pub hidden_there : (p : ℕ) (s : Snapshot) (bits : List Bool) (j i : ℕ) (xs : List Entry) (from : ℕ) → Leads from xs (length bits) → i < length bits → get_or bits i false ≡ true → list_any (is_removed_by p j i) xs ≡ false → list_any (is_hidden_by s j (set_bits_before bits i)) (counted_entries p bits xs) ≡ list_any (is_hidden_by s j i) xs
hidden_there p s bits j i [] from l q t k = refl
hidden_there p s bits j i (Run e end ∷ xs) from l q t k = hidden_there p s bits j i xs end l.1 q t k
hidden_there p s bits j i (Mark e at ∷ xs) from l q t k =
    let w : at ≤ length bits = omega (arith, l.0, lead_up from xs (length bits) l.1) in
    let a = or_first (is_removed_by p j i (Mark e at)) (list_any (is_removed_by p j i) xs) k in
    let c = or_rest (is_removed_by p j i (Mark e at)) (list_any (is_removed_by p j i) xs) k in
    hidden_step p s bits j i e at xs (nat_le e p) refl q w t a (hidden_there p s bits j i xs from l.1 q t c)

-- who sees all epochs at or below p does not see a row that a mark of one of them removes
gone_step : (p : ℕ) (s : Snapshot) (j i e at : ℕ) (xs : List Entry) (b x : Bool) → nat_le e p ≡ b → (nat_lt j e || (j == e && nat_lt i at)) ≡ x → (e ≤ p → sees s e ≡ true) → (list_any (is_removed_by p j i) xs ≡ true → list_any (is_hidden_by s j i) xs ≡ true) → list_any (is_removed_by p j i) (Mark e at ∷ xs) ≡ true → list_any (is_hidden_by s j i) (Mark e at ∷ xs) ≡ true
gone_step p s j i e at xs true true h k old r g = let v : sees s e ≡ true = old (grind (arith, nat_tests)) in rw (v, k)
gone_step p s j i e at xs true false h k old r g =
    let g2 : list_any (is_removed_by p j i) xs ≡ true = ap (λ b. b || list_any (is_removed_by p j i) xs) (sym (and_off (nat_le e p) (nat_lt j e || (j == e && nat_lt i at)) k)) ∙ g in
    or_on (is_hidden_by s j i (Mark e at)) (list_any (is_hidden_by s j i) xs) (r g2)
gone_step p s j i e at xs false x h k old r g =
    let g2 : list_any (is_removed_by p j i) xs ≡ true = ap (λ b. (b && (nat_lt j e || (j == e && nat_lt i at))) || list_any (is_removed_by p j i) xs) (sym h) ∙ g in
    or_on (is_hidden_by s j i (Mark e at)) (list_any (is_hidden_by s j i) xs) (r g2)

pub gone : (p : ℕ) (s : Snapshot) (j i : ℕ) (xs : List Entry) → ((e : ℕ) → e ≤ p → sees s e ≡ true) → list_any (is_removed_by p j i) xs ≡ true → list_any (is_hidden_by s j i) xs ≡ true
gone p s j i [] old g = g
gone p s j i (Run e end ∷ xs) old g = gone p s j i xs old g
gone p s j i (Mark e at ∷ xs) old g = gone_step p s j i e at xs (nat_le e p) (nat_lt j e || (j == e && nat_lt i at)) refl refl (old e) (gone p s j i xs old) g
