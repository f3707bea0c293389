-- A purge changes nothing for a snapshot that is admissible for its epoch.
use Rattle.std.proofs.Common.{◌≡◌, ℕ, zero, suc, ◌+◌, ◌<◌, ◌≤◌, ◌==◌, ◌&&◌, not, cond, nat_le, max, Bool, true, false, List, [], ◌∷◌, Option, Some, None, All, MatchBool, length, filter, refl, ap, sym, ◌∙◌, inl, inr, arith}
use Rattle.std.specs.List.{list_any, range_with_len}
use Rattle.std.specs.Option.{option_map, option_map_or}
use Rattle.std.proofs.lemmas.Bool.{cases_lt}
use Rattle.std.proofs.lemmas.Bool.Decides.{nat_tests}
use Rattle.std.proofs.lemmas.List.Elements.{All-weaker}
use Rattle.std.proofs.lemmas.List.Folds.{list_any_none}
use Rattle.cube_values.specs.declared.entry.Entry.{Entry}
use Rattle.cube_values.specs.declared.snapshot.Snapshot.{Snapshot}
use Rattle.cube_values.specs.EpochsVector.{IsVector, epoch_at, is_hidden_by, sees_row}
use Rattle.cube_values.specs.Sees.{sees, IsAdmissible}
use Rattle.purge_plan.specs.Purged.{is_removed_by, is_spared, spared_bits, counted_entries, purged_entries}
use Rattle.purge_plan.specs.Sight.{number_after, sees_after, ChangesNothingSeen}
use Rattle.purge_plan.proofs.Counts.{length-kept, leads_kept, kept_bit}
use Rattle.purge_plan.proofs.SameEpochs.{later_epochs}
use Rattle.purge_plan.proofs.SameHidden.{and_off, gone, hidden_fold, hidden_level, hidden_there}

-- an admissible snapshot sees all epochs at or below p
old_seen : (own : Bool) (epoch : ℕ) (deps : List ℕ) (p j : ℕ) → MatchBool own ((p < epoch) × All (λ dep. p < dep) deps) ((p ≤ epoch) × (deps ≡ [])) → j ≤ p → (nat_le j epoch && not (list_any (λ dep. dep == j) deps)) ≡ true
old_seen true epoch deps p j a h =
    let b : nat_le j epoch ≡ true = grind (arith, nat_tests, a.0) in
    let c : list_any (λ dep. dep == j) deps ≡ false = list_any_none (λ dep. dep == j) deps (All-weaker (λ dep. p < dep) (λ dep. (dep == j) ≡ false) (λ dep q. grind (arith, nat_tests)) deps a.1) in
    rw (b, c)
old_seen false epoch deps p j a h =
    let b : nat_le j epoch ≡ true = grind (arith, nat_tests, a.0) in
    rw (b, a.1)

sees_old : (s : Snapshot) (p j : ℕ) → IsAdmissible s p → j ≤ p → sees s j ≡ true
sees_old s p j a h = old_seen s.own s.epoch s.deps p j a h

sees_level : (s : Snapshot) (p j : ℕ) → IsAdmissible s p → sees s j ≡ sees s (max p j)
sees_level s p j a = elim (cases_lt p j) [
  | inl b ↦ ap (sees s) (omega arith)
  | inr b ↦ sees_old s p j a b ∙ sym (sees_old s p p a (omega arith)) ∙ ap (sees s) (omega arith)
]

-- tests of the epoch of a row
flip : (a b : Bool) → not a ≡ not b → a ≡ b
flip true true h = refl
flip false false h = refl
flip true false h = cc
flip false true h = cc

by_level : (g : ℕ → Bool) (p : ℕ) → ((j : ℕ) → g j ≡ g (max p j)) → (o : Option ℕ) → option_map_or g o false ≡ option_map_or g (option_map (max p) o) false
by_level g p h None = refl
by_level g p h (Some j) = h j

at_kept : (s : Snapshot) (r f g : ℕ → Bool) (o : Option ℕ) → not (option_map_or r o false) ≡ true → ((j : ℕ) → r j ≡ false → f j ≡ g j) → option_map_or (λ j. sees s j && not (f j)) o false ≡ option_map_or (λ j. sees s j && not (g j)) o false
at_kept s r f g None k h = refl
at_kept s r f g (Some j) k h = ap (λ x. sees s j && not x) (h j (flip (r j) false k))

at_removed : (s : Snapshot) (r g : ℕ → Bool) (o : Option ℕ) → not (option_map_or r o false) ≡ false → ((j : ℕ) → r j ≡ true → g j ≡ true) → option_map_or (λ j. sees s j && not (g j)) o false ≡ false
at_removed s r g None k h = cc
at_removed s r g (Some j) k h = and_off (sees s j) (not (g j)) (ap not (h j (flip (r j) true k)))

-- one row
kept_row : (s : Snapshot) (p rows : ℕ) (entries : List Entry) → IsVector entries rows → IsAdmissible s p → (i : ℕ) → i < rows → is_spared p entries i ≡ true → sees_after s p entries i ≡ sees_row s entries i
kept_row s p rows entries v a i q t =
    let bits : List Bool = spared_bits p entries in
    let within : i < length bits = omega (arith, length-kept p entries rows v) in
    let n : ℕ = number_after p entries i in
    let g : ℕ → Bool = λ j. sees s j && not (list_any (is_hidden_by s j n) (counted_entries p bits entries)) in
    let level : (j : ℕ) → g j ≡ g (max p j) = λ j z. sees_level s p j a z && not (hidden_level p s bits j n entries z) in
    ap (λ (f : ℕ → Bool). option_map_or f (epoch_at (purged_entries p entries) n) false) (λ z j. sees s j && not (hidden_fold p s j n (counted_entries p bits entries) [] z)) ∙ by_level g p level (epoch_at (purged_entries p entries) n) ∙ ap (λ o. option_map_or g o false) (later_epochs p rows entries v i q t) ∙ sym (by_level g p level (epoch_at entries i)) ∙ at_kept s (λ j. list_any (is_removed_by p j i) entries) (λ j. list_any (is_hidden_by s j n) (counted_entries p bits entries)) (λ j. list_any (is_hidden_by s j i) entries) (epoch_at entries i) t (λ j k. hidden_there p s bits j i entries 0 (leads_kept p entries rows v) within (kept_bit p entries rows i v q t) k)

removed_row : (s : Snapshot) (p : ℕ) (entries : List Entry) → IsAdmissible s p → (i : ℕ) → is_spared p entries i ≡ false → sees_row s entries i ≡ false
removed_row s p entries a i t =
    at_removed s (λ j. list_any (is_removed_by p j i) entries) (λ j. list_any (is_hidden_by s j i) entries) (epoch_at entries i) t (λ j k. gone p s j i entries (λ e. sees_old s p e a) k)

-- all rows in order
filters_one : (f g h : ℕ → Bool) (i : ℕ) (xs : List ℕ) (b : Bool) → g i ≡ b → (g i ≡ true → f i ≡ h i) → (g i ≡ false → h i ≡ false) → filter f (filter g xs) ≡ filter h xs → filter f (filter g (i ∷ xs)) ≡ filter h (i ∷ xs)
filters_one f g h i xs true e k r later = ap (λ b. filter f (cond b (i ∷ filter g xs) (filter g xs))) e ∙ (λ z. cond (k e z) (i ∷ later z) (later z))
filters_one f g h i xs false e k r later = ap (λ b. filter f (cond b (i ∷ filter g xs) (filter g xs))) e ∙ later ∙ sym (ap (λ b. cond b (i ∷ filter h xs) (filter h xs)) (r e))

filters : (f g h : ℕ → Bool) (rows from n : ℕ) → from + n ≤ rows → ((i : ℕ) → i < rows → g i ≡ true → f i ≡ h i) → ((i : ℕ) → i < rows → g i ≡ false → h i ≡ false) → filter f (filter g (range_with_len from n)) ≡ filter h (range_with_len from n)
filters f g h rows from zero p k r = refl
filters f g h rows from (suc n) p k r =
    filters_one f g h from (range_with_len (from + 1) n) (g from) refl (k from (omega arith)) (r from (omega arith)) (filters f g h rows (from + 1) n (omega arith) k r)

pub nothing_seen : ChangesNothingSeen
nothing_seen s p rows entries v a =
    record {
      alike = kept_row s p rows entries v a;
      unseen = λ i _ t. removed_row s p entries a i t;
      in_order = filters (sees_after s p entries) (is_spared p entries) (sees_row s entries) rows 0 rows (omega arith) (kept_row s p rows entries v a) (λ i _ t. removed_row s p entries a i t);
    }
