-- A purge leaves no mark at or below its epoch.
use Rattle.std.proofs.Common.{◌≡◌, ℕ, ◌||◌, nat_le, Bool, true, false, List, [], ◌∷◌, All, fold, if◌then◌else◌, refl, sym, subst, arith}
use Rattle.std.proofs.lemmas.Bool.Decides.{nat_tests}
use Rattle.std.proofs.lemmas.List.Elements.{All-nil, All-cons, All-head, All-tail}
use Rattle.cube_values.specs.declared.entry.Entry.{Entry}
use Rattle.cube_values.specs.declared.entry.Entry.TheVariants.{Run, Mark}
use Rattle.cube_values.specs.EpochsVector.{is_one_with}
use Rattle.epochs_vector.specs.Without.{set_bits_before}
use Rattle.purge_plan.specs.Purged.{are_old_runs, merged_entry, with_merged_entry, is_empty_after, with_counted_entry, counted_entries, spared_bits}
use Rattle.purge_plan.specs.Sight.{MarksAbove, LeavesNoOldMark}
use Rattle.purge_plan.proofs.Counts.{counted_old, counted_new}

-- the counted entries
above_mark : (p : ℕ) (bits : List Bool) (e at : ℕ) (xs : List Entry) (b : Bool) → nat_le e p ≡ b → All (MarksAbove p) (counted_entries p bits xs) → All (MarksAbove p) (counted_entries p bits (Mark e at ∷ xs))
above_mark p bits e at xs true h k = let P : List Entry → Type 0 = λ ys. All (MarksAbove p) ys in subst P (sym (counted_old p bits e at xs h)) k
above_mark p bits e at xs false h k =
    let P : List Entry → Type 0 = λ ys. All (MarksAbove p) ys in
    subst P (sym (counted_new p bits e at xs h)) (All-cons (MarksAbove p) (Mark e (set_bits_before bits at)) (counted_entries p bits xs) (grind (arith, nat_tests)) k)

above_counted : (p : ℕ) (bits : List Bool) (xs : List Entry) → All (MarksAbove p) (counted_entries p bits xs)
above_counted p bits [] = All-nil (MarksAbove p)
above_counted p bits (Run e end ∷ xs) = All-cons (MarksAbove p) (Run e (set_bits_before bits end)) (counted_entries p bits xs) tt (above_counted p bits xs)
above_counted p bits (Mark e at ∷ xs) = above_mark p bits e at xs (nat_le e p) refl (above_counted p bits xs)

-- put one after another
above_one : (p : ℕ) (last new : Entry) → MarksAbove p new → MarksAbove p (merged_entry last new)
above_one p (Run e x) (Run f y) k = tt
above_one p (Mark e x) (Run f y) k = k
above_one p (Run e x) (Mark f y) k = k
above_one p (Mark e x) (Mark f y) k = k

above_end : (p : ℕ) (last new : Entry) (b : Bool) → MarksAbove p last → MarksAbove p new → All (MarksAbove p) (if b then merged_entry last new ∷ [] else last ∷ new ∷ [])
above_end p last new true k m = All-cons (MarksAbove p) (merged_entry last new) [] (above_one p last new m) (All-nil (MarksAbove p))
above_end p last new false k m = All-cons (MarksAbove p) last (new ∷ []) k (All-cons (MarksAbove p) new [] m (All-nil (MarksAbove p)))

above_joined : (p : ℕ) (xs : List Entry) (new : Entry) → All (MarksAbove p) xs → MarksAbove p new → All (MarksAbove p) (with_merged_entry p xs new)
above_joined p [] new k m = All-cons (MarksAbove p) new [] m (All-nil (MarksAbove p))
above_joined p (last ∷ []) new k m = above_end p last new (is_one_with last new || are_old_runs p last new) (All-head (MarksAbove p) last [] k) m
above_joined p (first ∷ next ∷ xs) new k m =
    All-cons (MarksAbove p) first (with_merged_entry p (next ∷ xs) new) (All-head (MarksAbove p) first (next ∷ xs) k) (above_joined p (next ∷ xs) new (All-tail (MarksAbove p) first (next ∷ xs) k) m)

above_with : (p : ℕ) (xs : List Entry) (new : Entry) (b : Bool) → All (MarksAbove p) xs → MarksAbove p new → All (MarksAbove p) (if b then xs else with_merged_entry p xs new)
above_with p xs new true k m = k
above_with p xs new false k m = above_joined p xs new k m

above_fold : (p : ℕ) (ys xs : List Entry) → All (MarksAbove p) xs → All (MarksAbove p) ys → All (MarksAbove p) (fold (with_counted_entry p) xs ys)
above_fold p [] xs k m = k
above_fold p (y ∷ ys) xs k m =
    above_fold p ys (with_counted_entry p xs y) (above_with p xs y (is_empty_after xs y) k (All-head (MarksAbove p) y ys m)) (All-tail (MarksAbove p) y ys m)

pub no_old_mark : LeavesNoOldMark
no_old_mark p entries = above_fold p (counted_entries p (spared_bits p entries) entries) [] (All-nil (MarksAbove p)) (above_counted p (spared_bits p entries) entries)
