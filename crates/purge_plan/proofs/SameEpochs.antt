-- A purged vector says of the rows that are kept which epochs they are of, where epochs at or below p count as one.
use Rattle.std.proofs.Common.{◌≡◌, ℕ, ◌<◌, ◌≤◌, ◌==◌, ◌||◌, nat_le, nat_lt, max, Bool, true, false, List, [], ◌∷◌, ◌++◌, Option, Some, length, fold, get_or, if◌then◌else◌, refl, ap, sym, subst, ◌∙◌, inl, inr, arith, append-nil}
use Rattle.std.specs.Option.{option_map}
use Rattle.std.proofs.lemmas.Bool.{cases_lt}
use Rattle.std.proofs.lemmas.Bool.Decides.{nat_tests}
use Rattle.cube_values.specs.declared.entry.Entry.{Entry}
use Rattle.cube_values.specs.declared.entry.Entry.TheVariants.{Run, Mark}
use Rattle.cube_values.specs.BitRows.{set_bits}
use Rattle.cube_values.specs.EpochsVector.{IsVector, Leads, epoch_at, is_one_with, rows_of}
use Rattle.epochs_vector.specs.Without.{set_bits_before}
use Rattle.epochs_vector.proofs.Ends.{vector_rows}
use Rattle.epochs_vector.proofs.VisibleRows.{in_run, past_run, lead_up}
use Rattle.purge_plan.specs.Purged.{are_old_runs, merged_entry, with_merged_entry, with_counted_entry, counted_entries, spared_bits, purged_entries}
use Rattle.purge_plan.specs.Sight.{number_after, KeepsLaterEpochs}
use Rattle.purge_plan.proofs.Counts.{rises, climbs, counted_old, counted_new, lead_counted, leads_kept, length-kept, kept_bit}
use Rattle.purge_plan.proofs.Joins.{level, flat, same_level, top_level, LeadsOn, rows_flat, vector_with}

-- joined neighbours say what they said apart
epoch_end : (p : ℕ) (last new : Entry) (zs : List Entry) (n from to more : ℕ) (b : Bool) → (is_one_with last new || are_old_runs p last new) ≡ b → Leads from (level p last ∷ []) to → LeadsOn to (new ∷ []) more → epoch_at (flat p (if b then merged_entry last new ∷ [] else last ∷ new ∷ []) ++ zs) n ≡ epoch_at (level p last ∷ level p new ∷ zs) n
epoch_end p last new zs n from to more false h l m = refl
epoch_end p (Run e x) (Run f y) zs n from to more true h l m =
    let t : max p (max e f) ≡ max p f = top_level p e f (same_level p e f h) in
    elim (cases_lt n x) [
      | inl a ↦ in_run zs (max p (max e f)) y n (omega (arith, l.1, m.0)) ∙ ap Some (t ∙ sym (same_level p e f h)) ∙ sym (in_run (Run (max p f) y ∷ zs) (max p e) x n a)
      | inr a ↦ ap (λ k. epoch_at (Run k y ∷ zs) n) t ∙ sym (past_run (Run (max p f) y ∷ zs) (max p e) x n a)
    ]
epoch_end p (Mark e x) (Mark f y) zs n from to more true h l m = refl
epoch_end p (Run e x) (Mark f y) zs n from to more true h l m = cc
epoch_end p (Mark e x) (Run f y) zs n from to more true h l m = cc

epoch_joined : (p : ℕ) (xs : List Entry) (new : Entry) (zs : List Entry) (n from to more : ℕ) → Leads from (flat p xs) to → LeadsOn to (new ∷ []) more → epoch_at (flat p (with_merged_entry p xs new) ++ zs) n ≡ epoch_at (flat p xs ++ level p new ∷ zs) n
epoch_joined p [] new zs n from to more l m = refl
epoch_joined p (last ∷ []) new zs n from to more l m = epoch_end p last new zs n from to more (is_one_with last new || are_old_runs p last new) refl l m
epoch_joined p (Run e x ∷ next ∷ xs) new zs n from to more l m = ap (λ o. if nat_lt n x then Some (max p e) else o) (epoch_joined p (next ∷ xs) new zs n x to more l.1 m)
epoch_joined p (Mark e x ∷ next ∷ xs) new zs n from to more l m = epoch_joined p (next ∷ xs) new zs n from to more l.1 m

-- an empty run says nothing
epoch_skip : (p : ℕ) (xs zs : List Entry) (j end n from : ℕ) → Leads from (flat p xs) end → from ≤ n → epoch_at (flat p xs ++ zs) n ≡ epoch_at (flat p xs ++ Run j end ∷ zs) n
epoch_skip p [] zs j end n from l h = sym (past_run zs j end n (omega arith))
epoch_skip p (Run e x ∷ xs) zs j end n from l h = elim (cases_lt n x) [
  | inl a ↦ in_run (flat p xs ++ zs) (max p e) x n a ∙ sym (in_run (flat p xs ++ Run j end ∷ zs) (max p e) x n a)
  | inr a ↦ ap (λ o. if nat_lt n x then Some (max p e) else o) (epoch_skip p xs zs j end n x l.1 a)
]
epoch_skip p (Mark e x ∷ xs) zs j end n from l h = epoch_skip p xs zs j end n from l.1 h

epoch_run : (p : ℕ) (xs zs : List Entry) (e end n rows : ℕ) (b : Bool) → (end == rows_of xs) ≡ b → IsVector (flat p xs) rows → rows ≤ end → epoch_at (flat p (if b then xs else with_merged_entry p xs (Run e end)) ++ zs) n ≡ epoch_at (flat p xs ++ Run (max p e) end ∷ zs) n
epoch_run p xs zs e end n rows true h v m =
    let r : rows_of xs ≡ rows = sym (rows_flat p 0 xs) ∙ vector_rows (flat p xs) rows v in
    let P : ℕ → Type 0 = λ k. Leads 0 (flat p xs) k in
    let q : rows ≡ end = grind (arith, nat_tests) in
    epoch_skip p xs zs (max p e) end n 0 (subst P q v.leads) (omega arith)
epoch_run p xs zs e end n rows false h v m = epoch_joined p xs (Run e end) zs n 0 rows end v.leads (m, refl)

epoch_with : (p : ℕ) (xs : List Entry) (new : Entry) (zs : List Entry) (n rows more : ℕ) → IsVector (flat p xs) rows → LeadsOn rows (new ∷ []) more → epoch_at (flat p (with_counted_entry p xs new) ++ zs) n ≡ epoch_at (flat p xs ++ level p new ∷ zs) n
epoch_with p xs (Run e end) zs n rows more v l = epoch_run p xs zs e end n rows (end == rows_of xs) refl v l.0
epoch_with p xs (Mark e at) zs n rows more v l = epoch_joined p xs (Mark e at) zs n 0 rows more v.leads l

epoch_fold : (p : ℕ) (ys xs : List Entry) (n rows more : ℕ) → IsVector (flat p xs) rows → LeadsOn rows ys more → epoch_at (flat p (fold (with_counted_entry p) xs ys)) n ≡ epoch_at (flat p xs ++ flat p ys) n
epoch_fold p [] xs n rows more v l = ap (λ z. epoch_at z n) (sym (append-nil (flat p xs)))
epoch_fold p (Run e end ∷ ys) xs n rows more v l = epoch_fold p ys (with_counted_entry p xs (Run e end)) n end more (vector_with p xs (Run e end) rows end v (l.0, refl)) l.1 ∙ epoch_with p xs (Run e end) (flat p ys) n rows end v (l.0, refl)
epoch_fold p (Mark e at ∷ ys) xs n rows more v l = epoch_fold p ys (with_counted_entry p xs (Mark e at)) n rows more (vector_with p xs (Mark e at) rows rows v (l.0, refl)) l.1 ∙ epoch_with p xs (Mark e at) (flat p ys) n rows rows v (l.0, refl)

-- a row that is kept is of its epoch among the counted entries
epoch_mark : (p : ℕ) (bits : List Bool) (e at : ℕ) (xs : List Entry) (n : ℕ) (b : Bool) → nat_le e p ≡ b → epoch_at (counted_entries p bits (Mark e at ∷ xs)) n ≡ epoch_at (counted_entries p bits xs) n
epoch_mark p bits e at xs n true h = ap (λ l. epoch_at l n) (counted_old p bits e at xs h)
epoch_mark p bits e at xs n false h = ap (λ l. epoch_at l n) (counted_new p bits e at xs h)

epoch_there : (p : ℕ) (bits : List Bool) (xs : List Entry) (from i : ℕ) → Leads from xs (length bits) → i < length bits → get_or bits i false ≡ true → epoch_at (counted_entries p bits xs) (set_bits_before bits i) ≡ epoch_at xs i
epoch_there p bits [] from i l q t = refl
epoch_there p bits (Run j end ∷ xs) from i l q t =
    let w : end ≤ length bits = lead_up end xs (length bits) l.1 in
    elim (cases_lt i end) [
      | inl a ↦ in_run (counted_entries p bits xs) j (set_bits_before bits end) (set_bits_before bits i) (climbs bits i end a w t) ∙ sym (in_run xs j end i a)
      | inr a ↦ past_run (counted_entries p bits xs) j (set_bits_before bits end) (set_bits_before bits i) (rises bits end i a) ∙ epoch_there p bits xs end i l.1 q t ∙ sym (past_run xs j end i a)
    ]
epoch_there p bits (Mark e at ∷ xs) from i l q t = epoch_mark p bits e at xs (set_bits_before bits i) (nat_le e p) refl ∙ epoch_there p bits xs from i l.1 q t

-- epochs at or below p taken as p
level_one : (p e : ℕ) (b : Bool) (o : Option ℕ) → (if b then Some (max p e) else option_map (max p) o) ≡ option_map (max p) (if b then Some e else o)
level_one p e true o = refl
level_one p e false o = refl

level_at : (p : ℕ) (xs : List Entry) (n : ℕ) → epoch_at (flat p xs) n ≡ option_map (max p) (epoch_at xs n)
level_at p [] n = refl
level_at p (Run e x ∷ xs) n = ap (λ o. if nat_lt n x then Some (max p e) else o) (level_at p xs n) ∙ level_one p e (nat_lt n x) (epoch_at xs n)
level_at p (Mark e x ∷ xs) n = level_at p xs n

-- the whole vector
pub later_epochs : KeepsLaterEpochs
later_epochs p rows xs v i q t =
    let bits : List Bool = spared_bits p xs in
    let n : ℕ = number_after p xs i in
    let l = leads_kept p xs rows v in
    let within : i < length bits = omega (arith, length-kept p xs rows v) in
    sym (level_at p (purged_entries p xs) n) ∙ epoch_fold p (counted_entries p bits xs) [] n 0 (set_bits bits) (record { leads = refl; apart = tt }) (lead_counted p bits xs 0 l) ∙ level_at p (counted_entries p bits xs) n ∙ ap (option_map (max p)) (epoch_there p bits xs 0 i l within (kept_bit p xs rows i v q t))
