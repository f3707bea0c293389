-- What an entry leaves that a purge puts at the end of a list: its list, its rows, and that a vector stays one.
use Rattle.std.proofs.Common.{◌≡◌, ℕ, ◌+◌, ◌<◌, ◌≤◌, ◌==◌, ◌&&◌, ◌||◌, nat_le, max, Bool, true, false, List, [], ◌∷◌, ◌++◌, length, map, fold, get_or, slice_set, if◌then◌else◌, suc, zero, refl, ap, sym, subst, ◌∙◌, arith}
use Rattle.std.proofs.lemmas.Bool.Decides.{nat_tests}
use Rattle.cube_values.specs.declared.entry.Entry.{Entry}
use Rattle.cube_values.specs.declared.entry.Entry.TheVariants.{Run, Mark}
use Rattle.cube_values.specs.EpochsVector.{IsVector, Leads, NeighboursApart, is_one_with, rows_from, rows_of, vector_with_entry}
use Rattle.epochs_vector.proofs.Ends.{vector_rows, vector_more}
use Rattle.purge_plan.specs.Purged.{are_old_runs, merged_entry, with_merged_entry, with_counted_entry}

-- the list with one more entry, where it is joined with the last and where it comes after it
pub put_over : (p : ℕ) (xs : List Entry) (n : ℕ) (d new : Entry) → length xs ≡ n + 1 → (is_one_with (get_or xs n d) new || are_old_runs p (get_or xs n d) new) ≡ true → slice_set xs n (merged_entry (get_or xs n d) new) ≡ with_merged_entry p xs new
put_over p [] n d new l h = absurd (omega arith)
put_over p (x ∷ []) zero d new l h = let f : (is_one_with x new || are_old_runs p x new) ≡ true = h in rw f
put_over p (x ∷ []) (suc n) d new l h = absurd (omega arith)
put_over p (x ∷ y ∷ xs) zero d new l h = absurd (omega arith)
put_over p (x ∷ y ∷ xs) (suc n) d new l h = ap (λ t. x ∷ t) (put_over p (y ∷ xs) n d new (omega arith) h)

pub put_after : (p : ℕ) (xs : List Entry) (n : ℕ) (d new : Entry) → length xs ≡ n + 1 → (is_one_with (get_or xs n d) new || are_old_runs p (get_or xs n d) new) ≡ false → xs ++ new ∷ [] ≡ with_merged_entry p xs new
put_after p [] n d new l h = absurd (omega arith)
put_after p (x ∷ []) zero d new l h = let f : (is_one_with x new || are_old_runs p x new) ≡ false = h in rw f
put_after p (x ∷ []) (suc n) d new l h = absurd (omega arith)
put_after p (x ∷ y ∷ xs) zero d new l h = absurd (omega arith)
put_after p (x ∷ y ∷ xs) (suc n) d new l h = ap (λ t. x ∷ t) (put_after p (y ∷ xs) n d new (omega arith) h)

pub put_first : (p : ℕ) (xs : List Entry) (new : Entry) → length xs ≡ 0 → xs ++ new ∷ [] ≡ with_merged_entry p xs new
put_first p [] new l = refl
put_first p (x ∷ xs) new l = absurd (omega arith)

-- the rows that it leads to
rows_end : (p from : ℕ) (last new : Entry) (b : Bool) → (is_one_with last new || are_old_runs p last new) ≡ b → rows_from from (if b then merged_entry last new ∷ [] else last ∷ new ∷ []) ≡ rows_from (rows_from from (last ∷ [])) (new ∷ [])
rows_end p from (Run e x) new false h = refl
rows_end p from (Mark e x) new false h = refl
rows_end p from (Run e x) (Run f y) true h = refl
rows_end p from (Mark e x) (Mark f y) true h = refl
rows_end p from (Run e x) (Mark f y) true h = cc
rows_end p from (Mark e x) (Run f y) true h = cc

rows_joined : (p from : ℕ) (xs : List Entry) (new : Entry) → rows_from from (with_merged_entry p xs new) ≡ rows_from (rows_from from xs) (new ∷ [])
rows_joined p from [] new = refl
rows_joined p from (last ∷ []) new = rows_end p from last new (is_one_with last new || are_old_runs p last new) refl
rows_joined p from (Run e x ∷ next ∷ xs) new = rows_joined p x (next ∷ xs) new
rows_joined p from (Mark e x ∷ next ∷ xs) new = rows_joined p from (next ∷ xs) new

rows_run : (p : ℕ) (xs : List Entry) (e end : ℕ) (b : Bool) → (end == rows_of xs) ≡ b → rows_of (if b then xs else with_merged_entry p xs (Run e end)) ≡ end
rows_run p xs e end true h = grind (arith, nat_tests)
rows_run p xs e end false h = rows_joined p 0 xs (Run e end)

pub rows_counted : (p : ℕ) (xs : List Entry) (new : Entry) → rows_of (with_counted_entry p xs new) ≡ rows_from (rows_of xs) (new ∷ [])
rows_counted p xs (Run e end) = rows_run p xs e end (end == rows_of xs) refl
rows_counted p xs (Mark e at) = rows_joined p 0 xs (Mark e at)

-- entries whose epochs at or below p are all p: there a purge is_one_with as every vector does
abbrev pub level : ℕ → Entry → Entry
level p (Run e x) = Run (max p e) x
level p (Mark e x) = Mark e x

abbrev pub flat : ℕ → List Entry → List Entry
flat p xs = map (level p) xs

pub same_level : (p e f : ℕ) → (e == f || (nat_le e p && nat_le f p)) ≡ true → max p e ≡ max p f
same_level p e f h = grind (arith, nat_tests)

pub top_level : (p e f : ℕ) → max p e ≡ max p f → max p (max e f) ≡ max p f
top_level p e f h = omega arith

one_level : (p e f : ℕ) → max p e ≡ max p f → (max p e == max p f) ≡ true
one_level p e f h = grind (arith, nat_tests)

two_levels : (p e f : ℕ) → (e == f || (nat_le e p && nat_le f p)) ≡ false → (max p e == max p f) ≡ false
two_levels p e f h = grind (arith, nat_tests)

off : (a b : Bool) → (a || false) ≡ b → a ≡ b
off true b h = h
off false b h = h

flat_end : (p : ℕ) (last new : Entry) (b : Bool) → (is_one_with last new || are_old_runs p last new) ≡ b → flat p (if b then merged_entry last new ∷ [] else last ∷ new ∷ []) ≡ (if is_one_with (level p last) (level p new) then level p new ∷ [] else level p last ∷ level p new ∷ [])
flat_end p (Run e x) (Run f y) true h =
    let s : max p e ≡ max p f = same_level p e f h in
    let b = one_level p e f s in
    rw b (ap (λ n. Run n y ∷ []) (top_level p e f s))
flat_end p (Run e x) (Run f y) false h = let b = two_levels p e f h in rw b
flat_end p (Mark e x) (Mark f y) true h = let b = off (e == f && x == y) true h in rw b
flat_end p (Mark e x) (Mark f y) false h = let b = off (e == f && x == y) false h in rw b
flat_end p (Run e x) (Mark f y) true h = cc
flat_end p (Mark e x) (Run f y) true h = cc
flat_end p (Run e x) (Mark f y) false h = refl
flat_end p (Mark e x) (Run f y) false h = refl

flat_joined : (p : ℕ) (xs : List Entry) (new : Entry) → flat p (with_merged_entry p xs new) ≡ vector_with_entry (flat p xs) (level p new)
flat_joined p [] new = refl
flat_joined p (last ∷ []) new = flat_end p last new (is_one_with last new || are_old_runs p last new) refl
flat_joined p (first ∷ next ∷ xs) new = ap (λ l. level p first ∷ l) (flat_joined p (next ∷ xs) new)

-- what entries lead to, where a run may be empty
abbrev pub LeadsOn : ℕ → List Entry → ℕ → Type 0
LeadsOn from [] to = from ≡ to
LeadsOn from (Run e end ∷ xs) to = (from ≤ end) × LeadsOn end xs to
LeadsOn from (Mark e at ∷ xs) to = (at ≡ from) × LeadsOn from xs to

pub rows_flat : (p from : ℕ) (xs : List Entry) → rows_from from (flat p xs) ≡ rows_from from xs
rows_flat p from [] = refl
rows_flat p from (Run e x ∷ xs) = rows_flat p x xs
rows_flat p from (Mark e x ∷ xs) = rows_flat p from xs

-- a vector of such entries stays one
vector_joined : (p : ℕ) (xs : List Entry) (new : Entry) (rows more : ℕ) → IsVector (flat p xs) rows → Leads rows (level p new ∷ []) more → IsVector (flat p (with_merged_entry p xs new)) more
vector_joined p xs new rows more v l =
    let P : List Entry → Type 0 = λ ys. IsVector ys more in
    subst P (sym (flat_joined p xs new)) (vector_more (flat p xs) (level p new) rows more v l)

vector_run : (p : ℕ) (xs : List Entry) (e end rows : ℕ) (b : Bool) → (end == rows_of xs) ≡ b → IsVector (flat p xs) rows → rows ≤ end → IsVector (flat p (if b then xs else with_merged_entry p xs (Run e end))) end
vector_run p xs e end rows true h v l =
    let r : rows_of xs ≡ rows = sym (rows_flat p 0 xs) ∙ vector_rows (flat p xs) rows v in
    let P : ℕ → Type 0 = λ n. IsVector (flat p xs) n in
    let q : rows ≡ end = grind (arith, nat_tests) in
    subst P q v
vector_run p xs e end rows false h v l =
    let r : rows_of xs ≡ rows = sym (rows_flat p 0 xs) ∙ vector_rows (flat p xs) rows v in
    let q : rows < end = grind (arith, nat_tests) in
    vector_joined p xs (Run e end) rows end v (q, refl)

pub vector_with : (p : ℕ) (xs : List Entry) (new : Entry) (rows more : ℕ) → IsVector (flat p xs) rows → LeadsOn rows (new ∷ []) more → IsVector (flat p (with_counted_entry p xs new)) more
vector_with p xs (Run e end) rows more v l =
    let P : ℕ → Type 0 = λ n. IsVector (flat p (with_counted_entry p xs (Run e end))) n in
    subst P l.1 (vector_run p xs e end rows (end == rows_of xs) refl v l.0)
vector_with p xs (Mark e at) rows more v l = vector_joined p xs (Mark e at) rows more v l

pub vector_counted : (p : ℕ) (ys xs : List Entry) (rows more : ℕ) → IsVector (flat p xs) rows → LeadsOn rows ys more → IsVector (flat p (fold (with_counted_entry p) xs ys)) more
vector_counted p [] xs rows more v l = let P : ℕ → Type 0 = λ n. IsVector (flat p xs) n in subst P l v
vector_counted p (Run e end ∷ ys) xs rows more v l =
    vector_counted p ys (with_counted_entry p xs (Run e end)) end more (vector_with p xs (Run e end) rows end v (l.0, refl)) l.1
vector_counted p (Mark e at ∷ ys) xs rows more v l =
    vector_counted p ys (with_counted_entry p xs (Mark e at)) rows more (vector_with p xs (Mark e at) rows rows v (l.0, refl)) l.1

-- and so are the entries themselves one
leads_flat : (p from : ℕ) (xs : List Entry) (to : ℕ) → Leads from (flat p xs) to → Leads from xs to
leads_flat p from [] to l = l
leads_flat p from (Run e x ∷ xs) to l = (l.0, leads_flat p x xs to l.1)
leads_flat p from (Mark e x ∷ xs) to l = (l.0, leads_flat p from xs to l.1)

runs_level : (p e f : ℕ) (b : Bool) → (e == f) ≡ b → (max p e == max p f) ≡ false → b ≡ false
runs_level p e f true h k = let q : e ≡ f = grind (arith, nat_tests) in grind (arith, nat_tests)
runs_level p e f false h k = refl

apart_level : (p : ℕ) (a b : Entry) → is_one_with (level p a) (level p b) ≡ false → is_one_with a b ≡ false
apart_level p (Run e x) (Run f y) k = runs_level p e f (e == f) refl k
apart_level p (Mark e x) (Mark f y) k = k
apart_level p (Run e x) (Mark f y) k = refl
apart_level p (Mark e x) (Run f y) k = refl

apart_flat : (p : ℕ) (xs : List Entry) → NeighboursApart (flat p xs) → NeighboursApart xs
apart_flat p [] k = tt
apart_flat p (a ∷ []) k = tt
apart_flat p (a ∷ b ∷ xs) k = (apart_level p a b k.0, apart_flat p (b ∷ xs) k.1)

pub vector_flat : (p : ℕ) (xs : List Entry) (rows : ℕ) → IsVector (flat p xs) rows → IsVector xs rows
vector_flat p xs rows v = record { leads = leads_flat p 0 xs rows v.leads; apart = apart_flat p xs v.apart }
