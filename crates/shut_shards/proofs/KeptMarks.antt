-- Marks of a vector of epochs: which ones calls on a brick leave.
use Rattle.std.proofs.Common.{◌≡◌, ℕ, ◌==◌, Bool, true, false, not, ◌||◌, List, [], ◌∷◌, fold, map, filter, cond, if◌then◌else◌, refl}
use Rattle.std.specs.List.{AllByRecursion}
use Rattle.std.proofs.lemmas.Bool.{leb-false}
use Rattle.cube_values.specs.declared.entry.Entry.{Entry}
use Rattle.cube_values.specs.declared.entry.Entry.TheVariants.{Run, Mark}
use Rattle.cube_values.specs.EpochsVector.{is_one_with, maker, vector_with_entry}
use Rattle.epochs_vector.specs.Without.{entries_without, other_entries, recounted_entry, staying_bits}
use Rattle.purge_plan.specs.Purged.{are_old_runs, counted_entries, is_empty_after, is_old_mark, merged_entry, purged_entries, spared_bits, with_counted_entry, with_merged_entry}
use Rattle.shut_shards.specs.ShutShards.{IsNoMarkUpTo}

-- No mark of these is of an epoch up to one.
abbrev pub NoneUpTo : ℕ → List Entry → Type 0
NoneUpTo low entries = AllByRecursion (IsNoMarkUpTo low) entries

pub none-with : (low : ℕ) (xs : List Entry) (new : Entry) → NoneUpTo low xs → IsNoMarkUpTo low new
    → NoneUpTo low (vector_with_entry xs new)
none-with low [] new none is = (is, tt)
none-with low (last ∷ []) new none is = at (is_one_with last new)
  where
    at : (b : Bool) → NoneUpTo low (if b then new ∷ [] else last ∷ new ∷ [])
    at true = (is, tt)
    at false = (none.0, (is, tt))
none-with low (first ∷ next ∷ xs) new none is = (none.0, none-with low (next ∷ xs) new none.1 is)

recounted : (low : ℕ) (bits : List Bool) (e : Entry) → IsNoMarkUpTo low e → IsNoMarkUpTo low (recounted_entry bits e)
recounted low bits (Run epoch end) is = tt
recounted low bits (Mark epoch at) is = is

all-recounted : (low : ℕ) (bits : List Bool) (xs : List Entry) → NoneUpTo low xs
    → NoneUpTo low (map (recounted_entry bits) xs)
all-recounted low bits [] none = tt
all-recounted low bits (e ∷ xs) none = (recounted low bits e none.0, all-recounted low bits xs none.1)

filtered : (low : ℕ) (p : Entry → Bool) (xs : List Entry) → NoneUpTo low xs → NoneUpTo low (filter p xs)
filtered low p [] none = tt
filtered low p (e ∷ xs) none = at (p e) (filtered low p xs none.1)
  where
    at : (b : Bool) → NoneUpTo low (filter p xs) → NoneUpTo low (cond b (e ∷ filter p xs) (filter p xs))
    at true rest = (none.0, rest)
    at false rest = rest

all-with : (low : ℕ) (xs more : List Entry) → NoneUpTo low xs → NoneUpTo low more
    → NoneUpTo low (fold vector_with_entry xs more)
all-with low xs [] none others = none
all-with low xs (e ∷ more) none others =
    all-with low (vector_with_entry xs e) more (none-with low xs e none others.0) others.1

pub none-without : (low epoch : ℕ) (xs : List Entry) → NoneUpTo low xs → NoneUpTo low (entries_without epoch xs)
none-without low epoch xs none =
    all-with low [] (other_entries epoch (staying_bits epoch xs) xs) tt
    (all-recounted low (staying_bits epoch xs) (filter (λ e. not (maker e == epoch)) xs)
    (filtered low (λ e. not (maker e == epoch)) xs none))

-- ---- a purge

merged : (low : ℕ) (a b : Entry) → IsNoMarkUpTo low b → IsNoMarkUpTo low (merged_entry a b)
merged low (Run epoch end) (Run next more) is = tt
merged low (Run epoch end) (Mark next at) is = is
merged low (Mark epoch at) b is = is

none-merged : (low p : ℕ) (xs : List Entry) (new : Entry) → NoneUpTo low xs → IsNoMarkUpTo low new
    → NoneUpTo low (with_merged_entry p xs new)
none-merged low p [] new none is = (is, tt)
none-merged low p (last ∷ []) new none is = at (is_one_with last new || are_old_runs p last new)
  where
    at : (b : Bool) → NoneUpTo low (if b then merged_entry last new ∷ [] else last ∷ new ∷ [])
    at true = (merged low last new is, tt)
    at false = (none.0, (is, tt))
none-merged low p (first ∷ next ∷ xs) new none is = (none.0, none-merged low p (next ∷ xs) new none.1 is)

none-counted : (low p : ℕ) (xs : List Entry) (new : Entry) → NoneUpTo low xs → IsNoMarkUpTo low new
    → NoneUpTo low (with_counted_entry p xs new)
none-counted low p xs new none is = at (is_empty_after xs new)
  where
    at : (b : Bool) → NoneUpTo low (if b then xs else with_merged_entry p xs new)
    at true = none
    at false = none-merged low p xs new none is

all-counted : (low p : ℕ) (xs more : List Entry) → NoneUpTo low xs → NoneUpTo low more
    → NoneUpTo low (fold (with_counted_entry p) xs more)
all-counted low p xs [] none others = none
all-counted low p xs (e ∷ more) none others =
    all-counted low p (with_counted_entry p xs e) more (none-counted low p xs e none others.0) others.1

pub none-purged : (low p : ℕ) (xs : List Entry) → NoneUpTo low xs → NoneUpTo low (purged_entries p xs)
none-purged low p xs none =
    all-counted low p [] (counted_entries p (spared_bits p xs) xs) tt
    (all-recounted low (spared_bits p xs) (filter (λ e. not (is_old_mark p e)) xs)
    (filtered low (λ e. not (is_old_mark p e)) xs none))

-- It takes out the marks up to its epoch.
not-old : (p : ℕ) (e : Entry) → is_old_mark p e ≡ false → IsNoMarkUpTo p e
not-old p (Run epoch end) is = tt
not-old p (Mark epoch at) is = leb-false epoch p is

without-old : (p : ℕ) (xs : List Entry) → NoneUpTo p (filter (λ e. not (is_old_mark p e)) xs)
without-old p [] = tt
without-old p (e ∷ xs) = at (is_old_mark p e) refl (without-old p xs)
  where
    at : (b : Bool) → is_old_mark p e ≡ b → NoneUpTo p (filter (λ e. not (is_old_mark p e)) xs)
        → NoneUpTo p
        (cond (not b) (e ∷ filter (λ e. not (is_old_mark p e)) xs) (filter (λ e. not (is_old_mark p e)) xs))
    at true is rest = rest
    at false is rest = (not-old p e is, rest)

pub purged-none : (p : ℕ) (xs : List Entry) → NoneUpTo p (purged_entries p xs)
purged-none p xs =
    all-counted p p [] (counted_entries p (spared_bits p xs) xs) tt
    (all-recounted p (spared_bits p xs) (filter (λ e. not (is_old_mark p e)) xs) (without-old p xs))
