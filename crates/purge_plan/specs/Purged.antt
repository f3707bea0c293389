-- What is left of a vector of epochs after a purge at an epoch p: which rows, and which entries.
-- Source: AOSI (ICDE 2018), purge of old epochs; which marks hide and which runs become one is this
-- project's own.
use Rattle.std.specs.Prelude.{ℕ, Bool, false, not, ◌&&◌, ◌||◌, ◌==◌, nat_le, max, List, [], ◌∷◌, map, filter, fold, if◌then◌else◌}
use Rattle.std.specs.List.{list_any, range_with_len}
use Rattle.std.specs.Option.{option_map_or}
use Rattle.cube_values.specs.declared.entry.Entry.{Entry}
use Rattle.cube_values.specs.declared.entry.Entry.TheVariants.{Run, Mark}
use Rattle.cube_values.specs.EpochsVector.{epoch_at, is_one_with, mark_hides, rows_of}
use Rattle.epochs_vector.specs.Without.{recounted_entry}

-- A mark at or below p removes the rows that it hides, whoever looks.
abbrev pub is_removed_by : ℕ → ℕ → ℕ → Entry → Bool
is_removed_by p j i (Run epoch end) = false
is_removed_by p j i (Mark epoch at) = nat_le epoch p && mark_hides epoch at j i

-- Row i is spared: no mark removes it.
abbrev pub is_spared : ℕ → List Entry → ℕ → Bool
is_spared p entries i = not (option_map_or (λ j. list_any (is_removed_by p j i) entries) (epoch_at entries i) false)

-- For each row, whether it is spared.
abbrev pub spared_bits : ℕ → List Entry → List Bool
spared_bits p entries = map (is_spared p entries) (range_with_len 0 (rows_of entries))

-- A mark at or below p.
abbrev pub is_old_mark : ℕ → Entry → Bool
is_old_mark p (Run epoch end) = false
is_old_mark p (Mark epoch at) = nat_le epoch p

-- Two runs at or below p.
abbrev pub are_old_runs : ℕ → Entry → Entry → Bool
are_old_runs p (Run epoch end) (Run next more) = nat_le epoch p && nat_le next p
are_old_runs p a b = false

-- The entries without the old marks, each with its rows counted over those that are spared.
abbrev pub counted_entries : ℕ → List Bool → List Entry → List Entry
counted_entries p bits entries = map (recounted_entry bits) (filter (λ e. not (is_old_mark p e)) entries)

-- What two neighbours become that are merged: the greater epoch, with the rows of both.
abbrev pub merged_entry : Entry → Entry → Entry
merged_entry (Run epoch end) (Run next more) = Run (max epoch next) more
merged_entry a b = b

-- The entries with one more at the end. It is merged with the last as in every vector, and besides
-- where both are runs at or below p.
abbrev pub with_merged_entry : ℕ → List Entry → Entry → List Entry
with_merged_entry p [] new = new ∷ []
with_merged_entry p (last ∷ []) new =
    if is_one_with last new || are_old_runs p last new then merged_entry last new ∷ [] else last ∷ new ∷ []
with_merged_entry p (first ∷ next ∷ entries) new = first ∷ with_merged_entry p (next ∷ entries) new

-- A run is empty after entries that lead to its end already.
abbrev pub is_empty_after : List Entry → Entry → Bool
is_empty_after entries (Run epoch end) = end == rows_of entries
is_empty_after entries (Mark epoch at) = false

-- The same, where an empty run adds nothing.
abbrev pub with_counted_entry : ℕ → List Entry → Entry → List Entry
with_counted_entry p entries new = if is_empty_after entries new then entries else with_merged_entry p entries new

-- The vector after the purge: the counted entries, put one after another.
abbrev pub purged_entries : ℕ → List Entry → List Entry
purged_entries p entries = fold (with_counted_entry p) [] (counted_entries p (spared_bits p entries) entries)
