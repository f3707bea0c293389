-- What is left of a vector of epochs without the entries and the rows of one epoch.
-- Source: this project's own.
use Rattle.std.specs.Prelude.{◌≡◌, ℕ, ◌<◌, Bool, true, false, not, ◌==◌, List, [], map, filter, fold, take}
use Rattle.std.specs.List.{range_with_len}
use Rattle.std.specs.Option.{option_map_or}
use Rattle.cube_values.specs.declared.entry.Entry.{Entry}
use Rattle.cube_values.specs.declared.snapshot.Snapshot.{Snapshot}
use Rattle.cube_values.specs.BitRows.{set_bits}
use Rattle.cube_values.specs.EpochsVector.{IsVector, epoch_at, maker, rows_after, rows_of, sees_row, vector_with_entry, with_rows_after}
use Rattle.cube_values.specs.Sees.{sees}

-- Row i stays: it is of no run of the epoch.
abbrev pub stays : ℕ → List Entry → ℕ → Bool
stays epoch entries i = not (option_map_or (λ j. j == epoch) (epoch_at entries i) false)

-- For each row, whether it stays.
abbrev pub staying_bits : ℕ → List Entry → List Bool
staying_bits epoch entries = map (stays epoch entries) (range_with_len 0 (rows_of entries))

-- How many of the first n bits are set.
abbrev pub set_bits_before : List Bool → ℕ → ℕ
set_bits_before bits n = set_bits (take n bits)

-- The entry with its rows counted over those whose bit is set.
abbrev pub recounted_entry : List Bool → Entry → Entry
recounted_entry bits e = with_rows_after e (set_bits_before bits (rows_after e))

-- The entries of the other epochs, each with its rows counted over those that stay.
abbrev pub other_entries : ℕ → List Bool → List Entry → List Entry
other_entries epoch bits entries = map (recounted_entry bits) (filter (λ e. not (maker e == epoch)) entries)

-- The vector without the epoch: the others' entries one after another, where neighbours become one.
abbrev pub entries_without : ℕ → List Entry → List Entry
entries_without epoch entries = fold vector_with_entry [] (other_entries epoch (staying_bits epoch entries) entries)

-- Of the rows that stay, a snapshot that does not see the epoch sees those that it saw before.
abbrev pub ChangesNoOtherRow : Type 0
ChangesNoOtherRow =
    (s : Snapshot) (epoch rows : ℕ) (entries : List Entry) → IsVector entries rows → sees s epoch ≡ false
    → (i : ℕ) → i < rows → stays epoch entries i ≡ true
    → sees_row s (entries_without epoch entries) (set_bits_before (staying_bits epoch entries) i) ≡ sees_row s entries i
