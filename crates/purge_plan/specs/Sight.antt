-- What a purge at an epoch p changes for those who look, which is nothing, and what it leaves of epochs
-- and marks.
use Rattle.std.specs.Prelude.{◌≡◌, ℕ, ◌<◌, Bool, true, false, max, List, filter, All}
use Rattle.std.specs.List.{range_with_len}
use Rattle.std.specs.Option.{option_map}
use Rattle.cube_values.specs.declared.entry.Entry.{Entry}
use Rattle.cube_values.specs.declared.entry.Entry.TheVariants.{Run, Mark}
use Rattle.cube_values.specs.declared.snapshot.Snapshot.{Snapshot}
use Rattle.cube_values.specs.EpochsVector.{IsVector, epoch_at, sees_row}
use Rattle.cube_values.specs.Sees.{IsAdmissible}
use Rattle.epochs_vector.specs.Without.{set_bits_before}
use Rattle.purge_plan.specs.Purged.{is_spared, spared_bits, purged_entries}

-- The number that row i, which is spared, has after the purge: how many rows before it are spared.
abbrev pub number_after : ℕ → List Entry → ℕ → ℕ
number_after p entries i = set_bits_before (spared_bits p entries) i

-- A snapshot sees, after the purge, the row that was row i.
abbrev pub sees_after : Snapshot → ℕ → List Entry → ℕ → Bool
sees_after s p entries i = sees_row s (purged_entries p entries) (number_after p entries i)

-- The purge changes nothing for a snapshot: after it a row that is spared is seen exactly where it was seen
-- before, and no row that is removed was seen. So the spared rows that it sees are the rows that it saw, in
-- order.
pub record SeesTheSame (s : Snapshot) (p : ℕ) (entries : List Entry) (rows : ℕ) : Type 0 where
  pub alike : (i : ℕ) → i < rows → is_spared p entries i ≡ true → sees_after s p entries i ≡ sees_row s entries i
  pub unseen : (i : ℕ) → i < rows → is_spared p entries i ≡ false → sees_row s entries i ≡ false
  pub in_order :
      filter (sees_after s p entries) (filter (is_spared p entries) (range_with_len 0 rows))
      ≡ filter (sees_row s entries) (range_with_len 0 rows)

-- So it is for every vector and every snapshot that is admissible for p.
abbrev pub ChangesNothingSeen : Type 0
ChangesNothingSeen =
    (s : Snapshot) (p rows : ℕ) (entries : List Entry) → IsVector entries rows → IsAdmissible s p
    → SeesTheSame s p entries rows

-- A row that is spared is of its epoch afterwards too, where every epoch at or below p counts as p.
abbrev pub KeepsLaterEpochs : Type 0
KeepsLaterEpochs =
    (p rows : ℕ) (entries : List Entry) → IsVector entries rows → (i : ℕ) → i < rows → is_spared p entries i ≡ true
    → option_map (max p) (epoch_at (purged_entries p entries) (number_after p entries i))
    ≡ option_map (max p) (epoch_at entries i)

-- If the entry is a mark, it is above p.
abbrev pub MarksAbove : ℕ → Entry → Type 0
MarksAbove p (Run epoch end) = Unit {0}
MarksAbove p (Mark epoch at) = p < epoch

-- A purge at p leaves no mark at or below p.
abbrev pub LeavesNoOldMark : Type 0
LeavesNoOldMark = (p : ℕ) (entries : List Entry) → All (MarksAbove p) (purged_entries p entries)
