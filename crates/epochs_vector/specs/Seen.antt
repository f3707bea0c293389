-- Which rows a snapshot sees, and how the greatest mark that it sees says so.
use Rattle.std.specs.Prelude.{◌≡◌, ℕ, ◌<◌, ◌≤◌, Bool, false, not, ◌&&◌, List, length, map, slice_index_or, Option}
use Rattle.std.specs.List.{range_with_len}
use Rattle.std.specs.Option.{option_map_or}
use Rattle.cube_values.specs.declared.entry.Entry.{Entry}
use Rattle.cube_values.specs.declared.snapshot.Snapshot.{Snapshot}
use Rattle.cube_values.specs.EpochsVector.{rows_of, sees_row}
use Rattle.cube_values.specs.Sees.{sees}
use Rattle.epochs_vector.specs.declared.limit.Limit.{Limit}
use Rattle.epochs_vector.specs.Limits.{is_below}

-- For each row of a vector, whether a snapshot sees it.
abbrev pub seen_rows : Snapshot → List Entry → List Bool
seen_rows s entries = map (sees_row s entries) (range_with_len 0 (rows_of entries))

-- A snapshot sees row i, which is of that epoch or of none, where all below the limit is hidden.
abbrev pub is_shown : Snapshot → Limit → Option ℕ → ℕ → Bool
is_shown s limit epoch i = option_map_or (λ j. sees s j && not (is_below limit j i)) epoch false

-- The new bits are the old ones, with those of the rows from `from` up to `end`, all of epoch j, set
-- where the snapshot sees the row.
pub record ShowsRun (s : Snapshot) (limit : Limit) (j from end : ℕ) (old new : List Bool) : Type 0 where
  pub long : length new ≡ length old
  pub inside : (i : ℕ) → from ≤ i → i < end → slice_index_or new i false ≡ (sees s j && not (is_below limit j i))
  pub below : (i : ℕ) → i < from → slice_index_or new i false ≡ slice_index_or old i false
  pub above : (i : ℕ) → end ≤ i → slice_index_or new i false ≡ slice_index_or old i false
