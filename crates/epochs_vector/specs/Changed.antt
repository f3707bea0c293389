-- What a function that changes the entries of a vector of epochs has to leave.
use Rattle.std.specs.Prelude.{ℕ, ◌≤◌, Bool, List, length}
use Rattle.cube_values.specs.declared.entry.Entry.{Entry}
use Rattle.cube_values.specs.BitRows.{set_bits}
use Rattle.cube_values.specs.EpochsVector.{IsVector}

-- A vector over as many rows as bits are set, of `most` entries at most, in a capacity that was `least`.
pub record LeavesVector (entries : List Entry) (bits : List Bool) (most least capacity : ℕ) : Type 0 where
  pub vector : IsVector entries (set_bits bits)
  pub fewer : length entries ≤ most
  pub memory : least ≤ capacity
