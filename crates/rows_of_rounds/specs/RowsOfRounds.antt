-- The rows that a store's rounds keep of a run of the core.
-- Source: AOSI (ICDE 2018), LSE, flush rounds and serial execution in the order of epochs.
use Rattle.std.specs.Prelude.{◌≡◌, ℕ, ◌≤◌, List, [], length}
use Rattle.std.specs.List.{AllByRecursion}
use Rattle.std.specs.List.Sorted.{IsPermutation}
use Rattle.cube_values.specs.EpochsVector.{Leads}
use Rattle.cube_rounds.specs.Bricks.{BrickPart}
use Rattle.cube_rounds.specs.Demands.{IsOfEpochs}
use Rattle.cube_rounds.specs.KeptRows.{entries_joined, kept_rows_of_brick, parts_of_brick, rows_joined}
use Rattle.cube_rounds.specs.Stands.{Kept}
use Rattle.core_events.specs.Cells.{rows_of_brick}
use Rattle.core_events.specs.Clients.{reader_up_to}
use Rattle.core_events.specs.Events.{Opening, CoreEvent}
use Rattle.core_serial.specs.Copies.{rows_committed_up_to}

-- The rounds keep of each brick, each row as often, its rows among those that the transactions leave which are committed
-- up to the epoch of what is kept.
abbrev pub KeepsCommittedRows : Opening → List CoreEvent → Kept → Type 0
KeepsCommittedRows o es kept = (cube brick : ℕ)
    → IsPermutation (kept_rows_of_brick (reader_up_to kept.epoch) cube brick kept.rounds)
    (rows_of_brick o cube brick (rows_committed_up_to o es cube kept.epoch))

-- What rounds up to an epoch have of a brick, joined: entries of these epochs, which lead over the rows.
pub record AreJoinedUpTo (epoch : ℕ) (parts : List BrickPart) : Type 0 where
  pub leads : Leads 0 (entries_joined 0 parts) (length (rows_joined parts))
  pub epochs : AllByRecursion (IsOfEpochs 0 epoch) (entries_joined 0 parts)

-- The rounds have the rows of a run, which opens with rows of its cubes alone.
pub record HasRowsOfRun (o : Opening) (es : List CoreEvent) (kept : Kept) : Type 0 where
  pub opens : (cube : ℕ) → length o.cubes ≤ cube → o.rows cube ≡ []
  pub joined : (cube brick : ℕ) → AreJoinedUpTo kept.epoch (parts_of_brick cube brick kept.rounds)
  pub rows : KeepsCommittedRows o es kept
