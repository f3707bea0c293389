-- The transactions of a brick, one after the other.
-- Source: AOSI (ICDE 2018), serial execution in the order of epochs.
use Rattle.std.specs.Prelude.{ℕ, zero, suc, ◌==◌, List, [], ◌∷◌, ◌++◌, if◌then◌else◌}
use Rattle.cube_values.specs.declared.row.CodedRow.{CodedRow}
use Rattle.core_events.specs.ShardView.{BrickEntry, RowRun, RowMark, EpochSet}

-- The runs and marks of an epoch, the newest first.
abbrev pub entries_of_epoch : ℕ → List BrickEntry → List BrickEntry
entries_of_epoch epoch [] = []
entries_of_epoch epoch (RowRun other rows ∷ older) =
    if other == epoch then RowRun other rows ∷ entries_of_epoch epoch older else entries_of_epoch epoch older
entries_of_epoch epoch (RowMark other ∷ older) =
    if other == epoch then RowMark other ∷ entries_of_epoch epoch older else entries_of_epoch epoch older

-- What a transaction makes of the rows of a brick: a run puts its rows behind them, a mark leaves none.
abbrev pub rows_after_entries : List BrickEntry → List CodedRow → List CodedRow
rows_after_entries [] rows = rows
rows_after_entries (RowRun epoch more ∷ older) rows = rows_after_entries older rows ++ more
rows_after_entries (RowMark epoch ∷ older) rows = []

-- The rows that the transactions of some epochs below a limit leave, run in the order of their epochs.
abbrev pub brick_rows_left : ℕ → EpochSet → List BrickEntry → List CodedRow
brick_rows_left zero epochs entries = []
brick_rows_left (suc m) epochs entries =
    if epochs m then rows_after_entries (entries_of_epoch m entries) (brick_rows_left m epochs entries)
    else brick_rows_left m epochs entries
