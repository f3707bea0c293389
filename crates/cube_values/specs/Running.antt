-- Running transactions one after the other, which is how a reader may think of what a snapshot sees.
use Rattle.std.specs.Prelude.{◌≡◌, not, List, [], ◌++◌, filter, fold}
use Rattle.cube_values.specs.declared.operation.Operation.{Operation}
use Rattle.cube_values.specs.declared.operation.Operation.TheVariants.{Put, Drop}
use Rattle.cube_values.specs.declared.operation.Transaction.{Transaction}
use Rattle.cube_values.specs.declared.row.StoredRow.{StoredRow}
use Rattle.cube_values.specs.declared.snapshot.Snapshot.{Snapshot}
use Rattle.cube_values.specs.Regions.{region_has}
use Rattle.cube_values.specs.Sees.{sees}
use Rattle.cube_values.specs.Visible.{visible_rows, RisesByEpoch}

-- A put appends its rows, a drop keeps the rows outside its region.
abbrev pub after_operation : List StoredRow → Operation → List StoredRow
after_operation rows (Put new) = rows ++ new
after_operation rows (Drop region) = filter (λ row. not (region_has region row)) rows

-- The operations of a transaction, in order.
abbrev pub after_transaction : List StoredRow → Transaction → List StoredRow
after_transaction rows t = fold after_operation rows t.operations

-- What transactions leave, run one after the other from no rows.
abbrev pub rows_left_by : List Transaction → List StoredRow
rows_left_by transactions = fold after_transaction [] transactions

-- A snapshot sees, row for row, what the transactions that it sees leave, run in the order of their epochs.
abbrev pub SeesWhatIsLeft : Type 0
SeesWhatIsLeft =
    (s : Snapshot) (transactions : List Transaction) → RisesByEpoch transactions
    → visible_rows s transactions ≡ rows_left_by (filter (λ t. sees s t.epoch) transactions)
