-- Transactions in any order, run in the order of their epochs.
-- Source: AOSI (ICDE 2018), serial execution in the order of epochs.
use Rattle.std.specs.Prelude.{ℕ, ◌≤◌, ◌==◌, zero, suc, Bool, List, [], length, filter, fold, if◌then◌else◌}
use Rattle.std.specs.List.{flat_map}
use Rattle.cube_values.specs.declared.operation.Operation.{Operation}
use Rattle.cube_values.specs.declared.operation.Transaction.{Transaction}
use Rattle.cube_values.specs.declared.row.StoredRow.{StoredRow}
use Rattle.cube_values.specs.Running.{after_operation}

-- The transactions of an epoch, and their operations.
abbrev pub transactions_of_epoch : List Transaction → ℕ → List Transaction
transactions_of_epoch transactions epoch = filter (λ t. t.epoch == epoch) transactions

abbrev pub operations_of_epoch : List Transaction → ℕ → List Operation
operations_of_epoch transactions epoch = flat_map (λ t. t.operations) (transactions_of_epoch transactions epoch)

-- No two of them have one epoch.
abbrev pub AreOfOwnEpochs : List Transaction → Type 0
AreOfOwnEpochs transactions = (epoch : ℕ) → length (transactions_of_epoch transactions epoch) ≤ 1

-- The rows that the operations of some epochs below a limit leave, run in the order of the epochs.
abbrev pub stored_left_below : ℕ → (ℕ → Bool) → (ℕ → List Operation) → List StoredRow
stored_left_below zero epochs operations = []
stored_left_below (suc m) epochs operations =
    if epochs m then fold after_operation (stored_left_below m epochs operations) (operations m)
    else stored_left_below m epochs operations
