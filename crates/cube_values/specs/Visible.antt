-- The rows that a snapshot sees in a list of transactions. It lists them by rising epoch.
-- Source: AOSI (ICDE 2018), visibility of appends and of partition deletion. That a deletion hides by
-- epoch and place is this project's own.
use Rattle.std.specs.Prelude.{ℕ, ◌<◌, Bool, false, not, ◌&&◌, ◌||◌, ◌==◌, nat_lt, List, [], ◌∷◌, map, filter}
use Rattle.std.specs.List.{list_any, flat_map, enumerate_from, AllByRecursion}
use Rattle.cube_values.specs.declared.operation.Operation.{Operation}
use Rattle.cube_values.specs.declared.operation.Operation.TheVariants.{Put, Drop}
use Rattle.cube_values.specs.declared.operation.Transaction.{Transaction}
use Rattle.cube_values.specs.declared.row.StoredRow.{StoredRow}
use Rattle.cube_values.specs.declared.snapshot.Snapshot.{Snapshot}
use Rattle.cube_values.specs.Regions.{region_has}
use Rattle.cube_values.specs.Sees.{sees}

-- An operation, with the epoch of its transaction and its place there.
pub record PlacedOperation : Type 0 where
  pub epoch : ℕ
  pub place : ℕ
  pub operation : Operation

-- The operations of a transaction, in order.
abbrev pub placed_operations : Transaction → List PlacedOperation
placed_operations t =
    map (λ p. record { epoch = t.epoch; place = p.0; operation = p.1 }) (enumerate_from 0 t.operations)

-- An operation comes before another by its epoch, or in one transaction by its place.
abbrev pub comes_before : PlacedOperation → PlacedOperation → Bool
comes_before a b = nat_lt a.epoch b.epoch || (a.epoch == b.epoch && nat_lt a.place b.place)

-- The rows that an operation puts.
abbrev pub rows_put : Operation → List StoredRow
rows_put (Put rows) = rows
rows_put (Drop region) = []

-- An operation deletes a row of its region.
abbrev pub deletes : Operation → StoredRow → Bool
deletes (Put rows) row = false
deletes (Drop region) row = region_has region row

-- A deletion hides the rows of its region that an earlier operation put.
abbrev pub hides : PlacedOperation → PlacedOperation → StoredRow → Bool
hides drop put row = deletes drop.operation row && comes_before put drop

-- The rows that remain of operations: those that each puts, without those that one of them hides.
abbrev pub remaining_rows : List PlacedOperation → List StoredRow
remaining_rows all =
    flat_map (λ put. filter (λ row. not (list_any (λ drop. hides drop put row) all)) (rows_put put.operation)) all

-- The rows that a snapshot sees are those that remain of the operations whose epochs it sees.
abbrev pub visible_rows : Snapshot → List Transaction → List StoredRow
visible_rows s transactions =
    remaining_rows (filter (λ placed. sees s placed.epoch) (flat_map placed_operations transactions))

-- Each transaction has an epoch below those that follow it.
abbrev pub RisesByEpoch : List Transaction → Type 0
RisesByEpoch [] = Unit {0}
RisesByEpoch (t ∷ later) = AllByRecursion (λ u. t.epoch < u.epoch) later × RisesByEpoch later
