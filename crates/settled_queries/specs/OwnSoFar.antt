-- What a writer finds by the whole of a run: of its own transaction the operations so far, of the others all.
-- Source: AOSI (ICDE 2018), a transaction sees its own earlier operations.
use Rattle.std.specs.Prelude.{ℕ, ◌+◌, ◌==◌, List, if◌then◌else◌}
use Rattle.cube_values.specs.declared.query.BoundQuery.{BoundQuery}
use Rattle.cube_values.specs.declared.row.CodedRow.{CodedRow}
use Rattle.cube_values.specs.declared.snapshot.Snapshot.{Snapshot}
use Rattle.core_events.specs.Events.{Opening, CoreEvent}
use Rattle.core_events.specs.Runs.{rows_in_span}
use Rattle.core_events.specs.Serial.{CubeOperation, counts_for, operations_of, rows_left_below}

-- The operations of each epoch, of one epoch these instead.
abbrev pub operations_with_own : (ℕ → List CubeOperation) → ℕ → List CubeOperation → ℕ → List CubeOperation
operations_with_own operations epoch own e = if epoch == e then own else operations e

-- The rows of a cube that the transactions which count for a writer leave, its own with just these operations.
abbrev pub rows_with_own : Opening → List CoreEvent → ℕ → Snapshot → List CubeOperation → List CodedRow
rows_with_own o es cube writer own =
    rows_left_below (writer.epoch + 1) (counts_for o es writer)
    (operations_with_own (operations_of o cube es) writer.epoch own)

-- Those of a query's span.
abbrev pub rows_to_find_with_own : Opening → List CoreEvent → BoundQuery → Snapshot → List CubeOperation → List CodedRow
rows_to_find_with_own o es query writer own = rows_in_span query.span (rows_with_own o es query.cube writer own)
