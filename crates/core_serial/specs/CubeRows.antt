-- What a query is to find in the whole of its cube.
-- Source: AOSI (ICDE 2018), serial execution in the order of epochs.
use Rattle.std.specs.Prelude.{ℕ, ◌+◌, List}
use Rattle.cube_values.specs.declared.query.BoundQuery.{BoundQuery}
use Rattle.cube_values.specs.declared.row.CodedRow.{CodedRow}
use Rattle.cube_values.specs.declared.snapshot.Snapshot.{Snapshot}
use Rattle.core_events.specs.Events.{Opening, CoreEvent}
use Rattle.core_events.specs.Runs.{rows_in_span}
use Rattle.core_events.specs.Serial.{counts_for, operations_of, rows_left_below}

-- The rows of a cube that the transactions that count for a snapshot leave, run in the order of their epochs.
abbrev pub rows_of_serial_run : Opening → List CoreEvent → ℕ → Snapshot → List CodedRow
rows_of_serial_run o es cube s = rows_left_below (s.epoch + 1) (counts_for o es s) (operations_of o cube es)

-- Those of the query's span.
abbrev pub rows_to_find : Opening → List CoreEvent → BoundQuery → Snapshot → List CodedRow
rows_to_find o es query s = rows_in_span query.span (rows_of_serial_run o es query.cube s)
