-- Which rows of a brick a query takes.
use Rattle.std.specs.Prelude.{List, filter}
use Rattle.std.specs.List.{items_where_true}
use Rattle.cube_values.specs.declared.entry.Entry.{Entry}
use Rattle.cube_values.specs.declared.row.CodedRow.{CodedRow}
use Rattle.cube_values.specs.declared.snapshot.Snapshot.{Snapshot}
use Rattle.cube_values.specs.declared.span.Span.{Span}
use Rattle.cube_values.specs.Spans.{span_has_row}
use Rattle.epochs_vector.specs.Seen.{seen_rows}

-- The rows that a snapshot sees by the vector of epochs and that a span has, in order.
abbrev pub rows_shown : Span → Snapshot → List Entry → List CodedRow → List CodedRow
rows_shown span snapshot entries rows =
    filter (span_has_row span) (items_where_true (seen_rows snapshot entries) rows)
