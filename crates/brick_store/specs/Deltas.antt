-- Which rows of a brick one snapshot sees and another does not.
use Rattle.std.specs.Prelude.{Bool, not, ◌&&◌, List, map, filter}
use Rattle.std.specs.List.{zip, items_where_true, range_with_len}
use Rattle.cube_values.specs.declared.entry.Entry.{Entry}
use Rattle.cube_values.specs.declared.row.CodedRow.{CodedRow}
use Rattle.cube_values.specs.declared.snapshot.Snapshot.{Snapshot}
use Rattle.cube_values.specs.declared.span.Span.{Span}
use Rattle.cube_values.specs.EpochsVector.{rows_of, sees_row}
use Rattle.cube_values.specs.Spans.{span_has_row}

-- The bits that are set where those of another list are not.
abbrev pub bits_apart : List Bool → List Bool → List Bool
bits_apart bits others = map (λ p. p.0 && not p.1) (zip bits others)

-- For each row of a vector, whether one snapshot sees it and another does not.
abbrev pub seen_apart : Snapshot → Snapshot → List Entry → List Bool
seen_apart one other entries =
    map (λ i. sees_row one entries i && not (sees_row other entries i)) (range_with_len 0 (rows_of entries))

-- The rows that one snapshot sees by the vector of epochs, another does not, and that a span has, in order.
abbrev pub rows_apart : Span → Snapshot → Snapshot → List Entry → List CodedRow → List CodedRow
rows_apart span one other entries rows =
    filter (span_has_row span) (items_where_true (seen_apart one other entries) rows)
