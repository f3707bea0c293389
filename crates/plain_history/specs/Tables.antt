-- Parts of a table of rows.
use Rattle.std.specs.Prelude.{ℕ, List, map}
use Rattle.cube_values.specs.declared.query.BoundItem.{BoundItem}
use Rattle.cube_values.specs.declared.row.Row.{Row}
use Rattle.cube_values.specs.declared.table.Field.{Field}
use Rattle.cube_values.specs.declared.value.Value.{Value}
use Rattle.cube_values.specs.Answer.{item_of, rows_of_key}

-- The line of a key: the items of the rows that have it.
abbrev pub line_of_key : List ℕ → List BoundItem → List Row → List Value → List Field
line_of_key group items rows key = map (item_of (rows_of_key group rows key)) items
