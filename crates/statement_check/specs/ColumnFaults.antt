-- What the code finds in rows, as the refusals say it.
use Rattle.std.specs.Prelude.{ℕ}
use Rattle.cube_language.specs.declared.bad_row.BadRow.{BadRow}
use Rattle.cube_language.specs.declared.bad_row.BadRow.TheVariants.{Column}
use Rattle.statement_check.specs.declared.rows.ColumnFault.{ColumnFault}
use Rattle.statement_check.specs.declared.rows.FirstBadRow.{FirstBadRow}

-- A column that its value does not fit.
abbrev pub column_found : ColumnFault → BadRow
column_found fault = Column fault.name.now fault.reason

-- A bad row with its number.
abbrev pub row_found : FirstBadRow → ℕ × BadRow
row_found found = (found.row, found.why)
