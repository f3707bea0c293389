use Rattle.std.proofs.Common.{◌≡◌, ◌++◌, length, List}
use Rattle.cube_values.specs.declared.row.CodedRow.{CodedRow}
use Rattle.agg_fold.specs.Standing.{StandsFor}
use Rattle.agg_fold.specs.Tables.{AreNamed, table_lines}
use Rattle.agg_fold.proofs.finish.run_lines.Given as goal

abbrev pub invariant-runs : goal.invariant-runs
invariant-runs l =
    (rows : List CodedRow) → StandsFor l.query rows l.groups → AreNamed l.lists l.query rows l.groups l.named
    → AreNamed l.lists l.query rows l.groups l.rest × (l.lines.items ++ table_lines l.lists l.query rows l.rest ≡ table_lines l.lists l.query rows l.named)

abbrev pub decreases-runs : goal.decreases-runs
decreases-runs l = length l.rest
