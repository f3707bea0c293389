use Rattle.std.proofs.Common.{◌++◌, List, drop}
use Rattle.cube_values.specs.declared.row.CodedRow.{CodedRow}
use Rattle.agg_fold.specs.Standing.{StandsFor}
use Rattle.agg_fold.proofs.GroupRows.{rows_among}
use Rattle.agg_fold.proofs.groups.Groups.remove.Given as goal

abbrev pub invariant-groups : goal.invariant-groups
invariant-groups l =
    (rest more : List CodedRow) → StandsFor l.query (rest ++ more) l.fn.self → StandsFor l.query more l.other
    → StandsFor l.query (rest ++ rows_among l.query.group more (drop l.theirs l.other.keys)) l.self
