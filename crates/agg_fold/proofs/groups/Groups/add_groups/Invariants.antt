use Rattle.std.proofs.Common.{◌≡◌, ◌++◌, List, take}
use Rattle.cube_values.specs.declared.row.CodedRow.{CodedRow}
use Rattle.agg_fold.specs.Standing.{StandsFor}
use Rattle.agg_fold.proofs.GroupRows.{rows_among}
use Rattle.agg_fold.proofs.groups.Groups.add_groups.Given as goal

abbrev pub invariant-groups : goal.invariant-groups
invariant-groups l =
    (l.self.keys ≡ l.fn.self.keys)
    × ((rows more : List CodedRow) → StandsFor l.query rows l.fn.self → StandsFor l.query more l.other
    → StandsFor l.query (rows ++ rows_among l.query.group more (take l.theirs l.other.keys)) l.self)
