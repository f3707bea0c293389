use Rattle.std.proofs.Common.{◌≡◌, length, List, map, take}
use Rattle.cube_values.specs.declared.row.CodedRow.{CodedRow}
use Rattle.agg_fold.specs.Tallies.{tally_of}
use Rattle.agg_fold.specs.Standing.{StandsFor}
use Rattle.agg_fold.specs.Tables.{run_metrics}
use Rattle.agg_fold.proofs.finish.run_line.Given as goal

abbrev pub invariant-groups : goal.invariant-groups
invariant-groups l =
    (rows : List CodedRow) → StandsFor l.query rows l.groups
    → (l.count ≡ length (run_metrics l.query.group rows l.groups.keys (take l.group-index l.run))) × (l.tallies.items ≡ map (tally_of (run_metrics l.query.group rows l.groups.keys (take l.group-index l.run))) l.query.items)
