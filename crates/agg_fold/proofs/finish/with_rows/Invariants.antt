use Rattle.std.proofs.Common.{◌≡◌, ◌++◌, drop}
use Rattle.agg_fold.specs.Tables.{named_from}
use Rattle.agg_fold.proofs.finish.with_rows.Given as goal

abbrev pub invariant-groups : goal.invariant-groups
invariant-groups l =
    l.named.items ++ named_from l.lists l.query.group l.place (drop l.place l.groups.keys) (drop l.place l.groups.counts.items) ≡ named_from l.lists l.query.group 0 l.groups.keys l.groups.counts.items
