use Rattle.std.proofs.Common.{◌∙◌, ap, sym, subst}
use Rattle.agg_fold.specs.Standing.{HasRoom}
use Rattle.core_watches.proofs.TablesAt.{room-at, table-of-one}
use Rattle.cube_values.specs.declared.query.BoundQuery.{BoundQuery}
use Rattle.core_watches.proofs.binding.table_of.Goals as goal

pub finish-requires : goal.finish-requires
finish-requires c =
    subst (λ (q : BoundQuery). HasRoom q 0 c.args.watch.now.kept.groups) (sym c.query_at-asked.ensures)
    (subst (λ (q : BoundQuery). HasRoom (record q { cube = 0 }) 0 c.args.watch.now.kept.groups) (sym c.in_ok-copy.ensures)
    (room-at 0 c.args.watch.now.query c.args.watch.now.kept.groups c.requires))

pub returns : goal.returns
returns c =
    table-of-one c.args.watch.now.query c.query_at-asked.result c.args.names.now c.args.watch.now.kept.groups c.finish.result
    (c.query_at-asked.ensures ∙ ap (λ (q : BoundQuery). record q { cube = 0 }) c.in_ok-copy.ensures) c.finish.ensures
