use Rattle.std.proofs.Common.{List, sym, subst}
use Rattle.cube_core.specs.declared.cell.CoreCell.{CoreCell}
use Rattle.linked_shards.specs.declared.cell.CoreShard.{CoreShard}
use Rattle.opened_core.specs.Openings.{OpenOver}
use Rattle.opened_core.proofs.cells.open_core.Goals as goal

pub returns-clause-opens : goal.returns-clause-opens
returns-clause-opens c =
    subst (λ (cells : List (CoreCell CoreShard)). OpenOver c.args.kept.now c.args.shards c.args.sessions cells) (sym c.of.ensures.cells)
    c.in_ok-cells.ensures.opens
