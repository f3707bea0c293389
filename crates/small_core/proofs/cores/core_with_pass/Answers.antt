use Rattle.std.proofs.Common.{sym, subst}
use Rattle.small_core.specs.Openings.{AreCellsOfCore}
use Rattle.small_core.proofs.cores.core_with_pass.Goals as goal

pub returns-in-Ok-new-clause-cells : goal.returns-in-Ok-new-clause-cells
returns-in-Ok-new-clause-cells c =
    subst (AreCellsOfCore 2 3) (sym c.in-Ok-new.ensures.opening)
    (record {
      kept = c.in_ok-kept.kept;
      by_file = c.in_ok-kept.ensures.by_file;
      over = c.in-Ok.ensures.cells;
      opens = c.in-Ok.ensures.opens;
    })
