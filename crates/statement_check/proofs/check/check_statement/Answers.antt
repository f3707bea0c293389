use Rattle.std.proofs.Common.{sym, subst}
use Rattle.cube_language.specs.declared.decl.Decl.{Decl}
use Rattle.statement_check.specs.Cuts.{AreSolid}
use Rattle.statement_check.proofs.Solid.{solid_dims}
use Rattle.statement_check.proofs.check.check_statement.Goals as goal

pub check_ranges-requires-clause-solid : goal.check_ranges-requires-clause-solid
check_ranges-requires-clause-solid c =
    subst (λ (d : Decl). AreSolid d.dims) (sym c.decl-decl.ensures.decl)
    (solid_dims c.args.cube.now c.decl-decl.ensures.storable)
