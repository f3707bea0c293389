use Rattle.std.proofs.Common.{◌≤◌, length, sym, subst}
use Rattle.cube_language.specs.declared.decl.Decl.{Decl}
use Rattle.cube_schema.proofs.Sound.{parts_of}
use Rattle.query_plan.proofs.places.decl_of.Goals as goal

pub returns-clause-dims : goal.returns-clause-dims
returns-clause-dims c =
    subst (λ (d : Decl). length d.dims ≤ 16) (sym c.decl.ensures.decl)
    (parts_of c.args.cube.now c.decl.ensures.storable).dims

pub returns-clause-metrics : goal.returns-clause-metrics
returns-clause-metrics c =
    subst (λ (d : Decl). length d.metrics ≤ 16) (sym c.decl.ensures.decl)
    (parts_of c.args.cube.now c.decl.ensures.storable).metrics
