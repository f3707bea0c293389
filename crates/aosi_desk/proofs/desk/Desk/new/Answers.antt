use Rattle.std.proofs.Common.{◌∙◌, List, length, sym, ap, arith}
use Rattle.cube_language.specs.declared.decl.Decl.{Decl}
use Rattle.aosi_desk.proofs.Kept.{keeps-opened, keeps-opening, are_cubes-opening}
use Rattle.aosi_desk.proofs.desk.Desk.new.Goals as goal

pub invariant_of-result : goal.invariant_of-result
invariant_of-result c =
    let all = ap (λ (cubes : List Decl). length cubes) (sym c.in_ok-decls_of.ensures.same) in (
      keeps-opened (length c.args.cubes.now) _ c.in_ok-decls_of.field-0.items all
          (keeps-opening c.args.safe c.args.sessions _ c.in_ok-decls_of.field-0.items
          (c.in_ok-new.ensures.ok ∙ c.in_ok-register.ensures)),
      are_cubes-opening c.args.cubes.now c.in_ok-decls_of.field-0.items c.in_ok-decls_of.ensures.same c.requires.few
          c.requires.differ c.in_ok-decls_of.ensures.storable,
      omega (arith, all),
    )
