-- A DELETE bound to the one cube that it needs.
use Rattle.std.proofs.Common.{◌≡◌, ◌∙◌, ℕ, zero, suc, Bool, true, false, cond, List, [], ◌∷◌, slice_get, Option, Some, None, sym, ap, subst}
use Rattle.std.specs.Prelude.{find}
use Rattle.std.specs.Option.{option_and_then}
use Rattle.std.specs.Str.{bytes_eq}
use Rattle.std.proofs.lemmas.Option.{none-some, same_Some}
use Rattle.cube_language.specs.Misfits.{FitsCube, HasMisfit}
use Rattle.cube_language.specs.ResolvedNames.{resolved_region}
use Rattle.cube_language.specs.StatementParts.{conds_of}
use Rattle.cube_language.specs.declared.decl.Decl.{Decl}
use Rattle.cube_language.specs.declared.misfit.Misfit.{Misfit}
use Rattle.cube_language.specs.declared.statement.Statement.{Statement}
use Rattle.cube_run.specs.RunRecords.{cube_called, cube_needed}
use Rattle.query_plan.specs.Bindings.{FailsOnCube, IsDropPlan}
use Rattle.query_plan.specs.declared.plan.DropPlan.{DropPlan}

only-one : (d e : Decl) (p : ℕ) → slice_get (d ∷ []) p ≡ Some e → d ≡ e
only-one d e zero is = same_Some d e is
only-one d e (suc p) is = absurd (none-some e is)

found-it : (p : Decl → Bool) (d e : Decl) → find p (d ∷ []) ≡ Some e → e ≡ d
found-it p d e is = at (p d) is
  where
    at : (b : Bool) → cond b (Some d) None ≡ Some e → e ≡ d
    at true is = sym (same_Some d e is)
    at false is = absurd (none-some e is)

needed-it : (d e : Decl) (needed : Option (List ℕ)) → option_and_then (cube_called (d ∷ [])) needed ≡ Some e → e ≡ d
needed-it d e None is = absurd (none-some e is)
needed-it d e (Some name) is = found-it (λ x. bytes_eq x.name name) d e is

pub fails_on_it : (d : Decl) (s : Statement) (misfit : Misfit) → FailsOnCube (d ∷ []) s misfit → HasMisfit d s misfit
fails_on_it d s misfit h =
    subst (λ (e : Decl). HasMisfit e s misfit) (needed-it d h.decl (cube_needed s) h.cube_is) h.fails

-- A plan on the one cube.
pub record IsPlanOn (d : Decl) (s : Statement) (plan : DropPlan) : Type 0 where
  pub fits : FitsCube d s
  pub conditions : plan.conditions ≡ (resolved_region d (conds_of s)).conditions

pub on-it : (d : Decl) (s : Statement) (plan : DropPlan) → IsDropPlan (d ∷ []) s plan → IsPlanOn d s plan
on-it d s plan p =
    let same : p.decl ≡ d = sym (only-one d p.decl plan.cube p.bound.cube_is) in
    record {
      fits = subst (λ (e : Decl). FitsCube e s) same p.bound.fits;
      conditions = p.conditions ∙ ap (λ (e : Decl). (resolved_region e (conds_of s)).conditions) same;
    }

pub is-it : (d e : Decl) (p : ℕ) → slice_get (d ∷ []) p ≡ Some e → e ≡ d
is-it d e p is = sym (only-one d e p is)
