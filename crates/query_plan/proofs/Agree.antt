-- The conditions of a deletion that fits its cube agree within each range.
use Rattle.std.proofs.Common.{◌≡◌, ℕ, ◌/◌, ◌<◌, List, length, get_or, Option, sym, ap, ◌∙◌, inl, inr, arith}
use Rattle.std.specs.Prelude.{filter_map}
use Rattle.std.proofs.lemmas.Bool.{cases_Bool}
use Rattle.std.proofs.lemmas.Nat.{div-add-mod', mod_below}
use Rattle.cube_language.specs.Cubes.{size_of, IsStorable}
use Rattle.cube_language.specs.Misfits.{FitsCube, AreAligned}
use Rattle.cube_language.specs.ResolvedNames.{resolved_cond}
use Rattle.cube_language.specs.declared.decl.Decl.{Decl}
use Rattle.cube_language.specs.declared.decl.DimDecl.{DimDecl}
use Rattle.cube_language.specs.declared.statement.Cond.{Cond}
use Rattle.cube_language.specs.declared.statement.Statement.TheVariants.{Delete}
use Rattle.condition_spans.specs.CodedConditions.{coded_conditions}
use Rattle.condition_spans.specs.Spans.{passes_at}
use Rattle.query_plan.proofs.Aligned.{all_aligned}
use Rattle.query_plan.proofs.Coded.{same_asked, nothing_asked}
use Rattle.query_plan.proofs.Distinct.{dim_at}
use Rattle.query_plan.proofs.FitConditions.{kinds_fit}
use Rattle.query_plan.proofs.Whole.{AgreeIn}

-- In ranges of one coordinate each, coordinates of one range are one.
one_each : (x y range : ℕ) → range ≡ 1 → x / range ≡ y / range → x ≡ y
one_each x y range one share =
    let same : x / 1 ≡ y / 1 = (λ i. x / sym one i) ∙ share ∙ (λ i. y / one i) in
    let a = div-add-mod' x 1 in
    let b = div-add-mod' y 1 in
    let m = mod_below x 1 (omega arith) in
    let n = mod_below y 1 (omega arith) in
    omega arith

pub agree_within : (d : Decl) (cube : List ℕ) (conds : List Cond) (codes : List (Option ℕ)) → IsStorable d
    → FitsCube d (Delete cube conds) → (i : ℕ) (e : DimDecl) → i < length d.dims
    → AgreeIn (coded_conditions codes (filter_map (resolved_cond d) conds)) i (size_of (get_or d.dims i e))
agree_within d cube conds codes storable fits i e lt x y of_x of_y share =
    let dim = get_or d.dims i e in
    let conditions = coded_conditions codes (filter_map (resolved_cond d) conds) in
    let at = dim_at d i e storable lt in
    let kinds = kinds_fit d (Delete cube conds) fits in
    let aligned : AreAligned conds dim = all_aligned d cube conds fits i e lt in
    elim (cases_Bool dim.text) [
      | inr number ↦ same_asked d i dim conds codes x at number kinds
          ∙ aligned.0 number x y (record { first = of_x; second = of_y; range = share })
          ∙ sym (same_asked d i dim conds codes y at number kinds)
      | inl text ↦ elim (aligned.1 text) [
        | inl one ↦ ap (passes_at i conditions) (one_each x y dim.range one share)
        | inr none ↦ nothing_asked d i dim conds codes x at none ∙ sym (nothing_asked d i dim conds codes y at none)
      ]
    ]
