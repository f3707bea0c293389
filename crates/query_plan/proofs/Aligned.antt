-- A deletion that fits its cube cuts no range of any dimension.
use Rattle.std.proofs.Common.{◌≡◌, ◌⊎◌, ℕ, Bool, true, false, List, [], ◌∷◌, ◌++◌, refl, sym, ◌∙◌, inl, inr, append_assoc}
use Rattle.std.specs.Prelude.{All, pos}
use Rattle.std.specs.List.{list_any}
use Rattle.std.specs.Str.{bytes_eq}
use Rattle.std.proofs.lemmas.Bool.{cases_Bool, cases_eq}
use Rattle.std.proofs.lemmas.List.Elements.{All-nil, All-cons, All-push}
use Rattle.cube_values.specs.declared.value.Value.TheVariants.{Int}
use Rattle.cube_language.specs.Misfits.{AreAligned, CutsRange, FitsCube, all_pass, cond_name}
use Rattle.cube_language.specs.declared.decl.Decl.{Decl}
use Rattle.cube_language.specs.declared.decl.DimDecl.{DimDecl}
use Rattle.cube_language.specs.declared.misfit.Misfit.TheVariants.{CutsBrick}
use Rattle.cube_language.specs.declared.statement.Cond.{Cond}
use Rattle.cube_language.specs.declared.statement.Statement.TheVariants.{Delete}

one_answer : (a b : Bool) → (a ≡ b) ⊎ (a ≡ b → ⊥)
one_answer true true = inl refl
one_answer false false = inl refl
one_answer true false = inr (λ e. absurd cc)
one_answer false true = inr (λ e. absurd cc)

-- Where it is absurd that conditions are not aligned, they are.
aligned : (conds : List Cond) (dim : DimDecl) → ((AreAligned conds dim → ⊥) → ⊥) → AreAligned conds dim
aligned conds dim never = (
  (λ number x y share.
      elim (one_answer (all_pass conds dim.name (Int (pos x))) (all_pass conds dim.name (Int (pos y)))) [
        | inl same ↦ same
        | inr other ↦ absurd (never (λ whole. other (whole.0 number x y share)))
      ]),
  (λ text. elim (cases_eq dim.range 1) [
    | inl one ↦ inl one
    | inr more ↦ elim (cases_Bool (list_any (λ c. bytes_eq (cond_name c) dim.name) conds)) [
      | inr none ↦ inr none
      | inl some ↦ absurd (never (λ single. elim (single.1 text) [
        | inl one ↦ more one
        | inr none ↦ (let both : true ≡ false = sym some ∙ none in absurd cc)
      ]))
    ]
  ]),
)

aligned_behind : (d : Decl) (conds : List Cond) → ((name : List ℕ) → CutsRange d conds name → ⊥)
    → (before behind : List DimDecl) → d.dims ≡ before ++ behind → All (AreAligned conds) before
    → All (AreAligned conds) behind
aligned_behind d conds never before [] whole front = All-nil (AreAligned conds)
aligned_behind d conds never before (dim ∷ behind) whole front =
    let here : AreAligned conds dim = aligned conds dim (λ cut. never dim.name (record {
      before = before;
      dim = dim;
      behind = behind;
      whole = whole;
      aligned = front;
      cut = cut;
      name_is = refl;
    })) in
    All-cons (AreAligned conds) dim behind here
    (aligned_behind d conds never (before ++ dim ∷ []) behind (whole ∙ sym (append_assoc before (dim ∷ []) behind))
    (All-push (AreAligned conds) before dim front here))

pub all_aligned : (d : Decl) (cube : List ℕ) (conds : List Cond) → FitsCube d (Delete cube conds)
    → All (AreAligned conds) d.dims
all_aligned d cube conds fits =
    aligned_behind d conds (λ name cuts. fits (CutsBrick name) cuts) [] d.dims refl (All-nil (AreAligned conds))
