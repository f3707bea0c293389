-- The conditions of a statement that fits its cube ask their kinds.
use Rattle.std.proofs.Common.{◌≡◌, ℕ, Bool, true, false, not, List, [], ◌∷◌, map, Option, Some, None, refl, if◌then◌else◌}
use Rattle.std.specs.Prelude.{filter_map, find}
use Rattle.std.specs.List.{list_any}
use Rattle.std.proofs.lemmas.Bool.{both_ways, or_parts}
use Rattle.std.proofs.lemmas.List.Elements.{All-cons, All-nil}
use Rattle.cube_language.specs.ColumnUses.{cond_use, is_of_other_kind, is_wrong_use}
use Rattle.cube_language.specs.Misfits.{FitsCube, cond_name, cond_test}
use Rattle.cube_language.specs.ResolvedNames.{dim_place, resolved_cond, resolved_region}
use Rattle.cube_language.specs.StatementParts.{conds_of}
use Rattle.cube_language.specs.declared.decl.Decl.{Decl}
use Rattle.cube_language.specs.declared.decl.DimDecl.{DimDecl}
use Rattle.cube_language.specs.declared.statement.Cond.{Cond}
use Rattle.cube_language.specs.declared.statement.Cond.TheVariants.{Equal, In, Between}
use Rattle.cube_language.specs.declared.statement.Statement.{Statement}
use Rattle.cube_schema.proofs.Bricks.{none_found}
use Rattle.cube_values.specs.declared.operation.Condition.{Condition}
use Rattle.cube_values.specs.declared.value.Value.{Value}
use Rattle.cube_values.specs.declared.value.Value.TheVariants.{Text, Int}
use Rattle.condition_spans.specs.CodedConditions.{values_of_test}
use Rattle.query_plan.proofs.Coded.{not_against, placed}
use Rattle.query_plan.proofs.FitConditions.{kinds_fit}
use Rattle.query_plan.proofs.Ties.{dim_there}
use Rattle.row_encoding.specs.CodedTexts.{AreOfKind, AskTheirKinds}
use Rattle.row_encoding.specs.CodedValues.{IsTextValue}
use Rattle.row_encoding.specs.FinalCodes.{dim_at}

text_has_kind : (b : Bool) → (if b then not true else true) ≡ false → b ≡ true
text_has_kind true h = refl
text_has_kind false h = absurd (both_ways true h refl)

value_of_kind : (dim : DimDecl) (v : Value) → is_of_other_kind dim v ≡ false → IsTextValue v → dim.text ≡ true
value_of_kind dim (Text text) h is = text_has_kind dim.text h
value_of_kind dim (Int n) h is = absurd is

values_of_kind : (dim : DimDecl) (values : List Value) → list_any (is_of_other_kind dim) values ≡ false
    → AreOfKind dim values
values_of_kind dim [] h = All-nil (λ v. IsTextValue v → dim.text ≡ true)
values_of_kind dim (v ∷ values) h =
    let parts = or_parts (is_of_other_kind dim v) (list_any (is_of_other_kind dim) values) h in
    All-cons (λ w. IsTextValue w → dim.text ≡ true) v values (value_of_kind dim v parts.0)
    (values_of_kind dim values parts.1)

cond_of_kind : (d : Decl) (c : Cond) (p : ℕ) → is_wrong_use d (cond_use c) ≡ false
    → dim_place d (cond_name c) ≡ Some p → AreOfKind (dim_at d.dims p) (values_of_test (cond_test c))
cond_of_kind d (Equal name wanted) p fits is =
    values_of_kind (dim_at d.dims p) (wanted ∷ [])
    (not_against d (dim_at d.dims p) (Equal name wanted) (dim_there d name p (dim_at [] 0) is).1 fits)
cond_of_kind d (In name wanted) p fits is =
    values_of_kind (dim_at d.dims p) wanted
    (not_against d (dim_at d.dims p) (In name wanted) (dim_there d name p (dim_at [] 0) is).1 fits)
cond_of_kind d (Between name first last) p fits is =
    All-nil (λ v. IsTextValue v → (dim_at d.dims p).text ≡ true)

ask_with : (d : Decl) (c : Cond) (rest : List Condition) (o : Option ℕ) → is_wrong_use d (cond_use c) ≡ false
    → dim_place d (cond_name c) ≡ o → AskTheirKinds d.dims rest → AskTheirKinds d.dims (placed o c rest)
ask_with d c rest None fits is others = others
ask_with d c rest (Some p) fits is others =
    All-cons (λ (x : Condition). AreOfKind (dim_at d.dims x.place) (values_of_test x.test))
    (record { place = p; test = cond_test c }) rest (cond_of_kind d c p fits is) others

all_ask : (d : Decl) (conds : List Cond) → find (is_wrong_use d) (map cond_use conds) ≡ None
    → AskTheirKinds d.dims (filter_map (resolved_cond d) conds)
all_ask d [] fit = All-nil (λ (x : Condition). AreOfKind (dim_at d.dims x.place) (values_of_test x.test))
all_ask d (c ∷ conds) fit =
    let parts = none_found (is_wrong_use d) (cond_use c) (map cond_use conds) fit in
    ask_with d c (filter_map (resolved_cond d) conds) (dim_place d (cond_name c)) parts.0 refl
    (all_ask d conds parts.1)

pub region_asks : (d : Decl) (s : Statement) → FitsCube d s
    → AskTheirKinds d.dims (resolved_region d (conds_of s)).conditions
region_asks d s fits = all_ask d (conds_of s) (kinds_fit d s fits)
