-- What a statement that fits its cube has: conditions on dimensions, each with values of their kind.
use Rattle.std.proofs.Common.{◌≡◌, Bool, ◌++◌, map, Option, Some, None, refl, sym, ◌∙◌}
use Rattle.std.specs.Prelude.{find}
use Rattle.std.specs.List.{flat_map}
use Rattle.std.specs.Option.{option_map, option_or}
use Rattle.std.proofs.lemmas.List.Folds.{find-append}
use Rattle.cube_language.specs.ColumnUses.{ColumnUse, column_uses, cond_use, group_use, item_uses, is_wrong_use, is_unknown, wrong_kind, unknown_column}
use Rattle.cube_language.specs.Misfits.{FitsCube}
use Rattle.cube_language.specs.StatementParts.{items_of, conds_of, group_of, asked_items}
use Rattle.cube_language.specs.declared.decl.Decl.{Decl}
use Rattle.cube_language.specs.declared.misfit.Misfit.TheVariants.{UnknownColumn, WrongKind}
use Rattle.cube_language.specs.declared.statement.Statement.{Statement}

pub nothing : {A : Type 0} (o : Option A) → ((x : A) → o ≡ Some x → ⊥) → o ≡ None
nothing None never = refl
nothing (Some x) never = absurd (never x refl)

no_name : (o : Option ColumnUse) → option_map (λ u. u.name) o ≡ None → o ≡ None
no_name None none = refl
no_name (Some u) none = absurd cc

pub first_nothing : {A : Type 0} (a b : Option A) → option_or a b ≡ None → (a ≡ None) × (b ≡ None)
first_nothing None b none = (refl, none)
first_nothing (Some x) b none = absurd cc

-- A test that finds no use among all finds none among those of the items, the conditions and the group.
record FindsNone (p : ColumnUse → Bool) (s : Statement) : Type 0 where
  pub items : find p (flat_map item_uses (items_of s)) ≡ None
  pub conds : find p (map cond_use (conds_of s)) ≡ None
  pub group : find p (map group_use (group_of s)) ≡ None

finds_none : (p : ColumnUse → Bool) (s : Statement) → find p (column_uses s) ≡ None → FindsNone p s
finds_none p s none =
    let asked = flat_map item_uses (asked_items s) in
    let rest = map group_use (group_of s) ++ asked in
    let first = first_nothing (find p (flat_map item_uses (items_of s))) (find p (map cond_use (conds_of s) ++ rest))
    (sym (find-append p (flat_map item_uses (items_of s)) (map cond_use (conds_of s) ++ rest)) ∙ none) in
    let second = first_nothing (find p (map cond_use (conds_of s))) (find p rest)
    (sym (find-append p (map cond_use (conds_of s)) rest) ∙ first.1) in
    let third = first_nothing (find p (map group_use (group_of s))) (find p asked)
    (sym (find-append p (map group_use (group_of s)) asked) ∙ second.1) in
    record { items = first.0; conds = second.0; group = third.0 }

no_wrong_use : (d : Decl) (s : Statement) → FitsCube d s → FindsNone (is_wrong_use d) s
no_wrong_use d s fits =
    finds_none (is_wrong_use d) s
    (no_name (find (is_wrong_use d) (column_uses s)) (nothing (wrong_kind d s) (λ name is. fits (WrongKind name) is)))

pub kinds_fit : (d : Decl) (s : Statement) → FitsCube d s → find (is_wrong_use d) (map cond_use (conds_of s)) ≡ None
kinds_fit d s fits = (no_wrong_use d s fits).conds

pub groups_fit : (d : Decl) (s : Statement) → FitsCube d s
    → find (is_wrong_use d) (map group_use (group_of s)) ≡ None
groups_fit d s fits = (no_wrong_use d s fits).group

pub item_kinds_fit : (d : Decl) (s : Statement) → FitsCube d s
    → find (is_wrong_use d) (flat_map item_uses (items_of s)) ≡ None
item_kinds_fit d s fits = (no_wrong_use d s fits).items

pub item_names_fit : (d : Decl) (s : Statement) → FitsCube d s
    → find (is_unknown d) (flat_map item_uses (items_of s)) ≡ None
item_names_fit d s fits =
    (finds_none (is_unknown d) s (no_name (find (is_unknown d) (column_uses s))
    (nothing (unknown_column d s) (λ name is. fits (UnknownColumn name) is)))).items
