-- Places that names are resolved to are places of the cube.
use Rattle.std.proofs.Common.{◌≡◌, ℕ, suc, ◌+◌, ◌<◌, Bool, true, List, [], ◌∷◌, length, Option, Some, None, refl, sym, ap, subst, ◌∙◌, inl, inr, arith}
use Rattle.std.specs.Prelude.{All, Contains, find, filter_map, not}
use Rattle.std.specs.List.{list_any, cons_option, position_from}
use Rattle.std.specs.Option.{option_map}
use Rattle.std.specs.Str.{bytes_eq}
use Rattle.std.proofs.lemmas.Bool.{or_cases, not-false}
use Rattle.std.proofs.lemmas.List.Elements.{All-nil, All-cons}
use Rattle.cube_values.specs.Queries.{IsSoundItem}
use Rattle.cube_values.specs.declared.operation.Condition.{Condition}
use Rattle.cube_values.specs.declared.query.BoundItem.{BoundItem}
use Rattle.cube_values.specs.declared.query.BoundItem.TheVariants as bound
use Rattle.cube_language.specs.Misfits.{FitsCube, cond_name, cond_test, not_grouped, plain_name}
use Rattle.cube_language.specs.ResolvedNames.{dim_place, metric_place, resolved_cond, resolved_item}
use Rattle.cube_language.specs.StatementParts.{items_of, group_of}
use Rattle.cube_language.specs.declared.decl.Decl.{Decl}
use Rattle.cube_language.specs.declared.decl.DimDecl.{DimDecl}
use Rattle.cube_language.specs.declared.misfit.Misfit.TheVariants.{NotGrouped}
use Rattle.cube_language.specs.declared.statement.Cond.{Cond}
use Rattle.cube_language.specs.declared.statement.Item.{Item}
use Rattle.cube_language.specs.declared.statement.Item.TheVariants.{Plain, Sum, Min, Max, Avg, CountAll}
use Rattle.cube_language.specs.declared.statement.Statement.{Statement}
use Rattle.cube_schema.proofs.Bricks.{none_found}
use Rattle.query_plan.proofs.Distinct.{names_same}
use Rattle.query_plan.proofs.FitConditions.{nothing}
use Rattle.query_plan.proofs.FirstPlaces.{found}

below : {K : Type 0} (t : K → Bool) (xs : List K) (k : ℕ) → position_from t 0 xs ≡ Some k → k < length xs
below t xs k is = let lt : k < 0 + length xs = (found t 0 xs k is).below in omega arith

pub dim_below : (d : Decl) (name : List ℕ) (k : ℕ) → dim_place d name ≡ Some k → k < length d.dims
dim_below d name k is = below (λ (dim : DimDecl). bytes_eq dim.name name) d.dims k is

pub metric_below : (d : Decl) (name : List ℕ) (k : ℕ) → metric_place d name ≡ Some k → k < length d.metrics
metric_below d name k is = below (bytes_eq name) d.metrics k is

-- What holds of each item that may be put first holds of all.
all_with : {K : Type 0} (P : K → Type 0) (o : Option K) (xs : List K) → ((k : K) → o ≡ Some k → P k) → All P xs
    → All P (cons_option o xs)
all_with P None xs each all = all
all_with P (Some k) xs each all = All-cons P k xs (each k refl) all

-- A condition, if there is one, is at a place below a number.
abbrev IsBelow : ℕ → Option Condition → Type 0
IsBelow n None = Unit {0}
IsBelow n (Some c) = c.place < n

has_place : (d : Decl) (c : Cond) (o : Option ℕ) → dim_place d (cond_name c) ≡ o → (at : Condition)
    → option_map (λ p. record { place = p; test = cond_test c }) o ≡ Some at → at.place < length d.dims
has_place d c None is at some = absurd cc
has_place d c (Some p) is at some =
    let lt : p < length d.dims = dim_below d (cond_name c) p is in
    subst (λ (found : Option Condition). IsBelow (length d.dims) found) some lt

pub conds_within : (d : Decl) (conds : List Cond)
    → All (λ c. c.place < length d.dims) (filter_map (resolved_cond d) conds)
conds_within d [] = All-nil (λ (c : Condition). c.place < length d.dims)
conds_within d (c ∷ conds) =
    all_with (λ (b : Condition). b.place < length d.dims) (resolved_cond d c) (filter_map (resolved_cond d) conds)
    (has_place d c (dim_place d (cond_name c)) refl) (conds_within d conds)

pub group_within : (d : Decl) (names : List (List ℕ)) → All (λ p. p < length d.dims) (filter_map (dim_place d) names)
group_within d [] = All-nil (λ p. p < length d.dims)
group_within d (name ∷ names) =
    all_with (λ p. p < length d.dims) (dim_place d name) (filter_map (dim_place d) names)
    (λ p is. dim_below d name p is) (group_within d names)

contains_more : (o : Option ℕ) (xs : List ℕ) (x : ℕ) → Contains xs x → Contains (cons_option o xs) x
contains_more None xs x there = there
contains_more (Some y) xs x there =
    let lt : there.0 < length xs = there.1 in
    (suc there.0, omega arith, there.2)

-- The place of a name among names is among their places.
place_among : (d : Decl) (name : List ℕ) (p : ℕ) (names : List (List ℕ)) → dim_place d name ≡ Some p
    → list_any (bytes_eq name) names ≡ true → Contains (filter_map (dim_place d) names) p
place_among d name p [] is there = absurd cc
place_among d name p (other ∷ names) is there =
    elim (or_cases (bytes_eq name other) (list_any (bytes_eq name) names) there) [
      | inl same ↦
          let first : dim_place d other ≡ Some p = ap (dim_place d) (sym (names_same name other same)) ∙ is in
          subst (λ (o : Option ℕ). Contains (cons_option o (filter_map (dim_place d) names)) p) (sym first)
          (0, omega arith, refl)
      | inr later ↦
          contains_more (dim_place d other) (filter_map (dim_place d) names) p (place_among d name p names is later)
    ]

metric_item : (d : Decl) (group : List ℕ) (make : ℕ → BoundItem) (name : List ℕ) (o : Option ℕ)
    → metric_place d name ≡ o
    → ((p : ℕ) → p < length d.metrics → IsSoundItem group (length d.metrics) (make p))
    → (b : BoundItem) → option_map make o ≡ Some b → IsSoundItem group (length d.metrics) b
metric_item d group make name None is each b some = absurd cc
metric_item d group make name (Some p) is each b some =
    let same : make p ≡ b = cc in
    subst (λ (c : BoundItem). IsSoundItem group (length d.metrics) c) same (each p (metric_below d name p is))

plain_item : (d : Decl) (names : List (List ℕ)) (name : List ℕ) (o : Option ℕ) → dim_place d name ≡ o
    → list_any (bytes_eq name) names ≡ true → (b : BoundItem) → option_map bound.Group o ≡ Some b
    → IsSoundItem (filter_map (dim_place d) names) (length d.metrics) b
plain_item d names name None is there b some = absurd cc
plain_item d names name (Some p) is there b some =
    let same : bound.Group p ≡ b = cc in
    subst (λ (c : BoundItem). IsSoundItem (filter_map (dim_place d) names) (length d.metrics) c) same
    (place_among d name p names is there)

-- No plain item is without a group.
abbrev AreGrouped : List (List ℕ) → List Item → Type 0
AreGrouped names items = find (λ name. not (list_any (bytes_eq name) names)) (filter_map plain_name items) ≡ None

items_within : (d : Decl) (names : List (List ℕ)) (items : List Item) → AreGrouped names items
    → All (IsSoundItem (filter_map (dim_place d) names) (length d.metrics)) (filter_map (resolved_item d) items)
items_within d names [] grouped = All-nil (IsSoundItem (filter_map (dim_place d) names) (length d.metrics))
items_within d names (Plain name ∷ items) grouped =
    let group = filter_map (dim_place d) names in
    let parts = none_found (λ n. not (list_any (bytes_eq n) names)) name (filter_map plain_name items) grouped in
    all_with (IsSoundItem group (length d.metrics)) (resolved_item d (Plain name)) (filter_map (resolved_item d) items)
    (plain_item d names name (dim_place d name) refl (not-false (list_any (bytes_eq name) names) parts.0))
    (items_within d names items parts.1)
items_within d names (Sum name ∷ items) grouped =
    let group = filter_map (dim_place d) names in
    all_with (IsSoundItem group (length d.metrics)) (resolved_item d (Sum name)) (filter_map (resolved_item d) items)
    (metric_item d group bound.Sum name (metric_place d name) refl (λ p lt. lt)) (items_within d names items grouped)
items_within d names (Min name ∷ items) grouped =
    let group = filter_map (dim_place d) names in
    all_with (IsSoundItem group (length d.metrics)) (resolved_item d (Min name)) (filter_map (resolved_item d) items)
    (metric_item d group bound.Min name (metric_place d name) refl (λ p lt. lt)) (items_within d names items grouped)
items_within d names (Max name ∷ items) grouped =
    let group = filter_map (dim_place d) names in
    all_with (IsSoundItem group (length d.metrics)) (resolved_item d (Max name)) (filter_map (resolved_item d) items)
    (metric_item d group bound.Max name (metric_place d name) refl (λ p lt. lt)) (items_within d names items grouped)
items_within d names (Avg name ∷ items) grouped =
    let group = filter_map (dim_place d) names in
    all_with (IsSoundItem group (length d.metrics)) (resolved_item d (Avg name)) (filter_map (resolved_item d) items)
    (metric_item d group bound.Avg name (metric_place d name) refl (λ p lt. lt)) (items_within d names items grouped)
items_within d names (CountAll ∷ items) grouped =
    let group = filter_map (dim_place d) names in
    All-cons (IsSoundItem group (length d.metrics)) bound.Count (filter_map (resolved_item d) items) tt
    (items_within d names items grouped)

pub fit_items_within : (d : Decl) (s : Statement) → FitsCube d s
    → All (IsSoundItem (filter_map (dim_place d) (group_of s)) (length d.metrics))
    (filter_map (resolved_item d) (items_of s))
fit_items_within d s fits =
    items_within d (group_of s) (items_of s) (nothing (not_grouped s) (λ name is. fits (NotGrouped name) is))
