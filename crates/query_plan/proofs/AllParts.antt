-- In a statement that fits its cube each name and each item has its place.
use Rattle.std.proofs.Common.{◌≡◌, ℕ, suc, Bool, true, false, List, [], ◌∷◌, ◌++◌, length, map, Option, Some, None, refl, sym, ap, ◌∙◌}
use Rattle.std.specs.Prelude.{IsSome, find, filter_map, not, ◌||◌}
use Rattle.std.specs.List.{list_any, cons_option, flat_map, position_from}
use Rattle.std.specs.Option.{option_map, option_map_or}
use Rattle.std.specs.Str.{bytes_eq}
use Rattle.std.proofs.lemmas.Bool.{not-false, true≢false}
use Rattle.std.proofs.lemmas.List.{length-map}
use Rattle.std.proofs.lemmas.List.Folds.{find-append, list_any-append}
use Rattle.cube_values.specs.declared.operation.Condition.{Condition}
use Rattle.cube_values.specs.declared.operation.ValueTest.{ValueTest}
use Rattle.cube_values.specs.declared.operation.ValueTest.TheVariants as test
use Rattle.cube_values.specs.declared.query.BoundItem.{BoundItem}
use Rattle.cube_values.specs.declared.query.BoundItem.TheVariants as bound
use Rattle.cube_values.specs.declared.top_plan.BoundKey.{BoundKey}
use Rattle.cube_values.specs.declared.top_plan.BoundTest.{BoundTest}
use Rattle.cube_language.specs.ColumnUses.{Grouping, Measuring, Comparing, Ranging, ColumnUse, cond_use, group_use, item_uses, is_wrong_use, is_unknown, is_against_dim}
use Rattle.cube_language.specs.Cubes.{dim_names}
use Rattle.cube_language.specs.Misfits.{not_an_item}
use Rattle.cube_language.specs.ResolvedNames.{dim_place, metric_place, item_place, resolved_cond, resolved_item, resolved_test, resolved_key, resolved_plan}
use Rattle.cube_language.specs.SameItems.{item_eq}
use Rattle.cube_language.specs.StatementParts.{items_of, conds_of, group_of, tested_items, ordered_items}
use Rattle.cube_language.specs.declared.decl.Decl.{Decl}
use Rattle.cube_language.specs.declared.decl.DimDecl.{DimDecl}
use Rattle.cube_language.specs.declared.misfit.Misfit.TheVariants.{NotAnItem}
use Rattle.cube_language.specs.declared.statement.Cond.{Cond}
use Rattle.cube_language.specs.declared.statement.Cond.TheVariants.{Equal, In, Between}
use Rattle.cube_language.specs.declared.statement.Item.{Item}
use Rattle.cube_language.specs.declared.statement.Item.TheVariants.{Plain, Sum, Min, Max, Avg, CountAll}
use Rattle.cube_language.specs.declared.statement.Key.{Key}
use Rattle.cube_language.specs.declared.statement.Statement.{Statement}
use Rattle.cube_language.specs.declared.statement.Statement.TheVariants.{Select, Insert, Load, Delete, Begin, Commit, Rollback, Flush, Purge, ShowEpochs, CreateCube, Watch, ShowWatch}
use Rattle.cube_language.specs.declared.statement.Test.{Test}
use Rattle.cube_schema.proofs.Bricks.{none_found}
use Rattle.query_plan.specs.AllParts.{BindingsHaveAllParts}
use Rattle.query_plan.proofs.Distinct.{turned}
use Rattle.query_plan.proofs.FirstPlaces.{finds_nothing, none_passes}
use Rattle.query_plan.proofs.FitConditions.{nothing, first_nothing, kinds_fit, groups_fit, item_kinds_fit, item_names_fit}

-- ---- lists

one_more : {A B : Type 0} (o : Option B) (ys : List B) (xs : List A) → IsSome o → length ys ≡ length xs
    → length (cons_option o ys) ≡ suc (length xs)
one_more None ys xs some same = absurd cc
one_more (Some y) ys xs some same = ap suc same

-- Where a function gives something of each item that fails a test, it leaves none out of items that all fail it.
all_some : {A B U : Type 0} (f : A → Option B) (t : U → Bool) (g : A → U) (xs : List A)
    → ((x : A) → t (g x) ≡ false → IsSome (f x)) → find t (map g xs) ≡ None
    → length (filter_map f xs) ≡ length xs
all_some f t g [] each none = refl
all_some f t g (x ∷ xs) each none =
    let parts = none_found t (g x) (map g xs) none in
    one_more (f x) (filter_map f xs) xs (each x parts.0) (all_some f t g xs each parts.1)

some_of : {A B : Type 0} (f : A → B) (o : Option A) → IsSome o → IsSome (option_map f o)
some_of f None some = absurd cc
some_of f (Some x) some = refl

-- ---- places

-- What is no wrong use of a dimension is the use of one.
placed_use : {K : Type 0} (t against : K → Bool) (xs : List K) (o : Option ℕ)
    → option_map_or against (find t xs) true ≡ false → position_from t 0 xs ≡ o → IsSome o
placed_use t against xs None fits is =
    absurd (true≢false (ap (λ o. option_map_or against o true) (sym (finds_nothing t 0 xs is)) ∙ fits))
placed_use t against xs (Some k) fits is = refl

dim_is_there : (d : Decl) (name : List ℕ) (against : DimDecl → Bool)
    → option_map_or against (find (λ dim. bytes_eq dim.name name) d.dims) true ≡ false → IsSome (dim_place d name)
dim_is_there d name against fits =
    placed_use (λ (dim : DimDecl). bytes_eq dim.name name) against d.dims (dim_place d name) fits refl

place_of_any : {K : Type 0} (t : K → Bool) (xs : List K) (o : Option ℕ) → list_any t xs ≡ true
    → position_from t 0 xs ≡ o → IsSome o
place_of_any t xs None there is =
    absurd (true≢false (sym there ∙ none_passes t xs (finds_nothing t 0 xs is)))
place_of_any t xs (Some k) there is = refl

no_dim_called : (name : List ℕ) (dims : List DimDecl) → find (λ dim. bytes_eq dim.name name) dims ≡ None
    → list_any (bytes_eq name) (dim_names dims) ≡ false
no_dim_called name [] none = refl
no_dim_called name (dim ∷ dims) none =
    let parts = none_found (λ (other : DimDecl). bytes_eq other.name name) dim dims none in
    λ i. turned dim.name name parts.0 i || no_dim_called name dims parts.1 i

none_measured : (o : Option DimDecl) → option_map_or (λ dim. true) o false ≡ false → o ≡ None
none_measured None fits = refl
none_measured (Some dim) fits = absurd cc

metric_is_there : (d : Decl) (name : List ℕ)
    → option_map_or (λ dim. true) (find (λ dim. bytes_eq dim.name name) d.dims) false ≡ false
    → not (list_any (bytes_eq name) (dim_names d.dims ++ d.metrics)) ≡ false → IsSome (metric_place d name)
metric_is_there d name fits known =
    let t : DimDecl → Bool = λ dim. bytes_eq dim.name name in
    let others = no_dim_called name d.dims (none_measured (find t d.dims) fits) in
    let there : list_any (bytes_eq name) (dim_names d.dims ++ d.metrics) ≡ true =
    not-false (list_any (bytes_eq name) (dim_names d.dims ++ d.metrics)) known in
    place_of_any (bytes_eq name) d.metrics (metric_place d name)
    ((λ i. sym others i || list_any (bytes_eq name) d.metrics)
    ∙ sym (list_any-append (bytes_eq name) (dim_names d.dims) d.metrics) ∙ there)
    refl

-- ---- the parts of a query

abbrev cond_at : ValueTest → ℕ → Condition
cond_at asked p = record { place = p; test = asked }

cond_is_there : (d : Decl) (c : Cond) → is_wrong_use d (cond_use c) ≡ false → IsSome (resolved_cond d c)
cond_is_there d (Equal name wanted) fits =
    some_of (cond_at (test.Equal wanted)) (dim_place d name)
    (dim_is_there d name (is_against_dim (Comparing (wanted ∷ []))) fits)
cond_is_there d (In name wanted) fits =
    some_of (cond_at (test.OneOf wanted)) (dim_place d name)
    (dim_is_there d name (is_against_dim (Comparing wanted)) fits)
cond_is_there d (Between name first last) fits =
    some_of (cond_at (test.Between first last)) (dim_place d name)
    (dim_is_there d name (is_against_dim (Ranging first last)) fits)

group_is_there : (d : Decl) (name : List ℕ) → is_wrong_use d (group_use name) ≡ false → IsSome (dim_place d name)
group_is_there d name fits = dim_is_there d name (is_against_dim Grouping) fits

-- The uses of items are of the kind of their columns, and the cube has these.
record AreFit (d : Decl) (uses : List ColumnUse) : Type 0 where
  pub kinds : find (is_wrong_use d) uses ≡ None
  pub names : find (is_unknown d) uses ≡ None

record IsFit (d : Decl) (u : ColumnUse) (uses : List ColumnUse) : Type 0 where
  pub kind : is_wrong_use d u ≡ false
  pub name : is_unknown d u ≡ false
  pub rest : AreFit d uses

first_fits : (d : Decl) (u : ColumnUse) (uses : List ColumnUse) → AreFit d (u ∷ uses) → IsFit d u uses
first_fits d u uses fit =
    let k = none_found (is_wrong_use d) u uses fit.kinds in
    let n = none_found (is_unknown d) u uses fit.names in
    record { kind = k.0; name = n.0; rest = record { kinds = k.1; names = n.1 } }

abbrev measuring : List ℕ → ColumnUse
measuring name = record { name = name; purpose = Measuring }

item_is_there : (d : Decl) (make : ℕ → BoundItem) (name : List ℕ) (uses : List ColumnUse) → IsFit d (measuring name) uses
    → IsSome (option_map make (metric_place d name))
item_is_there d make name uses fit =
    some_of make (metric_place d name) (metric_is_there d name fit.kind fit.name)

items_are_there : (d : Decl) (items : List Item) → AreFit d (flat_map item_uses items)
    → length (filter_map (resolved_item d) items) ≡ length items
items_are_there d [] fit = refl
items_are_there d (Plain name ∷ items) fit =
    let uses = flat_map item_uses items in
    let f = first_fits d (group_use name) uses fit in
    one_more (resolved_item d (Plain name)) (filter_map (resolved_item d) items) items
    (some_of bound.Group (dim_place d name) (group_is_there d name f.kind)) (items_are_there d items f.rest)
items_are_there d (Sum name ∷ items) fit =
    let uses = flat_map item_uses items in
    let f = first_fits d (measuring name) uses fit in
    one_more (resolved_item d (Sum name)) (filter_map (resolved_item d) items) items
    (item_is_there d bound.Sum name uses f) (items_are_there d items f.rest)
items_are_there d (Min name ∷ items) fit =
    let uses = flat_map item_uses items in
    let f = first_fits d (measuring name) uses fit in
    one_more (resolved_item d (Min name)) (filter_map (resolved_item d) items) items
    (item_is_there d bound.Min name uses f) (items_are_there d items f.rest)
items_are_there d (Max name ∷ items) fit =
    let uses = flat_map item_uses items in
    let f = first_fits d (measuring name) uses fit in
    one_more (resolved_item d (Max name)) (filter_map (resolved_item d) items) items
    (item_is_there d bound.Max name uses f) (items_are_there d items f.rest)
items_are_there d (Avg name ∷ items) fit =
    let uses = flat_map item_uses items in
    let f = first_fits d (measuring name) uses fit in
    one_more (resolved_item d (Avg name)) (filter_map (resolved_item d) items) items
    (item_is_there d bound.Avg name uses f) (items_are_there d items f.rest)
items_are_there d (CountAll ∷ items) fit =
    one_more (Some bound.Count) (filter_map (resolved_item d) items) items refl (items_are_there d items fit)

-- ---- what is asked of lines

abbrev is_no_item : Statement → Item → Bool
is_no_item s item = not (list_any (item_eq item) (items_of s))

item_is_placed : (s : Statement) (item : Item) → is_no_item s item ≡ false → IsSome (item_place s item)
item_is_placed s item fits =
    place_of_any (item_eq item) (items_of s) (item_place s item)
    (not-false (list_any (item_eq item) (items_of s)) fits) refl

abbrev test_at : Statement → Test → ℕ → BoundTest
test_at s t p = record { place = p; bound = t.bound }

abbrev key_at : Statement → Key → ℕ → BoundKey
key_at s k p = record { place = p; desc = k.desc }

tests_are_there : (s : Statement) (tests : List Test) → find (is_no_item s) (map (λ t. t.item) tests) ≡ None
    → length (filter_map (resolved_test s) tests) ≡ length tests
tests_are_there s tests none =
    all_some (resolved_test s) (is_no_item s) (λ (t : Test). t.item) tests
    (λ t fits. some_of (λ (p : ℕ). test_at s t p) (item_place s t.item) (item_is_placed s t.item fits)) none

keys_are_there : (s : Statement) (keys : List Key) → find (is_no_item s) (map (λ k. k.item) keys) ≡ None
    → length (filter_map (resolved_key s) keys) ≡ length keys
keys_are_there s keys none =
    all_some (resolved_key s) (is_no_item s) (λ (k : Key). k.item) keys
    (λ k fits. some_of (λ (p : ℕ). key_at s k p) (item_place s k.item) (item_is_placed s k.item fits)) none

-- The tests and keys of what a SELECT asks of its lines.
record HaveAllPlaces (s : Statement) : Type 0 where
  pub having : length (resolved_plan s).having ≡ length (tested_items s)
  pub keys : length (resolved_plan s).keys ≡ length (ordered_items s)

plan_is_there : (s : Statement) → find (is_no_item s) (tested_items s ++ ordered_items s) ≡ None → HaveAllPlaces s
plan_is_there (Select items cube conds group having order limit) none =
    let s = Select items cube conds group having order limit in
    let parts = first_nothing (find (is_no_item s) (tested_items s)) (find (is_no_item s) (ordered_items s))
    (sym (find-append (is_no_item s) (tested_items s) (ordered_items s)) ∙ none) in
    record {
      having = tests_are_there s having parts.0 ∙ sym (length-map having (λ (t : Test). t.item));
      keys = keys_are_there s order parts.1 ∙ sym (length-map order (λ (k : Key). k.item));
    }
plan_is_there (Insert cube rows) none = record { having = refl; keys = refl }
plan_is_there (Load cube path reject) none = record { having = refl; keys = refl }
plan_is_there (Delete cube conds) none = record { having = refl; keys = refl }
plan_is_there Begin none = record { having = refl; keys = refl }
plan_is_there Commit none = record { having = refl; keys = refl }
plan_is_there Rollback none = record { having = refl; keys = refl }
plan_is_there Flush none = record { having = refl; keys = refl }
plan_is_there Purge none = record { having = refl; keys = refl }
plan_is_there ShowEpochs none = record { having = refl; keys = refl }
plan_is_there (CreateCube decl) none = record { having = refl; keys = refl }
plan_is_there (Watch items cube conds group) none = record { having = refl; keys = refl }
plan_is_there ShowWatch none = record { having = refl; keys = refl }

pub bindings_have_all_parts : BindingsHaveAllParts
bindings_have_all_parts d s fits =
    let plan = plan_is_there s (nothing (not_an_item s) (λ item is. fits (NotAnItem item) is)) in
    record {
      conditions = all_some (resolved_cond d) (is_wrong_use d) cond_use (conds_of s) (cond_is_there d) (kinds_fit d s fits);
      group = all_some (dim_place d) (is_wrong_use d) group_use (group_of s) (group_is_there d) (groups_fit d s fits);
      items = items_are_there d (items_of s) (record { kinds = item_kinds_fit d s fits; names = item_names_fit d s fits });
      having = plan.having;
      keys = plan.keys;
    }
