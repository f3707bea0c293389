-- A WATCH asks for rows, and where it fits its cube it has no Min and no Max.
use Rattle.std.proofs.Common.{◌≡◌, ℕ, true, List, [], ◌∷◌, All, Option, Some, None, find, filter_map, refl, sym}
use Rattle.std.specs.List.{AllByRecursion, cons_option}
use Rattle.std.specs.Option.{option_map}
use Rattle.std.proofs.lemmas.Bool.{false≢true}
use Rattle.std.proofs.lemmas.List.Elements.{All-from_recursion}
use Rattle.std.proofs.lemmas.Option.{none-some}
use Rattle.agg_fold.specs.Tallies.{IsAdditive}
use Rattle.cube_language.specs.Misfits.{FitsCube, is_extreme}
use Rattle.cube_language.specs.ResolvedNames.{dim_place, metric_place, resolved_item, resolved_query}
use Rattle.cube_language.specs.declared.decl.Decl.{Decl}
use Rattle.cube_language.specs.declared.misfit.Misfit.TheVariants.{NotWatchable}
use Rattle.cube_language.specs.declared.statement.Item.{Item}
use Rattle.cube_language.specs.declared.statement.Item.TheVariants.{Plain, Sum, Min, Max, Avg, CountAll}
use Rattle.cube_language.specs.declared.statement.Statement.{Statement}
use Rattle.cube_language.specs.declared.statement.Statement.TheVariants.{Watch}
use Rattle.cube_run.specs.StatementEntries.{is_watch}
use Rattle.cube_values.specs.declared.query.BoundItem.{BoundItem}
use Rattle.cube_values.specs.declared.query.BoundItem.TheVariants as bound
use Rattle.query_plan.specs.Bindings.{AsksRows}

pub asks-rows : (s : Statement) → is_watch s ≡ true → AsksRows s
asks-rows (Watch items cube conds group) form = tt
asks-rows s form = absurd (false≢true form)

one-more : (make : ℕ → BoundItem) (place : Option ℕ) (rest : List BoundItem) → ((n : ℕ) → IsAdditive (make n))
    → AllByRecursion IsAdditive rest → AllByRecursion IsAdditive (cons_option (option_map make place) rest)
one-more make None rest is more = more
one-more make (Some n) rest is more = (is n, more)

none-extreme : (d : Decl) (items : List Item) → find is_extreme items ≡ None
    → AllByRecursion IsAdditive (filter_map (resolved_item d) items)
none-extreme d [] none = tt
none-extreme d (Min name ∷ items) none = absurd (none-some (Min name) (sym none))
none-extreme d (Max name ∷ items) none = absurd (none-some (Max name) (sym none))
none-extreme d (Plain name ∷ items) none =
    one-more (λ n. bound.Group n) (dim_place d name) (filter_map (resolved_item d) items) (λ n. tt) (none-extreme d items none)
none-extreme d (Sum name ∷ items) none =
    one-more (λ n. bound.Sum n) (metric_place d name) (filter_map (resolved_item d) items) (λ n. tt)
    (none-extreme d items none)
none-extreme d (Avg name ∷ items) none =
    one-more (λ n. bound.Avg n) (metric_place d name) (filter_map (resolved_item d) items) (λ n. tt)
    (none-extreme d items none)
none-extreme d (CountAll ∷ items) none = (tt, none-extreme d items none)

pub additive-items : (d : Decl) (s : Statement) → is_watch s ≡ true → FitsCube d s
    → All IsAdditive (resolved_query d s).items
additive-items d (Watch items cube conds group) form fits =
    All-from_recursion IsAdditive (filter_map (resolved_item d) items) (none-extreme d items (at (find is_extreme items) refl))
  where
    at : (found : Option Item) → find is_extreme items ≡ found → find is_extreme items ≡ None
    at None is = is
    at (Some item) is = absurd (fits (NotWatchable item) is)
additive-items d s form fits = absurd (false≢true form)
