-- Nothing of a statement that fits its cube is left out where it is bound: each of its names and items has a place.
-- Source: this project's own.
use Rattle.std.specs.Prelude.{◌≡◌, length}
use Rattle.cube_language.specs.Misfits.{FitsCube}
use Rattle.cube_language.specs.ResolvedNames.{resolved_region, resolved_query, resolved_plan}
use Rattle.cube_language.specs.StatementParts.{items_of, conds_of, group_of, tested_items, ordered_items}
use Rattle.cube_language.specs.declared.decl.Decl.{Decl}
use Rattle.cube_language.specs.declared.statement.Statement.{Statement}

-- By places a statement has as many conditions, columns of its group, items, tests and keys as by names.
pub record HasAllParts (d : Decl) (s : Statement) : Type 0 where
  pub conditions : length (resolved_region d (conds_of s)).conditions ≡ length (conds_of s)
  pub group : length (resolved_query d s).group ≡ length (group_of s)
  pub items : length (resolved_query d s).items ≡ length (items_of s)
  pub having : length (resolved_plan s).having ≡ length (tested_items s)
  pub keys : length (resolved_plan s).keys ≡ length (ordered_items s)

abbrev pub BindingsHaveAllParts : Type 0
BindingsHaveAllParts = (d : Decl) (s : Statement) → FitsCube d s → HasAllParts d s
