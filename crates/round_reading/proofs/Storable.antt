-- What a declaration that can be stored has room for: a row of it has bytes, and a brick's number fits.
use Rattle.std.proofs.Common.{◌≡◌, ℕ, ◌^◌, ◌<◌, ◌≤◌, cond, List, [], ◌∷◌, length, Option, Some, None, All, arith}
use Rattle.std.specs.Prelude.{◌==◌}
use Rattle.std.specs.List.{AllByRecursion}
use Rattle.std.proofs.lemmas.List.Elements.{All-head, All-tail}
use Rattle.cube_values.specs.Shapes.{bricks_of}
use Rattle.cube_language.specs.declared.decl.Decl.{Decl}
use Rattle.cube_language.specs.declared.cubes_fault.SchemaFault.{SchemaFault}
use Rattle.cube_language.specs.declared.cubes_fault.SchemaFault.TheVariants.{NoMetric}
use Rattle.cube_language.specs.Cubes.{sizes_of, first_some, duplicate_in, zero_in, large_range_in, many_bricks_in, many_columns_in, no_metric_in, IsStorable}
use Rattle.cube_schema.proofs.Sound.{parts_of}

pub record IsWide (cube : Decl) : Type 0 where
  pub wide : 0 < length cube.metrics
  pub few : bricks_of (sizes_of cube.dims) ≤ 2 ^ 62

others_none : {A : Type 0} (found : Option A) (others : List (Option A)) → first_some (found ∷ others) ≡ None → first_some others ≡ None
others_none None others none = none
others_none (Some x) others none = absurd cc

by_metrics : (metrics : List (List ℕ)) → first_some (cond (length metrics == 0) (Some NoMetric) None ∷ []) ≡ None → 0 < length metrics
by_metrics [] none = absurd cc
by_metrics (name ∷ metrics) none = omega arith

pub some_metric : (cube : Decl) → IsStorable cube → 0 < length cube.metrics
some_metric cube storable =
    let last : List (Option SchemaFault) = no_metric_in cube ∷ [] in
    let p = others_none (duplicate_in cube) (zero_in cube ∷ large_range_in cube ∷ many_bricks_in cube ∷ many_columns_in cube ∷ last) storable in
    let q = others_none (zero_in cube) (large_range_in cube ∷ many_bricks_in cube ∷ many_columns_in cube ∷ last) p in
    let r = others_none (large_range_in cube) (many_bricks_in cube ∷ many_columns_in cube ∷ last) q in
    let s = others_none (many_bricks_in cube) (many_columns_in cube ∷ last) r in
    by_metrics cube.metrics (others_none (many_columns_in cube) last s)

pub is_wide : (cube : Decl) → IsStorable cube → IsWide cube
is_wide cube storable = record { wide = some_metric cube storable; few = (parts_of cube storable).bricks }

pub are_wide : (cubes : List Decl) → All IsStorable cubes → AllByRecursion IsWide cubes
are_wide [] all = tt
are_wide (cube ∷ cubes) all = (is_wide cube (All-head IsStorable cube cubes all), are_wide cubes (All-tail IsStorable cube cubes all))
