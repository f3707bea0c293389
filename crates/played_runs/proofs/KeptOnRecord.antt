-- What is kept stands on record as a run over it begins.
use Rattle.std.proofs.Common.{◌≡◌, ◌∙◌, ℕ, suc, ◌+◌, List, [], ◌∷◌, length, map, slice_get, Option, Some, get_or, refl, ap, arith}
use Rattle.std.specs.List.{enumerate_from, flat_map}
use Rattle.std.specs.Option.{option_map_or}
use Rattle.cube_values.specs.declared.shape.CubeShape.{CubeShape}
use Rattle.cube_language.specs.declared.decl.Decl.{Decl}
use Rattle.cube_language.specs.declared.decl.DimDecl.{DimDecl}
use Rattle.cube_schema.specs.Schemas.{cube_of}
use Rattle.cube_rounds.specs.Demands.{DimNames, HaveDims}
use Rattle.cube_rounds.specs.Stands.{Kept}
use Rattle.condition_spans.specs.Codes.{lists_at}
use Rattle.core_records.specs.CoreRecords.{names_in, names_left, names_of_dims, rows_kept}
use Rattle.core_program.specs.CoreFits.{CoreEntry, decl_made_in, first_decl}
use Rattle.kept_data.specs.KeptDicts.{dictionaries_with_names}
use Rattle.names_dict.specs.Dictionaries.{Dictionary, dictionary_at, dictionary_for}
use Rattle.opened_core.specs.KeptShards.{kept_in_cube}
use Rattle.opened_core.specs.Openings.{no_shape, opening_over, shape_made}
use Rattle.query_plan.specs.Ties.{stored_for}
use Rattle.played_runs.specs.RunsOnRecord.{kept_values}

-- Lists that are named place by place are these lists.
dims-named : (f : ℕ → List (List ℕ)) (from : ℕ) (dims : List DimDecl) (lists : DimNames) → length lists ≡ length dims
    → ((dim : ℕ) → f (from + dim) ≡ get_or lists dim []) → map (λ p. f p.0) (enumerate_from from dims) ≡ lists
dims-named f from [] [] long is = refl
dims-named f from [] (l ∷ lists) long is = absurd (omega (arith, long))
dims-named f from (d ∷ dims) [] long is = absurd (omega (arith, long))
dims-named f from (d ∷ dims) (l ∷ lists) long is =
    let here : from ≡ from + 0 = omega arith in
    ap (λ (x : List (List ℕ)). x ∷ map (λ p. f p.0) (enumerate_from (from + 1) dims)) (ap f here ∙ is 0)
    ∙ ap (λ (rest : DimNames). l ∷ rest)
    (dims-named f (from + 1) dims lists (omega (arith, long))
    (λ dim. let next : from + 1 + dim ≡ from + suc dim = omega arith in ap f next ∙ is (suc dim)))

cubes-named : (f : ℕ → ℕ → List (List ℕ)) (from : ℕ) (cubes : List Decl) (names : List DimNames)
    → HaveDims cubes names
    → ((k : ℕ) (d : Decl) → slice_get cubes k ≡ Some d
    → (dim : ℕ) → f (from + k) dim ≡ get_or (get_or names k []) dim [])
    → map (λ p. names_of_dims (f p.0) p.1.dims) (enumerate_from from cubes) ≡ names
cubes-named f from [] [] have is = refl
cubes-named f from [] (lists ∷ names) have is = absurd have
cubes-named f from (d ∷ cubes) [] have is = absurd have
cubes-named f from (d ∷ cubes) (lists ∷ names) have is =
    let here : from ≡ from + 0 = omega arith in
    ap (λ (x : DimNames). x ∷ map (λ p. names_of_dims (f p.0) p.1.dims) (enumerate_from (from + 1) cubes))
    (dims-named (f from) 0 d.dims lists have.0
    (λ dim.
    let none : 0 + dim ≡ dim = omega arith in ap (f from) none ∙ ap (λ k. f k dim) here ∙ is 0 d refl dim))
    ∙ ap (λ (rest : List DimNames). lists ∷ rest)
    (cubes-named f (from + 1) cubes names have.1
    (λ k e there dim.
    let next : from + 1 + k ≡ from + suc k = omega arith in ap (λ n. f n dim) next ∙ is (suc k) e there dim))

module _ (kept : Kept) (shards sessions : ℕ) (log : List CoreEntry) (lists : HaveDims kept.cubes kept.names)
    (made : (cube dim : ℕ) (d : Decl) → slice_get kept.cubes cube ≡ Some d
    → dictionary_for (cube_of d) (dictionaries_with_names kept.cubes kept.names) cube dim
    ≡ dictionary_at (dictionaries_with_names kept.cubes kept.names) cube dim)
    (each : (cube dim : ℕ) → (dictionary_at (dictionaries_with_names kept.cubes kept.names) cube dim).names
    ≡ get_or (get_or kept.names cube []) dim []) where
  shape-is : (k : ℕ) (d : Decl) → slice_get kept.cubes k ≡ Some d → shape_made kept.cubes log k ≡ cube_of d
  shape-is k d is =
      ap (λ (o : Option Decl). option_map_or cube_of (first_decl o (decl_made_in k log)) no_shape) is

  name-is : (k : ℕ) (d : Decl) → slice_get kept.cubes k ≡ Some d → (dim : ℕ)
      → names_in (opening_over kept shards sessions log) [] k dim ≡ get_or (get_or kept.names k []) dim []
  name-is k d is dim =
      ap (λ (s : CubeShape). (dictionary_for s (dictionaries_with_names kept.cubes kept.names) k dim).names)
      (shape-is k d is)
      ∙ ap (λ (x : Dictionary). x.names) (made k dim d is)
      ∙ each k dim

  -- The names with which it opens are the kept ones.
  pub names-kept : names_left (opening_over kept shards sessions log) [] ≡ kept.names
  names-kept =
      cubes-named (names_in (opening_over kept shards sessions log) []) 0 kept.cubes kept.names lists
      (λ k d is dim.
      let none : 0 + k ≡ k = omega arith in
      ap (λ n. names_in (opening_over kept shards sessions log) [] n dim) none ∙ name-is k d is dim)

-- So its rows are the kept ones, as rows of values.
pub rows-kept : (kept : Kept) (shards sessions : ℕ) (log : List CoreEntry)
    → names_left (opening_over kept shards sessions log) [] ≡ kept.names
    → rows_kept (opening_over kept shards sessions log) ≡ kept_values kept
rows-kept kept shards sessions log names = λ i.
    flat_map (λ p. map (stored_for p.1.name (lists_at (names i) p.0)) (kept_in_cube kept p.0))
    (enumerate_from 0 kept.cubes)
