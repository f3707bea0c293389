-- The rows with which a run opens over what a file keeps are rows of its cubes.
use Rattle.std.proofs.Common.{◌≡◌, ◌∙◌, ℕ, zero, suc, ◌<◌, ◌≤◌, List, [], ◌∷◌, length, slice_get, Option, Some, inl, inr, refl, sym, ap, subst}
use Rattle.std.proofs.lemmas.List.Elements.{All-from_recursion, All-weaker, recursion_from_All}
use Rattle.std.proofs.lemmas.Option.{get_or_from_slice_get, none-some, slice_get_cases}
use Rattle.std.specs.List.{All, AllByRecursion, AllZip}
use Rattle.std.specs.Prelude.{slice_index_or}
use Rattle.cube_values.specs.declared.row.CodedRow.{CodedRow}
use Rattle.cube_values.specs.declared.shape.CubeShape.{CubeShape}
use Rattle.cube_language.specs.declared.decl.Decl.{Decl}
use Rattle.cube_schema.specs.Schemas.{cube_of}
use Rattle.cube_rounds.specs.Bricks.{BrickPart}
use Rattle.cube_rounds.specs.Demands.{DimNames, HaveDims}
use Rattle.cube_rounds.specs.KeptRows.{entries_joined, parts_of_brick, rows_joined, rows_seen}
use Rattle.cube_rounds.specs.Stands.{Kept}
use Rattle.brick_address.specs.Addresses.{AreCoords, brick_of}
use Rattle.names_dict.specs.Dictionaries.{Dictionary, IsTextDimension, dictionary_at, dictionary_for}
use Rattle.kept_data.specs.KeptDicts.{dictionaries_with_names}
use Rattle.kept_data.specs.KeptRounds.{IsKeptRow}
use Rattle.kept_data.specs.SoundKept.{IsCubeAt}
use Rattle.core_events.specs.Cells.{sizes_of_cube}
use Rattle.core_events.specs.Events.{Opening}
use Rattle.core_program.specs.CoreFits.{CoreEntry, OpensCells, decl_made_in, first_decl}
use Rattle.core_rows.specs.RowsOfCubes.{IsCubeRow}
use Rattle.cube_core.specs.declared.cell.CoreCell.{CoreCell}
use Rattle.linked_shards.specs.CellShards.{CoreShardStands}
use Rattle.linked_shards.specs.declared.cell.CoreShard.{CoreShard}
use Rattle.opened_callers.proofs.ToldCubes.{cubes-told}
use Rattle.opened_core.specs.KeptShards.{kept_in_brick}
use Rattle.opened_core.specs.Openings.{AreCellsOver}
use Rattle.opened_rows.proofs.RowsByKey.{all-by-key, none-by-key}
use Rattle.opened_rows.proofs.ToldRows.{names-told, rows-told}
use Rattle.shard_cell.specs.Answers.{reader_at}
use Rattle.shard_events.specs.ShardsInRuns.{FitsShard, ShardAnswerSays}

-- What the laws of kept data say of the rows of one store and of the names in them.
pub record RowsLaws (kept : Kept) : Type 0 where
  pub lists : HaveDims kept.cubes kept.names
  pub rows : (cube brick : ℕ) (d : Decl) (lists : DimNames) → IsCubeAt kept cube d lists
      → All (IsKeptRow d lists brick) (kept_in_brick kept cube brick)
  pub none : (cube brick : ℕ) → length kept.cubes ≤ cube → parts_of_brick cube brick kept.rounds ≡ []
  pub names : (cube dim : ℕ) → (dictionary_at (dictionaries_with_names kept.cubes kept.names) cube dim).names
      ≡ slice_index_or (slice_index_or kept.names cube []) dim []
  pub made : (cube dim : ℕ) (d : Decl) → slice_get kept.cubes cube ≡ Some d
      → dictionary_for (cube_of d) (dictionaries_with_names kept.cubes kept.names) cube dim
      ≡ dictionary_at (dictionaries_with_names kept.cubes kept.names) cube dim

names-there : (cubes : List Decl) (names : List DimNames) (place : ℕ) (d : Decl)
    → AllZip (λ (cube : Decl) (lists : DimNames). length lists ≡ length cube.dims) cubes names
    → slice_get cubes place ≡ Some d → (lists : DimNames) × (slice_get names place ≡ Some lists)
names-there [] names place d all is = absurd (none-some d is)
names-there (c ∷ cubes) [] place d all is = absurd all
names-there (c ∷ cubes) (lists ∷ names) zero d all is = (lists, refl)
names-there (c ∷ cubes) (lists ∷ names) (suc place) d all is = names-there cubes names place d all.1 is

-- A kept row is a row of its cube, which has the shape of its declaration and the kept names.
cube-row : (o : Opening) (cube brick : ℕ) (d : Decl) (lists : DimNames) (row : CodedRow) → o.shapes cube ≡ cube_of d
    → ((dim : ℕ) → (o.names cube dim).names ≡ slice_index_or lists dim []) → IsKeptRow d lists brick row
    → IsCubeRow o [] cube row
cube-row o cube brick d lists row shape named is = record {
  coords = subst (λ (s : CubeShape). AreCoords s.shape.sizes row.coords) (sym shape) is.coords.of_cube;
  metrics = is.metrics ∙ sym (ap (λ (s : CubeShape). s.metrics) shape);
  names = λ dim coord text at.
      subst (λ (names : List (List ℕ)). coord < length names) (sym (named dim))
      (is.names dim coord (subst (λ (s : CubeShape). IsTextDimension s dim) shape text) at);
}

module _ (kept : Kept) (shards sessions : ℕ) (cells : List (CoreCell CoreShard))
    (over : AreCellsOver kept shards sessions cells) (o : Opening) (log : List CoreEntry)
    (opens : OpensCells FitsShard CoreShardStands ShardAnswerSays o cells log) where
  -- At a place past the kept cubes there are none.
  past-rows : (cube : ℕ) → ((brick : ℕ) → parts_of_brick cube brick kept.rounds ≡ []) → o.rows cube ≡ []
  past-rows cube none =
      none-by-key (λ row. brick_of (sizes_of_cube o cube) row.coords) (o.rows cube)
      (λ brick. rows-told kept shards sessions cells over o log opens cube brick
      ∙ ap (λ (parts : List BrickPart). rows_seen (reader_at kept.epoch) (entries_joined 0 parts) 0 (rows_joined parts))
      (none brick))

  pub none-past : ((cube brick : ℕ) → length kept.cubes ≤ cube → parts_of_brick cube brick kept.rounds ≡ [])
      → (cube : ℕ) → length o.cubes ≤ cube → o.rows cube ≡ []
  none-past none cube past =
      let first = cubes-told kept shards sessions cells over o log opens in
      past-rows cube (λ brick. none cube brick (subst (λ (cubes : List Decl). length cubes ≤ cube) first past))

  shape-told : (cube : ℕ) (d : Decl) → slice_get kept.cubes cube ≡ Some d → o.shapes cube ≡ cube_of d
  shape-told cube d is =
      opens.shapes cube d
      (ap (λ (cubes : List Decl). first_decl (slice_get cubes cube) (decl_made_in cube log))
      (cubes-told kept shards sessions cells over o log opens)
      ∙ ap (λ (c : Option Decl). first_decl c (decl_made_in cube log)) is)

  module _ (laws : RowsLaws kept) where
    name-told : (cube : ℕ) (d : Decl) (lists : DimNames) → IsCubeAt kept cube d lists → (dim : ℕ)
        → (o.names cube dim).names ≡ slice_index_or lists dim []
    name-told cube d lists at dim =
        let all = dictionaries_with_names kept.cubes kept.names in
        ap (λ (dict : Dictionary). dict.names)
        (sym (names-told kept shards sessions cells over o log opens cube dim)
        ∙ ap (λ (s : CubeShape). dictionary_for s all cube dim) (shape-told cube d at.is) ∙ laws.made cube dim d at.is)
        ∙ laws.names cube dim
        ∙ ap (λ (l : DimNames). slice_index_or l dim []) (get_or_from_slice_get kept.names cube lists [] at.names)

    rows-at : (cube : ℕ) (d : Decl) (lists : DimNames) → IsCubeAt kept cube d lists
        → AllByRecursion (IsCubeRow o [] cube) (o.rows cube)
    rows-at cube d lists at =
        all-by-key (λ row. brick_of (sizes_of_cube o cube) row.coords) (IsCubeRow o [] cube) (o.rows cube)
        (λ brick. subst (λ (rows : List CodedRow). AllByRecursion (IsCubeRow o [] cube) rows)
        (sym (rows-told kept shards sessions cells over o log opens cube brick))
        (recursion_from_All (IsCubeRow o [] cube) (kept_in_brick kept cube brick)
        (All-weaker (IsKeptRow d lists brick) (IsCubeRow o [] cube)
        (λ row is. cube-row o cube brick d lists row (shape-told cube d at.is) (name-told cube d lists at) is)
        (kept_in_brick kept cube brick) (laws.rows cube brick d lists at))))

    pub opened-rows : (cube : ℕ) → All (IsCubeRow o [] cube) (o.rows cube)
    opened-rows cube =
        All-from_recursion (IsCubeRow o [] cube) (o.rows cube) (elim (slice_get_cases kept.cubes cube).1 [
          | inl there ↦
              let lists = names-there kept.cubes kept.names cube there.0 laws.lists there.2 in
              rows-at cube there.0 lists.0 (record { is = there.2; names = lists.1 })
          | inr none ↦
              subst (λ (rows : List CodedRow). AllByRecursion (IsCubeRow o [] cube) rows)
              (sym (past-rows cube (λ brick. laws.none cube brick none.0))) tt
        ])
