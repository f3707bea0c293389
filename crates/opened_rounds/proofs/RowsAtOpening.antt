-- What rounds of a file have of each brick, joined, and that a run over it opens with their rows.
use Rattle.std.proofs.Common.{◌≡◌, ℕ, ◌≤◌, List, [], length, slice_get, Some, inl, inr, refl, arith}
use Rattle.std.proofs.lemmas.List.Elements.{recursion_from_All}
use Rattle.std.proofs.lemmas.Option.{slice_get_cases}
use Rattle.std.proofs.lemmas.Slice.Zip.{AllZip-long}
use Rattle.cube_language.specs.declared.decl.Decl.{Decl}
use Rattle.cube_rounds.specs.Demands.{DimNames, HaveDims, IsOfEpochs}
use Rattle.cube_rounds.specs.KeptRows.{entries_joined, parts_of_brick}
use Rattle.cube_rounds.specs.Stands.{Kept}
use Rattle.core_events.specs.Cells.{rows_of_brick}
use Rattle.core_events.specs.Events.{Opening}
use Rattle.kept_data.specs.KeptRounds.{IsKeptBrick}
use Rattle.kept_data.specs.SoundKept.{IsCubeAt}
use Rattle.opened_core.specs.KeptShards.{kept_in_brick}
use Rattle.rows_of_rounds.specs.RowsOfRounds.{AreJoinedUpTo}

-- What the laws of kept data and of an opened core say of the rows of one store.
pub record RowsLaws (kept : Kept) (o : Opening) : Type 0 where
  pub lists : HaveDims kept.cubes kept.names
  pub bricks : (cube brick : ℕ) (d : Decl) (lists : DimNames) → IsCubeAt kept cube d lists
      → IsKeptBrick d lists brick kept.epoch (parts_of_brick cube brick kept.rounds)
  pub past : (cube brick : ℕ) → length kept.cubes ≤ cube → parts_of_brick cube brick kept.rounds ≡ []
  pub same : (cube brick : ℕ) → rows_of_brick o cube brick (o.rows cube) ≡ kept_in_brick kept cube brick
  pub none : (cube : ℕ) → length o.cubes ≤ cube → o.rows cube ≡ []

module _ (kept : Kept) (o : Opening) (laws : RowsLaws kept o) (cube brick : ℕ) where
  joined-in-cube : (d : Decl) (lists : DimNames) → IsCubeAt kept cube d lists
      → AreJoinedUpTo kept.epoch (parts_of_brick cube brick kept.rounds)
  joined-in-cube d lists at =
      let is = laws.bricks cube brick d lists at in
      record {
        leads = is.vector.leads;
        epochs = recursion_from_All (IsOfEpochs 0 kept.epoch)
            (entries_joined 0 (parts_of_brick cube brick kept.rounds)) is.epochs;
      }

  pub joined-at-opening : AreJoinedUpTo kept.epoch (parts_of_brick cube brick kept.rounds)
  joined-at-opening = elim (slice_get_cases kept.cubes cube).1 [
    | inl there ↦ elim (slice_get_cases kept.names cube).1 [
      | inl named ↦ joined-in-cube there.0 named.0 (record { is = there.2; names = named.2 })
      | inr past ↦
          let long =
          AllZip-long (λ (d : Decl) (lists : DimNames). length lists ≡ length d.dims) kept.cubes kept.names laws.lists
          in
          let low = there.1 in
          let high = past.0 in
          absurd (omega (arith, long, low, high))
    ]
    | inr past ↦
        coe 1 0 (i. AreJoinedUpTo kept.epoch (laws.past cube brick past.0 i)) (record { leads = refl; epochs = tt })
  ]
