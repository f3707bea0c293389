-- What is kept is there in each run over the cells of a core that opened over it.
use Rattle.std.proofs.Common.{◌≡◌, ◌∙◌, ℕ, ◌≤◌, List, [], ◌++◌, length, get_or, slice_get, Option, Some, inl, inr, sym, ap, subst, arith, append-nil}
use Rattle.std.proofs.lemmas.List.{get_or_past}
use Rattle.std.proofs.lemmas.Option.{get_or_from_slice_get, slice_get_cases}
use Rattle.cube_values.specs.declared.shape.CubeShape.{CubeShape}
use Rattle.cube_language.specs.declared.decl.Decl.{Decl}
use Rattle.cube_schema.specs.Schemas.{cube_of}
use Rattle.cube_rounds.specs.Demands.{DimNames, HaveDims}
use Rattle.cube_rounds.specs.Stands.{Kept}
use Rattle.aosi_desk.specs.Desks.{DeskState}
use Rattle.names_dict.specs.Dictionaries.{Dictionary, dictionary_at, dictionary_for}
use Rattle.kept_data.specs.KeptDicts.{dictionaries_with_names}
use Rattle.cube_core.specs.BoardCells.{StandsInCell}
use Rattle.cube_core.specs.declared.cell.CoreCell.{CoreCell}
use Rattle.cube_core.specs.declared.cell.CoreCell.TheVariants as cell
use Rattle.core_events.specs.Clients.{opening_client}
use Rattle.core_events.specs.Events.{Opening, CoreEvent}
use Rattle.core_events.specs.Runs.{IsCoreRun}
use Rattle.core_program.specs.CoreFits.{CoreEntry, OpensCells, decl_made_in, first_decl}
use Rattle.flush_round.specs.KeptRounds.{IsToldOfKept}
use Rattle.following_rounds.specs.FollowingRounds.{IsKeptAfter}
use Rattle.linked_shards.specs.CellShards.{CoreShardStands}
use Rattle.linked_shards.specs.declared.cell.CoreShard.{CoreShard}
use Rattle.opened_callers.proofs.ToldCubes.{cubes-told}
use Rattle.opened_core.specs.Openings.{AreCellsOver, IsCellOver}
use Rattle.opened_rows.proofs.ToldRows.{names-told}
use Rattle.round_copies.specs.RoundCopies.{count_at}
use Rattle.round_store.specs.Counts.{counts_of}
use Rattle.rows_of_rounds.proofs.RowsThen.{rows-at-opening}
use Rattle.shard_events.specs.ShardsInRuns.{FitsShard, ShardAnswerSays}
use Rattle.stored_rounds.specs.RoundsInStore.{IsKeptInRun}
use Rattle.turn_board.proofs.Places.{there as place-there}
use Rattle.opened_rounds.proofs.CountedNames.{counted, cube-there}
use Rattle.opened_rounds.proofs.RowsAtOpening.{RowsLaws, joined-at-opening}

-- What the laws of kept data say of the names of one store.
pub record NamesLaws (kept : Kept) : Type 0 where
  pub lists : HaveDims kept.cubes kept.names
  pub names : (cube dim : ℕ) → (dictionary_at (dictionaries_with_names kept.cubes kept.names) cube dim).names
      ≡ get_or (get_or kept.names cube []) dim []
  pub made : (cube dim : ℕ) (d : Decl) → slice_get kept.cubes cube ≡ Some d
      → dictionary_for (cube_of d) (dictionaries_with_names kept.cubes kept.names) cube dim
      ≡ dictionary_at (dictionaries_with_names kept.cubes kept.names) cube dim

-- The desk tells the latest safe epoch.
desk-tells : (kept : Kept) (shards sessions : ℕ) (o : Opening) (x : CoreCell CoreShard)
    → IsCellOver kept shards sessions 0 x
    → StandsInCell FitsShard CoreShardStands ShardAnswerSays o 0 x [] → kept.epoch ≡ o.safe
desk-tells kept shards sessions o (cell.Desk desk alloc) is stand =
    ap (λ (d : DeskState). d.register.safe) (sym is.1 ∙ stand.1)
desk-tells kept shards sessions o (cell.Names names) is stand = absurd (omega (arith, is.0))
desk-tells kept shards sessions o (cell.Shard s) is stand = absurd (omega (arith, is.1))
desk-tells kept shards sessions o (cell.Mail m) is stand = absurd (omega (arith, is.1))

module _ (kept : Kept) (shards sessions : ℕ) (cells : List (CoreCell CoreShard))
    (over : AreCellsOver kept shards sessions cells) (o : Opening) (log : List CoreEntry)
    (opens : OpensCells FitsShard CoreShardStands ShardAnswerSays o cells log) (laws : NamesLaws kept) where
  safe-told : kept.epoch ≡ o.safe
  safe-told =
      let long = over.long in
      let first = place-there cells 0 (omega (arith, long)) in
      desk-tells kept shards sessions o first.0 (over.each 0 first.0 first.1) (opens.stand 0 first.0 first.1)

  shape-told : (cube : ℕ) (d : Decl) → slice_get kept.cubes cube ≡ Some d → o.shapes cube ≡ cube_of d
  shape-told cube d is =
      opens.shapes cube d
      (ap (λ (cubes : List Decl). first_decl (slice_get cubes cube) (decl_made_in cube log))
      (cubes-told kept shards sessions cells over o log opens)
      ∙ ap (λ (c : Option Decl). first_decl c (decl_made_in cube log)) is)

  -- The run opens with the kept names.
  name-told : (cube dim : ℕ) (d : Decl) → slice_get kept.cubes cube ≡ Some d
      → get_or (get_or kept.names cube []) dim [] ≡ (o.names cube dim).names
  name-told cube dim d is =
      let all = dictionaries_with_names kept.cubes kept.names in
      sym (laws.names cube dim)
      ∙ ap (λ (dict : Dictionary). dict.names)
      (sym (laws.made cube dim d is)
      ∙ ap (λ (s : CubeShape). dictionary_for s all cube dim) (sym (shape-told cube d is))
      ∙ names-told kept shards sessions cells over o log opens cube dim)

  kept-first : IsKeptAfter o [] kept.cubes kept.names
  kept-first = record {
    first_cubes = ([], append-nil kept.cubes ∙ sym (cubes-told kept shards sessions cells over o log opens));
    dims = laws.lists;
    first_names = λ cube dim lists list is is_list.
        let d = cube-there kept.cubes kept.names cube lists laws.lists is in (
          [],
          append-nil list ∙ sym (get_or_from_slice_get lists dim list [] is_list)
              ∙ ap (λ (l : DimNames). get_or l dim []) (sym (get_or_from_slice_get kept.names cube lists [] is))
              ∙ name-told cube dim d.0 d.1,
        );
  }

  kept-told : IsToldOfKept kept (opening_client o)
  kept-told = record {
    listed = subst (λ (cubes : List Decl). length kept.cubes ≤ length cubes)
        (sym (cubes-told kept shards sessions cells over o log opens)) (omega arith);
    names = λ cube dim. elim (slice_get_cases kept.names cube).1 [
      | inl there ↦
          let d = cube-there kept.cubes kept.names cube there.0 laws.lists there.2 in
          let same : count_at (counts_of kept.names) cube dim ≡ length (o.names cube dim).names =
          counted kept.names cube dim ∙ ap (λ (l : List (List ℕ)). length l) (name-told cube dim d.0 d.1)
          in
          omega (arith, same)
      | inr none ↦
          let zero : count_at (counts_of kept.names) cube dim ≡ 0 =
          counted kept.names cube dim
          ∙ ap (λ (l : DimNames). length (get_or l dim [])) (get_or_past kept.names cube [] none.0)
          in
          omega (arith, zero)
    ];
  }

  pub kept-in-run : ((later es : List CoreEvent) (cubes : List Decl) (names : List DimNames)
      → IsKeptAfter o es cubes names → IsKeptAfter o (later ++ es) cubes names)
      → RowsLaws kept o → (run : List CoreEvent) → IsCoreRun o run → IsKeptInRun kept o run []
  kept-in-run stays rows run is_run = record {
    first = subst (λ (es : List CoreEvent). IsKeptAfter o es kept.cubes kept.names) (append-nil run)
        (stays run [] kept.cubes kept.names kept-first);
    told = kept-told;
    up_to = safe-told;
    content = record {
      opening = ([], append-nil o.cubes ∙ cubes-told kept shards sessions cells over o log opens);
      rows = rows-at-opening o run kept is_run safe-told rows.none (joined-at-opening kept o rows) rows.same;
    };
  }
