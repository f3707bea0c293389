-- The cells of an opened core tell with which cubes it opened.
use Rattle.std.proofs.Common.{◌≡◌, ◌∙◌, ℕ, List, [], All, sym, ap, subst, arith}
use Rattle.aosi_desk.specs.Desks.{DeskState}
use Rattle.cube_core.specs.BoardCells.{StandsInCell}
use Rattle.core_events.specs.Events.{Opening}
use Rattle.cube_core.specs.declared.cell.CoreCell.{CoreCell}
use Rattle.cube_core.specs.declared.cell.CoreCell.TheVariants as cell
use Rattle.cube_language.specs.Cubes.{IsStorable}
use Rattle.cube_language.specs.declared.decl.Decl.{Decl}
use Rattle.cube_rounds.specs.Stands.{Kept}
use Rattle.core_program.specs.CoreFits.{CoreEntry, OpensCells}
use Rattle.known_cubes.specs.KnownCubes.{OpenWithStorableCubes}
use Rattle.linked_shards.specs.CellShards.{CoreShardStands}
use Rattle.linked_shards.specs.declared.cell.CoreShard.{CoreShard}
use Rattle.opened_core.specs.Openings.{AreCellsOver, IsCellOver}
use Rattle.shard_events.specs.ShardsInRuns.{FitsShard, ShardAnswerSays}
use Rattle.turn_board.proofs.Places.{there as place-there}

-- The desk tells the cubes.
desk-tells : (kept : Kept) (shards sessions : ℕ) (o : Opening) (x : CoreCell CoreShard)
    → IsCellOver kept shards sessions 0 x
    → StandsInCell FitsShard CoreShardStands ShardAnswerSays o 0 x [] → o.cubes ≡ kept.cubes
desk-tells kept shards sessions o (cell.Desk desk alloc) is stand = ap (λ (d : DeskState). d.cubes) (sym stand.1 ∙ is.1)
desk-tells kept shards sessions o (cell.Names names) is stand = absurd (omega (arith, is.0))
desk-tells kept shards sessions o (cell.Shard s) is stand = absurd (omega (arith, is.1))
desk-tells kept shards sessions o (cell.Mail m) is stand = absurd (omega (arith, is.1))

module _ (kept : Kept) (shards sessions : ℕ) (cells : List (CoreCell CoreShard))
    (over : AreCellsOver kept shards sessions cells) where
  pub cubes-told : (o : Opening) (log : List CoreEntry)
      → OpensCells FitsShard CoreShardStands ShardAnswerSays o cells log → o.cubes ≡ kept.cubes
  cubes-told o log opens =
      let long = over.long in
      let first = place-there cells 0 (omega (arith, long)) in
      desk-tells kept shards sessions o first.0 (over.each 0 first.0 first.1) (opens.stand 0 first.0 first.1)

  pub storable-told : All IsStorable kept.cubes → OpenWithStorableCubes FitsShard CoreShardStands ShardAnswerSays cells
  storable-told all o log opens =
      subst (λ (cubes : List Decl). All IsStorable cubes) (sym (cubes-told o log opens)) all
