-- The cells of an opened core tell with which rows and names it opened.
use Rattle.std.proofs.Common.{◌≡◌, ◌∙◌, ℕ, suc, ◌+◌, ◌-◌, ◌%◌, ◌<◌, Bool, List, [], ◌∷◌, length, refl, sym, ap, subst, arith, eq-eqb}
use Rattle.std.proofs.lemmas.List.{take_all}
use Rattle.std.proofs.lemmas.Nat.{mod_below}
use Rattle.cube_values.specs.declared.row.CodedRow.{CodedRow}
use Rattle.cube_rounds.specs.Stands.{Kept}
use Rattle.brick_map.specs.Births.{BrickContent, content_with_rows}
use Rattle.kept_data.specs.KeptDicts.{dictionaries_with_names}
use Rattle.cube_core.specs.BoardCells.{StandsInCell, cell_of_shard}
use Rattle.cube_core.specs.NamesEvents.{AreNamesOf}
use Rattle.core_events.specs.Cells.{counters_of_run, rows_of_brick, shard_view_of}
use Rattle.core_events.specs.Events.{Opening}
use Rattle.core_events.specs.ShardView.{every_epoch, rows_shown_to, rows_where}
use Rattle.core_program.specs.CoreFits.{CoreEntry, OpensCells}
use Rattle.cube_core.specs.declared.cell.CoreCell.{CoreCell}
use Rattle.cube_core.specs.declared.cell.CoreCell.TheVariants as cell
use Rattle.linked_shards.specs.CellShards.{CoreShardStands}
use Rattle.linked_shards.specs.declared.cell.CoreShard.{CoreShard}
use Rattle.opened_core.specs.KeptShards.{HoldsKept, kept_in_brick}
use Rattle.opened_core.specs.Openings.{AreCellsOver, IsCellOver}
use Rattle.shard_cell.specs.Shards.{ShardState}
use Rattle.shard_cell.specs.Slots.{untouched}
use Rattle.shard_events.specs.ShardsInRuns.{FitsShard, ShardAnswerSays, StandsInRun}
use Rattle.shard_views.specs.Views.{brick_view}
use Rattle.turn_board.proofs.Places.{there as place-there}

-- Whoever looks for all rows sees those of one run.
shown-run : (epoch : ℕ) (rows : List CodedRow)
    → rows_shown_to every_epoch every_epoch (brick_view (content_with_rows epoch rows untouched)) ≡ rows
shown-run epoch [] = refl
shown-run epoch (row ∷ rows) = take_all ((0 + suc (length rows)) - 0) (row ∷ rows) (omega arith)

-- A shard tells which rows each of its bricks has.
shard-shows : (kept : Kept) (shards number low : ℕ) (o : Opening) (shard : ShardState)
    → HoldsKept kept shards number shard → o.shards ≡ shards
    → StandsInRun o number low shard (shard_view_of o []) → (cube brick : ℕ) → brick % shards ≡ number
    → rows_of_brick o cube brick (o.rows cube) ≡ kept_in_brick kept cube brick
shard-shows kept shards number low o shard holds same stand cube brick is =
    sym ((stand.own cube brick (ap (λ n. brick % n) same ∙ is)).rows every_epoch every_epoch (λ a b p q. refl))
    ∙ ap (λ (c : BrickContent). rows_shown_to every_epoch every_epoch (brick_view c))
    (holds.bricks cube brick
    ∙ ap (λ (b : Bool). content_with_rows kept.epoch (rows_where b (kept_in_brick kept cube brick)) untouched)
    (eq-eqb (brick % shards) number is))
    ∙ shown-run kept.epoch (kept_in_brick kept cube brick)

shard-tells : (kept : Kept) (shards sessions number : ℕ) (o : Opening) (x : CoreCell CoreShard) → number < shards
    → o.shards ≡ shards → IsCellOver kept shards sessions (cell_of_shard number) x
    → StandsInCell FitsShard CoreShardStands ShardAnswerSays o (cell_of_shard number) x []
    → (cube brick : ℕ) → brick % shards ≡ number
    → rows_of_brick o cube brick (o.rows cube) ≡ kept_in_brick kept cube brick
shard-tells kept shards sessions number o (cell.Desk desk alloc) below same is stand cube brick at =
    absurd (omega (arith, is.0))
shard-tells kept shards sessions number o (cell.Names names) below same is stand cube brick at =
    absurd (omega (arith, is.0))
shard-tells kept shards sessions number o (cell.Shard s) below same is stand cube brick at =
    let one = is.1 in
    let other = stand.1 in
    let alike : stand.0 ≡ is.0 = omega (arith, one, other) in
    shard-shows kept shards is.0 (counters_of_run o []).lse o s.shard is.3 same
    (subst (λ (n : ℕ). StandsInRun o n (counters_of_run o []).lse s.shard (shard_view_of o [])) alike stand.3)
    cube brick (let own : number ≡ is.0 = omega (arith, one) in at ∙ own)
shard-tells kept shards sessions number o (cell.Mail m) below same is stand cube brick at =
    let behind = is.1 in absurd (omega (arith, below, behind))

-- The names cell tells the dictionaries.
names-tell : (kept : Kept) (shards sessions : ℕ) (o : Opening) (x : CoreCell CoreShard)
    → IsCellOver kept shards sessions 1 x
    → StandsInCell FitsShard CoreShardStands ShardAnswerSays o 1 x []
    → AreNamesOf o [] (dictionaries_with_names kept.cubes kept.names)
names-tell kept shards sessions o (cell.Desk desk alloc) is stand = absurd (omega (arith, is.0))
names-tell kept shards sessions o (cell.Names names) is stand = subst (AreNamesOf o []) is.1 stand.1
names-tell kept shards sessions o (cell.Shard s) is stand = absurd (omega (arith, is.1))
names-tell kept shards sessions o (cell.Mail m) is stand = absurd (omega (arith, is.1))

module _ (kept : Kept) (shards sessions : ℕ) (cells : List (CoreCell CoreShard))
    (over : AreCellsOver kept shards sessions cells) (o : Opening) (log : List CoreEntry)
    (opens : OpensCells FitsShard CoreShardStands ShardAnswerSays o cells log) where
  -- In each brick there are the kept rows.
  pub rows-told : (cube brick : ℕ) → rows_of_brick o cube brick (o.rows cube) ≡ kept_in_brick kept cube brick
  rows-told cube brick =
      let long = over.long in
      let also = opens.long in
      let some = opens.limits.some in
      let same : o.shards ≡ shards = omega (arith, long, also) in
      let below : brick % shards < shards = mod_below brick shards (omega (arith, some, same)) in
      let there = place-there cells (cell_of_shard (brick % shards)) (omega (arith, long, below)) in
      shard-tells kept shards sessions (brick % shards) o there.0 below same
      (over.each (cell_of_shard (brick % shards)) there.0 there.1)
      (opens.stand (cell_of_shard (brick % shards)) there.0 there.1) cube brick refl

  -- The dictionaries have the kept names.
  pub names-told : AreNamesOf o [] (dictionaries_with_names kept.cubes kept.names)
  names-told =
      let long = over.long in
      let second = place-there cells 1 (omega (arith, long)) in
      names-tell kept shards sessions o second.0 (over.each 1 second.0 second.1) (opens.stand 1 second.0 second.1)
