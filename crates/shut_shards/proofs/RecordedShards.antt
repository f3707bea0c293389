-- What the shards in the cells hold at the end stands for what a reader at LSE sees of the record.
use Rattle.std.proofs.Common.{◌≡◌, ◌∙◌, ℕ, List, slice_get, Some, arith}
use Rattle.std.specs.List.Sorted.{IsPermutation}
use Rattle.cube_values.specs.Visible.{visible_rows}
use Rattle.cube_language.specs.declared.decl.Decl.{Decl}
use Rattle.cube_run.specs.RunRecords.{catalog_of}
use Rattle.cube_run.specs.RunTransactions.{run_transactions}
use Rattle.condition_spans.specs.Codes.{lists_at}
use Rattle.one_session.specs.Changes.{rows_in_cube}
use Rattle.core_events.specs.Cells.{rows_of_brick, shard_view_of}
use Rattle.core_events.specs.Clients.{reader_up_to}
use Rattle.core_events.specs.Events.{Opening, CoreEvent}
use Rattle.core_records.specs.CoreRecords.{RunScripts, record_of}
use Rattle.core_agreements.specs.ScriptedRuns.{IsScriptedRun}
use Rattle.cube_core.specs.BoardCells.{cell_of_shard}
use Rattle.cube_core.specs.declared.cell.CoreCell.{CoreCell}
use Rattle.cube_core.specs.declared.cell.CoreCell.TheVariants as cell
use Rattle.linked_shards.specs.declared.cell.CoreShard.{CoreShard}
use Rattle.shard_events.specs.ShardsInRuns.{StandsInRun}
use Rattle.final_shards.specs.FinalShards.{AllIsSafe, HasPurgedToLse, lse_of}
use Rattle.final_shards.proofs.HeldRows.{no-other-row}
use Rattle.final_shards.proofs.RecordedRows.{held-for-record}
use Rattle.shut_shards.specs.ShutShards.{CellsStand, IsShardIn, ShardsHoldRowsFor, rows_in_shard, rows_in_shard_up_to}
use Rattle.shut_shards.proofs.ViewedRows.{all-in-shard, others-in-shard, up-to-in-shard}

-- The shard in a cell is what the run made of it.
pub stands-in-run : (o : Opening) (cells : List (CoreCell CoreShard)) (es : List CoreEvent) (number : ℕ)
    (s : CoreShard) → CellsStand o cells es → IsShardIn cells number s
    → StandsInRun o number (lse_of o es) s.shard (shard_view_of o es)
stands-in-run o cells es number s stand there =
    let h = stand (cell_of_shard number) (cell.Shard s) there in
    let at = h.1 in
    let same : h.0 ≡ number = omega (arith, at) in
    coe 0 1 (i. StandsInRun o (same i) (lse_of o es) s.shard (shard_view_of o es)) h.3

module _ (o : Opening) (given : RunScripts) (es : List CoreEvent) (client cube : ℕ) (d : Decl)
    (cells : List (CoreCell CoreShard)) (r : IsScriptedRun o given es) (stand : CellsStand o cells es)
    (h : HasPurgedToLse o es client) (is : slice_get (catalog_of (record_of o given es)).cubes cube ≡ Some d) where
  pub safe-for-record : ShardsHoldRowsFor (rows_in_shard_up_to (lse_of o es)) o cells d
      (lists_at (record_of o given es).names cube) cube
      (rows_in_cube d.name (visible_rows (reader_up_to (lse_of o es)) (run_transactions (record_of o given es))))
  safe-for-record =
      let held = held-for-record o given es client cube d r h is in
      record {
        rows = held.rows;
        stand = held.stand;
        own = λ number brick s there here.
            coe 1 0 (i. IsPermutation (up-to-in-shard o number (lse_of o es) cube brick s.shard (shard_view_of o es)
            (stands-in-run o cells es number s stand there) here i) (rows_of_brick o cube brick held.rows))
            (held.each brick);
        others = λ number brick s there apart.
            others-in-shard o number (lse_of o es) cube brick s.shard (shard_view_of o es)
            (stands-in-run o cells es number s stand there) apart;
      }

  pub all-for-record : AllIsSafe o es → ShardsHoldRowsFor rows_in_shard o cells d
      (lists_at (record_of o given es).names cube) cube
      (rows_in_cube d.name (visible_rows (reader_up_to (lse_of o es)) (run_transactions (record_of o given es))))
  all-for-record all =
      let held = held-for-record o given es client cube d r h is in
      record {
        rows = held.rows;
        stand = held.stand;
        own = λ number brick s there here.
            coe 1 0 (i. IsPermutation ((all-in-shard o number (lse_of o es) cube brick s.shard (shard_view_of o es)
            (stands-in-run o cells es number s stand there) here ∙ no-other-row o es cube brick r.run all) i)
            (rows_of_brick o cube brick held.rows)) (held.each brick);
        others = λ number brick s there apart.
            (stands-in-run o cells es number s stand there).others cube brick apart;
      }
