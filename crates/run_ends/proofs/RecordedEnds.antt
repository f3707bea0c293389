-- A run that main ended by a purge leaves shards that hold what a reader at its LSE sees of the record.
use Rattle.std.proofs.Common.{◌≡◌, ◌∙◌, ℕ, ◌+◌, ◌<◌, ◌%◌, List, slice_get, Some, sym, ap}
use Rattle.std.specs.List.{AllByRecursion}
use Rattle.cube_values.specs.Visible.{visible_rows}
use Rattle.cube_language.specs.declared.decl.Decl.{Decl}
use Rattle.cube_journal.specs.Counters.{counters_in}
use Rattle.cube_journal.specs.declared.counters.Counters.{Counters}
use Rattle.cube_run.specs.RunRecords.{catalog_of}
use Rattle.cube_run.specs.RunTransactions.{run_transactions}
use Rattle.condition_spans.specs.Codes.{lists_at}
use Rattle.one_session.specs.Changes.{rows_in_cube}
use Rattle.core_agreements.specs.ScriptedRuns.{IsScriptedRun}
use Rattle.core_events.specs.Cells.{counters_of_run, shard_view_of}
use Rattle.core_events.specs.Clients.{reader_up_to}
use Rattle.core_events.specs.Events.{Opening, CoreEvent}
use Rattle.core_program.specs.CoreFits.{CoreEntry}
use Rattle.core_records.specs.CoreRecords.{RunScripts, record_of}
use Rattle.cube_core.specs.declared.cell.CoreCell.{CoreCell}
use Rattle.linked_shards.specs.declared.cell.CoreShard.{CoreShard}
use Rattle.shard_cell.specs.Shards.{shard_brick}
use Rattle.final_shards.specs.FinalShards.{AllIsSafe, HasPurgedToLse, lse_of}
use Rattle.final_shards.proofs.HeldRows.{no-mark}
use Rattle.shut_shards.specs.ShutShards.{HasNoMarksUpTo, IsRunEntry, IsShardIn, ShardsHoldRowsFor, rows_in_shard, rows_in_shard_up_to}
use Rattle.shut_shards.proofs.RecordedShards.{all-for-record, safe-for-record, stands-in-run}
use Rattle.shut_shards.proofs.ViewedRows.{no-mark-in-shard}
use Rattle.run_ends.specs.RunEnds.{IsEndedRun, ShowAllSafe}
use Rattle.run_ends.proofs.MainEnds.{last-counters, main-purged-to-lse, no-old-marks}

module _ (o : Opening) (counters : Counters) (callers : ℕ) (opening cells : List (CoreCell CoreShard))
    (log : List CoreEntry) (es : List CoreEvent) (r : IsEndedRun o counters callers opening cells log es) where
  pub shown-counters : counters ≡ counters_in (counters_of_run o es)
  shown-counters = last-counters o opening log es counters r.opens r.events r.run r.ends

  pub purged : HasPurgedToLse o es 0
  purged = main-purged-to-lse o opening log es counters r.opens r.events r.run r.ends

  shown-lse : lse_of o es ≡ counters.lse
  shown-lse = ap (λ (c : Counters). c.lse) (sym shown-counters)

  old-marks : (number : ℕ) (s : CoreShard) → number < o.shards → IsShardIn cells number s
      → HasNoMarksUpTo (lse_of o es) s.shard
  old-marks number s low is =
      no-old-marks o opening log es counters r.opens r.events r.run r.ends callers cells number s r.history low is

  pub no-safe-marks : (number : ℕ) (s : CoreShard) → number < o.shards → IsShardIn cells number s
      → HasNoMarksUpTo counters.lse s.shard
  no-safe-marks number s low is = coe 0 1 (i. HasNoMarksUpTo (shown-lse i) s.shard) (old-marks number s low is)

  all-safe : ShowAllSafe counters → AllIsSafe o es
  all-safe all = ap (λ (c : Counters). c.ec) (sym shown-counters) ∙ all ∙ ap (λ (n : ℕ). n + 1) (sym shown-lse)

  pub no-marks : (number cube brick : ℕ) (s : CoreShard) → ShowAllSafe counters → number < o.shards
      → IsShardIn cells number s → brick % o.shards ≡ number
      → AllByRecursion IsRunEntry (shard_brick s.shard cube brick).entries
  no-marks number cube brick s all low is here =
      no-mark-in-shard o number (lse_of o es) cube brick s.shard (shard_view_of o es)
      (stands-in-run o cells es number s r.stand is) here (no-mark o es 0 cube brick r.run purged (all-safe all))
      (old-marks number s low is)

  module _ (given : RunScripts) (cube : ℕ) (d : Decl) (scripted : IsScriptedRun o given es)
      (cube_is : slice_get (catalog_of (record_of o given es)).cubes cube ≡ Some d) where
    pub safe-rows : ShardsHoldRowsFor (rows_in_shard_up_to counters.lse) o cells d
        (lists_at (record_of o given es).names cube) cube
        (rows_in_cube d.name (visible_rows (reader_up_to counters.lse) (run_transactions (record_of o given es))))
    safe-rows =
        coe 0 1 (i. ShardsHoldRowsFor (rows_in_shard_up_to (shown-lse i)) o cells d
        (lists_at (record_of o given es).names cube) cube
        (rows_in_cube d.name (visible_rows (reader_up_to (shown-lse i)) (run_transactions (record_of o given es)))))
        (safe-for-record o given es 0 cube d cells scripted r.stand purged cube_is)

    pub all-rows : ShowAllSafe counters → ShardsHoldRowsFor rows_in_shard o cells d
        (lists_at (record_of o given es).names cube) cube
        (rows_in_cube d.name (visible_rows (reader_up_to counters.lse) (run_transactions (record_of o given es))))
    all-rows all =
        coe 0 1 (i. ShardsHoldRowsFor rows_in_shard o cells d (lists_at (record_of o given es).names cube) cube
        (rows_in_cube d.name (visible_rows (reader_up_to (shown-lse i)) (run_transactions (record_of o given es)))))
        (all-for-record o given es 0 cube d cells scripted r.stand purged cube_is (all-safe all))
