-- What the bricks hold at the end stands for what a reader at LSE sees of the record.
use Rattle.std.proofs.Common.{◌≡◌, ℕ, List, slice_get, Some, refl}
use Rattle.cube_values.specs.Visible.{visible_rows}
use Rattle.cube_language.specs.declared.decl.Decl.{Decl}
use Rattle.cube_run.specs.RunRecords.{catalog_of}
use Rattle.cube_run.specs.RunTransactions.{run_transactions}
use Rattle.condition_spans.specs.Codes.{lists_at}
use Rattle.one_session.specs.Changes.{rows_in_cube}
use Rattle.core_events.specs.Cells.{shard_view_of}
use Rattle.core_events.specs.Clients.{reader_up_to}
use Rattle.core_events.specs.Events.{Opening, CoreEvent}
use Rattle.core_serial.specs.Copies.{rows_committed_up_to}
use Rattle.core_records.specs.CoreRecords.{RunScripts, record_of}
use Rattle.core_agreements.specs.ScriptedRuns.{IsScriptedRun}
use Rattle.core_agreements.proofs.SeenRecords.{reader-now}
use Rattle.final_shards.specs.FinalShards.{HasPurgedToLse, HoldRowsFor, lse_of}
use Rattle.final_shards.proofs.HeldRows.{held-permuted}

pub held-for-record : (o : Opening) (given : RunScripts) (es : List CoreEvent) (client cube : ℕ) (d : Decl)
    → IsScriptedRun o given es → HasPurgedToLse o es client
    → slice_get (catalog_of (record_of o given es)).cubes cube ≡ Some d
    → HoldRowsFor o d (lists_at (record_of o given es).names cube) cube (lse_of o es) (shard_view_of o es)
    (rows_in_cube d.name (visible_rows (reader_up_to (lse_of o es)) (run_transactions (record_of o given es))))
held-for-record o given es client cube d r h is = record {
  rows = rows_committed_up_to o es cube (lse_of o es);
  stand = reader-now o given es r cube d is (reader_up_to (lse_of o es)) refl;
  each = λ brick. held-permuted o es client cube brick r.run h;
}
