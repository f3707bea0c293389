-- What a snapshot sees of a brick while its session waits for no job.
use Rattle.std.proofs.Common.{◌≡◌, ◌∙◌, ℕ, ◌==◌, Some, eqb-true}
use Rattle.std.specs.List.Sorted.{IsPermutation}
use Rattle.cube_values.specs.declared.snapshot.Snapshot.{Snapshot}
use Rattle.cube_journal.specs.Counters.{held_by}
use Rattle.core_events.specs.ShardView.{brick_rows_seen}
use Rattle.core_events.specs.Events.{Opening, CoreEvent}
use Rattle.core_events.specs.Clients.{client_state}
use Rattle.core_events.specs.Cells.{counters_of_run, shard_view_of, rows_of_brick}
use Rattle.core_events.specs.Fitting.{OwnsWriter}
use Rattle.core_events.specs.Runs.{IsCoreRun}
use Rattle.std.specs.Prelude.{List}
use Rattle.core_events.proofs.Agreement.{agree}
use Rattle.core_events.proofs.Posted.{ready-empty}
use Rattle.core_serial.proofs.Asking.{AsksBy}
use Rattle.core_serial.proofs.ToldBricks.{seen-of-told}
use Rattle.core_serial.proofs.CountedRows.{held-settled, asks-writer, and-parts}
use Rattle.core_serial.proofs.PostedJobs.{ready-clean}
use Rattle.core_serial.specs.CubeRows.{rows_of_serial_run}
use Rattle.core_serial.specs.HeldSnapshots.{HoldsAtRest}
use Rattle.core_serial.proofs.CubeSerial.{OwnRuns, seen-serial}
use Rattle.core_serial.proofs.Permutations.{permuted-by-counts}
use Rattle.core_serial.proofs.PostedOperations.{ended-runs, ready-ended}

asked-by : (o : Opening) (es : List CoreEvent) (a : ℕ) (s : Snapshot) → HoldsAtRest o a (client_state o a es) s
    → AsksBy o a (client_state o a es).holds s
asked-by o es a s h = record { number = h.number; session = h.session; under = h.under; held = h.held }

resting-runs : (o : Opening) (es : List CoreEvent) (a cube brick : ℕ) (s : Snapshot) → IsCoreRun o es → HoldsAtRest o a (client_state o a es) s
    → OwnRuns o es cube brick s
resting-runs o es a cube brick s run h e own =
    let parts = and-parts s.own (s.epoch == e) own in
    let at = eqb-true s.epoch e parts.1 in
    let owns = coe 0 1 (i. OwnsWriter a (at i) (client_state o a es)) (asks-writer o es a s (asked-by o es a s h) parts.0) in
    let group = (client_state o a es).group in
    ended-runs o es a e cube brick run h.session owns (ready-clean o.shards group h.ready) (ready-ended o.shards group h.ready)

pub resting-serial : (o : Opening) (es : List CoreEvent) (a cube brick : ℕ) (s : Snapshot) → IsCoreRun o es
    → HoldsAtRest o a (client_state o a es) s
    → IsPermutation (brick_rows_seen s (shard_view_of o es cube brick)) (rows_of_brick o cube brick (rows_of_serial_run o es cube s))
resting-serial o es a cube brick s run h =
    let asks = asked-by o es a s h in
    let group = (client_state o a es).group in
    let held : held_by (counters_of_run o es).snapshots h.number ≡ Some s = agree o es run a h.session h.number h.under ∙ h.held in
    let settled =
    held-settled o es a s run asks (λ own. (ready-clean o.shards group h.ready, ready-empty o.shards group h.ready))
    in
    permuted-by-counts (brick_rows_seen s (shard_view_of o es cube brick)) (rows_of_brick o cube brick (rows_of_serial_run o es cube s))
    (λ c. seen-serial o es cube brick s c run settled (resting-runs o es a cube brick s run h) (seen-of-told o es cube brick h.number s run held))
