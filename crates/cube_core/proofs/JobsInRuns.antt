-- The job that a worker does on its shard fits LSE.
use Rattle.std.proofs.Common.{◌≡◌, ◌∙◌, ℕ, ◌≤◌, List, ◌∷◌, sym, arith}
use Rattle.cube_values.specs.declared.snapshot.Snapshot.{Snapshot}
use Rattle.core_events.specs.Cells.{counters_of_run, shard_view_of}
use Rattle.core_events.specs.Clients.{client_state, reader_up_to}
use Rattle.core_events.specs.Events.{Opening, Work, CoreEvent, By, At}
use Rattle.core_events.specs.Fitting.{FitsMove}
use Rattle.core_events.specs.Jobs.{CoreJob, Append, DropBox, Scan, Delta, Rollback, Purge, CopyRound, Flush, JobOutcome, Done}
use Rattle.core_events.specs.Runs.{IsCoreRun}
use Rattle.cube_core.specs.declared.shard.ShardCall.{ShardCall}
use Rattle.core_events.proofs.Agreement.{agree}
use Rattle.core_events.proofs.Blindness.{sees-safe}
use Rattle.core_events.proofs.Places.{Asked, place}
use Rattle.core_serial.proofs.Asking.{AsksBy, Suits, SuitsAt, run-suits, run-held}
use Rattle.core_serial.proofs.Isolation.{JobFits, asked-fits, work-asked, lse-rises}
use Rattle.core_serial.proofs.ToldBricks.{writer-of, above-lse}
use Rattle.core_serial.proofs.HeldReaders.{run-compares}
use Rattle.core_serial.proofs.CopiedBricks.{run-free}
use Rattle.core_serial.proofs.OpenRounds.{of-open-round}
use Rattle.cube_core.specs.BoardCells.{call_job, SeesAllUpTo, FitsLse, IsCallInRun}

-- A snapshot that a client asks by sees all up to LSE.
asks-safe : (o : Opening) (es : List CoreEvent) (a : ℕ) (s : Snapshot) → IsCoreRun o es → AsksBy o a (client_state o a es).holds s
    → SeesAllUpTo (counters_of_run o es).lse s
asks-safe o es a s run asks = λ epoch le.
    sees-safe o es asks.number epoch s run (agree o es run a asks.session asks.number asks.under ∙ asks.held) le

-- The group of the client is of the job's kind.
asked-suits : (o : Opening) (es : List CoreEvent) (mail a : ℕ) (job : CoreJob) → IsCoreRun o es → place mail a es ≡ Asked job
    → Suits mail (client_state o a es).group job
asked-suits o es mail a job run asked = coe 0 1 (i. SuitsAt mail (client_state o a es).group (asked i)) (run-suits o es mail a run)

asked-lse : (o : Opening) (es : List CoreEvent) (mail a : ℕ) (job : CoreJob) → IsCoreRun o es → place mail a es ≡ Asked job
    → JobFits o a job (client_state o a es) (counters_of_run o es).lse → FitsLse (counters_of_run o es).lse job
asked-lse o es mail a (Append cube epoch rows) run asked f = above-lse o es epoch run (writer-of o es a epoch run f.0 f.1).pending
asked-lse o es mail a (DropBox cube epoch box) run asked f = above-lse o es epoch run (writer-of o es a epoch run f.0 f.1).pending
asked-lse o es mail a (Scan query snapshot) run asked f =
    asks-safe o es a snapshot run (run-held o es a run query snapshot (sym (asked-suits o es mail a (Scan query snapshot) run asked).kind))
asked-lse o es mail a (Delta query from to) run asked f =
    let held = run-compares o es a run query from to (sym (asked-suits o es mail a (Delta query from to) run asked).kind) in
    (asks-safe o es a (reader_up_to from) run held.first, asks-safe o es a (reader_up_to to) run held.second)
asked-lse o es mail a (Rollback epoch) run asked f = above-lse o es epoch run (writer-of o es a epoch run f.0 f.1).pending
asked-lse o es mail a (Purge epoch) run asked f = f
asked-lse o es mail a (CopyRound from to) run asked f =
    let opened = of-open-round o es a from to run (sym (asked-suits o es mail a (CopyRound from to) run asked).kind) in
    (opened.begins, opened.rises)
asked-lse o es mail a Flush run asked f = tt

pub call-in-run : (o : Opening) (es : List CoreEvent) (number : ℕ) (c : ShardCall) → IsCoreRun o es
    → ((outcome : JobOutcome) → FitsMove o es number (Work (call_job c) outcome))
    → IsCallInRun (counters_of_run o es).lse c (shard_view_of o es)
call-in-run o es number c run may =
    let asked = work-asked o es number (call_job c) Done run (may Done) in
    record {
      safe = asked-lse o es number asked.0 (call_job c) run asked.1 (asked-fits o es number asked.0 (call_job c) run asked.1);
      later = λ cube brick. run-free o es cube brick run;
    }

-- LSE does not fall.
pub lse-goes-on : (o : Opening) (event : CoreEvent) (es : List CoreEvent) → IsCoreRun o (event ∷ es)
    → (counters_of_run o es).lse ≤ (counters_of_run o (event ∷ es)).lse
lse-goes-on o (By client call) es run = lse-rises o client call es run
lse-goes-on o (At mail move) es run = self (counters_of_run o es).lse
  where
    self : (n : ℕ) → n ≤ n
    self n = omega arith
