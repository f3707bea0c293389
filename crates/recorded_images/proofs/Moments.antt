-- The journal of a run and its LSE at a moment.
use mathlib.Core.List.{IsPrefix}
use Rattle.std.proofs.Common.{◌≡◌, ◌∙◌, ℕ, List, sym, ap, subst}
use Rattle.cube_journal.specs.Counters.{journal_state}
use Rattle.core_events.specs.Clients.{calls_of}
use Rattle.core_events.specs.Events.{Opening, flusher, ClientCall, CoreEvent}
use Rattle.core_events.specs.Runs.{IsCoreRun}
use Rattle.core_records.proofs.CubesOnRecord.{run-before}
use Rattle.core_serial.proofs.Entries.{run-safe}
use Rattle.core_serial.specs.Journals.{journal_of}
use Rattle.core_states.proofs.Moments.{Moment}
use Rattle.core_states.proofs.NotedCounters.{journal-grows}
use Rattle.stored_rounds.proofs.SafeRounds.{lse-told}
use Rattle.stored_rounds.specs.SafeEpochs.{safe_by_calls}
use Rattle.recorded_images.specs.AtEveryMoment.{lse_by}

module _ (o : Opening) where
  -- LSE by the journal of a run is the latest safe epoch that the flusher's calls tell.
  pub lse-by-calls : (es : List CoreEvent) → IsCoreRun o es
      → safe_by_calls o (calls_of (flusher o) es) ≡ lse_by o.safe (journal_of o es)
  lse-by-calls es is_run =
      sym (lse-told o es is_run) ∙ ap (λ (safe : ℕ). (journal_state safe (journal_of o es)).lse) (run-safe o es)

  -- At a moment the run was one, and its journal the first entries of what it then became.

  pub run-by-then : (run : List CoreEvent) (client : ℕ) (calls : List ClientCall) (m : Moment run client calls)
      → IsCoreRun o run → IsCoreRun o m.es
  run-by-then run client calls m is_run = run-before o m.later m.es (subst (IsCoreRun o) m.whole is_run)

  pub journal-by-then : (run : List CoreEvent) (client : ℕ) (calls : List ClientCall) (m : Moment run client calls)
      → IsPrefix (journal_of o m.es) (journal_of o run)
  journal-by-then run client calls m =
      let more = journal-grows o m.later m.es in
      (more.0, sym (ap (journal_of o) m.whole ∙ more.1))
