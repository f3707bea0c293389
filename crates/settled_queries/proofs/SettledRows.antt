-- What a writer that is held finds, with its own operations so far, is settled.
use Rattle.std.proofs.Common.{◌≡◌, ◌∙◌, ℕ, ◌+◌, ◌==◌, Bool, true, false, true≢false, ◌&&◌, ◌||◌, List, ◌++◌, Some, refl, sym, ap, eqb-true, eq-eqb, if◌then◌else◌}
use Rattle.std.proofs.lemmas.Bool.{false≢true}
use Rattle.cube_journal.specs.Counters.{held_by}
use Rattle.cube_values.specs.Sees.{sees}
use Rattle.cube_values.specs.declared.snapshot.Snapshot.{Snapshot}
use Rattle.core_events.proofs.Agreement.{agree}
use Rattle.core_events.specs.Cells.{counters_of_run}
use Rattle.core_events.specs.Clients.{calls_of, client_state}
use Rattle.core_events.specs.Events.{Opening, CoreEvent}
use Rattle.core_events.specs.Runs.{IsCoreRun}
use Rattle.core_events.specs.Serial.{CubeOperation, counts_for, has_committed, operations_of}
use Rattle.core_serial.proofs.Asking.{AsksBy}
use Rattle.core_serial.proofs.OwnCalls.{own-operations}
use Rattle.core_serial.specs.CubeRows.{rows_of_serial_run}
use Rattle.core_serial.specs.HeldSnapshots.{HoldsAtRest}
use Rattle.core_serial.specs.OwnOperations.{operations_by_calls}
use Rattle.core_settled.proofs.Settled.{commits-stay, left-same, open-rows, operations-stay, run-before, seen-settled}
use Rattle.core_settled.specs.SettledEpochs.{IsSettledEpoch}
use Rattle.core_serial.proofs.CountedRows.{asks-writer}
use Rattle.settled_queries.proofs.Openers.{owner-opened}
use Rattle.settled_queries.specs.OwnSoFar.{operations_with_own, rows_with_own}

or-true : (b : Bool) → (b || true) ≡ true
or-true true = refl
or-true false = refl

counted : (seen done : Bool) → (seen && done) ≡ true → seen ≡ true
counted true done is = refl
counted false done is = absurd (false≢true is)

module _ (o : Opening) (later es : List CoreEvent) (a cube : ℕ) (s : Snapshot) (run : IsCoreRun o (later ++ es))
    (h : HoldsAtRest o a (client_state o a es) s) where
  now : IsCoreRun o es
  now = run-before o later es run

  held : held_by (counters_of_run o es).snapshots h.number ≡ Some s
  held = agree o es now a h.session h.number h.under ∙ h.held

  -- A reader.
  pub reader-settled : s.own ≡ false → rows_of_serial_run o (later ++ es) cube s ≡ rows_of_serial_run o es cube s
  reader-settled reads = open-rows o later es cube h.number s run held (λ own. absurd (true≢false (sym own ∙ reads)))

  -- A writer.

  settled : (e : ℕ) → sees s e ≡ true → (s.own && s.epoch == e) ≡ false → IsSettledEpoch o es e
  settled e seen other =
      seen-settled o es h.number e s now held seen
      (λ own same. true≢false (sym (λ i. own i && eq-eqb s.epoch e same i) ∙ other))

  counts-alike : (seen own : Bool) (e : ℕ) → sees s e ≡ seen → (s.own && s.epoch == e) ≡ own
      → counts_for o (later ++ es) s e ≡ counts_for o es s e
  counts-alike false own e is at =
      (λ i. is i && (has_committed o (later ++ es) e || (s.own && s.epoch == e)))
      ∙ sym (λ i. is i && (has_committed o es e || (s.own && s.epoch == e)))
  counts-alike true true e is at =
      (λ i. sees s e && (has_committed o (later ++ es) e || at i))
      ∙ (λ i. sees s e && or-true (has_committed o (later ++ es) e) i)
      ∙ sym (λ i. sees s e && or-true (has_committed o es e) i)
      ∙ sym (λ i. sees s e && (has_committed o es e || at i))
  counts-alike true false e is at =
      λ i. sees s e && (commits-stay o later es e run (settled e is at) i || (s.own && s.epoch == e))

  abbrev pub own_so_far : List CubeOperation
  own_so_far = operations_by_calls o a cube (calls_of a es) s.epoch

  own-same : s.own ≡ true → operations_of o cube es s.epoch ≡ own_so_far
  own-same writes =
      let asks : AsksBy o a (client_state o a es).holds s =
      record { number = h.number; session = h.session; under = h.under; held = h.held }
      in
      own-operations o es a s.epoch cube now (owner-opened o es a s.epoch (asks-writer o es a s asks writes))

  writer-at : (here : Bool) (e : ℕ) → s.own ≡ true → (s.epoch == e) ≡ here → sees s e ≡ true
      → operations_with_own (operations_of o cube (later ++ es)) s.epoch own_so_far e ≡ operations_of o cube es e
  writer-at true e writes is seen =
      (λ i. if is i then own_so_far else operations_of o cube (later ++ es) e)
      ∙ sym (own-same writes)
      ∙ ap (operations_of o cube es) (eqb-true s.epoch e is)
  writer-at false e writes is seen =
      (λ i. if is i then own_so_far else operations_of o cube (later ++ es) e)
      ∙ operations-stay o later es cube e run (settled e seen (λ i. writes i && is i))

  pub writer-settled : s.own ≡ true → rows_with_own o (later ++ es) cube s own_so_far ≡ rows_of_serial_run o es cube s
  writer-settled writes =
      left-same (s.epoch + 1) (counts_for o (later ++ es) s) (counts_for o es s)
      (operations_with_own (operations_of o cube (later ++ es)) s.epoch own_so_far) (operations_of o cube es)
      (λ e low. counts-alike (sees s e) (s.own && s.epoch == e) e refl refl)
      (λ e low counts. writer-at (s.epoch == e) e writes refl
      (counted (sees s e) (has_committed o (later ++ es) e || (s.own && s.epoch == e)) counts))
