-- Of an epoch that is neither to come nor pending nothing more comes.
use Rattle.std.proofs.Common.{◌≡◌, ◌≢◌, ◌∙◌, ℕ, zero, suc, ◌+◌, ◌<◌, ◌≤◌, ◌==◌, Bool, true, false, true≢false, not, ◌&&◌, ◌||◌, List, [], ◌∷◌, ◌++◌, Option, Some, None, if◌then◌else◌, refl, sym, ap, arith, eqb-true, eq-eqb, ne_eqb}
use Rattle.std.proofs.lemmas.Bool.{false≢true, false_from_ne_true}
use Rattle.cube_values.specs.Sees.{sees}
use Rattle.cube_values.specs.declared.snapshot.Snapshot.{Snapshot}
use Rattle.cube_journal.specs.Counters.{JournalState, held_by, state_after}
use Rattle.cube_journal.specs.Entries.{takes_epoch}
use Rattle.cube_journal.specs.declared.journal_entry.JournalEntry.{JournalEntry}
use Rattle.cube_journal.specs.declared.journal_entry.JournalEntry.TheVariants as entry
use Rattle.core_events.specs.Cells.{counters_of_run}
use Rattle.core_events.specs.Clients.{client_state}
use Rattle.core_events.specs.Events.{Opening, OpenWrite, OpenRead, Commit, AbortEnd, CloseRead, TakeNote, CreateCube, FindCube, CubesFrom, CountersNow, RoundOpen, RoundClose, StoreFailed, ClientCall, OnDesk, OnNames, Post, Fetch, CloseMail, NoChange, CoreEvent, By, At}
use Rattle.core_events.specs.Fitting.{FitsCall}
use Rattle.core_events.specs.Groups.{has_ended, has_number}
use Rattle.core_events.specs.Jobs.{CoreJob, Append, DropBox, Scan, Delta, Rollback, Purge, CopyRound, Flush}
use Rattle.core_events.specs.Runs.{IsCoreRun}
use Rattle.core_events.specs.Serial.{CubeOperation, commits, counts_for, has_committed, operations_of, rows_after_transaction, rows_left_below}
use Rattle.core_events.specs.ShardView.{EpochSet}
use Rattle.core_events.proofs.Blindness.{run-blind}
use Rattle.core_events.proofs.DeskSteps.{client_entry, run-step, state_with_entry}
use Rattle.core_events.proofs.Finished.{has-more, has-without}
use Rattle.core_events.proofs.InOrder.{AllowsEntry, StateAllows, run-allowed}
use Rattle.core_serial.proofs.ToldBricks.{writer-of}
use Rattle.core_serial.proofs.PostedJobs.{IsOtherEpoch}
use Rattle.core_serial.proofs.PostedOperations.{other-operations}
use Rattle.core_serial.specs.CubeRows.{rows_of_serial_run}
use Rattle.core_settled.specs.SettledEpochs.{IsSettledEpoch}

-- ---- it stays settled

ec-entry : (takes : Bool) (ec : ℕ) → ec ≤ (if takes then ec + 1 else ec)
ec-entry true ec = omega arith
ec-entry false ec = omega arith

pub ec-rises : (s : JournalState) (x : Option JournalEntry) → s.ec ≤ (state_with_entry x s).ec
ec-rises s None = omega arith
ec-rises s (Some x) = ec-entry (takes_epoch x) s.ec

not-new : (s : JournalState) (k e : ℕ) → k ≡ s.ec → e < s.ec → (k == e) ≡ false
not-new s k e is low = ne_eqb k e (λ same. omega (arith, is, low, same))

entry-ended : (s : JournalState) (x : JournalEntry) (e : ℕ) → StateAllows s x → e < s.ec
    → has_number s.pending e ≡ false → has_number (state_after s x).pending e ≡ false
entry-ended s (entry.Begin session statement k deps) e h low ended =
    has-more s.pending k e ∙ (λ i. ended i || not-new s k e h.next low i)
entry-ended s (entry.Committed session statement k) e h low ended =
    has-without s.pending k e ∙ ap (λ (b : Bool). b && not (k == e)) ended
entry-ended s (entry.Aborted session statement k cause) e h low ended =
    has-without s.pending k e ∙ ap (λ (b : Bool). b && not (k == e)) ended
entry-ended s (entry.Read session statement k) e h low ended = ended
entry-ended s (entry.ReadEnd session statement) e h low ended = ended
entry-ended s (entry.Refused session statement code) e h low ended = ended
entry-ended s (entry.Cleared session statement) e h low ended = ended
entry-ended s (entry.Show session statement) e h low ended = ended
entry-ended s (entry.Flushed session statement) e h low ended = ended
entry-ended s (entry.Purged session statement k) e h low ended = ended
entry-ended s (entry.Cube session statement k) e h low ended = ended
entry-ended s (entry.Round k) e h low ended = ended
entry-ended s (entry.Idle k) e h low ended = ended
entry-ended s (entry.Safe k) e h low ended = ended
entry-ended s (entry.RoundLost k cause) e h low ended = ended

with-ended : (s : JournalState) (x : Option JournalEntry) (e : ℕ) → AllowsEntry s x → e < s.ec
    → has_number s.pending e ≡ false → has_number (state_with_entry x s).pending e ≡ false
with-ended s None e h low ended = ended
with-ended s (Some x) e h low ended = entry-ended s x e h low ended

call-settled : (o : Opening) (b : ℕ) (call : ClientCall) (es : List CoreEvent) (e : ℕ) → IsCoreRun o (By b call ∷ es)
    → IsSettledEpoch o es e → IsSettledEpoch o (By b call ∷ es) e
call-settled o b call es e run s =
    let given = s.given in
    let rises = ec-rises (counters_of_run o es) (client_entry b call) in
    let step = ap (λ (c : JournalState). c.ec) (run-step o b call es) in
    record {
      given = omega (arith, given, rises, step);
      ended =
          ap (λ (c : JournalState). has_number c.pending e) (run-step o b call es)
          ∙ with-ended (counters_of_run o es) (client_entry b call) e (run-allowed o b call es run) s.given s.ended;
    }

pub settled-stays : (o : Opening) (later es : List CoreEvent) (e : ℕ) → IsCoreRun o (later ++ es)
    → IsSettledEpoch o es e → IsSettledEpoch o (later ++ es) e
settled-stays o [] es e run s = s
settled-stays o (By b call ∷ later) es e run s =
    call-settled o b call (later ++ es) e run (settled-stays o later es e run.0 s)
settled-stays o (At mail move ∷ later) es e run s =
    let before = settled-stays o later es e run.0 s in record { given = before.given; ended = before.ended }

pub kept-settled : (o : Opening) (e : ℕ) → e ≤ o.safe → IsSettledEpoch o [] e
kept-settled o e low = record { given = omega (arith, low); ended = refl }

-- ---- none commits it, and none posts for it

call-commits : (o : Opening) (b : ℕ) (call : ClientCall) (es : List CoreEvent) (e : ℕ) → IsCoreRun o (By b call ∷ es)
    → IsSettledEpoch o es e → commits call e ≡ false
call-commits o b (OnDesk (Commit statement epoch)) es e run s =
    let f = run.1.fits in
    ne_eqb epoch e (λ same.
    true≢false (sym (writer-of o es b epoch run.0 f.session f.writer).pending
    ∙ ap (has_number (counters_of_run o es).pending) same ∙ s.ended))
call-commits o b (OnDesk (OpenWrite statement epoch deps)) es e run s = refl
call-commits o b (OnDesk (OpenRead number statement epoch)) es e run s = refl
call-commits o b (OnDesk (AbortEnd statement epoch cause)) es e run s = refl
call-commits o b (OnDesk (CloseRead number statement)) es e run s = refl
call-commits o b (OnDesk (TakeNote note counters)) es e run s = refl
call-commits o b (OnDesk (CreateCube statement decl answer)) es e run s = refl
call-commits o b (OnDesk (FindCube statement name answer)) es e run s = refl
call-commits o b (OnDesk (CubesFrom place cubes)) es e run s = refl
call-commits o b (OnDesk (CountersNow counters)) es e run s = refl
call-commits o b (OnDesk (RoundOpen answer)) es e run s = refl
call-commits o b (OnDesk (RoundClose epoch end)) es e run s = refl
call-commits o b (OnDesk (StoreFailed failed)) es e run s = refl
call-commits o b (OnNames call) es e run s = refl
call-commits o b (Post mail job) es e run s = refl
call-commits o b (Fetch mail answer) es e run s = refl
call-commits o b (CloseMail mail) es e run s = refl
call-commits o b NoChange es e run s = refl

pub commits-stay : (o : Opening) (later es : List CoreEvent) (e : ℕ) → IsCoreRun o (later ++ es) → IsSettledEpoch o es e
    → has_committed o (later ++ es) e ≡ has_committed o es e
commits-stay o [] es e run s = refl
commits-stay o (By b call ∷ later) es e run s =
    λ i. call-commits o b call (later ++ es) e run (settled-stays o later es e run.0 s) i
    || commits-stay o later es e run.0 s i
commits-stay o (At mail move ∷ later) es e run s = commits-stay o later es e run.0 s

job-other : (o : Opening) (es : List CoreEvent) (b mail e : ℕ) (job : CoreJob) → IsCoreRun o es → IsSettledEpoch o es e
    → FitsCall o b (Post mail job) (client_state o b es) → IsOtherEpoch e job
job-other o es b mail e (Append cube epoch rows) run s f = λ same.
    true≢false (sym (writer-of o es b epoch run f.bears.session f.bears.writer).pending
    ∙ ap (has_number (counters_of_run o es).pending) same ∙ s.ended)
job-other o es b mail e (DropBox cube epoch box) run s f = λ same.
    true≢false (sym (writer-of o es b epoch run f.bears.session f.bears.writer).pending
    ∙ ap (has_number (counters_of_run o es).pending) same ∙ s.ended)
job-other o es b mail e (Scan query snapshot) run s f = tt
job-other o es b mail e (Delta query from to) run s f = tt
job-other o es b mail e (Rollback epoch) run s f = tt
job-other o es b mail e (Purge epoch) run s f = tt
job-other o es b mail e (CopyRound from to) run s f = tt
job-other o es b mail e Flush run s f = tt

call-operations : (o : Opening) (b : ℕ) (call : ClientCall) (es : List CoreEvent) (cube e : ℕ)
    → IsCoreRun o (By b call ∷ es) → IsSettledEpoch o es e
    → operations_of o cube (By b call ∷ es) e ≡ operations_of o cube es e
call-operations o b (Post mail job) es cube e run s =
    other-operations cube e (has_ended o.shards (client_state o b es).group) job (operations_of o cube es e)
    (job-other o es b mail e job run.0 s run.1.fits)
call-operations o b (OnDesk call) es cube e run s = refl
call-operations o b (OnNames call) es cube e run s = refl
call-operations o b (Fetch mail answer) es cube e run s = refl
call-operations o b (CloseMail mail) es cube e run s = refl
call-operations o b NoChange es cube e run s = refl

pub operations-stay : (o : Opening) (later es : List CoreEvent) (cube e : ℕ) → IsCoreRun o (later ++ es)
    → IsSettledEpoch o es e → operations_of o cube (later ++ es) e ≡ operations_of o cube es e
operations-stay o [] es cube e run s = refl
operations-stay o (By b call ∷ later) es cube e run s =
    call-operations o b call (later ++ es) cube e run (settled-stays o later es e run.0 s)
    ∙ operations-stay o later es cube e run.0 s
operations-stay o (At mail move ∷ later) es cube e run s = operations-stay o later es cube e run.0 s

-- ---- what an open snapshot sees

pub seen-settled : (o : Opening) (es : List CoreEvent) (number e : ℕ) (s : Snapshot) → IsCoreRun o es
    → held_by (counters_of_run o es).snapshots number ≡ Some s → sees s e ≡ true → (s.own ≡ true → s.epoch ≢ e)
    → IsSettledEpoch o es e
seen-settled o es number e s run held seen other =
    let blind = run-blind o es run in
    record {
      given = blind.past number e s held seen;
      ended = false_from_ne_true (has_number (counters_of_run o es).pending e) (λ pending.
          true≢false (sym seen ∙ blind.blind number e s held pending other));
    }

-- Rows that are left where the epochs that count are the same, with the same operations.
pub left-same : (m : ℕ) (some others : EpochSet) (f g : ℕ → List CubeOperation)
    → ((e : ℕ) → e < m → some e ≡ others e) → ((e : ℕ) → e < m → some e ≡ true → f e ≡ g e)
    → rows_left_below m some f ≡ rows_left_below m others g
left-same zero some others f g alike same = refl
left-same (suc m) some others f g alike same =
    at (some m) refl
    (left-same m some others f g (λ e low. alike e (omega (arith, low))) (λ e low is. same e (omega (arith, low)) is))
    ∙ ap (λ (b : Bool). if b then rows_after_transaction (g m) (rows_left_below m others g)
    else rows_left_below m others g)
    (alike m (omega arith))
  where
    at : (b : Bool) → some m ≡ b → rows_left_below m some f ≡ rows_left_below m others g
        → (if b then rows_after_transaction (f m) (rows_left_below m some f) else rows_left_below m some f)
        ≡ (if b then rows_after_transaction (g m) (rows_left_below m others g) else rows_left_below m others g)
    at true is rest = λ i. rows_after_transaction (same m (omega arith) is i) (rest i)
    at false is rest = rest

counted : (seen committed own : Bool) → (seen && (committed || own)) ≡ true → seen ≡ true
counted true committed own is = refl
counted false committed own is = absurd (false≢true is)

counts-alike : (seen before after own : Bool) → (seen ≡ true → own ≡ false → before ≡ after)
    → (seen && (before || own)) ≡ (seen && (after || own))
counts-alike true before after false same = ap (λ (b : Bool). b || false) (same refl refl)
counts-alike true before after true same = or-true before ∙ sym (or-true after)
  where
    or-true : (b : Bool) → (b || true) ≡ true
    or-true true = refl
    or-true false = refl
counts-alike false before after own same = refl

own-parts : (own here : Bool) → (own && here) ≡ true → (own ≡ true) × (here ≡ true)
own-parts true here is = (refl, is)
own-parts false here is = absurd (false≢true is)

pub rows-settled : (o : Opening) (later es : List CoreEvent) (cube number : ℕ) (s : Snapshot)
    → IsCoreRun o (later ++ es) → IsCoreRun o es → held_by (counters_of_run o es).snapshots number ≡ Some s
    → (s.own ≡ true → operations_of o cube (later ++ es) s.epoch ≡ operations_of o cube es s.epoch)
    → rows_of_serial_run o (later ++ es) cube s ≡ rows_of_serial_run o es cube s
rows-settled o later es cube number s run now held own =
    left-same (s.epoch + 1) (counts_for o (later ++ es) s) (counts_for o es s) (operations_of o cube (later ++ es))
    (operations_of o cube es)
    (λ e low. counts-alike (sees s e) (has_committed o (later ++ es) e) (has_committed o es e) (s.own && s.epoch == e)
    (λ seen other. commits-stay o later es e run (settled e seen other)))
    (λ e low counts. at e (sees s e) refl (s.own && s.epoch == e) refl
    (counted (sees s e) (has_committed o (later ++ es) e) (s.own && s.epoch == e) counts))
  where
    settled : (e : ℕ) → sees s e ≡ true → (s.own && s.epoch == e) ≡ false → IsSettledEpoch o es e
    settled e seen other =
        seen-settled o es number e s now held seen (λ own same.
        true≢false (sym (λ i. own i && eq-eqb s.epoch e same i) ∙ other))

    at : (e : ℕ) (seen : Bool) → sees s e ≡ seen → (mine : Bool) → (s.own && s.epoch == e) ≡ mine → seen ≡ true
        → operations_of o cube (later ++ es) e ≡ operations_of o cube es e
    at e seen is true mine sure =
        let parts = own-parts s.own (s.epoch == e) mine in
        let same = eqb-true s.epoch e parts.1 in
        coe 0 1 (i. operations_of o cube (later ++ es) (same i) ≡ operations_of o cube es (same i)) (own parts.0)
    at e seen is false mine sure = operations-stay o later es cube e run (settled e (is ∙ sure) mine)

pub run-before : (o : Opening) (later es : List CoreEvent) → IsCoreRun o (later ++ es) → IsCoreRun o es
run-before o [] es run = run
run-before o (By b call ∷ later) es run = run-before o later es run.0
run-before o (At mail move ∷ later) es run = run-before o later es run.0

pub open-rows : (o : Opening) (later es : List CoreEvent) (cube number : ℕ) (s : Snapshot)
    → IsCoreRun o (later ++ es) → held_by (counters_of_run o es).snapshots number ≡ Some s
    → (s.own ≡ true → operations_of o cube (later ++ es) s.epoch ≡ operations_of o cube es s.epoch)
    → rows_of_serial_run o (later ++ es) cube s ≡ rows_of_serial_run o es cube s
open-rows o later es cube number s run = rows-settled o later es cube number s run (run-before o later es run)
