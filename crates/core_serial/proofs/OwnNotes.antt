-- What a session was told of a FLUSH, of a store that was lost and of LSE since its last entry stands in the journal.
use Rattle.std.proofs.Common.{◌≡◌, ◌∙◌, ℕ, ◌==◌, Bool, true, false, ◌||◌, List, [], ◌∷◌, append-nil, Option, Some, None, refl, sym, ap, eqb-true, eq-eqb, if◌then◌else◌}
use Rattle.std.specs.List.{AllByRecursion}
use Rattle.std.proofs.lemmas.Bool.{false≢true}
use Rattle.std.proofs.lemmas.Option.{none-some, same_Some}
use Rattle.cube_journal.specs.declared.journal_entry.JournalEntry.{JournalEntry}
use Rattle.cube_journal.specs.declared.journal_entry.JournalEntry.TheVariants as entry
use Rattle.cube_journal.specs.declared.journal_entry.LostCause.TheVariants as cause
use Rattle.cube_journal.specs.Counters.{JournalState, state_after}
use Rattle.cube_journal.specs.Legal.{WasFlushed, WasSafe}
use Rattle.core_events.specs.Jobs.{CoreJob, Append, DropBox, Scan, Delta, Rollback, Purge, CopyRound, Flush, JobOutcome, Done, ShardFull, Found, Compared, Copied, StoreLost, OutOfMemory}
use Rattle.core_events.specs.Events.{Opening, IsSession, flusher, OpenWrite, OpenRead, Commit, AbortEnd, CloseRead, TakeNote, CreateCube, FindCube, CubesFrom, CountersNow, RoundOpen, RoundClose, StoreFailed, ClientCall, OnDesk, OnNames, Post, Fetch, CloseMail, NoChange, WorkerMove, CoreEvent, By, At}
use Rattle.core_events.specs.Groups.{GroupKind, Flushes, kind_of, has_number}
use Rattle.core_events.specs.Clients.{ClientState, client_state, client_after_call, is_own_entry, ends_group, flush_after, flush_after_fetch, lse_in, with_lse}
use Rattle.core_events.specs.Cells.{counters_of_run, shard_view_of, Took, worker_of}
use Rattle.core_events.specs.Fitting.{FlushSays, round_progress}
use Rattle.core_events.specs.Runs.{IsCoreRun, ShardSays}
use Rattle.core_events.proofs.Agreement.{opening-of, round-agrees}
use Rattle.core_events.proofs.DeskSteps.{client_entry, state_with_entry, run-step}
use Rattle.core_events.proofs.RoundEnds.{closes_round, lse-same}
use Rattle.core_events.proofs.Places.{place}
use Rattle.core_events.proofs.Posted.{run-posted}
use Rattle.core_serial.proofs.Asking.{SuitsAt, run-suits}
use Rattle.core_serial.proofs.Isolation.{shown-lse}
use Rattle.core_serial.proofs.FetchedAnswers.{PlaceClaims, run-places}
use Rattle.core_serial.specs.Journals.{journal_of}
use Rattle.core_serial.proofs.Entries.{journal_with, journal-step, run-counters, IsNotOf, entry-not-of, goes-unnoted}
use Rattle.core_serial.proofs.RoundNotes.{saved-noted}
use Rattle.core_serial.proofs.Sessions.{flushed-more, safe-more, parts-now}

-- One call more, which leaves no entry of the session.

with-flushed : (e : Option JournalEntry) (a : ℕ) (journal : List JournalEntry) → IsNotOf a e → WasFlushed a journal
    → WasFlushed a (journal_with e journal)
with-flushed None a journal other f = f
with-flushed (Some e) a journal other f = flushed-more a journal e other f

flushed-call : (o : Opening) (es : List CoreEvent) (a b : ℕ) (call : ClientCall) → IsNotOf a (client_entry b call)
    → WasFlushed a (journal_of o es) → WasFlushed a (journal_of o (By b call ∷ es))
flushed-call o es a b call other f =
    coe 1 0 (i. WasFlushed a (journal-step o b call es i)) (with-flushed (client_entry b call) a (journal_of o es) other f)

entry-failed : (s : JournalState) (e : JournalEntry) → s.store_failed ≡ true → (state_after s e).store_failed ≡ true
entry-failed s (entry.RoundLost epoch cause.Disk) f = refl
entry-failed s (entry.RoundLost epoch cause.Memory) f = f
entry-failed s (entry.Begin session statement epoch deps) f = f
entry-failed s (entry.Read session statement epoch) f = f
entry-failed s (entry.ReadEnd session statement) f = f
entry-failed s (entry.Committed session statement epoch) f = f
entry-failed s (entry.Aborted session statement epoch cause) f = f
entry-failed s (entry.Refused session statement code) f = f
entry-failed s (entry.Cleared session statement) f = f
entry-failed s (entry.Show session statement) f = f
entry-failed s (entry.Flushed session statement) f = f
entry-failed s (entry.Purged session statement epoch) f = f
entry-failed s (entry.Cube session statement epoch) f = f
entry-failed s (entry.Round epoch) f = f
entry-failed s (entry.Idle epoch) f = f
entry-failed s (entry.Safe epoch) f = f

with-failed : (e : Option JournalEntry) (s : JournalState) → s.store_failed ≡ true → (state_with_entry e s).store_failed ≡ true
with-failed None s f = f
with-failed (Some e) s f = entry-failed s e f

failed-call : (o : Opening) (es : List CoreEvent) (b : ℕ) (call : ClientCall) → (counters_of_run o es).store_failed ≡ true
    → (counters_of_run o (By b call ∷ es)).store_failed ≡ true
failed-call o es b call f =
    ap (λ (s : JournalState). s.store_failed) (run-step o b call es) ∙ with-failed (client_entry b call) (counters_of_run o es) f

not-of : (o : Opening) (es : List CoreEvent) (a b : ℕ) (call : ClientCall) → IsCoreRun o (By b call ∷ es) → IsSession o a
    → (b ≡ a → is_own_entry b call ≡ false) → IsNotOf a (client_entry b call)
not-of o es a b call run session own = entry-not-of o a b call (client_state o b es) (opening-of o es run.0) session run.1.fits own

-- What is claimed of the answer to a FLUSH.

abbrev NoteClaim : Opening → List CoreEvent → ℕ → ℕ → CoreJob → JobOutcome → Type 0
NoteClaim o es a mail Flush Done = IsSession o a → WasFlushed a (journal_of o es)
NoteClaim o es a mail Flush StoreLost = (counters_of_run o es).store_failed ≡ true
NoteClaim o es a mail job answer = Unit {0}

note-given : (o : Opening) (es : List CoreEvent) (a mail : ℕ) (job : CoreJob) (answer : JobOutcome) → IsCoreRun o es
    → ShardSays o mail (shard_view_of o es) job answer → NoteClaim o es a mail job answer
note-given o es a mail (Append cube epoch rows) answer run says = tt
note-given o es a mail (DropBox cube epoch box) answer run says = tt
note-given o es a mail (Scan query snapshot) answer run says = tt
note-given o es a mail (Delta query from to) answer run says = tt
note-given o es a mail (Rollback epoch) answer run says = tt
note-given o es a mail (Purge epoch) answer run says = tt
note-given o es a mail (CopyRound from to) answer run says = tt
note-given o es a mail Flush Done run says = absurd says
note-given o es a mail Flush (ShardFull rows) run says = tt
note-given o es a mail Flush (Found rows) run says = tt
note-given o es a mail Flush (Compared came went) run says = tt
note-given o es a mail Flush (Copied view) run says = tt
note-given o es a mail Flush StoreLost run says = absurd says
note-given o es a mail Flush OutOfMemory run says = tt

note-flushed : (o : Opening) (es : List CoreEvent) (a mail : ℕ) (said : JobOutcome) → IsCoreRun o es → worker_of mail es ≡ Took a Flush
    → FlushSays (round_progress o es) (client_state o (flusher o) es).store_lost said → NoteClaim o es a mail Flush said
note-flushed o es a mail Done run took says = λ session. saved-noted o es mail a run session took says
note-flushed o es a mail StoreLost run took says = (round-agrees o es run).store ∙ says
note-flushed o es a mail (ShardFull rows) run took says = tt
note-flushed o es a mail (Found rows) run took says = tt
note-flushed o es a mail (Compared came went) run took says = tt
note-flushed o es a mail (Copied view) run took says = tt
note-flushed o es a mail OutOfMemory run took says = tt

note-call : (o : Opening) (es : List CoreEvent) (a b mail : ℕ) (call : ClientCall) (job : CoreJob) (answer : JobOutcome)
    → IsCoreRun o (By b call ∷ es) → kind_of job ≡ (client_state o a es).group.kind → (b ≡ a → ends_group call ≡ false)
    → NoteClaim o es a mail job answer → NoteClaim o (By b call ∷ es) a mail job answer
note-call o es a b mail call (Append cube epoch rows) answer run kind goes f = tt
note-call o es a b mail call (DropBox cube epoch box) answer run kind goes f = tt
note-call o es a b mail call (Scan query snapshot) answer run kind goes f = tt
note-call o es a b mail call (Delta query from to) answer run kind goes f = tt
note-call o es a b mail call (Rollback epoch) answer run kind goes f = tt
note-call o es a b mail call (Purge epoch) answer run kind goes f = tt
note-call o es a b mail call (CopyRound from to) answer run kind goes f = tt
note-call o es a b mail call Flush Done run kind goes f = λ session.
    flushed-call o es a b call (not-of o es a b call run session (λ same. goes-unnoted b call (goes same))) (f session)
note-call o es a b mail call Flush (ShardFull rows) run kind goes f = tt
note-call o es a b mail call Flush (Found rows) run kind goes f = tt
note-call o es a b mail call Flush (Compared came went) run kind goes f = tt
note-call o es a b mail call Flush (Copied view) run kind goes f = tt
note-call o es a b mail call Flush StoreLost run kind goes f = failed-call o es b call f
note-call o es a b mail call Flush OutOfMemory run kind goes f = tt

note-move : (o : Opening) (es : List CoreEvent) (a other mail : ℕ) (move : WorkerMove) (job : CoreJob) (answer : JobOutcome)
    → IsCoreRun o (At other move ∷ es) → kind_of job ≡ (client_state o a es).group.kind
    → NoteClaim o es a mail job answer → NoteClaim o (At other move ∷ es) a mail job answer
note-move o es a other mail move (Append cube epoch rows) answer run kind f = tt
note-move o es a other mail move (DropBox cube epoch box) answer run kind f = tt
note-move o es a other mail move (Scan query snapshot) answer run kind f = tt
note-move o es a other mail move (Delta query from to) answer run kind f = tt
note-move o es a other mail move (Rollback epoch) answer run kind f = tt
note-move o es a other mail move (Purge epoch) answer run kind f = tt
note-move o es a other mail move (CopyRound from to) answer run kind f = tt
note-move o es a other mail move Flush Done run kind f = f
note-move o es a other mail move Flush (ShardFull rows) run kind f = tt
note-move o es a other mail move Flush (Found rows) run kind f = tt
note-move o es a other mail move Flush (Compared came went) run kind f = tt
note-move o es a other mail move Flush (Copied view) run kind f = tt
note-move o es a other mail move Flush StoreLost run kind f = f
note-move o es a other mail move Flush OutOfMemory run kind f = tt

-- The answer to the last FLUSH that the session knows.

pub record FlushKnown (o : Opening) (es : List CoreEvent) (a : ℕ) (flush : Option JobOutcome) : Type 0 where
  pub saved : flush ≡ Some Done → WasFlushed a (journal_of o es)
  pub lost : flush ≡ Some StoreLost → (counters_of_run o es).store_failed ≡ true

none-known : (o : Opening) (es : List CoreEvent) (a : ℕ) → FlushKnown o es a None
none-known o es a = record { saved = λ e. absurd (none-some Done e); lost = λ e. absurd (none-some StoreLost e) }

known-call : (o : Opening) (es : List CoreEvent) (a b : ℕ) (call : ClientCall) (flush : Option JobOutcome) → IsNotOf a (client_entry b call)
    → FlushKnown o es a flush → FlushKnown o (By b call ∷ es) a flush
known-call o es a b call flush other f = record {
  saved = λ e. flushed-call o es a b call other (f.saved e);
  lost = λ e. failed-call o es b call (f.lost e);
}

abbrev is_flush : GroupKind → Bool
is_flush Flushes = true
is_flush kind = false

flush-of-kind : (job : CoreJob) → kind_of job ≡ Flushes → job ≡ Flush
flush-of-kind Flush e = refl
flush-of-kind (Append cube epoch rows) e = absurd (false≢true (ap is_flush e))
flush-of-kind (DropBox cube epoch box) e = absurd (false≢true (ap is_flush e))
flush-of-kind (Scan query snapshot) e = absurd (false≢true (ap is_flush e))
flush-of-kind (Delta query from to) e = absurd (false≢true (ap is_flush e))
flush-of-kind (Rollback epoch) e = absurd (false≢true (ap is_flush e))
flush-of-kind (Purge epoch) e = absurd (false≢true (ap is_flush e))
flush-of-kind (CopyRound from to) e = absurd (false≢true (ap is_flush e))

-- An answer that is fetched.
fetched-claim : (o : Opening) (es : List CoreEvent) (a mail : ℕ) (answer : JobOutcome) → IsCoreRun o (By a (Fetch mail answer) ∷ es)
    → (client_state o a es).group.kind ≡ Flushes → NoteClaim o es a mail Flush answer
fetched-claim o es a mail answer run kind =
    let there = ((run-posted o es run.0).posted mail).held a answer run.1.says in
    let suits = coe 0 1 (i. SuitsAt mail (client_state o a es).group (there.1 i)) (run-suits o es mail a run.0) in
    let claim = coe 0 1 (i. PlaceClaims NoteClaim note-given note-flushed note-call note-move o es a mail (there.1 i))
    (run-places NoteClaim note-given note-flushed note-call note-move o es mail a run.0)
    in
    coe 0 1 (i. NoteClaim o es a mail (flush-of-kind there.0 (suits.kind ∙ kind) i) answer) claim

fetch-known : (kind : GroupKind) (o : Opening) (es : List CoreEvent) (a mail : ℕ) (answer : JobOutcome) → IsCoreRun o (By a (Fetch mail answer) ∷ es)
    → IsSession o a → (client_state o a es).group.kind ≡ kind → FlushKnown o es a (client_state o a es).flush
    → FlushKnown o es a (flush_after_fetch kind answer (client_state o a es).flush)
fetch-known Flushes o es a mail answer run session is f =
    let claim = fetched-claim o es a mail answer run is in
    record {
      saved = λ e. (coe 0 1 (i. NoteClaim o es a mail Flush (same_Some answer Done e i)) claim) session;
      lost = λ e. coe 0 1 (i. NoteClaim o es a mail Flush (same_Some answer StoreLost e i)) claim;
    }
fetch-known kind o es a mail answer run session is f = f

own-known : (own : Bool) (o : Opening) (es : List CoreEvent) (a : ℕ) (call : ClientCall) (flush : Option JobOutcome) → is_own_entry a call ≡ own
    → IsCoreRun o (By a call ∷ es) → IsSession o a → FlushKnown o es a flush
    → FlushKnown o (By a call ∷ es) a (if own then None else flush)
own-known true o es a call flush is run session f = none-known o (By a call ∷ es) a
own-known false o es a call flush is run session f = known-call o es a a call flush (not-of o es a a call run session (λ same. is)) f

call-known : (own : Bool) (o : Opening) (es : List CoreEvent) (a b : ℕ) (call : ClientCall) → (b == a) ≡ own → IsCoreRun o (By b call ∷ es)
    → IsSession o a → FlushKnown o es a (client_state o a es).flush
    → FlushKnown o (By b call ∷ es) a (client_after_call o own a call (client_state o a es)).flush
call-known false o es a b call is run session f =
    known-call o es a b call (client_state o a es).flush
    (not-of o es a b call run session (λ same. absurd (false≢true (sym is ∙ eq-eqb b a same)))) f
call-known true o es a b call is run session f =
    let same = eqb-true b a is in
    coe 1 0 (i. FlushKnown o (By (same i) call ∷ es) a (flush_after a call (client_state o a es).group.kind (client_state o a es).flush))
    (by-call call (coe 0 1 (i. IsCoreRun o (By (same i) call ∷ es)) run))
  where
    k : ClientState
    k = client_state o a es

    by-call : (c : ClientCall) → IsCoreRun o (By a c ∷ es) → FlushKnown o (By a c ∷ es) a (flush_after a c k.group.kind k.flush)
    by-call (Fetch mail answer) r =
        known-call o es a a (Fetch mail answer) (flush_after_fetch k.group.kind answer k.flush) tt
        (fetch-known k.group.kind o es a mail answer r session refl f)
    by-call (OnDesk c) r = own-known (is_own_entry a (OnDesk c)) o es a (OnDesk c) k.flush refl r session f
    by-call (OnNames c) r = known-call o es a a (OnNames c) k.flush tt f
    by-call (Post mail job) r = known-call o es a a (Post mail job) k.flush tt f
    by-call (CloseMail mail) r = known-call o es a a (CloseMail mail) k.flush tt f
    by-call NoChange r = known-call o es a a NoChange k.flush tt f

pub run-known : (o : Opening) (es : List CoreEvent) (a : ℕ) → IsCoreRun o es → IsSession o a → FlushKnown o es a (client_state o a es).flush
run-known o [] a run session = none-known o [] a
run-known o (By b call ∷ es) a run session = call-known (b == a) o es a b call refl run session (run-known o es a run.0 session)
run-known o (At mail move ∷ es) a run session =
    let f = run-known o es a run.0 session in record { saved = f.saved; lost = f.lost }

-- The LSEs that the session was shown.

abbrev AreShown : Opening → List CoreEvent → ℕ → List ℕ → Type 0
AreShown o es a shown = AllByRecursion (λ e. WasSafe o.safe a e (journal_of o es)) shown

with-safe : (e : Option JournalEntry) (safe a epoch : ℕ) (journal : List JournalEntry) → IsNotOf a e → WasSafe safe a epoch journal
    → WasSafe safe a epoch (journal_with e journal)
with-safe None safe a epoch journal other f = f
with-safe (Some e) safe a epoch journal other f = safe-more safe a epoch journal e other f

shown-call : (o : Opening) (es : List CoreEvent) (a b : ℕ) (call : ClientCall) (shown : List ℕ) → IsNotOf a (client_entry b call)
    → AreShown o es a shown → AreShown o (By b call ∷ es) a shown
shown-call o es a b call [] other f = tt
shown-call o es a b call (e ∷ shown) other f = (
  coe 1 0 (i. WasSafe o.safe a e (journal-step o b call es i)) (with-safe (client_entry b call) o.safe a e (journal_of o es) other f.0),
  shown-call o es a b call shown other f.1,
)

own-shown : (own : Bool) (o : Opening) (es : List CoreEvent) (a : ℕ) (call : ClientCall) (shown : List ℕ) → is_own_entry a call ≡ own
    → IsCoreRun o (By a call ∷ es) → IsSession o a → AreShown o es a shown → AreShown o (By a call ∷ es) a (if own then [] else shown)
own-shown true o es a call shown is run session f = tt
own-shown false o es a call shown is run session f = shown-call o es a a call shown (not-of o es a a call run session (λ same. is)) f

-- A call that shows LSE ends no round.
shows-open : (call : ClientCall) (n : ℕ) → lse_in call ≡ Some n → closes_round call ≡ false
shows-open (OnDesk (RoundClose epoch end)) n e = absurd (none-some n e)
shows-open (OnDesk (OpenWrite statement epoch deps)) n e = refl
shows-open (OnDesk (OpenRead number statement epoch)) n e = refl
shows-open (OnDesk (Commit statement epoch)) n e = refl
shows-open (OnDesk (AbortEnd statement epoch cause)) n e = refl
shows-open (OnDesk (CloseRead number statement)) n e = refl
shows-open (OnDesk (TakeNote note counters)) n e = refl
shows-open (OnDesk (CreateCube statement decl answer)) n e = refl
shows-open (OnDesk (FindCube statement name answer)) n e = refl
shows-open (OnDesk (CubesFrom place cubes)) n e = refl
shows-open (OnDesk (CountersNow counters)) n e = refl
shows-open (OnDesk (RoundOpen answer)) n e = refl
shows-open (OnDesk (StoreFailed failed)) n e = refl
shows-open (OnNames call) n e = refl
shows-open (Post mail job) n e = refl
shows-open (Fetch mail answer) n e = refl
shows-open (CloseMail mail) n e = refl
shows-open NoChange n e = refl

new-shown : (more : Option ℕ) (o : Opening) (es : List CoreEvent) (a : ℕ) (call : ClientCall) (shown : List ℕ) → lse_in call ≡ more
    → IsCoreRun o (By a call ∷ es) → AreShown o (By a call ∷ es) a shown → AreShown o (By a call ∷ es) a (with_lse more shown)
new-shown None o es a call shown is run f = f
new-shown (Some n) o es a call shown is run f =
    let s = counters_of_run o es in
    let journal = journal_of o (By a call ∷ es) in
    let now : (counters_of_run o (By a call ∷ es)).lse ≡ s.lse =
    ap (λ (t : JournalState). t.lse) (run-step o a call es) ∙ lse-same a call s (shows-open call n is)
    in (
      record {
        earlier = journal;
        later = [];
        parts = parts-now a journal (sym (append-nil journal));
        lse = ap (λ (t : JournalState). t.lse) (sym (run-counters o (By a call ∷ es))) ∙ now ∙ sym (shown-lse o es a call n run.1.says is);
      },
      f,
    )

call-shown : (own : Bool) (o : Opening) (es : List CoreEvent) (a b : ℕ) (call : ClientCall) → (b == a) ≡ own → IsCoreRun o (By b call ∷ es)
    → IsSession o a → AreShown o es a (client_state o a es).shown
    → AreShown o (By b call ∷ es) a (client_after_call o own a call (client_state o a es)).shown
call-shown false o es a b call is run session f =
    shown-call o es a b call (client_state o a es).shown
    (not-of o es a b call run session (λ same. absurd (false≢true (sym is ∙ eq-eqb b a same)))) f
call-shown true o es a b call is run session f =
    let same = eqb-true b a is in
    let mine = coe 0 1 (i. IsCoreRun o (By (same i) call ∷ es)) run in
    let shown = (client_state o a es).shown in
    coe 1 0 (i. AreShown o (By (same i) call ∷ es) a (with_lse (lse_in call) (if is_own_entry a call then [] else shown)))
    (new-shown (lse_in call) o es a call (if is_own_entry a call then [] else shown) refl mine
    (own-shown (is_own_entry a call) o es a call shown refl mine session f))

run-shown : (o : Opening) (es : List CoreEvent) (a : ℕ) → IsCoreRun o es → IsSession o a → AreShown o es a (client_state o a es).shown
run-shown o [] a run session = tt
run-shown o (By b call ∷ es) a run session = call-shown (b == a) o es a b call refl run session (run-shown o es a run.0 session)
run-shown o (At mail move ∷ es) a run session = run-shown o es a run.0 session

among-shown : (here : Bool) (o : Opening) (es : List CoreEvent) (a epoch e : ℕ) (shown : List ℕ) → (e == epoch) ≡ here
    → (here || has_number shown epoch) ≡ true → WasSafe o.safe a e (journal_of o es)
    → (has_number shown epoch ≡ true → WasSafe o.safe a epoch (journal_of o es)) → WasSafe o.safe a epoch (journal_of o es)
among-shown true o es a epoch e shown is has f rest = coe 0 1 (i. WasSafe o.safe a (eqb-true e epoch is i) (journal_of o es)) f
among-shown false o es a epoch e shown is has f rest = rest has

has-shown : (o : Opening) (es : List CoreEvent) (a epoch : ℕ) (shown : List ℕ) → has_number shown epoch ≡ true → AreShown o es a shown
    → WasSafe o.safe a epoch (journal_of o es)
has-shown o es a epoch [] has f = absurd (false≢true has)
has-shown o es a epoch (e ∷ shown) has f =
    among-shown (e == epoch) o es a epoch e shown refl has f.0 (λ there. has-shown o es a epoch shown there f.1)

pub shown-safe : (o : Opening) (es : List CoreEvent) (a epoch : ℕ) → IsCoreRun o es → IsSession o a
    → has_number (client_state o a es).shown epoch ≡ true → WasSafe o.safe a epoch (journal_of o es)
shown-safe o es a epoch run session has = has-shown o es a epoch (client_state o a es).shown has (run-shown o es a run session)
