-- While the flusher does a FLUSH of a session, the journal has its rounds since the session's last entry.
use Rattle.std.proofs.Common.{◌≡◌, ◌∙◌, ℕ, ◌==◌, Bool, true, false, true≢false, List, [], ◌∷◌, ◌++◌, refl, sym, ap, eqb-true}
use Rattle.std.proofs.lemmas.Bool.{false≢true}
use Rattle.cube_journal.specs.declared.journal_entry.JournalEntry.{JournalEntry}
use Rattle.cube_journal.specs.declared.journal_entry.JournalEntry.TheVariants as entry
use Rattle.cube_journal.specs.declared.note.Note.TheVariants as note
use Rattle.cube_journal.specs.Entries.{is_of_session}
use Rattle.cube_journal.specs.Legal.{WasFlushed}
use Rattle.aosi_desk.specs.declared.answer.RoundAnswer.TheVariants.{Target, Nothing}
use Rattle.aosi_desk.specs.declared.answer.RoundEnd.TheVariants.{Safe, Lost}
use Rattle.aosi_desk.specs.declared.cube.CubeAnswer.TheVariants.{Created, Exists, TooMany}
use Rattle.aosi_desk.specs.declared.cube.CubeFound.TheVariants.{Found, Unknown}
use Rattle.core_events.specs.Jobs.{CoreJob, Flush, JobOutcome}
use Rattle.core_events.specs.Events.{Opening, IsSession, flush_mail, OpenWrite, OpenRead, Commit, AbortEnd, CloseRead, TakeNote, CreateCube, FindCube, CubesFrom, CountersNow, RoundOpen, RoundClose, StoreFailed, ClientCall, OnDesk, OnNames, Post, Fetch, CloseMail, NoChange, WorkerMove, Take, NoJob, Work, Reply, CoreEvent, By, At}
use Rattle.core_events.specs.Clients.{ClientState, client_state, ends_group}
use Rattle.core_events.specs.Cells.{WorkerState, Free, Took, Worked, worker_after, worker_of}
use Rattle.core_events.specs.Fitting.{FitsCall, IsFor, RoundProgress, NoRound, RoundUnderWay, AllSaved, progress_after_call, progress_after_move, round_progress}
use Rattle.core_events.specs.Runs.{IsCoreRun}
use Rattle.core_events.proofs.Agreement.{opening-of}
use Rattle.core_events.proofs.DeskSteps.{client_entry}
use Rattle.core_events.proofs.Places.{JobPlace, Asked, is_out, nowhere-asked, place, place_after_post, place_after_call}
use Rattle.core_events.proofs.Posted.{run-posted}
use Rattle.core_serial.proofs.Asking.{own-fits}
use Rattle.core_serial.proofs.Isolation.{fetch-back, move-back, out-goes-on}
use Rattle.core_serial.proofs.PostedRuns.{taken-asked}
use Rattle.core_serial.specs.Journals.{journal_of}
use Rattle.core_serial.proofs.Entries.{journal_with, journal-step, IsNotOf, entry-not-of, goes-unnoted}
use Rattle.core_serial.proofs.Sessions.{IsUnderWay, is_end, flushed-more, under-way-more, under-way-now, idle-now, saved-now}

abbrev RoundNoted : ℕ → RoundProgress → List JournalEntry → Type 0
RoundNoted a NoRound journal = Unit {0}
RoundNoted a RoundUnderWay journal = IsUnderWay a journal
RoundNoted a AllSaved journal = WasFlushed a journal

-- An entry that is neither of the session nor the end of a round.
keep-noted : (a : ℕ) (progress : RoundProgress) (journal : List JournalEntry) (e : JournalEntry) → is_of_session a e ≡ false → is_end e ≡ false
    → RoundNoted a progress journal → RoundNoted a progress (journal ++ e ∷ [])
keep-noted a NoRound journal e other goes f = tt
keep-noted a RoundUnderWay journal e other goes f = under-way-more a journal e other goes f
keep-noted a AllSaved journal e other goes f = flushed-more a journal e other f

call-noted : (a b : ℕ) (call : ClientCall) (progress : RoundProgress) (journal : List JournalEntry) → IsNotOf a (client_entry b call)
    → RoundNoted a progress journal → RoundNoted a (progress_after_call call progress) (journal_with (client_entry b call) journal)
call-noted a b (OnDesk (RoundOpen (Nothing epoch))) progress journal other f = idle-now a epoch journal
call-noted a b (OnDesk (RoundOpen (Target from epoch))) NoRound journal other f = under-way-now a epoch journal
call-noted a b (OnDesk (RoundOpen (Target from epoch))) RoundUnderWay journal other f = under-way-now a epoch journal
call-noted a b (OnDesk (RoundOpen (Target from epoch))) AllSaved journal other f = flushed-more a journal (entry.Round epoch) refl f
call-noted a b (OnDesk (RoundClose epoch Safe)) NoRound journal other f = tt
call-noted a b (OnDesk (RoundClose epoch Safe)) RoundUnderWay journal other f = saved-now a epoch journal f
call-noted a b (OnDesk (RoundClose epoch Safe)) AllSaved journal other f = flushed-more a journal (entry.Safe epoch) refl f
call-noted a b (OnDesk (RoundClose epoch (Lost cause))) NoRound journal other f = tt
call-noted a b (OnDesk (RoundClose epoch (Lost cause))) RoundUnderWay journal other f = tt
call-noted a b (OnDesk (RoundClose epoch (Lost cause))) AllSaved journal other f = flushed-more a journal (entry.RoundLost epoch cause) refl f
call-noted a b (OnDesk (OpenWrite statement epoch deps)) progress journal other f = keep-noted a progress journal (entry.Begin b statement epoch deps) other refl f
call-noted a b (OnDesk (OpenRead number statement epoch)) progress journal other f = keep-noted a progress journal (entry.Read number statement epoch) other refl f
call-noted a b (OnDesk (Commit statement epoch)) progress journal other f = keep-noted a progress journal (entry.Committed b statement epoch) other refl f
call-noted a b (OnDesk (AbortEnd statement epoch cause)) progress journal other f = keep-noted a progress journal (entry.Aborted b statement epoch cause) other refl f
call-noted a b (OnDesk (CloseRead number statement)) progress journal other f = keep-noted a progress journal (entry.ReadEnd number statement) other refl f
call-noted a b (OnDesk (TakeNote (note.Refused session statement code) counters)) progress journal other f =
    keep-noted a progress journal (entry.Refused session statement code) other refl f
call-noted a b (OnDesk (TakeNote (note.Cleared session statement) counters)) progress journal other f =
    keep-noted a progress journal (entry.Cleared session statement) other refl f
call-noted a b (OnDesk (TakeNote (note.Show session statement) counters)) progress journal other f =
    keep-noted a progress journal (entry.Show session statement) other refl f
call-noted a b (OnDesk (TakeNote (note.Flushed session statement) counters)) progress journal other f =
    keep-noted a progress journal (entry.Flushed session statement) other refl f
call-noted a b (OnDesk (TakeNote (note.Purged session statement epoch) counters)) progress journal other f =
    keep-noted a progress journal (entry.Purged session statement epoch) other refl f
call-noted a b (OnDesk (CreateCube statement decl (Created epoch place))) progress journal other f =
    keep-noted a progress journal (entry.Cube b statement epoch) other refl f
call-noted a b (OnDesk (CreateCube statement decl Exists)) progress journal other f = keep-noted a progress journal (entry.Refused b statement 19) other refl f
call-noted a b (OnDesk (CreateCube statement decl TooMany)) progress journal other f = keep-noted a progress journal (entry.Refused b statement 21) other refl f
call-noted a b (OnDesk (FindCube statement name (Found place decl))) progress journal other f = f
call-noted a b (OnDesk (FindCube statement name Unknown)) progress journal other f = keep-noted a progress journal (entry.Refused b statement 2) other refl f
call-noted a b (OnDesk (CubesFrom place cubes)) progress journal other f = f
call-noted a b (OnDesk (CountersNow counters)) progress journal other f = f
call-noted a b (OnDesk (StoreFailed failed)) progress journal other f = f
call-noted a b (OnNames call) progress journal other f = f
call-noted a b (Post mail job) progress journal other f = f
call-noted a b (Fetch mail answer) progress journal other f = f
call-noted a b (CloseMail mail) progress journal other f = f
call-noted a b NoChange progress journal other f = f

-- A FLUSH is asked at the flusher's mail.

post-flush : (here own : Bool) (o : Opening) (other mail : ℕ) (job : CoreJob) (p : JobPlace) → (other == mail) ≡ here → (own ≡ true → IsFor o other job)
    → (p ≡ Asked Flush → mail ≡ flush_mail o) → place_after_post here own job p ≡ Asked Flush → mail ≡ flush_mail o
post-flush true true o other mail job p is goes before e =
    let flush : IsFor o other Flush = coe 0 1 (i. IsFor o other (job_in (e i))) (goes refl) in sym (eqb-true other mail is) ∙ flush
  where
    job_in : JobPlace → CoreJob
    job_in (Asked j) = j
    job_in q = job
post-flush true false o other mail job p is goes before e = before e
post-flush false own o other mail job p is goes before e = before e

call-flush : (o : Opening) (mail a : ℕ) (own : Bool) (call : ClientCall) (k : ClientState) (p : JobPlace) → (own ≡ true → FitsCall o a call k)
    → (p ≡ Asked Flush → mail ≡ flush_mail o) → place_after_call mail own call p ≡ Asked Flush → mail ≡ flush_mail o
call-flush o mail a own (Post other job) k p f before e = post-flush (other == mail) own o other mail job p refl (λ mine. (f mine).goes) before e
call-flush o mail a own (Fetch other answer) k p f before e = before (fetch-back (other == mail) own Flush p e)
call-flush o mail a own (OnDesk call) k p f before e = before e
call-flush o mail a own (OnNames call) k p f before e = before e
call-flush o mail a own (CloseMail other) k p f before e = before e
call-flush o mail a own NoChange k p f before e = before e

flush-asked : (o : Opening) (es : List CoreEvent) (mail a : ℕ) → IsCoreRun o es → place mail a es ≡ Asked Flush → mail ≡ flush_mail o
flush-asked o [] mail a run e = absurd (nowhere-asked Flush e)
flush-asked o (By b call ∷ es) mail a run e =
    call-flush o mail a (b == a) call (client_state o a es) (place mail a es) (own-fits o a b call es run.1.fits)
    (flush-asked o es mail a run.0) e
flush-asked o (At other move ∷ es) mail a run e =
    flush-asked o es mail a run.0 (move-back (other == mail) a (worker_of mail es) move Flush (place mail a es) e)

-- The flusher's progress, over events.

abbrev WorkerNoted : Opening → List CoreEvent → ℕ → ℕ → Type 0
WorkerNoted o es mail a = worker_of mail es ≡ Took a Flush → RoundNoted a (round_progress o es) (journal_of o es)

abbrev is_free : WorkerState → Bool
is_free Free = true
is_free worker = false

abbrev has_taken : WorkerState → Bool
has_taken (Took client job) = true
has_taken worker = false

reset-noted : (here : Bool) (a client : ℕ) (job : CoreJob) (progress : RoundProgress) (journal : List JournalEntry) → here ≡ true
    → RoundNoted a (progress_after_move here (Take client job) progress) journal
reset-noted true a client job progress journal e = tt
reset-noted false a client job progress journal e = absurd (false≢true e)

same-progress : (here : Bool) (move : WorkerMove) (progress : RoundProgress) → here ≡ false → progress_after_move here move progress ≡ progress
same-progress true move progress e = absurd (true≢false e)
same-progress false (Take client job) progress e = refl
same-progress false (NoJob closed) progress e = refl
same-progress false (Work job answer) progress e = refl
same-progress false (Reply client answer) progress e = refl

no-job-progress : (here closed : Bool) (progress : RoundProgress) → progress_after_move here (NoJob closed) progress ≡ progress
no-job-progress true closed progress = refl
no-job-progress false closed progress = refl

work-took : (answer : JobOutcome) (worker : WorkerState) (a : ℕ) (job made : CoreJob) → worker_after true (Work made answer) worker ≡ Took a job → ⊥
work-took answer Free a job made e = false≢true (ap has_taken e)
work-took answer (Took c j) a job made e = false≢true (ap has_taken e)
work-took answer (Worked c j x) a job made e = false≢true (ap has_taken e)

move-noted : (here : Bool) (o : Opening) (es : List CoreEvent) (mail a other : ℕ) (move : WorkerMove) → (other == mail) ≡ here → mail ≡ flush_mail o
    → WorkerNoted o es mail a → worker_after here move (worker_of mail es) ≡ Took a Flush
    → RoundNoted a (progress_after_move (other == flush_mail o) move (round_progress o es)) (journal_of o es)
move-noted true o es mail a other (Take client job) is at before e =
    reset-noted (other == flush_mail o) a client job (round_progress o es) (journal_of o es) (ap (λ (m : ℕ). other == m) (sym at) ∙ is)
move-noted true o es mail a other (NoJob closed) is at before e =
    coe 1 0 (i. RoundNoted a (no-job-progress (other == flush_mail o) closed (round_progress o es) i) (journal_of o es)) (before e)
move-noted true o es mail a other (Work job answer) is at before e = absurd (work-took answer (worker_of mail es) a Flush job e)
move-noted true o es mail a other (Reply client answer) is at before e = absurd (true≢false (ap is_free e))
move-noted false o es mail a other move is at before e =
    coe 1 0 (i. RoundNoted a (same-progress (other == flush_mail o) move (round_progress o es) (ap (λ (m : ℕ). other == m) (sym at) ∙ is) i) (journal_of o es))
    (before e)

worker-noted : (o : Opening) (es : List CoreEvent) (mail a : ℕ) → IsCoreRun o es → IsSession o a → mail ≡ flush_mail o → WorkerNoted o es mail a
worker-noted o [] mail a run session at took = absurd (true≢false (ap is_free took))
worker-noted o (By b call ∷ es) mail a run session at took =
    let asked = taken-asked o es mail a Flush run.0 took in
    let out : is_out (place mail a es) ≡ true = ap is_out asked in
    let goes : b ≡ a → ends_group call ≡ false = (λ same.
    out-goes-on o a mail call (client_state o a es) (ends_group call) refl
    (coe 0 1 (i. FitsCall o (same i) call (client_state o (same i) es)) run.1.fits) ((run-posted o es run.0).tied a mail ∙ out))
    in
    let other = entry-not-of o a b call (client_state o b es) (opening-of o es run.0) session run.1.fits (λ same. goes-unnoted b call (goes same)) in
    coe 1 0 (i. RoundNoted a (progress_after_call call (round_progress o es)) (journal-step o b call es i))
    (call-noted a b call (round_progress o es) (journal_of o es) other (worker-noted o es mail a run.0 session at took))
worker-noted o (At other move ∷ es) mail a run session at took =
    move-noted (other == mail) o es mail a other move refl at (worker-noted o es mail a run.0 session at) took

-- Where the flusher has saved all, the session was flushed.
pub saved-noted : (o : Opening) (es : List CoreEvent) (mail a : ℕ) → IsCoreRun o es → IsSession o a → worker_of mail es ≡ Took a Flush
    → round_progress o es ≡ AllSaved → WasFlushed a (journal_of o es)
saved-noted o es mail a run session took saved =
    coe 0 1 (i. RoundNoted a (saved i) (journal_of o es))
    (worker-noted o es mail a run session (flush-asked o es mail a run (taken-asked o es mail a Flush run took)) took)
