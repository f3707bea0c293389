-- What a worker's own calls tell it of the job in its hands, and the calls that fit.
use Rattle.std.proofs.Common.{◌≡◌, ◌≢◌, ◌∙◌, ℕ, ◌<◌, eqb, Bool, true, false, true≢false, cond, List, [], ◌∷◌, length, refl, sym, ap, subst, arith, eqb-true, eq-eqb}
use Rattle.std.proofs.lemmas.Bool.{eqb-false}
use Rattle.std.specs.Prelude.{fold}
use Rattle.mail_cell.specs.declared.answer.Fetched.TheVariants.{Got, NotYet}
use Rattle.mail_cell.specs.declared.answer.Taken.TheVariants.{Job as SomeJob, Empty, Closed}
use Rattle.turn_board.specs.History.{of_caller}
use Rattle.board_callers.specs.Callers.{HasHistoryOf}
use Rattle.cube_core.specs.Links.{AreEventsAfter, AreEventsOf}
use Rattle.cube_core.proofs.LinkedHistories.{history-run}
use Rattle.cube_core.proofs.OwnParts.{told-moves}
use Rattle.cube_core.specs.BoardCells.{server_of, call_job, work_job, job_asked, WorkSuits, TakeSuits, AnswerSays, IsShardLinked, IsByItself, cell_of_shard, cell_of_mail, FitsBoardEntry, IsEventOf, IsEntryEvent, StandsInCell}
use Rattle.cube_core.proofs.OwnEntries.{own-moves}
use Rattle.core_cells.specs.declared.mail.MailAnswer.{MailAnswer}
use Rattle.core_cells.specs.declared.mail.MailAnswer.TheVariants as got
use Rattle.core_cells.specs.declared.mail.MailCall.{MailCall}
use Rattle.core_cells.specs.declared.mail.MailCall.TheVariants as mail
use Rattle.core_events.specs.Cells.{WorkerState, Free, Took, Worked, worker_after, worker_after_own, worker_after_work, worker_of}
use Rattle.core_events.specs.Clients.{client_state}
use Rattle.core_events.specs.Events.{Opening, flusher, WorkerMove, Take, NoJob, Work, Reply, CoreEvent, By, At}
use Rattle.core_events.specs.Fitting.{RoundProgress, FitsWork, FitsMove, round_progress}
use Rattle.core_events.specs.Jobs.{CoreJob, Flush, JobOutcome}
use Rattle.core_events.specs.Runs.{IsCoreRun}
use Rattle.core_events.specs.ShardView.{ShardView}
use Rattle.cube_core.specs.MailEvents.{IsMailEvent}
use Rattle.core_events.specs.Histories.{job_served}
use Rattle.core_program.specs.CoreFits.{CoreEntry, OpensCells, FitsOwnCalls}
use Rattle.core_program.specs.LinkedCells.{linked-cells}
use Rattle.core_program.specs.Workers.{JobInHand, NoneInHand, JobTaken, JobDone, with_answer, in_hand_after, in_hand, IsShardWork, IsWorkerOf, MayServe}
use Rattle.cube_core.specs.CoreSteps.{CoreStep}
use Rattle.cube_core.specs.declared.cell.CoreAnswer.{CoreAnswer}
use Rattle.cube_core.specs.declared.cell.CoreAnswer.TheVariants as answer
use Rattle.cube_core.specs.declared.cell.CoreCall.{CoreCall}
use Rattle.cube_core.specs.declared.cell.CoreCall.TheVariants as call
use Rattle.cube_core.specs.declared.cell.CoreCell.{CoreCell}
use Rattle.cube_core.specs.declared.jobs.Job.{Job}
use Rattle.cube_core.specs.declared.jobs.JobAnswer.{JobAnswer}
use Rattle.cube_core.specs.declared.jobs.JobAnswer.TheVariants as reply
use Rattle.cube_core.specs.declared.jobs.Work.{Work as JobWork}
use Rattle.cube_core.specs.declared.jobs.Work.TheVariants as work
use Rattle.cube_core.specs.declared.shard.ShardAnswer.{ShardAnswer}
use Rattle.cube_core.specs.declared.shard.ShardCall.{ShardCall}
use Rattle.cube_core.specs.declared.shard.ShardCall.TheVariants as shard

-- A call on a shard is no FLUSH.
abbrev is_round : CoreJob → Bool
is_round Flush = true
is_round job = false

no-round : (c : ShardCall) → is_round (call_job c) ≡ false
no-round (shard.Append cube shape epoch rows) = refl
no-round (shard.DropBox cube shape epoch span) = refl
no-round (shard.Scan shape query snapshot) = refl
no-round (shard.Delta shape query from to) = refl
no-round (shard.Rollback epoch) = refl
no-round (shard.Purge epoch) = refl
no-round (shard.CopyRound from to) = refl

no-flush : (c : ShardCall) (job : CoreJob) → call_job c ≡ job → job ≢ Flush
no-flush c job is same = true≢false (sym (ap is_round (is ∙ same)) ∙ no-round c)

before : (o : Opening) (x : CoreEvent) (es : List CoreEvent) → IsCoreRun o (x ∷ es) → IsCoreRun o es
before o (By client c) es run = run.0
before o (At number move) es run = run.0

module _ {S : Type 0} (fits : Opening → ℕ → ShardCall → Type 0) (stands : Opening → ℕ → ℕ → S → ShardView → Type 0)
    (says : CoreJob → ShardAnswer → JobOutcome → Type 0) (o : Opening) (caller number : ℕ) (serves : caller ≡ server_of o number) where
  -- What the worker has in hand is what the run says of it.
  record TakenAgrees (client : ℕ) (job : Job) (to : ℕ) (asked : CoreJob) : Type 0 where
    who : client ≡ to
    what : job_asked job ≡ asked
    suits : WorkSuits fits o number job.work

  record DoneAgrees (client : ℕ) (a : ShardAnswer) (to : ℕ) (asked : CoreJob) (outcome : JobOutcome) : Type 0 where
    who : client ≡ to
    said : says asked a outcome

  abbrev Agrees : JobInHand → WorkerState → Type 0
  Agrees NoneInHand Free = Unit {0}
  Agrees (JobTaken client job) (Took to asked) = TakenAgrees client job to asked
  Agrees (JobDone client job a) (Worked to asked outcome) = DoneAgrees client a to asked outcome
  Agrees hand worker = ⊥

  abbrev event : List CoreEvent → CoreEntry → CoreEvent → Type 0
  event es e x = IsEntryEvent fits stands says o es e x

  -- The worker's state after one event.
  at-own : (n : ℕ) (move : WorkerMove) (es : List CoreEvent) (x : CoreEvent) → x ≡ At n move → n ≡ number
      → worker_of number (x ∷ es) ≡ worker_after_own move (worker_of number es)
  at-own n move es x is same =
      ap (λ (y : CoreEvent). worker_of number (y ∷ es)) is
      ∙ ap (λ (b : Bool). worker_after b move (worker_of number es)) (eq-eqb n number same)

  work-agrees : (c : ShardCall) (a : ShardAnswer) (outcome : JobOutcome) (progress : RoundProgress) (lost : Bool) (hand : JobInHand)
      (w : WorkerState) → FitsWork progress lost w (Work (call_job c) outcome) → says (call_job c) a outcome → Agrees hand w
      → Agrees (with_answer a hand) (worker_after_work outcome w)
  work-agrees c a outcome progress lost NoneInHand Free may said agree = tt
  work-agrees c a outcome progress lost (JobTaken client job) (Took to asked) may said agree =
      record { who = agree.who; said = subst (λ (j : CoreJob). says j a outcome) may.0 said }
  work-agrees c a outcome progress lost (JobDone client job first) (Worked to asked old) may said agree = agree
  work-agrees c a outcome progress lost hand w may said agree = absurd agree

  mail-entry : (n : ℕ) (c : MailCall Job JobAnswer) (a : MailAnswer Job JobAnswer) (es : List CoreEvent) (x : CoreEvent) (hand : JobInHand)
      → IsByItself o caller n c → IsMailEvent job_asked (AnswerSays says) es n c a x → TakeSuits fits o n a
      → Agrees hand (worker_of number es) → Agrees (in_hand_after (call.Mail c) (answer.Mail a) hand) (worker_of number (x ∷ es))
  mail-entry n (mail.Post client job) got.Done es x hand own is suits agree =
      subst (λ (w : WorkerState). Agrees hand w) (sym (ap (λ (y : CoreEvent). worker_of number (y ∷ es)) is)) agree
  mail-entry n mail.Take (got.Taken (SomeJob client job)) es x hand own is suits agree =
      let same : n ≡ number = omega (arith, own, serves) in
      subst (λ (w : WorkerState). Agrees (JobTaken client job) w) (sym (at-own n (Take client (job_asked job)) es x is same))
      (record { who = refl; what = refl; suits = subst (λ (m : ℕ). WorkSuits fits o m job.work) same suits })
  mail-entry n mail.Take (got.Taken Empty) es x hand own is suits agree =
      let same : n ≡ number = omega (arith, own, serves) in
      subst (λ (w : WorkerState). Agrees hand w) (sym (at-own n (NoJob false) es x is same)) agree
  mail-entry n mail.Take (got.Taken Closed) es x hand own is suits agree =
      let same : n ≡ number = omega (arith, own, serves) in
      subst (λ (w : WorkerState). Agrees hand w) (sym (at-own n (NoJob true) es x is same)) agree
  mail-entry n (mail.Reply client said) got.Done es x hand own is suits agree =
      let same : n ≡ number = omega (arith, own, serves) in
      subst (λ (w : WorkerState). Agrees NoneInHand w) (sym (at-own n (Reply client is.outcome) es x is.is same)) tt
  mail-entry n (mail.Fetch client) (got.Fetched (Got said)) es x hand own is suits agree =
      subst (λ (w : WorkerState). Agrees hand w) (sym (ap (λ (y : CoreEvent). worker_of number (y ∷ es)) is.is)) agree
  mail-entry n (mail.Fetch client) (got.Fetched NotYet) es x hand own is suits agree =
      subst (λ (w : WorkerState). Agrees hand w) (sym (ap (λ (y : CoreEvent). worker_of number (y ∷ es)) is)) agree
  mail-entry n mail.Close got.Done es x hand own is suits agree =
      subst (λ (w : WorkerState). Agrees hand w) (sym (ap (λ (y : CoreEvent). worker_of number (y ∷ es)) is)) agree
  mail-entry n c a es x hand own is suits agree = absurd is

  own-entry : (k : ℕ) (c : CoreCall) (a : CoreAnswer) (es : List CoreEvent) (x : CoreEvent) (hand : JobInHand)
      → IsEventOf fits stands says o es caller k c a x → IsCoreRun o (x ∷ es) → Agrees hand (worker_of number es)
      → Agrees (in_hand_after c a hand) (worker_of number (x ∷ es))
  own-entry k (call.Desk c) (answer.Desk a) es x hand is run agree =
      subst (λ (w : WorkerState). Agrees hand w) (sym (ap (λ (y : CoreEvent). worker_of number (y ∷ es)) is.2)) agree
  own-entry k (call.Names c) (answer.Names a) es x hand is run agree =
      subst (λ (w : WorkerState). Agrees hand w) (sym (ap (λ (y : CoreEvent). worker_of number (y ∷ es)) is.1)) agree
  own-entry k (call.Shard c) (answer.Shard a) es x hand is run agree =
      let own = is.own in
      let n = is.number in
      let same : n ≡ number = omega (arith, own, serves) in
      let move = Work (call_job c) is.outcome in
      let run_on : IsCoreRun o (At n move ∷ es) = subst (λ (y : CoreEvent). IsCoreRun o (y ∷ es)) is.is run in
      let may : FitsMove o es number move = subst (λ (m : ℕ). FitsMove o es m move) same run_on.1.fits in
      subst (λ (w : WorkerState). Agrees (with_answer a hand) w) (sym (at-own n move es x is.is same))
      (work-agrees c a is.outcome (round_progress o es) (client_state o (flusher o) es).store_lost hand (worker_of number es) may is.said agree)
  own-entry k (call.Mail c) (answer.Mail a) es x hand is run agree = mail-entry is.0 c a es x hand is.2 is.3 is.4 agree
  own-entry k c a es x hand is run agree = absurd is

  -- After a history.
  earlier-run : (log : List CoreEntry) (earlier es : List CoreEvent) → AreEventsAfter event earlier log es → IsCoreRun o es
      → IsCoreRun o earlier
  earlier-run [] earlier es are run = subst (λ (l : List CoreEvent). IsCoreRun o l) (sym are) run
  earlier-run (e ∷ log) earlier es are run = before o are.0 earlier (earlier-run log (are.0 ∷ earlier) es are.2 run)

  abbrev after_own : JobInHand → List CoreEntry → JobInHand
  after_own hand own = fold (λ h e. in_hand_after e.call e.answer h) hand own

  one-entry : (b : Bool) (e : CoreEntry) (log : List CoreEntry) (earlier es : List CoreEvent) (x : CoreEvent) (hand : JobInHand)
      → eqb e.caller caller ≡ b → event earlier e x → IsCoreRun o (x ∷ earlier) → Agrees hand (worker_of number earlier)
      → ((next : JobInHand) → Agrees next (worker_of number (x ∷ earlier)) → Agrees (after_own next (of_caller caller log)) (worker_of number es))
      → Agrees (after_own hand (cond b (e ∷ of_caller caller log) (of_caller caller log))) (worker_of number es)
  one-entry true e log earlier es x hand mine is run agree rest =
      rest (in_hand_after e.call e.answer hand)
      (own-entry e.cell e.call e.answer earlier x hand
      (subst (λ (n : ℕ). IsEventOf fits stands says o earlier n e.cell e.call e.answer x) (eqb-true e.caller caller mine) is) run agree)
  one-entry false e log earlier es x hand mine is run agree rest =
      let told = told-moves event (server_of o number) number (own-moves fits stands says o number) in
      let other : e.caller ≢ server_of o number = λ same. eqb-false e.caller caller mine (same ∙ sym serves) in
      rest hand (subst (λ (w : WorkerState). Agrees hand w) (sym (told.others earlier e x other is)) agree)

  agrees-after : (log : List CoreEntry) (earlier es : List CoreEvent) (hand : JobInHand) → AreEventsAfter event earlier log es
      → IsCoreRun o es → Agrees hand (worker_of number earlier) → Agrees (after_own hand (of_caller caller log)) (worker_of number es)
  agrees-after [] earlier es hand are run agree = subst (λ (l : List CoreEvent). Agrees hand (worker_of number l)) are agree
  agrees-after (e ∷ log) earlier es hand are run agree =
      one-entry (eqb e.caller caller) e log earlier es are.0 hand refl are.1 (earlier-run log (are.0 ∷ earlier) es are.2 run) agree
      (λ next now. agrees-after log (are.0 ∷ earlier) es next are.2 run now)

  agreed : (own log : List CoreEntry) (es : List CoreEvent) (hand : JobInHand) → of_caller caller log ≡ own → in_hand own ≡ hand
      → AreEventsOf event log es → IsCoreRun o es → Agrees hand (worker_of number es)
  agreed own log es hand mine is are run =
      subst (λ (h : JobInHand). Agrees h (worker_of number es)) (ap in_hand mine ∙ is) (agrees-after log [] es NoneInHand are run tt)

  -- What the run says of the worker, by what is in its hands.
  is-free : (w : WorkerState) → Agrees NoneInHand w → w ≡ Free
  is-free Free agree = refl
  is-free (Took to asked) agree = absurd agree
  is-free (Worked to asked outcome) agree = absurd agree

  has-taken : (w : WorkerState) (client : ℕ) (job : Job) → Agrees (JobTaken client job) w
      → (to : ℕ) × (asked : CoreJob) × (w ≡ Took to asked) × TakenAgrees client job to asked
  has-taken Free client job agree = absurd agree
  has-taken (Took to asked) client job agree = (to, asked, refl, agree)
  has-taken (Worked to asked outcome) client job agree = absurd agree

  has-done : (w : WorkerState) (client : ℕ) (job : Job) (a : ShardAnswer) → Agrees (JobDone client job a) w
      → (to : ℕ) × (asked : CoreJob) × (outcome : JobOutcome) × (w ≡ Worked to asked outcome) × DoneAgrees client a to asked outcome
  has-done Free client job a agree = absurd agree
  has-done (Took to asked) client job a agree = absurd agree
  has-done (Worked to asked outcome) client job a agree = (to, asked, outcome, refl, agree)

  -- The calls fit.
  may-take : (es : List CoreEvent) (cell : ℕ) → number < o.shards → cell ≡ cell_of_mail o number
      → Agrees NoneInHand (worker_of number es) → FitsBoardEntry fits stands says o es caller cell (call.Mail mail.Take)
  may-take es cell below at agree = record {
    number = number;
    cell = at;
    there = omega (arith, below);
    own = serves;
    suits = tt;
    fits_mail = record { there = omega (arith, below); free = is-free (worker_of number es) agree };
  }

  may-do : (es : List CoreEvent) (client : ℕ) (job : Job) (c : ShardCall) → number < o.shards → job.work ≡ work.Shard c
      → Agrees (JobTaken client job) (worker_of number es)
      → FitsBoardEntry fits stands says o es caller (cell_of_shard number) (call.Shard c)
  may-do es client job c below is agree =
      let taken = has-taken (worker_of number es) client job agree in
      let what : call_job c ≡ taken.1 = sym (ap work_job is) ∙ taken.3.what in
      record {
        number = number;
        cell = refl;
        there = below;
        own = serves;
        takes = (subst (λ (w : JobWork). WorkSuits fits o number w) is taken.3.suits).1;
        move = λ outcome. subst
            (λ (w : WorkerState). FitsWork (round_progress o es) (client_state o (flusher o) es).store_lost w (Work (call_job c) outcome))
            (sym taken.2) (what, no-flush c taken.1 what);
      }

  may-reply : (es : List CoreEvent) (cell client : ℕ) (job : Job) (a : ShardAnswer) → number < o.shards → cell ≡ cell_of_mail o number
      → Agrees (JobDone client job a) (worker_of number es)
      → FitsBoardEntry fits stands says o es caller cell (call.Mail (mail.Reply client (reply.Shard a)))
  may-reply es cell client job a below at agree =
      let done = has-done (worker_of number es) client job a agree in record {
        number = number;
        cell = at;
        there = omega (arith, below);
        own = serves;
        suits = tt;
        fits_mail = record {
          job = done.1;
          outcome = done.2;
          serves = ap job_served done.3;
          stands = done.4.said;
          fits = (
            omega (arith, below),
            subst
                (λ (w : WorkerState). FitsWork (round_progress o es) (client_state o (flusher o) es).store_lost w (Reply client done.2))
                (sym done.3) (done.4.who, refl),
          );
        };
      }

module _ {S : Type 0} (fits : Opening → ℕ → ShardCall → Type 0) (stands : Opening → ℕ → ℕ → S → ShardView → Type 0)
    (says : CoreJob → ShardAnswer → JobOutcome → Type 0) where
  abbrev Opens : Opening → List (CoreCell S) → List CoreEntry → Type 0
  Opens o cells log = OpensCells fits stands says o cells log

  -- The cells that a worker calls are there.
  mail-there : (cells : List (CoreCell S)) (caller number cell : ℕ) → IsWorkerOf fits stands says cells caller number cell
      → cell < length cells
  mail-there cells caller number cell worker =
      let first = worker.opening [] in
      let below = worker.there first.0 [] first.1 in
      let at = worker.mail first.0 [] first.1 in
      let long = first.1.long in
      omega (arith, below, at, long)

  shard-there : (cells : List (CoreCell S)) (caller number cell : ℕ) → IsWorkerOf fits stands says cells caller number cell
      → cell_of_shard number < length cells
  shard-there cells caller number cell worker =
      let first = worker.opening [] in
      let below = worker.there first.0 [] first.1 in
      let long = first.1.long in
      omega (arith, below, long)

  pub may-serve : (cells : List (CoreCell S)) (caller number cell : ℕ) (own : List CoreEntry)
      → IsWorkerOf fits stands says cells caller number cell → MayServe fits stands says cells caller number cell own
  may-serve cells caller number cell own worker = record {
    take = λ is. record {
      opening = worker.opening;
      there = mail-there cells caller number cell worker;
      in_runs = λ o log es opens mine are run.
          let serves = worker.own o log opens in
          may-take fits stands says o caller number serves es cell (worker.there o log opens) (worker.mail o log opens)
          (agreed fits stands says o caller number serves own log es NoneInHand mine is are run);
    };
    serve = λ client job c is asks. record {
      opening = worker.opening;
      there = shard-there cells caller number cell worker;
      in_runs = λ o log es opens mine are run.
          let serves = worker.own o log opens in
          may-do fits stands says o caller number serves es client job c (worker.there o log opens) asks
          (agreed fits stands says o caller number serves own log es (JobTaken client job) mine is are run);
    };
    reply = λ client job a is. record {
      opening = worker.opening;
      there = mail-there cells caller number cell worker;
      in_runs = λ o log es opens mine are run.
          let serves = worker.own o log opens in
          may-reply fits stands says o caller number serves es cell client job a (worker.there o log opens) (worker.mail o log opens)
          (agreed fits stands says o caller number serves own log es (JobDone client job a) mine is are run);
    };
  }

  -- A job that it took is no FLUSH.
  is-call : (o : Opening) (number : ℕ) (w : JobWork) → number < o.shards → WorkSuits fits o number w → IsShardWork w
  is-call o number work.Flush below suits = omega (arith, below, suits)
  is-call o number (work.Shard c) below suits = tt

  module _ (can_shard : S → ShardCall → Type 0) (step_shard : S → ShardCall → ShardAnswer → S → Type 0)
      (link : IsShardLinked can_shard step_shard fits stands says) where
    pub takes-calls : (cells : List (CoreCell S)) (caller number cell : ℕ) (own : List CoreEntry) (client : ℕ) (job : Job)
        → IsWorkerOf fits stands says cells caller number cell
        → HasHistoryOf (CoreStep step_shard) (FitsOwnCalls fits stands says) cells caller own → in_hand own ≡ JobTaken client job
        → IsShardWork job.work
    takes-calls cells caller number cell own client job worker history is =
        let first = worker.opening history.log in
        let o = first.0 in
        let below = worker.there o history.log first.1 in
        let serves = worker.own o history.log first.1 in
        let run =
        history-run (CoreStep step_shard) (FitsOwnCalls fits stands says) Opens (λ p. IsEntryEvent fits stands says p)
        (λ p. StandsInCell fits stands says p) (linked-cells can_shard step_shard fits stands says link) o cells history.log first.1 history.run
        in
        let agree =
        agreed fits stands says o caller number serves own history.log run.es (JobTaken client job) history.mine is run.events run.run
        in
        is-call o number job.work below (has-taken fits stands says o caller number serves (worker_of number run.es) client job agree).3.suits
