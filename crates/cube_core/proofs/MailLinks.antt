-- Each call on a mail, against the event that it is.
use Rattle.std.proofs.Common.{◌≡◌, ◌∙◌, ℕ, ◌<◌, Bool, true, false, List, [], ◌∷◌, length, refl, sym, subst, arith, length-set}
use Rattle.mail_cell.specs.declared.answer.Fetched.{Fetched}
use Rattle.mail_cell.specs.declared.answer.Fetched.TheVariants.{Got, NotYet}
use Rattle.mail_cell.specs.declared.answer.Taken.{Taken}
use Rattle.mail_cell.specs.declared.answer.Taken.TheVariants.{Job, Empty, Closed}
use Rattle.mail_cell.specs.declared.place.Place.{Place}
use Rattle.mail_cell.specs.declared.place.Place.TheVariants.{Waiting, Out, Answered}
use Rattle.mail_cell.specs.declared.place.Post.{Post as Letter}
use Rattle.mail_cell.specs.State.{MailState, place_of}
use Rattle.mail_cell.specs.Steps.{taken, fetched, with_oldest_out, without_answer, after_take, after_fetch}
use Rattle.core_cells.specs.MailCalls.{CanCallMail, MailStep}
use Rattle.core_cells.specs.declared.mail.MailCall.{MailCall}
use Rattle.core_cells.specs.declared.mail.MailCall.TheVariants as call
use Rattle.core_cells.specs.declared.mail.MailAnswer.{MailAnswer}
use Rattle.core_cells.specs.declared.mail.MailAnswer.TheVariants as answer
use Rattle.core_events.specs.Cells.{WorkerState, Free, worker_of}
use Rattle.core_events.specs.Clients.{client_state}
use Rattle.core_events.specs.Events.{Opening, flusher, Post, Fetch, CloseMail, NoChange, Take, NoJob, Reply, CoreEvent, By, At}
use Rattle.core_events.specs.Fitting.{FitsWork, RoundProgress, round_progress}
use Rattle.core_events.specs.Jobs.{CoreJob, JobOutcome}
use Rattle.core_events.specs.Runs.{IsCoreRun}
use Rattle.cube_core.specs.MailCells.{IsMailOf, is_on_mail}
use Rattle.cube_core.proofs.MailSteps as mail
use Rattle.core_events.proofs.MayMails.{may-reply}
use Rattle.cube_core.specs.MailEvents.{clients_of, FitsMailCall, IsMailCellOf, IsMailLinked}
use Rattle.cube_core.proofs.KnownClients.{bearer-known, known}

-- A worker without a job may take one, or find none.
free-takes : (q : RoundProgress) (lost : Bool) (w : WorkerState) (client : ℕ) (job : CoreJob) → w ≡ Free → FitsWork q lost w (Take client job)
free-takes q lost w client job free = coe 1 0 (i. FitsWork q lost (free i) (Take client job)) tt

free-finds : (q : RoundProgress) (lost : Bool) (w : WorkerState) (closed : Bool) → w ≡ Free → FitsWork q lost w (NoJob closed)
free-finds q lost w closed free = coe 1 0 (i. FitsWork q lost (free i) (NoJob closed)) tt

module _ {J A : Type 0} (job_of : J → CoreJob) (stands_for : CoreJob → A → JobOutcome → Type 0) where
  -- A client of the mail has a place in it.
  placed : (o : Opening) (n client : ℕ) (es : List CoreEvent) (m : MailState J A) → IsMailCellOf job_of stands_for o n es m
      → client < clients_of o n → client < length m.places
  placed o n client es m stand below = let count = stand.clients in omega (arith, below, count)

  post-run : (o : Opening) (n client : ℕ) (job : J) (es : List CoreEvent) → IsCoreRun o es
      → FitsMailCall job_of stands_for o es n (call.Post client job) → IsCoreRun o (By client (Post n (job_of job)) ∷ es)
  post-run o n client job es run may = (run, record { fits = may; says = tt })

  post-known : (o : Opening) (n client : ℕ) (job : J) (es : List CoreEvent) → FitsMailCall job_of stands_for o es n (call.Post client job)
      → client < clients_of o n
  post-known o n client job es may = bearer-known o n client (job_of job) (client_state o client es) may.goes may.bears

  reply-run : (o : Opening) (n client : ℕ) (said : A) (es : List CoreEvent) → IsCoreRun o es
      → (may : FitsMailCall job_of stands_for o es n (call.Reply client said)) → IsCoreRun o (At n (Reply client may.outcome) ∷ es)
  reply-run o n client said es run may = (run, record { there = may.fits.0; fits = may.fits.1; says = tt })

  reply-known : (o : Opening) (n client : ℕ) (said : A) (es : List CoreEvent) → IsCoreRun o es
      → FitsMailCall job_of stands_for o es n (call.Reply client said) → client < clients_of o n
  reply-known o n client said es run may =
      (known o n es run).serving client (may-reply o n client may.outcome es (reply-run o n client said es run may)).worker

  -- The mail can take a call that fits.
  pub can : (o : Opening) (n : ℕ) (c : MailCall J A) (es : List CoreEvent) (m : MailState J A) → IsCoreRun o es
      → FitsMailCall job_of stands_for o es n c → IsMailCellOf job_of stands_for o n es m → CanCallMail m c
  can o n (call.Post client job) es m run may stand =
      let below = placed o n client es m stand (post-known o n client job es may) in
      (below, (mail.posts job_of stands_for o es n client job m (post-run o n client job es run may) stand.of below).0)
  can o n call.Take es m run may stand = tt
  can o n (call.Reply client said) es m run may stand =
      let below = placed o n client es m stand (reply-known o n client said es run may) in
      (below, (mail.replies job_of stands_for o es n client may.job said may.outcome m may.serves may.stands (reply-run o n client said es run may) stand.of below).0)
  can o n (call.Fetch client) es m run may stand = placed o n client es m stand may.known
  can o n call.Close es m run may stand = tt

  out-length : (posted : List (Letter J)) (places : List (Place A)) → length (with_oldest_out posted places) ≡ length places
  out-length [] places = refl
  out-length (p ∷ posted) places = length-set places p.client Out

  after-taking : (o : Opening) (n : ℕ) (event : CoreEvent) (es : List CoreEvent) (m new : MailState J A) → new ≡ after_take m
      → IsMailCellOf job_of stands_for o n es m → IsMailOf job_of stands_for n (event ∷ es) (after_take m)
      → IsMailCellOf job_of stands_for o n (event ∷ es) new
  after-taking o n event es m new is stand next =
      subst (λ (x : MailState J A). IsMailCellOf job_of stands_for o n (event ∷ es) x) (sym is)
      (record { of = next; clients = out-length m.posted m.places ∙ stand.clients })

  take-step : (o : Opening) (n : ℕ) (got : Taken J) (es : List CoreEvent) (m new : MailState J A) → IsCoreRun o es
      → FitsMailCall job_of stands_for o es n call.Take → IsMailCellOf job_of stands_for o n es m
      → taken m.posted m.closed ≡ got → new ≡ after_take m
      → IsMailLinked job_of stands_for o n call.Take (answer.Taken got) es new
  take-step o n (Job client job) es m new run may stand is after =
      let fits = free-takes (round_progress o es) (client_state o (flusher o) es).store_lost (worker_of n es) client (job_of job) may.free in
      let step = mail.takes job_of stands_for o es n client job m run may.free stand.of is in record {
        event = At n (Take client (job_of job));
        of = refl;
        run = (run, record { there = may.there; fits = fits; says = step.0 });
        stands = after-taking o n (At n (Take client (job_of job))) es m new after stand step.1;
      }
  take-step o n Empty es m new run may stand is after =
      let fits = free-finds (round_progress o es) (client_state o (flusher o) es).store_lost (worker_of n es) false may.free in
      let step = mail.none job_of stands_for o es n m stand.of is in record {
        event = At n (NoJob false);
        of = refl;
        run = (run, record { there = may.there; fits = fits; says = step.0 });
        stands = after-taking o n (At n (NoJob false)) es m new after stand step.1;
      }
  take-step o n Closed es m new run may stand is after =
      let fits = free-finds (round_progress o es) (client_state o (flusher o) es).store_lost (worker_of n es) true may.free in
      let step = mail.closed job_of stands_for o es n m stand.of is in record {
        event = At n (NoJob true);
        of = refl;
        run = (run, record { there = may.there; fits = fits; says = step.0 });
        stands = after-taking o n (At n (NoJob true)) es m new after stand step.1;
      }

  fetch-length : (m : MailState J A) (client : ℕ) → length (after_fetch m client).places ≡ length m.places
  fetch-length m client = length-set m.places client (without_answer (place_of m client))

  fetch-step : (o : Opening) (n client : ℕ) (got : Fetched A) (es : List CoreEvent) (m new : MailState J A) → IsCoreRun o es
      → FitsMailCall job_of stands_for o es n (call.Fetch client) → IsMailCellOf job_of stands_for o n es m
      → fetched (place_of m client) ≡ got → new ≡ after_fetch m client
      → IsMailLinked job_of stands_for o n (call.Fetch client) (answer.Fetched got) es new
  fetch-step o n client (Got said) es m new run may stand is after =
      let below = placed o n client es m stand may.known in
      let step = mail.fetches job_of stands_for o es n client said m stand.of below is in record {
        event = By client (Fetch n step.outcome);
        of = record { of = step.job; outcome = step.outcome; asked = step.asked; stands = step.stands; is = refl };
        run = (run, record { fits = may.fits step.outcome; says = step.says });
        stands = subst (λ (x : MailState J A). IsMailCellOf job_of stands_for o n (By client (Fetch n step.outcome) ∷ es) x) (sym after)
            (record { of = step.is; clients = fetch-length m client ∙ stand.clients });
      }
  fetch-step o n client NotYet es m new run may stand is after =
      let below = placed o n client es m stand may.known in record {
        event = By client NoChange;
        of = refl;
        run = (run, record { fits = tt; says = tt });
        stands = subst (λ (x : MailState J A). IsMailCellOf job_of stands_for o n (By client NoChange ∷ es) x) (sym after)
            (record { of = mail.not-yet job_of stands_for es n client m stand.of below is; clients = fetch-length m client ∙ stand.clients });
      }

  pub steps : (o : Opening) (n : ℕ) (c : MailCall J A) (said : MailAnswer J A) (es : List CoreEvent) (m new : MailState J A)
      → IsCoreRun o es → FitsMailCall job_of stands_for o es n c → IsMailCellOf job_of stands_for o n es m → MailStep m c said new
      → IsMailLinked job_of stands_for o n c said es new
  steps o n (call.Post client job) answer.Done es m new run may stand step =
      let next = post-run o n client job es run may in
      let below = placed o n client es m stand (post-known o n client job es may) in record {
        event = By client (Post n (job_of job));
        of = refl;
        run = next;
        stands = subst (λ (x : MailState J A). IsMailCellOf job_of stands_for o n (By client (Post n (job_of job)) ∷ es) x) (sym step)
            (record {
              of = (mail.posts job_of stands_for o es n client job m next stand.of below).1;
              clients = length-set m.places client Waiting ∙ stand.clients;
            });
      }
  steps o n call.Take (answer.Taken got) es m new run may stand step = take-step o n got es m new run may stand (sym step.0) step.1
  steps o n (call.Reply client x) answer.Done es m new run may stand step =
      let next = reply-run o n client x es run may in
      let below = placed o n client es m stand (reply-known o n client x es run may) in record {
        event = At n (Reply client may.outcome);
        of = record { of = may.job; outcome = may.outcome; asked = may.serves; stands = may.stands; is = refl };
        run = next;
        stands = subst (λ (y : MailState J A). IsMailCellOf job_of stands_for o n (At n (Reply client may.outcome) ∷ es) y) (sym step)
            (record {
              of = (mail.replies job_of stands_for o es n client may.job x may.outcome m may.serves may.stands next stand.of below).1;
              clients = length-set m.places client (Answered x) ∙ stand.clients;
            });
      }
  steps o n (call.Fetch client) (answer.Fetched got) es m new run may stand step =
      fetch-step o n client got es m new run may stand (sym step.0) step.1
  steps o n call.Close answer.Done es m new run may stand step = record {
    event = By 0 (CloseMail n);
    of = refl;
    run = (run, record { fits = refl; says = tt });
    stands = subst (λ (x : MailState J A). IsMailCellOf job_of stands_for o n (By 0 (CloseMail n) ∷ es) x) (sym step)
        (record { of = mail.closes job_of stands_for es n 0 m stand.of; clients = stand.clients });
  }
  steps o n c said es m new run may stand step = absurd step

  pub others : (o : Opening) (n : ℕ) (event : CoreEvent) (es : List CoreEvent) (m : MailState J A) → is_on_mail n event ≡ false
      → IsMailCellOf job_of stands_for o n es m → IsMailCellOf job_of stands_for o n (event ∷ es) m
  others o n event es m off stand = record { of = mail.others job_of stands_for es n event m off stand.of; clients = stand.clients }
