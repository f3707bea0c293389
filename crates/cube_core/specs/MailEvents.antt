-- Which event of the core a call on a mail is, with its answer, which calls fit, and when a mail is what events have
-- made of it. A job of the mail is one job of the core; an answer stands for outcomes.
-- Source: this project's own.
use Rattle.std.specs.Prelude.{◌≡◌, ℕ, ◌+◌, ◌<◌, ◌≤◌, ◌==◌, true, false, List, ◌∷◌, length, Option, Some, if◌then◌else◌}
use Rattle.mail_cell.specs.declared.answer.Fetched.TheVariants.{Got, NotYet}
use Rattle.mail_cell.specs.declared.answer.Taken.TheVariants.{Job, Empty, Closed}
use Rattle.mail_cell.specs.State.{MailState}
use Rattle.core_cells.specs.declared.mail.MailCall.{MailCall}
use Rattle.core_cells.specs.declared.mail.MailCall.TheVariants as call
use Rattle.core_cells.specs.declared.mail.MailAnswer.{MailAnswer}
use Rattle.core_cells.specs.declared.mail.MailAnswer.TheVariants as answer
use Rattle.core_events.specs.Cells.{Free, worker_of}
use Rattle.core_events.specs.Clients.{client_state}
use Rattle.core_events.specs.Events.{Opening, flush_mail, Post, Fetch, CloseMail, NoChange, Take, NoJob, Reply, CoreEvent, By, At}
use Rattle.core_events.specs.Fitting.{FitsCall, FitsMove}
use Rattle.core_events.specs.Jobs.{CoreJob, JobOutcome}
use Rattle.core_events.specs.Runs.{IsCoreRun}
use Rattle.core_events.specs.Histories.{last_post, job_served}
use Rattle.cube_core.specs.MailCells.{IsMailOf}

-- How many clients a mail has: main and the sessions, and at a shard's mail the flusher.
abbrev pub clients_of : Opening → ℕ → ℕ
clients_of o mail = if mail == flush_mail o then o.sessions + 1 else o.sessions + 2

-- A call's or a move's event fits what whoever makes it knows.
abbrev pub FitsEvent : Opening → List CoreEvent → CoreEvent → Type 0
FitsEvent o es (By client call) = FitsCall o client call (client_state o client es)
FitsEvent o es (At mail move) = (mail ≤ o.shards) × FitsMove o es mail move

module _ {A : Type 0} (stands_for : CoreJob → A → JobOutcome → Type 0) where
  -- An event that hands on the outcome of a job, for which an answer stands.
  pub record HandsOn (job : Option CoreJob) (said : A) (event_of : JobOutcome → CoreEvent) (event : CoreEvent)
      : Type 0 where
    pub of : CoreJob
    pub outcome : JobOutcome
    pub asked : job ≡ Some of
    pub stands : stands_for of said outcome
    pub is : event ≡ event_of outcome

module _ {J A : Type 0} (job_of : J → CoreJob) (stands_for : CoreJob → A → JobOutcome → Type 0) where
  -- The event is a call with its answer. The outcome of a reply is that of the worker's job, and of a fetch that of the
  -- client's last.
  abbrev pub IsMailEvent : List CoreEvent → ℕ → MailCall J A → MailAnswer J A → CoreEvent → Type 0
  IsMailEvent es mail (call.Post client job) answer.Done event = event ≡ By client (Post mail (job_of job))
  IsMailEvent es mail call.Take (answer.Taken (Job client job)) event = event ≡ At mail (Take client (job_of job))
  IsMailEvent es mail call.Take (answer.Taken Empty) event = event ≡ At mail (NoJob false)
  IsMailEvent es mail call.Take (answer.Taken Closed) event = event ≡ At mail (NoJob true)
  IsMailEvent es mail (call.Reply client said) answer.Done event =
      HandsOn stands_for (job_served (worker_of mail es)) said (λ outcome. At mail (Reply client outcome)) event
  IsMailEvent es mail (call.Fetch client) (answer.Fetched (Got said)) event =
      HandsOn stands_for (last_post mail client es) said (λ outcome. By client (Fetch mail outcome)) event
  IsMailEvent es mail (call.Fetch client) (answer.Fetched NotYet) event = event ≡ By client NoChange
  IsMailEvent es mail call.Close answer.Done event = event ≡ By 0 (CloseMail mail)
  IsMailEvent es mail call answer event = ⊥

  -- A reply is of an outcome of the worker's job, for which it stands.
  pub record MayReply (o : Opening) (es : List CoreEvent) (mail client : ℕ) (said : A) : Type 0 where
    pub job : CoreJob
    pub outcome : JobOutcome
    pub serves : job_served (worker_of mail es) ≡ Some job
    pub stands : stands_for job said outcome
    pub fits : FitsEvent o es (At mail (Reply client outcome))

  -- Whoever fetches is one of the mail's clients and waits for an outcome, whatever it is.
  pub record MayFetch (o : Opening) (es : List CoreEvent) (mail client : ℕ) : Type 0 where
    pub known : client < clients_of o mail
    pub fits : (outcome : JobOutcome) → FitsEvent o es (By client (Fetch mail outcome))

  -- The worker of the mail has no job.
  pub record MayTake (o : Opening) (es : List CoreEvent) (mail : ℕ) : Type 0 where
    pub there : mail ≤ o.shards
    pub free : worker_of mail es ≡ Free

  -- A call fits where its event does. Main alone closes.
  abbrev pub FitsMailCall : Opening → List CoreEvent → ℕ → MailCall J A → Type 0
  FitsMailCall o es mail (call.Post client job) = FitsEvent o es (By client (Post mail (job_of job)))
  FitsMailCall o es mail call.Take = MayTake o es mail
  FitsMailCall o es mail (call.Reply client said) = MayReply o es mail client said
  FitsMailCall o es mail (call.Fetch client) = MayFetch o es mail client
  FitsMailCall o es mail call.Close = Unit {0}

  -- A mail is what events have made of it, and has its clients.
  pub record IsMailCellOf (o : Opening) (mail : ℕ) (es : List CoreEvent) (m : MailState J A) : Type 0 where
    pub of : IsMailOf job_of stands_for mail es m
    pub clients : length m.places ≡ clients_of o mail

  -- A call with its answer is an event with which the run goes on, and the mail is then what events have made of it.
  pub record IsMailLinked (o : Opening) (mail : ℕ) (call : MailCall J A) (answer : MailAnswer J A) (es : List CoreEvent)
      (new : MailState J A) : Type 0 where
    pub event : CoreEvent
    pub of : IsMailEvent es mail call answer event
    pub run : IsCoreRun o (event ∷ es)
    pub stands : IsMailCellOf o mail (event ∷ es) new
