-- When a mail, as contracts see it, is what events have made of it. Its jobs may be of any type: each is one job of
-- the core. So may its answers: by its job, each stands for one outcome or for several, as the partial result of a
-- query does for many lists of rows.
-- Source: this project's own.
use Rattle.std.specs.Prelude.{◌≡◌, ℕ, ◌<◌, ◌==◌, Bool, true, false, List, ◌∷◌, map, length, Option, Some, None}
use Rattle.mail_cell.specs.declared.place.Post.{Post}
use Rattle.mail_cell.specs.declared.place.Place.{Place}
use Rattle.mail_cell.specs.declared.place.Place.TheVariants.{Idle, Waiting, Out, Answered}
use Rattle.mail_cell.specs.State.{MailState, place_of}
use Rattle.core_events.specs.Jobs.{CoreJob, JobOutcome}
use Rattle.core_events.specs.Events.{Opening, CoreEvent, By, At}
use Rattle.core_events.specs.Events as event
use Rattle.core_events.specs.Cells.{Letter, letter, queue_of, reply_for, worker_of, is_mail_closed}
use Rattle.core_events.specs.Runs.{CallSays}
use Rattle.core_events.specs.Histories.{last_post, has_letter_of, is_serving}

-- Where a client's job is by the events: its letter is in the queue or not, its worker serves it or not, and the mail
-- holds an answer for it or none.
pub record IsThere (queued served : Bool) (held : Option JobOutcome) (mail client : ℕ) (es : List CoreEvent)
    : Type 0 where
  pub letter : has_letter_of client (queue_of mail es) ≡ queued
  pub worker : is_serving client (worker_of mail es) ≡ served
  pub reply : reply_for mail client es ≡ held

module _ {A : Type 0} (stands_for : CoreJob → A → JobOutcome → Type 0) where
  -- The mail holds an outcome of the client's last job, for which the answer stands.
  pub record HoldsOutcome (answer : A) (mail client : ℕ) (es : List CoreEvent) : Type 0 where
    pub job : CoreJob
    pub outcome : JobOutcome
    pub asked : last_post mail client es ≡ Some job
    pub stands : stands_for job answer outcome
    pub there : IsThere false false (Some outcome) mail client es

  -- What a client's place says of this.
  abbrev pub IsPlaceIn : Place A → ℕ → ℕ → List CoreEvent → Type 0
  IsPlaceIn Idle mail client es = IsThere false false None mail client es
  IsPlaceIn Waiting mail client es = IsThere true false None mail client es
  IsPlaceIn Out mail client es = IsThere false true None mail client es
  IsPlaceIn (Answered answer) mail client es = HoldsOutcome answer mail client es

module _ {J : Type 0} (job_of : J → CoreJob) where
  abbrev pub letters_posted : List (Post J) → List Letter
  letters_posted posted = map (λ (p : Post J). letter p.client (job_of p.job)) posted

pub record IsMailOf {J A : Type 0} (job_of : J → CoreJob) (stands_for : CoreJob → A → JobOutcome → Type 0) (mail : ℕ)
    (es : List CoreEvent) (m : MailState J A) : Type 0 where
  pub posted : letters_posted job_of m.posted ≡ queue_of mail es
  pub places : (client : ℕ) → client < length m.places → IsPlaceIn stands_for (place_of m client) mail client es
  pub closed : m.closed ≡ is_mail_closed mail es

-- A client's fetch gives an outcome of its last job, for which its answer stands, and the mail is then what that event
-- makes of it.
pub record IsFetched {J A : Type 0} (job_of : J → CoreJob) (stands_for : CoreJob → A → JobOutcome → Type 0)
    (o : Opening) (mail client : ℕ) (answer : A) (es : List CoreEvent) (m : MailState J A) : Type 0 where
  pub job : CoreJob
  pub outcome : JobOutcome
  pub asked : last_post mail client es ≡ Some job
  pub stands : stands_for job answer outcome
  pub says : CallSays o es client (event.Fetch mail outcome)
  pub is : IsMailOf job_of stands_for mail (By client (event.Fetch mail outcome) ∷ es) m

-- The event is a call on the mail.
abbrev pub is_on_mail : ℕ → CoreEvent → Bool
is_on_mail mail (By client (event.Post other job)) = other == mail
is_on_mail mail (By client (event.Fetch other answer)) = other == mail
is_on_mail mail (By client (event.CloseMail other)) = other == mail
is_on_mail mail (By client call) = false
is_on_mail mail (At other (event.Take client job)) = other == mail
is_on_mail mail (At other (event.NoJob closed)) = other == mail
is_on_mail mail (At other (event.Reply client answer)) = other == mail
is_on_mail mail (At other move) = false
