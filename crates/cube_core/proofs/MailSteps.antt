-- Each call on a mail, against the event that it is.
use Rattle.std.proofs.Common.{◌≡◌, ◌⊎◌, ◌∙◌, ℕ, zero, suc, ◌<◌, ◌==◌, Bool, true, false, true≢false, ◌||◌, List, [], ◌∷◌, ◌++◌, length, drop, get_or, set, replicate, Option, Some, None, inl, inr, refl, sym, ap, subst, arith, eqb-true, eq-eqb, ne_eqb, length-set, get_or-set_same, get_or-set_other}
use Rattle.std.proofs.lemmas.Bool.{false≢true, eqb-false}
use Rattle.std.proofs.lemmas.List.{map-append}
use Rattle.std.proofs.lemmas.Option.{none-some}
use Rattle.mail_cell.specs.declared.answer.Taken.{Taken}
use Rattle.mail_cell.specs.declared.answer.Taken.TheVariants.{Job, Empty, Closed}
use Rattle.mail_cell.specs.declared.answer.Fetched.{Fetched}
use Rattle.mail_cell.specs.declared.answer.Fetched.TheVariants.{Got, NotYet}
use Rattle.mail_cell.specs.declared.place.Post.{Post}
use Rattle.mail_cell.specs.declared.place.Place.{Place}
use Rattle.mail_cell.specs.declared.place.Place.TheVariants.{Idle, Waiting, Out, Answered}
use Rattle.mail_cell.specs.State.{MailState, mail_state, new_mail, place_of}
use Rattle.mail_cell.specs.Steps.{taken, fetched, without_answer, with_oldest_out, after_post, after_take, after_reply, after_fetch, after_close}
use Rattle.core_events.specs.Jobs.{CoreJob, JobOutcome}
use Rattle.core_events.specs.Events.{Opening, flusher, OnDesk, OnNames, CloseMail, NoChange, NoJob, Work, CoreEvent, By, At}
use Rattle.core_events.specs.Events as event
use Rattle.core_events.specs.Cells.{Letter, letter, queue_of, queue_after_post, queue_after_take, reply_for, reply_after_fetch, reply_after_reply, queue_after_move, WorkerState, Free, Took, Worked, worker_after, worker_of, is_mail_closed}
use Rattle.core_events.specs.Runs.{IsCoreRun, CallSays, IsOldest, MoveSays}
use Rattle.core_events.proofs.Places.{AreQueued, place}
use Rattle.core_events.specs.Histories.{last_after_post, last_post, has_letter_of, is_serving, job_served}
use Rattle.core_events.proofs.MayMails.{may-post, may-reply, no-letter}
use Rattle.core_events.proofs.Posted.{run-posted, served-is-last}
use Rattle.cube_core.specs.MailCells.{IsThere, HoldsOutcome, IsPlaceIn, letters_posted, IsMailOf, IsFetched, is_on_mail}

same_number : (n : ℕ) → (n == n) ≡ true
same_number n = eq-eqb n n refl

same-or-not : (a b : ℕ) → (a ≡ b) ⊎ (a ≡ b → ⊥)
same-or-not a b = at (a == b) refl
  where
    at : (c : Bool) → (a == b) ≡ c → (a ≡ b) ⊎ (a ≡ b → ⊥)
    at true is = inl (eqb-true a b is)
    at false is = inr (eqb-false a b is)

-- Which answer a mail gave.
module _ {A : Type 0} where
  abbrev is_got : Fetched A → Bool
  is_got (Got x) = true
  is_got NotYet = false

module _ {J : Type 0} where
  abbrev is_job : Taken J → Bool
  is_job (Job client job) = true
  is_job answer = false

  abbrev is_shut : Taken J → Bool
  is_shut Closed = true
  is_shut answer = false

-- A client's job stays where it is.
there-as : (queued served : Bool) (held : Option JobOutcome) (mail client : ℕ) (es later : List CoreEvent)
    → has_letter_of client (queue_of mail later) ≡ has_letter_of client (queue_of mail es)
    → is_serving client (worker_of mail later) ≡ is_serving client (worker_of mail es)
    → reply_for mail client later ≡ reply_for mail client es
    → IsThere queued served held mail client es → IsThere queued served held mail client later
there-as queued served held mail client es later l w r t = record { letter = l ∙ t.letter; worker = w ∙ t.worker; reply = r ∙ t.reply }

module _ {A : Type 0} (stands_for : CoreJob → A → JobOutcome → Type 0) where
  place-as : (p : Place A) (mail client : ℕ) (es later : List CoreEvent)
      → has_letter_of client (queue_of mail later) ≡ has_letter_of client (queue_of mail es)
      → is_serving client (worker_of mail later) ≡ is_serving client (worker_of mail es)
      → reply_for mail client later ≡ reply_for mail client es → last_post mail client later ≡ last_post mail client es
      → IsPlaceIn stands_for p mail client es → IsPlaceIn stands_for p mail client later
  place-as Idle mail client es later l w r a t = there-as false false None mail client es later l w r t
  place-as Waiting mail client es later l w r a t = there-as true false None mail client es later l w r t
  place-as Out mail client es later l w r a t = there-as false true None mail client es later l w r t
  place-as (Answered x) mail client es later l w r a t = record {
    job = t.job;
    outcome = t.outcome;
    asked = a ∙ t.asked;
    stands = t.stands;
    there = there-as false false (Some t.outcome) mail client es later l w r t.there;
  }

  -- The place of a client by where its job is.
  idle-place : (p : Place A) (mail client : ℕ) (es : List CoreEvent) → IsPlaceIn stands_for p mail client es
      → has_letter_of client (queue_of mail es) ≡ false → is_serving client (worker_of mail es) ≡ false → reply_for mail client es ≡ None → p ≡ Idle
  idle-place Idle mail client es t l w r = refl
  idle-place Waiting mail client es t l w r = absurd (true≢false (sym t.letter ∙ l))
  idle-place Out mail client es t l w r = absurd (true≢false (sym t.worker ∙ w))
  idle-place (Answered x) mail client es t l w r = absurd (none-some t.outcome (sym r ∙ t.there.reply))

  out-place : (p : Place A) (mail client : ℕ) (es : List CoreEvent) → IsPlaceIn stands_for p mail client es
      → is_serving client (worker_of mail es) ≡ true → p ≡ Out
  out-place Idle mail client es t w = absurd (false≢true (sym t.worker ∙ w))
  out-place Waiting mail client es t w = absurd (false≢true (sym t.worker ∙ w))
  out-place Out mail client es t w = refl
  out-place (Answered x) mail client es t w = absurd (false≢true (sym t.there.worker ∙ w))

  waiting-held : (p : Place A) (mail client : ℕ) (es : List CoreEvent) → IsPlaceIn stands_for p mail client es
      → has_letter_of client (queue_of mail es) ≡ true → reply_for mail client es ≡ None
  waiting-held Idle mail client es t l = absurd (false≢true (sym t.letter ∙ l))
  waiting-held Waiting mail client es t l = t.reply
  waiting-held Out mail client es t l = absurd (false≢true (sym t.letter ∙ l))
  waiting-held (Answered x) mail client es t l = absurd (false≢true (sym t.there.letter ∙ l))

  answered-there : (p : Place A) (x : A) (mail client : ℕ) (es : List CoreEvent) → fetched p ≡ Got x → IsPlaceIn stands_for p mail client es
      → HoldsOutcome stands_for x mail client es
  answered-there Idle x mail client es e t = absurd (false≢true (ap is_got e))
  answered-there Waiting x mail client es e t = absurd (false≢true (ap is_got e))
  answered-there Out x mail client es e t = absurd (false≢true (ap is_got e))
  answered-there (Answered y) x mail client es e t =
      record {
        job = t.job;
        outcome = t.outcome;
        asked = t.asked;
        stands = subst (λ (z : A). stands_for t.job z t.outcome) (ap (out y) e) t.stands;
        there = t.there;
      }
    where
      out : A → Fetched A → A
      out default (Got z) = z
      out default NotYet = default

-- Letters.

pub has-more : (client : ℕ) (queue : List Letter) (x : Letter) → has_letter_of client (queue ++ x ∷ []) ≡ (has_letter_of client queue || x.client == client)
has-more client [] x = or-none (x.client == client)
  where
    or-none : (b : Bool) → (b || false) ≡ b
    or-none true = refl
    or-none false = refl
has-more client (y ∷ queue) x =
    ap (λ b. y.client == client || b) (has-more client queue x)
    ∙ sym (or-assoc (y.client == client) (has_letter_of client queue) (x.client == client))
  where
    or-assoc : (a b c : Bool) → ((a || b) || c) ≡ (a || (b || c))
    or-assoc true b c = refl
    or-assoc false b c = refl

or-true : (b : Bool) → (b || true) ≡ true
or-true true = refl
or-true false = refl

or-false : (b : Bool) → (b || false) ≡ b
or-false true = refl
or-false false = refl

module _ {J A : Type 0} (job_of : J → CoreJob) (stands_for : CoreJob → A → JobOutcome → Type 0) where
  -- The places of all clients, where one has changed.
  places-set : (mail client : ℕ) (es : List CoreEvent) (places : List (Place A)) (p : Place A) (later : List CoreEvent)
      → (client < length places → IsPlaceIn stands_for p mail client later)
      → ((d : ℕ) → d < length places → (d ≡ client → ⊥) → IsPlaceIn stands_for (get_or places d Idle) mail d later)
      → (d : ℕ) → d < length (set places client p) → IsPlaceIn stands_for (get_or (set places client p) d Idle) mail d later
  places-set mail client es places p later own others d l =
      let low : d < length places = (let same = length-set places client p in omega (arith, l, same)) in
      elim (same-or-not d client) [
        | inl same ↦
            subst (λ (c : ℕ). IsPlaceIn stands_for (get_or (set places client p) c Idle) mail c later) (sym same)
            (subst (λ (q : Place A). IsPlaceIn stands_for q mail client later)
            (sym (get_or-set_same places client p Idle (subst (λ (c : ℕ). c < length places) same low)))
            (own (subst (λ (c : ℕ). c < length places) same low)))
        | inr other ↦
            subst (λ (q : Place A). IsPlaceIn stands_for q mail d later) (sym (get_or-set_other places client d p Idle other)) (others d low other)
      ]

  -- Post.

  last-other : (own : Bool) (job : CoreJob) (last : Option CoreJob) → own ≡ false → (here : Bool) → last_after_post here own job last ≡ last
  last-other true job last e here = absurd (true≢false e)
  last-other false job last e true = refl
  last-other false job last e false = refl

  pub posts : (o : Opening) (es : List CoreEvent) (mail client : ℕ) (job : J) (m : MailState J A)
      → IsCoreRun o (By client (event.Post mail (job_of job)) ∷ es) → IsMailOf job_of stands_for mail es m → client < length m.places
      → (place_of m client ≡ Idle) × IsMailOf job_of stands_for mail (By client (event.Post mail (job_of job)) ∷ es) (after_post m client job)
  posts o es mail client job m run f known =
      let free = may-post o client mail (job_of job) es run in
      let later = By client (event.Post mail (job_of job)) ∷ es in
      let queue : queue_of mail later ≡ queue_of mail es ++ letter client (job_of job) ∷ [] =
      ap (λ (b : Bool). queue_after_post b client (job_of job) (queue_of mail es)) (same_number mail)
      in
      let has = λ (d : ℕ). ap (has_letter_of d) queue ∙ has-more d (queue_of mail es) (letter client (job_of job)) in (
        idle-place stands_for (place_of m client) mail client es (f.places client known) free.letter free.worker free.reply,
        record {
          posted = map-append (λ (p : Post J). letter p.client (job_of p.job)) m.posted (record { client = client; job = job } ∷ [])
              ∙ ap (λ (q : List Letter). q ++ letter client (job_of job) ∷ []) f.posted
              ∙ sym queue;
          places = places-set mail client es m.places Waiting later
              (λ l. record {
                letter = has client ∙ ap (λ b. has_letter_of client (queue_of mail es) || b) (same_number client) ∙ or-true (has_letter_of client (queue_of mail es));
                worker = free.worker;
                reply = free.reply;
              })
              (λ d l other. place-as stands_for (place_of m d) mail d es later
              (has d ∙ ap (λ b. has_letter_of d (queue_of mail es) || b) (ne_eqb client d (λ same. other (sym same))) ∙ or-false (has_letter_of d (queue_of mail es)))
              refl refl (last-other (client == d) (job_of job) (last_post mail d es) (ne_eqb client d (λ same. other (sym same))) (mail == mail)) (f.places d l));
          closed = f.closed;
        },
      )

  -- Fetch.

  fetch-other : (own : Bool) (reply : Option JobOutcome) → own ≡ false → (here : Bool) → reply_after_fetch here own reply ≡ reply
  fetch-other true reply e here = absurd (true≢false e)
  fetch-other false reply e true = refl
  fetch-other false reply e false = refl

  pub fetches : (o : Opening) (es : List CoreEvent) (mail client : ℕ) (answer : A) (m : MailState J A)
      → IsMailOf job_of stands_for mail es m → client < length m.places → fetched (place_of m client) ≡ Got answer
      → IsFetched job_of stands_for o mail client answer es (after_fetch m client)
  fetches o es mail client answer m f known got =
      let held = answered-there stands_for (place_of m client) answer mail client es got (f.places client known) in
      let there = held.there in
      let later = By client (event.Fetch mail held.outcome) ∷ es in record {
        job = held.job;
        outcome = held.outcome;
        asked = held.asked;
        stands = held.stands;
        says = there.reply;
        is = record {
          posted = f.posted;
          places = subst (λ (p : Place A). (d : ℕ) → d < length (set m.places client p)
              → IsPlaceIn stands_for (get_or (set m.places client p) d Idle) mail d later)
              (sym (idle-after (place_of m client) got))
              (places-set mail client es m.places Idle later
              (λ l. record {
                letter = there.letter;
                worker = there.worker;
                reply = λ i. reply_after_fetch (same_number mail i) (same_number client i) (reply_for mail client es);
              })
              (λ d l other. place-as stands_for (place_of m d) mail d es later refl refl
              (fetch-other (client == d) (reply_for mail d es) (ne_eqb client d (λ same. other (sym same))) (mail == mail)) refl (f.places d l)));
          closed = f.closed;
        };
      }
    where
      idle-after : (p : Place A) → fetched p ≡ Got answer → without_answer p ≡ Idle
      idle-after (Answered y) e = refl
      idle-after Idle e = absurd (false≢true (ap is_got e))
      idle-after Waiting e = absurd (false≢true (ap is_got e))
      idle-after Out e = absurd (false≢true (ap is_got e))

  pub not-yet : (es : List CoreEvent) (mail client : ℕ) (m : MailState J A) → IsMailOf job_of stands_for mail es m → client < length m.places
      → fetched (place_of m client) ≡ NotYet → IsMailOf job_of stands_for mail (By client NoChange ∷ es) (after_fetch m client)
  not-yet es mail client m f known none = record {
    posted = f.posted;
    places = places-set mail client es m.places (without_answer (place_of m client)) (By client NoChange ∷ es)
        (λ l. place-as stands_for (without_answer (place_of m client)) mail client es (By client NoChange ∷ es) refl refl refl refl
        (subst (λ (p : Place A). IsPlaceIn stands_for p mail client es) (sym (same-after (place_of m client) none)) (f.places client known)))
        (λ d l other. place-as stands_for (place_of m d) mail d es (By client NoChange ∷ es) refl refl refl refl (f.places d l));
    closed = f.closed;
  } where
    same-after : (p : Place A) → fetched p ≡ NotYet → without_answer p ≡ p
    same-after (Answered y) e = absurd (true≢false (ap is_got e))
    same-after Idle e = refl
    same-after Waiting e = refl
    same-after Out e = refl

  -- Take.

  record IsFirstPost (posted : List (Post J)) (client : ℕ) (job : J) : Type 0 where
    rest : List (Post J)
    is : posted ≡ record { client = client; job = job } ∷ rest

  first-post : (posted : List (Post J)) (closed : Bool) (client : ℕ) (job : J) → taken posted closed ≡ Job client job → IsFirstPost posted client job
  first-post [] true client job e = absurd (false≢true (ap is_job e))
  first-post [] false client job e = absurd (false≢true (ap is_job e))
  first-post (p ∷ posted) closed client job e =
      record { rest = posted; is = λ i. record { client = ap (client_in p.client) e i; job = ap (job_in p.job) e i } ∷ posted }
    where
      client_in : ℕ → Taken J → ℕ
      client_in default (Job c j) = c
      client_in default answer = default

      job_in : J → Taken J → J
      job_in default (Job c j) = j
      job_in default answer = default

  pub takes : (o : Opening) (es : List CoreEvent) (mail client : ℕ) (job : J) (m : MailState J A)
      → IsCoreRun o es → worker_of mail es ≡ Free → IsMailOf job_of stands_for mail es m → taken m.posted m.closed ≡ Job client job
      → MoveSays o es mail (event.Take client (job_of job))
      × IsMailOf job_of stands_for mail (At mail (event.Take client (job_of job)) ∷ es) (after_take m)
  takes o es mail client job m run free f is =
      let first = first-post m.posted m.closed client job is in
      let later = At mail (event.Take client (job_of job)) ∷ es in
      let rest = letters_posted job_of first.rest in
      let whole : queue_of mail es ≡ letter client (job_of job) ∷ rest = sym f.posted ∙ ap (letters_posted job_of) first.is in
      let queue : queue_of mail later ≡ rest = ap (λ (b : Bool). queue_after_take b (queue_of mail es)) (same_number mail) ∙ ap (drop 1) whole in
      let worker : worker_of mail later ≡ Took client (job_of job) =
      ap (λ (b : Bool). worker_after b (event.Take client (job_of job)) (worker_of mail es)) (same_number mail)
      in
      let only = (coe 0 1 (i. AreQueued (λ c. place mail c es) (whole i)) ((run-posted o es run).posted mail).letters).0.only in
      let had : has_letter_of client (queue_of mail es) ≡ true = ap (has_letter_of client) whole ∙ ap (λ b. b || has_letter_of client rest) (same_number client) in (
        coe 1 0 (i. IsOldest client (job_of job) (whole i)) refl,
        subst (λ (posted : List (Post J)). IsMailOf job_of stands_for mail later (mail_state (drop 1 posted) (with_oldest_out posted m.places) m.closed))
            (sym first.is)
            (record {
              posted = sym queue;
              places = places-set mail client es m.places Out later
                  (λ l. record {
                    letter = ap (has_letter_of client) queue ∙ no-letter client rest only;
                    worker = ap (is_serving client) worker ∙ same_number client;
                    reply = waiting-held stands_for (place_of m client) mail client es (f.places client l) had;
                  })
                  (λ d l other.
                  let apart : (client == d) ≡ false = ne_eqb client d (λ same. other (sym same)) in
                  place-as stands_for (place_of m d) mail d es later
                  (ap (has_letter_of d) queue ∙ sym (ap (has_letter_of d) whole ∙ (λ i. apart i || has_letter_of d rest)))
                  (ap (is_serving d) worker ∙ apart ∙ sym (ap (is_serving d) free)) refl refl (f.places d l));
              closed = f.closed;
            }),
      )

  -- There is no job.

  none-posted : (posted : List (Post J)) (closed : Bool) → (taken posted closed ≡ Empty) ⊎ (taken posted closed ≡ Closed) → posted ≡ []
  none-posted [] closed e = refl
  none-posted (p ∷ posted) closed (inl e) = absurd (true≢false (ap is_job e))
  none-posted (p ∷ posted) closed (inr e) = absurd (true≢false (ap is_job e))

  empty-closed : (closed : Bool) → taken {J = J} [] closed ≡ Empty → closed ≡ false
  empty-closed false e = refl
  empty-closed true e = absurd (true≢false (ap is_shut e))

  shut-closed : (closed : Bool) → taken {J = J} [] closed ≡ Closed → closed ≡ true
  shut-closed true e = refl
  shut-closed false e = absurd (false≢true (ap is_shut e))

  no-job : (es : List CoreEvent) (mail : ℕ) (closed : Bool) (m : MailState J A) → IsMailOf job_of stands_for mail es m → m.posted ≡ []
      → IsMailOf job_of stands_for mail (At mail (NoJob closed) ∷ es) (after_take m)
  no-job es mail closed m f none =
      let later = At mail (NoJob closed) ∷ es in
      let worker : worker_of mail later ≡ worker_of mail es = ap (λ (b : Bool). worker_after b (NoJob closed) (worker_of mail es)) (same_number mail) in
      subst (λ (posted : List (Post J)). IsMailOf job_of stands_for mail later (mail_state (drop 1 posted) (with_oldest_out posted m.places) m.closed))
      (sym none)
      (record {
        posted = ap (letters_posted job_of) (sym none) ∙ f.posted;
        places = λ d l. place-as stands_for (place_of m d) mail d es later refl (ap (is_serving d) worker) refl refl (f.places d l);
        closed = f.closed;
      })

  pub none : (o : Opening) (es : List CoreEvent) (mail : ℕ) (m : MailState J A) → IsMailOf job_of stands_for mail es m
      → taken m.posted m.closed ≡ Empty
      → MoveSays o es mail (NoJob false) × IsMailOf job_of stands_for mail (At mail (NoJob false) ∷ es) (after_take m)
  none o es mail m f is =
      let empty = none-posted m.posted m.closed (inl is) in (
        (
          sym f.posted ∙ ap (letters_posted job_of) empty,
          sym (empty-closed m.closed (ap (λ (p : List (Post J)). taken p m.closed) (sym empty) ∙ is)) ∙ f.closed,
        ),
        no-job es mail false m f empty,
      )

  pub closed : (o : Opening) (es : List CoreEvent) (mail : ℕ) (m : MailState J A) → IsMailOf job_of stands_for mail es m
      → taken m.posted m.closed ≡ Closed
      → MoveSays o es mail (NoJob true) × IsMailOf job_of stands_for mail (At mail (NoJob true) ∷ es) (after_take m)
  closed o es mail m f is =
      let empty = none-posted m.posted m.closed (inr is) in (
        (
          sym f.posted ∙ ap (letters_posted job_of) empty,
          sym (shut-closed m.closed (ap (λ (p : List (Post J)). taken p m.closed) (sym empty) ∙ is)) ∙ f.closed,
        ),
        no-job es mail true m f empty,
      )

  -- Reply.

  reply-other : (own : Bool) (answer : JobOutcome) (reply : Option JobOutcome) → own ≡ false → (here : Bool) → reply_after_reply here own answer reply ≡ reply
  reply-other true answer reply e here = absurd (true≢false e)
  reply-other false answer reply e true = refl
  reply-other false answer reply e false = refl

  serves-one : (worker : WorkerState) (client d : ℕ) → is_serving client worker ≡ true → (d ≡ client → ⊥) → is_serving d worker ≡ false
  serves-one Free client d e other = refl
  serves-one (Took c job) client d e other = ne_eqb c d (λ same. other (sym same ∙ eqb-true c client e))
  serves-one (Worked c job answer) client d e other = ne_eqb c d (λ same. other (sym same ∙ eqb-true c client e))

  pub replies : (o : Opening) (es : List CoreEvent) (mail client : ℕ) (served : CoreJob) (answer : A) (outcome : JobOutcome)
      (m : MailState J A) → job_served (worker_of mail es) ≡ Some served → stands_for served answer outcome → IsCoreRun o (At mail (event.Reply client outcome) ∷ es) → IsMailOf job_of stands_for mail es m → client < length m.places
      → (place_of m client ≡ Out)
      × IsMailOf job_of stands_for mail (At mail (event.Reply client outcome) ∷ es) (after_reply m client answer)
  replies o es mail client served answer outcome m is stands run f known =
      let out = may-reply o mail client outcome es run in
      let later = At mail (event.Reply client outcome) ∷ es in
      let worker : worker_of mail later ≡ Free =
      ap (λ (b : Bool). worker_after b (event.Reply client outcome) (worker_of mail es)) (same_number mail)
      in (
        out-place stands_for (place_of m client) mail client es (f.places client known) out.worker,
        record {
          posted = f.posted;
          places = places-set mail client es m.places (Answered answer) later
              (λ l. record {
                job = served;
                outcome = outcome;
                asked = served-is-last o es mail client served run.0 out.worker is;
                stands = stands;
                there = record {
                  letter = out.letter;
                  worker = ap (is_serving client) worker;
                  reply = λ i. reply_after_reply (same_number mail i) (same_number client i) outcome (reply_for mail client es);
                };
              })
              (λ d l other. place-as stands_for (place_of m d) mail d es later refl
              (ap (is_serving d) worker ∙ sym (serves-one (worker_of mail es) client d out.worker other))
              (reply-other (client == d) outcome (reply_for mail d es) (ne_eqb client d (λ same. other (sym same))) (mail == mail)) refl (f.places d l));
          closed = f.closed;
        },
      )

  -- Close, and all that is not on the mail.

  pub closes : (es : List CoreEvent) (mail client : ℕ) (m : MailState J A) → IsMailOf job_of stands_for mail es m
      → IsMailOf job_of stands_for mail (By client (CloseMail mail) ∷ es) (after_close m)
  closes es mail client m f = record {
    posted = f.posted;
    places = λ d l. place-as stands_for (place_of m d) mail d es (By client (CloseMail mail) ∷ es) refl refl refl refl (f.places d l);
    closed = λ i. sym (same_number mail) i || is_mail_closed mail es;
  }

  as-before : (es later : List CoreEvent) (mail : ℕ) (m : MailState J A) → queue_of mail later ≡ queue_of mail es
      → ((d : ℕ) → is_serving d (worker_of mail later) ≡ is_serving d (worker_of mail es))
      → ((d : ℕ) → reply_for mail d later ≡ reply_for mail d es) → is_mail_closed mail later ≡ is_mail_closed mail es
      → ((d : ℕ) → last_post mail d later ≡ last_post mail d es)
      → IsMailOf job_of stands_for mail es m → IsMailOf job_of stands_for mail later m
  as-before es later mail m q w r c a f = record {
    posted = f.posted ∙ sym q;
    places = λ d l. place-as stands_for (place_of m d) mail d es later (ap (has_letter_of d) q) (w d) (r d) (a d) (f.places d l);
    closed = f.closed ∙ sym c;
  }

  fetch-elsewhere : (here own : Bool) (reply : Option JobOutcome) → here ≡ false → reply_after_fetch here own reply ≡ reply
  fetch-elsewhere true own reply e = absurd (true≢false e)
  fetch-elsewhere false own reply e = refl

  reply-elsewhere : (here own : Bool) (answer : JobOutcome) (reply : Option JobOutcome) → here ≡ false → reply_after_reply here own answer reply ≡ reply
  reply-elsewhere true own answer reply e = absurd (true≢false e)
  reply-elsewhere false own answer reply e = refl

  work-serves : (here : Bool) (d : ℕ) (job : CoreJob) (answer : JobOutcome) (worker : WorkerState)
      → is_serving d (worker_after here (Work job answer) worker) ≡ is_serving d worker
  work-serves true d job answer Free = refl
  work-serves true d job answer (Took c j) = refl
  work-serves true d job answer (Worked c j x) = refl
  work-serves false d job answer worker = refl

  work-queue : (here : Bool) (job : CoreJob) (answer : JobOutcome) (queue : List Letter) → queue_after_move here (Work job answer) queue ≡ queue
  work-queue true job answer queue = refl
  work-queue false job answer queue = refl

  pub others : (es : List CoreEvent) (mail : ℕ) (e : CoreEvent) (m : MailState J A) → is_on_mail mail e ≡ false
      → IsMailOf job_of stands_for mail es m → IsMailOf job_of stands_for mail (e ∷ es) m
  others es mail (By client (event.Post other job)) m off f =
      as-before es (By client (event.Post other job) ∷ es) mail m (λ i. queue_after_post (off i) client job (queue_of mail es)) (λ d. refl) (λ d. refl) refl (λ d i. last_after_post (off i) (client == d) job (last_post mail d es)) f
  others es mail (By client (event.Fetch other answer)) m off f =
      as-before es (By client (event.Fetch other answer) ∷ es) mail m refl (λ d. refl)
      (λ d. fetch-elsewhere (other == mail) (client == d) (reply_for mail d es) off) refl (λ d. refl) f
  others es mail (By client (CloseMail other)) m off f =
      as-before es (By client (CloseMail other) ∷ es) mail m refl (λ d. refl) (λ d. refl) (λ i. off i || is_mail_closed mail es) (λ d. refl) f
  others es mail (By client (OnDesk call)) m off f = as-before es (By client (OnDesk call) ∷ es) mail m refl (λ d. refl) (λ d. refl) refl (λ d. refl) f
  others es mail (By client (OnNames call)) m off f = as-before es (By client (OnNames call) ∷ es) mail m refl (λ d. refl) (λ d. refl) refl (λ d. refl) f
  others es mail (By client NoChange) m off f = as-before es (By client NoChange ∷ es) mail m refl (λ d. refl) (λ d. refl) refl (λ d. refl) f
  others es mail (At other (event.Take client job)) m off f =
      as-before es (At other (event.Take client job) ∷ es) mail m (λ i. queue_after_take (off i) (queue_of mail es))
      (λ d i. is_serving d (worker_after (off i) (event.Take client job) (worker_of mail es))) (λ d. refl) refl (λ d. refl) f
  others es mail (At other (NoJob closed)) m off f =
      as-before es (At other (NoJob closed) ∷ es) mail m (λ i. queue_after_move (off i) (NoJob closed) (queue_of mail es))
      (λ d i. is_serving d (worker_after (off i) (NoJob closed) (worker_of mail es))) (λ d. refl) refl (λ d. refl) f
  others es mail (At other (event.Reply client answer)) m off f =
      as-before es (At other (event.Reply client answer) ∷ es) mail m (λ i. queue_after_move (off i) (event.Reply client answer) (queue_of mail es))
      (λ d i. is_serving d (worker_after (off i) (event.Reply client answer) (worker_of mail es)))
      (λ d. reply-elsewhere (other == mail) (client == d) answer (reply_for mail d es) off) refl (λ d. refl) f
  others es mail (At other (Work job answer)) m off f =
      as-before es (At other (Work job answer) ∷ es) mail m (work-queue (other == mail) job answer (queue_of mail es))
      (λ d. work-serves (other == mail) d job answer (worker_of mail es)) (λ d. refl) refl (λ d. refl) f

  -- A new mail.

  new-place : (clients client : ℕ) → get_or {A = Place A} (replicate clients Idle) client Idle ≡ Idle
  new-place zero client = refl
  new-place (suc n) zero = refl
  new-place (suc n) (suc client) = new-place n client

  pub opens : (mail clients : ℕ) → IsMailOf job_of stands_for mail [] (new_mail clients)
  opens mail clients = record {
    posted = refl;
    places = λ d l. subst (λ (p : Place A). IsPlaceIn stands_for p mail d []) (sym (new-place clients d)) (record { letter = refl; worker = refl; reply = refl });
    closed = refl;
  }
