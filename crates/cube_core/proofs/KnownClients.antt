-- Whoever has a job in a mail's queue or at its worker is one of the mail's clients.
use Rattle.std.proofs.Common.{◌≡◌, ◌⊎◌, ◌∙◌, ℕ, ◌+◌, ◌<◌, ◌≤◌, ◌==◌, Bool, true, false, ◌||◌, List, [], ◌∷◌, drop, inl, inr, refl, sym, ap, subst, arith, eqb-true, ne_eqb, if◌then◌else◌}
use Rattle.std.proofs.lemmas.Bool.{false≢true}
use Rattle.core_events.specs.Cells.{Letter, letter, queue_of, queue_after_post, queue_after_take, queue_after_move, WorkerState, Free, Took, Worked, worker_after, worker_of}
use Rattle.core_events.specs.Clients.{ClientState, client_state}
use Rattle.core_events.specs.Events.{Opening, flusher, flush_mail, OnDesk, OnNames, Post, Fetch, CloseMail, NoChange, WorkerMove, Take, NoJob, Work, Reply, CoreEvent, By, At}
use Rattle.core_events.specs.Fitting.{Bears, IsFor}
use Rattle.core_events.specs.Jobs.{CoreJob, Append, DropBox, Scan, Delta, Rollback, Purge, CopyRound, Flush}
use Rattle.core_events.specs.Runs.{IsCoreRun, IsOldest}
use Rattle.core_events.specs.Histories.{has_letter_of, is_serving}
use Rattle.cube_core.proofs.MailSteps.{has-more}
use Rattle.cube_core.specs.MailEvents.{clients_of}

or-is : (a b : Bool) → (a || b) ≡ true → (a ≡ true) ⊎ (b ≡ true)
or-is true b e = inl refl
or-is false b e = inr e

-- A session is a client of each mail, the flusher of each shard's.
at-least : (t : Bool) (n : ℕ) → n + 1 ≤ (if t then n + 1 else n + 2)
at-least true n = omega arith
at-least false n = omega arith

session-known : (o : Opening) (mail client : ℕ) → client ≤ o.sessions → client < clients_of o mail
session-known o mail client last = let least = at-least (mail == flush_mail o) o.sessions in omega (arith, last, least)

flusher-known : (o : Opening) (mail client : ℕ) → mail < o.shards → client ≡ flusher o → client < clients_of o mail
flusher-known o mail client below is =
    let count : clients_of o mail ≡ o.sessions + 2 =
    ap (λ (t : Bool). if t then o.sessions + 1 else o.sessions + 2) (ne_eqb mail o.shards (λ same. omega (arith, below, same)))
    in
    omega (arith, is, count)

pub bearer-known : (o : Opening) (mail client : ℕ) (job : CoreJob) (k : ClientState) → IsFor o mail job → Bears o client mail job k
    → client < clients_of o mail
bearer-known o mail client (Append cube epoch rows) k goes bears = session-known o mail client bears.session.last
bearer-known o mail client (DropBox cube epoch box) k goes bears = session-known o mail client bears.session.last
bearer-known o mail client (Scan query snapshot) k goes bears = session-known o mail client bears.session.last
bearer-known o mail client (Delta query from to) k goes bears = session-known o mail client bears.session.last
bearer-known o mail client (Rollback epoch) k goes bears = session-known o mail client bears.0.last
bearer-known o mail client (Purge epoch) k goes bears = session-known o mail client bears.0
bearer-known o mail client (CopyRound from to) k goes bears = flusher-known o mail client goes bears.0
bearer-known o mail client Flush k goes bears = session-known o mail client bears.last

pub record AreKnown (o : Opening) (mail : ℕ) (es : List CoreEvent) : Type 0 where
  pub letters : (c : ℕ) → has_letter_of c (queue_of mail es) ≡ true → c < clients_of o mail
  pub serving : (c : ℕ) → is_serving c (worker_of mail es) ≡ true → c < clients_of o mail

after-post : (here : Bool) (o : Opening) (mail a : ℕ) (job : CoreJob) (queue : List Letter)
    → (here ≡ true → a < clients_of o mail) → ((c : ℕ) → has_letter_of c queue ≡ true → c < clients_of o mail)
    → (c : ℕ) → has_letter_of c (queue_after_post here a job queue) ≡ true → c < clients_of o mail
after-post true o mail a job queue own known c has =
    elim (or-is (has_letter_of c queue) (a == c) (sym (has-more c queue (letter a job)) ∙ has)) [
      | inl there ↦ known c there
      | inr same ↦ subst (λ (n : ℕ). n < clients_of o mail) (eqb-true a c same) (own refl)
    ]
after-post false o mail a job queue own known c has = known c has

has-rest : (c : ℕ) (queue : List Letter) → has_letter_of c (drop 1 queue) ≡ true → has_letter_of c queue ≡ true
has-rest c [] has = has
has-rest c (x ∷ queue) has = ap (λ (b : Bool). x.client == c || b) has ∙ or-true (x.client == c)
  where
    or-true : (b : Bool) → (b || true) ≡ true
    or-true true = refl
    or-true false = refl

after-take : (here : Bool) (c : ℕ) (queue : List Letter) → has_letter_of c (queue_after_take here queue) ≡ true → has_letter_of c queue ≡ true
after-take true c queue has = has-rest c queue has
after-take false c queue has = has

after-move : (here : Bool) (c : ℕ) (move : WorkerMove) (queue : List Letter) → has_letter_of c (queue_after_move here move queue) ≡ true
    → has_letter_of c queue ≡ true
after-move here c (Take client job) queue has = after-take here c queue has
after-move here c (NoJob closed) queue has = has
after-move here c (Work job said) queue has = has
after-move here c (Reply client said) queue has = has

oldest-has : (client c : ℕ) (job : CoreJob) (queue : List Letter) → IsOldest client job queue → (client == c) ≡ true → has_letter_of c queue ≡ true
oldest-has client c job [] oldest is = absurd oldest
oldest-has client c job (x ∷ queue) oldest is = λ i. (ap (λ (l : Letter). l.client == c) oldest ∙ is) i || has_letter_of c queue

-- The worker serves whom it served, or whose letter it took.
after-own : (here : Bool) (c : ℕ) (move : WorkerMove) (worker : WorkerState) (queue : List Letter)
    → ((client : ℕ) (job : CoreJob) → here ≡ true → move ≡ Take client job → IsOldest client job queue)
    → is_serving c (worker_after here move worker) ≡ true → (is_serving c worker ≡ true) ⊎ (has_letter_of c queue ≡ true)
after-own true c (Take client job) worker queue oldest serves = inr (oldest-has client c job queue (oldest client job refl refl) serves)
after-own true c (NoJob closed) worker queue oldest serves = inl serves
after-own true c (Work job said) Free queue oldest serves = inl serves
after-own true c (Work job said) (Took client other) queue oldest serves = inl serves
after-own true c (Work job said) (Worked client other old) queue oldest serves = inl serves
after-own true c (Reply client said) worker queue oldest serves = absurd (false≢true serves)
after-own false c move worker queue oldest serves = inl serves

oldest-at : (o : Opening) (mail other : ℕ) (move : WorkerMove) (es : List CoreEvent) → IsCoreRun o (At other move ∷ es)
    → (client : ℕ) (job : CoreJob) → (other == mail) ≡ true → move ≡ Take client job → IsOldest client job (queue_of mail es)
oldest-at o mail other move es run client job here is =
    let same : other ≡ mail = eqb-true other mail here in
    coe 0 1 (i. IsOldest client job (queue_of (same i) es)) (taken (coe 0 1 (i. IsCoreRun o (At other (is i) ∷ es)) run))
  where
    taken : IsCoreRun o (At other (Take client job) ∷ es) → IsOldest client job (queue_of other es)
    taken r = r.1.says

pub known : (o : Opening) (mail : ℕ) (es : List CoreEvent) → IsCoreRun o es → AreKnown o mail es
known o mail [] run = record { letters = λ c has. absurd (false≢true has); serving = λ c has. absurd (false≢true has) }
known o mail (By a (Post other job) ∷ es) run =
    let before = known o mail es run.0 in
    record {
      letters = after-post (other == mail) o mail a job (queue_of mail es)
          (λ here. subst (λ (n : ℕ). a < clients_of o n) (eqb-true other mail here)
          (bearer-known o other a job (client_state o a es) run.1.fits.goes run.1.fits.bears))
          before.letters;
      serving = before.serving;
    }
known o mail (By a (OnDesk call) ∷ es) run = let before = known o mail es run.0 in record { letters = before.letters; serving = before.serving }
known o mail (By a (OnNames call) ∷ es) run = let before = known o mail es run.0 in record { letters = before.letters; serving = before.serving }
known o mail (By a (Fetch other said) ∷ es) run = let before = known o mail es run.0 in record { letters = before.letters; serving = before.serving }
known o mail (By a (CloseMail other) ∷ es) run = let before = known o mail es run.0 in record { letters = before.letters; serving = before.serving }
known o mail (By a NoChange ∷ es) run = let before = known o mail es run.0 in record { letters = before.letters; serving = before.serving }
known o mail (At other move ∷ es) run =
    let before = known o mail es run.0 in
    record {
      letters = λ c has. before.letters c (after-move (other == mail) c move (queue_of mail es) has);
      serving = λ c serves. elim (after-own (other == mail) c move (worker_of mail es) (queue_of mail es) (oldest-at o mail other move es run) serves) [
        | inl serving ↦ before.serving c serving
        | inr letter ↦ before.letters c letter
      ];
    }
