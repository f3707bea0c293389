-- What holds of each answer as its shard gives it, and stays while its client's group goes on, holds of all answers that a
-- client has fetched for its group.
use Rattle.std.proofs.Common.{◌≡◌, ◌∙◌, ℕ, ◌==◌, Bool, true, false, List, [], ◌∷◌, Option, Some, None, refl, sym, ap, eqb-true, eq-eqb, if◌then◌else◌}
use Rattle.std.proofs.lemmas.Bool.{false≢true}
use Rattle.std.proofs.lemmas.Option.{none-some, same_Some}
use Rattle.core_events.specs.Jobs.{CoreJob, Append, DropBox, Scan, Delta, Rollback, Purge, CopyRound, Flush, JobOutcome}
use Rattle.core_events.specs.Events.{Opening, flusher, ClientCall, OnDesk, OnNames, Post, Fetch, CloseMail, NoChange, WorkerMove, Take, NoJob, Work, Reply, CoreEvent, By, At}
use Rattle.core_events.specs.Groups.{GroupKind, kind_of, Received, JobGroup, no_group, has_number, has_ended, mails_of, numbers_without}
use Rattle.core_events.specs.Clients.{ClientState, client_state, client_after_call, ends_group}
use Rattle.core_events.specs.Cells.{shard_view_of, WorkerState, Free, Took, Worked, worker_of}
use Rattle.core_events.specs.Fitting.{FitsCall, FitsWork, FitsReply, FlushSays, round_progress}
use Rattle.core_events.specs.Runs.{IsCoreRun, MoveSays, ShardSays}
use Rattle.core_events.specs.Histories.{DoneJob, job_done}
use Rattle.core_events.proofs.Places.{JobPlace, Nowhere, Asked, Answered, is_out, place, place_after_post, place_after_fetch, place_after_call, place_where, place_with_done, place_after_move}
use Rattle.core_events.proofs.Posted.{run-posted}
use Rattle.core_serial.proofs.Asking.{SuitsAt, run-suits}
use Rattle.core_serial.proofs.Isolation.{out-goes-on}

module _ (Claim : Opening → List CoreEvent → ℕ → ℕ → CoreJob → JobOutcome → Type 0)
    (given : (o : Opening) (es : List CoreEvent) (a mail : ℕ) (job : CoreJob) (answer : JobOutcome) → IsCoreRun o es
    → ShardSays o mail (shard_view_of o es) job answer → Claim o es a mail job answer)
    (flushed : (o : Opening) (es : List CoreEvent) (a mail : ℕ) (said : JobOutcome) → IsCoreRun o es → worker_of mail es ≡ Took a Flush
    → FlushSays (round_progress o es) (client_state o (flusher o) es).store_lost said → Claim o es a mail Flush said)
    (stays-call : (o : Opening) (es : List CoreEvent) (a b mail : ℕ) (call : ClientCall) (job : CoreJob) (answer : JobOutcome)
    → IsCoreRun o (By b call ∷ es) → kind_of job ≡ (client_state o a es).group.kind → (b ≡ a → ends_group call ≡ false)
    → Claim o es a mail job answer → Claim o (By b call ∷ es) a mail job answer)
    (stays-move : (o : Opening) (es : List CoreEvent) (a other mail : ℕ) (move : WorkerMove) (job : CoreJob) (answer : JobOutcome)
    → IsCoreRun o (At other move ∷ es) → kind_of job ≡ (client_state o a es).group.kind
    → Claim o es a mail job answer → Claim o (At other move ∷ es) a mail job answer) where
  abbrev pub PlaceClaims : Opening → List CoreEvent → ℕ → ℕ → JobPlace → Type 0
  PlaceClaims o es a mail (Answered job answer) = Claim o es a mail job answer
  PlaceClaims o es a mail p = Unit {0}

  -- A move.

  flush-claims : (o : Opening) (es : List CoreEvent) (a mail : ℕ) (job : CoreJob) (said : JobOutcome) → IsCoreRun o es → worker_of mail es ≡ Took a job
      → FitsReply (round_progress o es) (client_state o (flusher o) es).store_lost job said → Claim o es a mail job said
  flush-claims o es a mail Flush said run took f = flushed o es a mail said run took f
  flush-claims o es a mail (Append cube epoch rows) said run took f = absurd f
  flush-claims o es a mail (DropBox cube epoch box) said run took f = absurd f
  flush-claims o es a mail (Scan query snapshot) said run took f = absurd f
  flush-claims o es a mail (Delta query from to) said run took f = absurd f
  flush-claims o es a mail (Rollback epoch) said run took f = absurd f
  flush-claims o es a mail (Purge epoch) said run took f = absurd f
  flush-claims o es a mail (CopyRound from to) said run took f = absurd f

  done-claims : (o : Opening) (es : List CoreEvent) (a mail : ℕ) (worker : WorkerState) (move : WorkerMove) (d : DoneJob)
      → IsCoreRun o es → worker_of mail es ≡ worker
      → FitsWork (round_progress o es) (client_state o (flusher o) es).store_lost worker move → MoveSays o es mail move
      → job_done worker move ≡ Some d → d.client ≡ a → Claim o es a mail d.job d.answer
  done-claims o es a mail (Took c j) (Work made answer) d run took fits says is own =
      let same = same_Some (record { client = c; job = made; answer = answer }) d is in
      coe 0 1 (i. Claim o es a mail (same i).job (same i).answer) (given o es a mail made answer run says)
  done-claims o es a mail (Took c j) (Reply to said) d run took fits says is own =
      let same = same_Some (record { client = to; job = j; answer = said }) d is in
      let client : c ≡ a = sym fits.0 ∙ ap (λ (x : DoneJob). x.client) same ∙ own in
      coe 0 1 (i. Claim o es a mail (same i).job (same i).answer)
      (flush-claims o es a mail j said run (took ∙ ap (λ (x : ℕ). Took x j) client) fits.1)
  done-claims o es a mail (Took c j) (Take client job) d run took fits says is own = absurd fits
  done-claims o es a mail (Took c j) (NoJob closed) d run took fits says is own = absurd fits
  done-claims o es a mail Free move d run took fits says is own = absurd (free-none move is)
    where
      free-none : (m : WorkerMove) → job_done Free m ≡ Some d → ⊥
      free-none (Take client job) e = none-some d e
      free-none (NoJob closed) e = none-some d e
      free-none (Work job answer) e = none-some d e
      free-none (Reply client answer) e = none-some d e
  done-claims o es a mail (Worked c j x) move d run took fits says is own = absurd (worked-none move is)
    where
      worked-none : (m : WorkerMove) → job_done (Worked c j x) m ≡ Some d → ⊥
      worked-none (Take client job) e = none-some d e
      worked-none (NoJob closed) e = none-some d e
      worked-none (Work job answer) e = none-some d e
      worked-none (Reply client answer) e = none-some d e

  where-claims : (own : Bool) (o : Opening) (es : List CoreEvent) (a mail : ℕ) (job : CoreJob) (answer : JobOutcome) (p : JobPlace)
      → (own ≡ true → Claim o es a mail job answer) → PlaceClaims o es a mail p → PlaceClaims o es a mail (place_where own (Answered job answer) p)
  where-claims true o es a mail job answer p new f = new refl
  where-claims false o es a mail job answer p new f = f

  done-place : (x : Option DoneJob) (o : Opening) (es : List CoreEvent) (mail a : ℕ) (p : JobPlace)
      → ((d : DoneJob) → x ≡ Some d → d.client ≡ a → Claim o es a mail d.job d.answer) → PlaceClaims o es a mail p
      → PlaceClaims o es a mail (place_with_done a x p)
  done-place None o es mail a p new f = f
  done-place (Some d) o es mail a p new f =
      where-claims (d.client == a) o es a mail d.job d.answer p (λ own. new d refl (eqb-true d.client a own)) f

  move-place : (here : Bool) (o : Opening) (es : List CoreEvent) (mail a : ℕ) (worker : WorkerState) (move : WorkerMove) (p : JobPlace)
      → (here ≡ true → (d : DoneJob) → job_done worker move ≡ Some d → d.client ≡ a → Claim o es a mail d.job d.answer)
      → PlaceClaims o es a mail p → PlaceClaims o es a mail (place_after_move here a worker move p)
  move-place true o es mail a worker move p new f = done-place (job_done worker move) o es mail a p (new refl) f
  move-place false o es mail a worker move p new f = f

  -- A call.

  post-place : (here mine : Bool) (o : Opening) (es : List CoreEvent) (a mail : ℕ) (job : CoreJob) (p : JobPlace) → PlaceClaims o es a mail p
      → PlaceClaims o es a mail (place_after_post here mine job p)
  post-place true true o es a mail job p f = tt
  post-place true false o es a mail job p f = f
  post-place false mine o es a mail job p f = f

  fetch-place : (here mine : Bool) (o : Opening) (es : List CoreEvent) (a mail : ℕ) (p : JobPlace) → PlaceClaims o es a mail p
      → PlaceClaims o es a mail (place_after_fetch here mine p)
  fetch-place true true o es a mail p f = tt
  fetch-place true false o es a mail p f = f
  fetch-place false mine o es a mail p f = f

  call-place : (own : Bool) (o : Opening) (es : List CoreEvent) (a mail : ℕ) (call : ClientCall) (p : JobPlace) → PlaceClaims o es a mail p
      → PlaceClaims o es a mail (place_after_call mail own call p)
  call-place own o es a mail (Post other job) p f = post-place (other == mail) own o es a mail job p f
  call-place own o es a mail (Fetch other answer) p f = fetch-place (other == mail) own o es a mail p f
  call-place own o es a mail (OnDesk call) p f = f
  call-place own o es a mail (OnNames call) p f = f
  call-place own o es a mail (CloseMail other) p f = f
  call-place own o es a mail NoChange p f = f

  -- One event more.

  -- A client whose job is out ends no group.
  goes-on : (o : Opening) (es : List CoreEvent) (a b mail : ℕ) (call : ClientCall) → IsCoreRun o (By b call ∷ es)
      → is_out (place mail a es) ≡ true → b ≡ a → ends_group call ≡ false
  goes-on o es a b mail call run out same =
      out-goes-on o a mail call (client_state o a es) (ends_group call) refl
      (coe 0 1 (i. FitsCall o (same i) call (client_state o (same i) es)) run.1.fits)
      ((run-posted o es run.0).tied a mail ∙ out)

  place-call : (o : Opening) (es : List CoreEvent) (a b mail : ℕ) (call : ClientCall) (p : JobPlace) → IsCoreRun o (By b call ∷ es)
      → SuitsAt mail (client_state o a es).group p → (is_out p ≡ true → b ≡ a → ends_group call ≡ false)
      → PlaceClaims o es a mail p → PlaceClaims o (By b call ∷ es) a mail p
  place-call o es a b mail call Nowhere run suits goes f = f
  place-call o es a b mail call (Asked job) run suits goes f = f
  place-call o es a b mail call (Answered job answer) run suits goes f =
      stays-call o es a b mail call job answer run suits.kind (goes refl) f

  place-move : (o : Opening) (es : List CoreEvent) (a other mail : ℕ) (move : WorkerMove) (p : JobPlace) → IsCoreRun o (At other move ∷ es)
      → SuitsAt mail (client_state o a es).group p → PlaceClaims o es a mail p → PlaceClaims o (At other move ∷ es) a mail p
  place-move o es a other mail move Nowhere run suits f = f
  place-move o es a other mail move (Asked job) run suits f = f
  place-move o es a other mail move (Answered job answer) run suits f = stays-move o es a other mail move job answer run suits.kind f

  pub run-places : (o : Opening) (es : List CoreEvent) (mail a : ℕ) → IsCoreRun o es → PlaceClaims o es a mail (place mail a es)
  run-places o [] mail a run = tt
  run-places o (By b call ∷ es) mail a run =
      call-place (b == a) o (By b call ∷ es) a mail call (place mail a es)
      (place-call o es a b mail call (place mail a es) run (run-suits o es mail a run.0) (goes-on o es a b mail call run) (run-places o es mail a run.0))
  run-places o (At other move ∷ es) mail a run =
      let q = round_progress o es in
      let lost = (client_state o (flusher o) es).store_lost in
      place-move o es a other mail move (place_after_move (other == mail) a (worker_of mail es) move (place mail a es)) run
      (run-suits o (At other move ∷ es) mail a run)
      (move-place (other == mail) o es mail a (worker_of mail es) move (place mail a es)
      (λ here d is own. let same = eqb-true other mail here in
      done-claims o es a mail (worker_of mail es) move d run.0 refl
      (coe 0 1 (i. FitsWork q lost (worker_of (same i) es) move) run.1.fits)
      (coe 0 1 (i. MoveSays o es (same i) move) run.1.says) is own)
      (run-places o es mail a run.0))

  -- The answers of a group: each is of another mail, and of a job of the group's kind.

  pub record AnswerFits (o : Opening) (es : List CoreEvent) (a : ℕ) (kind : GroupKind) (r : Received) (older : List Received) : Type 0 where
    pub once : has_number (mails_of older) r.mail ≡ false
    pub job : CoreJob
    pub of_kind : kind_of job ≡ kind
    pub claim : Claim o es a r.mail job r.answer

  abbrev pub AnswersFit : Opening → List CoreEvent → ℕ → GroupKind → List Received → Type 0
  AnswersFit o es a kind [] = Unit {0}
  AnswersFit o es a kind (r ∷ older) = AnswerFits o es a kind r older × AnswersFit o es a kind older

  answers-call : (o : Opening) (es : List CoreEvent) (a b : ℕ) (call : ClientCall) (answers : List Received) → IsCoreRun o (By b call ∷ es)
      → (b ≡ a → ends_group call ≡ false) → AnswersFit o es a (client_state o a es).group.kind answers → AnswersFit o (By b call ∷ es) a (client_state o a es).group.kind answers
  answers-call o es a b call [] run goes f = tt
  answers-call o es a b call (r ∷ older) run goes f = (
    record {
      once = f.0.once;
      job = f.0.job;
      of_kind = f.0.of_kind;
      claim = stays-call o es a b r.mail call f.0.job r.answer run f.0.of_kind goes f.0.claim;
    },
    answers-call o es a b call older run goes f.1,
  )

  answers-move : (o : Opening) (es : List CoreEvent) (a other : ℕ) (move : WorkerMove) (answers : List Received) → IsCoreRun o (At other move ∷ es)
      → AnswersFit o es a (client_state o a es).group.kind answers → AnswersFit o (At other move ∷ es) a (client_state o a es).group.kind answers
  answers-move o es a other move [] run f = tt
  answers-move o es a other move (r ∷ older) run f = (
    record {
      once = f.0.once;
      job = f.0.job;
      of_kind = f.0.of_kind;
      claim = stays-move o es a other r.mail move f.0.job r.answer run f.0.of_kind f.0.claim;
    },
    answers-move o es a other move older run f.1,
  )

  abbrev GroupFits : Opening → List CoreEvent → ℕ → JobGroup → Type 0
  GroupFits o es a g = AnswersFit o es a g.kind g.answers

  post-group : (ended : Bool) (o : Opening) (es : List CoreEvent) (a other : ℕ) (job : CoreJob) (g : JobGroup) → GroupFits o es a g
      → GroupFits o es a (if ended then record { kind = kind_of job; waits = other ∷ []; answers = [] } else record g { waits = other ∷ g.waits })
  post-group true o es a other job g f = tt
  post-group false o es a other job g f = f

  ends-group-fits : (ends : Bool) (o : Opening) (es : List CoreEvent) (a : ℕ) (g : JobGroup) → GroupFits o es a g
      → GroupFits o es a (if ends then no_group else g)
  ends-group-fits true o es a g f = tt
  ends-group-fits false o es a g f = f

  -- An answer that is fetched.
  fetch-group : (o : Opening) (es : List CoreEvent) (a mail : ℕ) (answer : JobOutcome) → IsCoreRun o (By a (Fetch mail answer) ∷ es)
      → GroupFits o (By a (Fetch mail answer) ∷ es) a (client_state o a es).group
      → GroupFits o (By a (Fetch mail answer) ∷ es) a (record {
        kind = (client_state o a es).group.kind;
        waits = numbers_without mail (client_state o a es).group.waits;
        answers = record { mail = mail; answer = answer } ∷ (client_state o a es).group.answers;
      })
  fetch-group o es a mail answer run f =
      let there = ((run-posted o es run.0).posted mail).held a answer run.1.says in
      let suits = coe 0 1 (i. SuitsAt mail (client_state o a es).group (there.1 i)) (run-suits o es mail a run.0) in
      let claim = coe 0 1 (i. PlaceClaims o es a mail (there.1 i)) (run-places o es mail a run.0) in (
        record {
          once = suits.unanswered;
          job = there.0;
          of_kind = suits.kind;
          claim = stays-call o es a a mail (Fetch mail answer) there.0 answer run suits.kind (λ same. refl) claim;
        },
        f,
      )

  own-group : (o : Opening) (es : List CoreEvent) (a : ℕ) (call : ClientCall) → IsCoreRun o (By a call ∷ es)
      → GroupFits o (By a call ∷ es) a (client_state o a es).group
      → GroupFits o (By a call ∷ es) a (client_after_call o true a call (client_state o a es)).group
  own-group o es a (Post other job) run f =
      post-group (has_ended o.shards (client_state o a es).group) o (By a (Post other job) ∷ es) a other job (client_state o a es).group f
  own-group o es a (Fetch mail answer) run f = fetch-group o es a mail answer run f
  own-group o es a (OnDesk call) run f = ends-group-fits (ends_group (OnDesk call)) o (By a (OnDesk call) ∷ es) a (client_state o a es).group f
  own-group o es a (OnNames call) run f = f
  own-group o es a (CloseMail mail) run f = f
  own-group o es a NoChange run f = f

  ended-group : (o : Opening) (a : ℕ) (call : ClientCall) (k : ClientState) → ends_group call ≡ true
      → (client_after_call o true a call k).group ≡ no_group
  ended-group o a (OnDesk call) k e = λ i. if e i then no_group else k.group
  ended-group o a (OnNames call) k e = absurd (false≢true e)
  ended-group o a (Post mail job) k e = absurd (false≢true e)
  ended-group o a (Fetch mail answer) k e = absurd (false≢true e)
  ended-group o a (CloseMail mail) k e = absurd (false≢true e)
  ended-group o a NoChange k e = absurd (false≢true e)

  call-group : (own ends : Bool) (o : Opening) (es : List CoreEvent) (a b : ℕ) (call : ClientCall) → (b == a) ≡ own → ends_group call ≡ ends
      → IsCoreRun o (By b call ∷ es) → GroupFits o es a (client_state o a es).group
      → GroupFits o (By b call ∷ es) a (client_after_call o own a call (client_state o a es)).group
  call-group true true o es a b call is ends run f =
      coe 1 0 (i. GroupFits o (By b call ∷ es) a (ended-group o a call (client_state o a es) ends i)) tt
  call-group true false o es a b call is ends run f =
      let same = eqb-true b a is in
      let lifted = answers-call o es a b call (client_state o a es).group.answers run (λ x. ends) f in
      coe 1 0 (i. GroupFits o (By (same i) call ∷ es) a (client_after_call o true a call (client_state o a es)).group)
      (own-group o es a call (coe 0 1 (i. IsCoreRun o (By (same i) call ∷ es)) run)
      (coe 0 1 (i. GroupFits o (By (same i) call ∷ es) a (client_state o a es).group) lifted))
  call-group false ends o es a b call is goes run f =
      answers-call o es a b call (client_state o a es).group.answers run (λ same. absurd (false≢true (sym is ∙ eq-eqb b a same))) f

  pub run-answers : (o : Opening) (es : List CoreEvent) (a : ℕ) → IsCoreRun o es → GroupFits o es a (client_state o a es).group
  run-answers o [] a run = tt
  run-answers o (By b call ∷ es) a run =
      call-group (b == a) (ends_group call) o es a b call refl refl run (run-answers o es a run.0)
  run-answers o (At other move ∷ es) a run =
      answers-move o es a other move (client_state o a es).group.answers run (run-answers o es a run.0)
