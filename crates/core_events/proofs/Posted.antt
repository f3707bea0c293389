-- In every run each mail and its worker go with the places of the clients' jobs, and a client waits for just the mails
-- at which it has a job.
use Rattle.std.proofs.Common.{◌≡◌, ◌⊎◌, ◌∙◌, ℕ, ◌==◌, Bool, true, false, true≢false, not, ◌&&◌, ◌||◌, List, [], ◌∷◌, ◌++◌, Option, Some, None, inl, inr, refl, sym, ap, eqb-true, eq-eqb, ne_eqb, if◌then◌else◌, append_assoc, append-nil}
use Rattle.std.proofs.lemmas.Bool.{false≢true}
use Rattle.std.proofs.lemmas.Option.{none-some, same_Some}
use Rattle.aosi_desk.specs.declared.cube.CubeFound.TheVariants.{Found, Unknown}
use Rattle.core_events.specs.Jobs.{CoreJob, JobOutcome}
use Rattle.core_events.specs.Events.{Opening, flusher, OpenWrite, OpenRead, Commit, AbortEnd, CloseRead, TakeNote, CreateCube, FindCube, CubesFrom, CountersNow, RoundOpen, RoundClose, StoreFailed, ClientCall, OnDesk, OnNames, Post, Fetch, CloseMail, NoChange, WorkerMove, Take, NoJob, Work, Reply, CoreEvent, By, At}
use Rattle.core_events.specs.Groups.{JobGroup, no_group, kind_of, has_number, is_empty, has_ended, is_ready, is_complete, is_spoiled, has_refusal, mails_of}
use Rattle.core_events.specs.Clients.{ClientState, client_state, client_after_call, ends_group}
use Rattle.core_events.specs.Cells.{Letter, letter, queue_of, queue_after_post, queue_after_move, reply_for, reply_after_fetch, reply_after_move, reply_after_reply, WorkerState, Free, Took, Worked, worker_of, worker_after}
use Rattle.core_events.specs.Fitting.{FitsCall, FitsWork, RoundProgress, BeginsGroup, JoinsGroup, round_progress}
use Rattle.core_events.specs.Runs.{IsCoreRun, CallSays, MoveSays, IsOldest}
use Rattle.core_events.specs.Histories.{DoneJob, job_done, posts_of, letters_after, takes_of, takes_after, jobs_done, done_after, letters_of, job_to_come, last_post, last_after_post, done_since_post, since_after_post, since_after_move, with_own_done, is_serving, job_served, IsAnswered}
use Rattle.core_events.proofs.Places.{JobPlace, Nowhere, Asked, Answered, is_out, place, place_after_post, place_after_fetch, place_after_call, place_where, place_with_done, place_after_move, IsBusy, FitsPlaces, after-post, after-fetch, after-take, after-work, after-reply, after-flush}
use Rattle.core_events.proofs.Finished.{has-without}

-- A client's calls.

post-fits : (here : Bool) (b : ℕ) (job : CoreJob) (places : ℕ → JobPlace) (queue : List Letter)
    (replies : ℕ → Option JobOutcome) (worker : WorkerState) → (here ≡ true → places b ≡ Nowhere)
    → FitsPlaces places queue replies worker
    → FitsPlaces (λ a. place_after_post here (b == a) job (places a)) (queue_after_post here b job queue) replies worker
post-fits true b job places queue replies worker free f =
    after-post places (λ a. place_after_post true (b == a) job (places a)) queue replies worker b job (free refl)
    (ap (λ (x : Bool). place_after_post true x job (places b)) (eq-eqb b b refl))
    (λ c apart. ap (λ (x : Bool). place_after_post true x job (places c)) (ne_eqb b c (λ same. apart (sym same)))) f
post-fits false b job places queue replies worker free f = f

fetch-fits : (here : Bool) (b : ℕ) (answer : JobOutcome) (places : ℕ → JobPlace) (queue : List Letter)
    (replies : ℕ → Option JobOutcome) (worker : WorkerState) → (here ≡ true → replies b ≡ Some answer)
    → FitsPlaces places queue replies worker
    → FitsPlaces (λ a. place_after_fetch here (b == a) (places a)) queue (λ a. reply_after_fetch here (b == a) (replies a)) worker
fetch-fits true b answer places queue replies worker there f =
    after-fetch places (λ a. place_after_fetch true (b == a) (places a)) queue replies
    (λ a. reply_after_fetch true (b == a) (replies a)) worker b answer (there refl)
    (ap (λ (x : Bool). reply_after_fetch true x (replies b)) (eq-eqb b b refl))
    (λ c apart. ap (λ (x : Bool). reply_after_fetch true x (replies c)) (ne_eqb b c (λ same. apart (sym same))))
    (λ c apart. ap (λ (x : Bool). place_after_fetch true x (places c)) (ne_eqb b c (λ same. apart (sym same)))) f
fetch-fits false b answer places queue replies worker there f = f

abbrev pub IsPosted : ℕ → List CoreEvent → Type 0
IsPosted mail es = FitsPlaces (λ a. place mail a es) (queue_of mail es) (λ a. reply_for mail a es) (worker_of mail es)

abbrev pub IsTied : Opening → List CoreEvent → Type 0
IsTied o es = (a mail : ℕ) → has_number (client_state o a es).group.waits mail ≡ is_out (place mail a es)

pub none-out : (p : JobPlace) → is_out p ≡ false → p ≡ Nowhere
none-out Nowhere e = refl
none-out (Asked job) e = absurd (true≢false e)
none-out (Answered job answer) e = absurd (true≢false e)

left-of : (a b : Bool) → (a && b) ≡ true → a ≡ true
left-of true b e = refl
left-of false b e = absurd (false≢true e)

pub ended-empty : (shards : ℕ) (g : JobGroup) → has_ended shards g ≡ true → is_empty g.waits ≡ true
ended-empty shards g e = left-of (is_empty g.waits) (is_complete shards g.kind (has_refusal g.answers) (mails_of g.answers)) e

pub ready-empty : (shards : ℕ) (g : JobGroup) → is_ready shards g ≡ true → is_empty g.waits ≡ true
ready-empty shards g e = ended-empty shards g (left-of (has_ended shards g) (not (is_spoiled g.kind (has_refusal g.answers))) e)

pub empty-has-none : (xs : List ℕ) (n : ℕ) → is_empty xs ≡ true → has_number xs n ≡ false
empty-has-none [] n e = refl
empty-has-none (x ∷ xs) n e = absurd (false≢true e)

pub not-out : (shards mail : ℕ) (job : CoreJob) (g : JobGroup) → BeginsGroup shards job g ⊎ JoinsGroup shards mail job g
    → has_number g.waits mail ≡ false
not-out shards mail job g (inl begins) = empty-has-none g.waits mail (ended-empty shards g begins.ended)
not-out shards mail job g (inr joins) = joins.not_out

call-posted : (o : Opening) (b : ℕ) (call : ClientCall) (es : List CoreEvent) (mail : ℕ)
    → FitsCall o b call (client_state o b es) → CallSays o es b call → IsTied o es → IsPosted mail es
    → IsPosted mail (By b call ∷ es)
call-posted o b (OnDesk call) es mail fits says tied f = f
call-posted o b (OnNames call) es mail fits says tied f = f
call-posted o b (Post other job) es mail fits says tied f =
    post-fits (other == mail) b job (λ a. place mail a es) (queue_of mail es) (λ a. reply_for mail a es) (worker_of mail es)
    (λ here. let same = eqb-true other mail here in
    none-out (place mail b es)
    (coe 0 1 (i. is_out (place (same i) b es) ≡ false)
    (sym (tied b other) ∙ not-out o.shards other job (client_state o b es).group fits.group))) f
call-posted o b (Fetch other answer) es mail fits says tied f =
    fetch-fits (other == mail) b answer (λ a. place mail a es) (queue_of mail es) (λ a. reply_for mail a es) (worker_of mail es)
    (λ here. let same = eqb-true other mail here in coe 0 1 (i. reply_for (same i) b es ≡ Some answer) says) f
call-posted o b (CloseMail other) es mail fits says tied f = f
call-posted o b NoChange es mail fits says tied f = f

-- What a client waits for.

post-waits : (ended : Bool) (shards other mail : ℕ) (job : CoreJob) (g : JobGroup) → has_ended shards g ≡ ended
    → has_number (if ended then record { kind = kind_of job; waits = other ∷ []; answers = [] } else record g { waits = other ∷ g.waits }).waits mail
    ≡ ((other == mail) || has_number g.waits mail)
post-waits true shards other mail job g e =
    ap (λ b. (other == mail) || b) (sym (empty-has-none g.waits mail (ended-empty shards g e)))
post-waits false shards other mail job g e = refl

post-out : (here : Bool) (job : CoreJob) (p : JobPlace) → is_out (place_after_post here true job p) ≡ (here || is_out p)
post-out true job p = refl
post-out false job p = refl

and-no : (b : Bool) → (b && false) ≡ false
and-no true = refl
and-no false = refl

and-yes : (b : Bool) → (b && true) ≡ b
and-yes true = refl
and-yes false = refl

fetch-out : (here : Bool) (p : JobPlace) → is_out (place_after_fetch here true p) ≡ (is_out p && not here)
fetch-out true p = sym (and-no (is_out p))
fetch-out false p = sym (and-yes (is_out p))

-- What ends a group finds no open answer.
pub ends-empty : (o : Opening) (a : ℕ) (call : ClientCall) (k : ClientState) → FitsCall o a call k → ends_group call ≡ true
    → is_empty k.group.waits ≡ true
ends-empty o a (OnDesk (OpenWrite statement epoch deps)) k f e = ready-empty o.shards k.group f.ready
ends-empty o a (OnDesk (OpenRead number statement epoch)) k f e = ready-empty o.shards k.group f.ready
ends-empty o a (OnDesk (Commit statement epoch)) k f e = ready-empty o.shards k.group f.ready
ends-empty o a (OnDesk (AbortEnd statement epoch cause)) k f e = f.done.fetched
ends-empty o a (OnDesk (CloseRead number statement)) k f e = ready-empty o.shards k.group f.ready
ends-empty o a (OnDesk (TakeNote note counters)) k f e = ready-empty o.shards k.group f.ready
ends-empty o a (OnDesk (CreateCube statement decl answer)) k f e = ready-empty o.shards k.group f.0.ready
ends-empty o a (OnDesk (FindCube statement name (Found place decl))) k f e = absurd (false≢true e)
ends-empty o a (OnDesk (FindCube statement name Unknown)) k f e = ready-empty o.shards k.group f.1
ends-empty o a (OnDesk (CubesFrom place cubes)) k f e = absurd (false≢true e)
ends-empty o a (OnDesk (CountersNow counters)) k f e = absurd (false≢true e)
ends-empty o a (OnDesk (RoundOpen answer)) k f e = ready-empty o.shards k.group f.ready
ends-empty o a (OnDesk (RoundClose epoch end)) k f e = f.fetched
ends-empty o a (OnDesk (StoreFailed failed)) k f e = absurd (false≢true e)
ends-empty o a (OnNames call) k f e = absurd (false≢true e)
ends-empty o a (Post mail job) k f e = absurd (false≢true e)
ends-empty o a (Fetch mail answer) k f e = absurd (false≢true e)
ends-empty o a (CloseMail mail) k f e = absurd (false≢true e)
ends-empty o a NoChange k f e = absurd (false≢true e)

other-waits : (ends : Bool) (g : JobGroup) (mail : ℕ) (p : JobPlace) → (ends ≡ true → is_empty g.waits ≡ true)
    → has_number g.waits mail ≡ is_out p → has_number (if ends then no_group else g).waits mail ≡ is_out p
other-waits true g mail p empty e = sym (empty-has-none g.waits mail (empty refl)) ∙ e
other-waits false g mail p empty e = e

call-tied : (o : Opening) (own : Bool) (a : ℕ) (call : ClientCall) (k : ClientState) (mail : ℕ) (p : JobPlace)
    → (own ≡ true → FitsCall o a call k) → has_number k.group.waits mail ≡ is_out p
    → has_number (client_after_call o own a call k).group.waits mail ≡ is_out (place_after_call mail own call p)
call-tied o true a (Post other job) k mail p fits e =
    post-waits (has_ended o.shards k.group) o.shards other mail job k.group refl
    ∙ ap (λ b. (other == mail) || b) e ∙ sym (post-out (other == mail) job p)
call-tied o true a (Fetch other answer) k mail p fits e =
    has-without k.group.waits other mail ∙ ap (λ b. b && not (other == mail)) e ∙ sym (fetch-out (other == mail) p)
call-tied o true a (OnDesk call) k mail p fits e =
    other-waits (ends_group (OnDesk call)) k.group mail p (ends-empty o a (OnDesk call) k (fits refl)) e
call-tied o true a (OnNames call) k mail p fits e = e
call-tied o true a (CloseMail other) k mail p fits e = e
call-tied o true a NoChange k mail p fits e = e
call-tied o false a (Post other job) k mail p fits e = e ∙ post-other (other == mail)
  where
    post-other : (here : Bool) → is_out p ≡ is_out (place_after_post here false job p)
    post-other true = refl
    post-other false = refl
call-tied o false a (Fetch other answer) k mail p fits e = e ∙ fetch-other (other == mail)
  where
    fetch-other : (here : Bool) → is_out p ≡ is_out (place_after_fetch here false p)
    fetch-other true = refl
    fetch-other false = refl
call-tied o false a (OnDesk call) k mail p fits e = e
call-tied o false a (OnNames call) k mail p fits e = e
call-tied o false a (CloseMail other) k mail p fits e = e
call-tied o false a NoChange k mail p fits e = e

-- A worker's moves.

take-fits : (places : ℕ → JobPlace) (queue : List Letter) (replies : ℕ → Option JobOutcome) (client : ℕ) (job : CoreJob)
    → IsOldest client job queue → FitsPlaces places queue replies Free
    → FitsPlaces places (queue_after_move true (Take client job) queue) replies (Took client job)
take-fits places [] replies client job says f = absurd says
take-fits places (first ∷ queue) replies client job says f =
    after-take places queue replies client job (coe 0 1 (i. FitsPlaces places (says i ∷ queue) replies Free) f)

work-fits : (places : ℕ → JobPlace) (queue : List Letter) (replies : ℕ → Option JobOutcome) (client : ℕ)
    (job made : CoreJob) (answer : JobOutcome) → made ≡ job → FitsPlaces places queue replies (Took client job)
    → FitsPlaces (λ a. place_where (client == a) (Answered made answer) (places a)) queue replies (Worked client job answer)
work-fits places queue replies client job made answer same f =
    after-work places (λ a. place_where (client == a) (Answered made answer) (places a)) queue replies client job answer
    (ap (λ (x : Bool). place_where x (Answered made answer) (places client)) (eq-eqb client client refl)
    ∙ ap (λ (j : CoreJob). Answered j answer) same)
    (λ c apart. ap (λ (x : Bool). place_where x (Answered made answer) (places c)) (ne_eqb client c (λ e. apart (sym e)))) f

reply-fits : (places : ℕ → JobPlace) (queue : List Letter) (replies : ℕ → Option JobOutcome) (client to : ℕ)
    (job : CoreJob) (answer said : JobOutcome) → to ≡ client → said ≡ answer
    → FitsPlaces places queue replies (Worked client job answer)
    → FitsPlaces places queue (λ a. reply_after_reply true (to == a) said (replies a)) Free
reply-fits places queue replies client to job answer said same what f =
    after-reply places queue replies (λ a. reply_after_reply true (to == a) said (replies a)) client job answer
    (ap (λ (x : Bool). reply_after_reply true x said (replies client)) (eq-eqb to client same) ∙ ap Some what)
    (λ c apart. ap (λ (x : Bool). reply_after_reply true x said (replies c)) (ne_eqb to c (λ e. apart (sym e ∙ same)))) f

flush-fits : (places : ℕ → JobPlace) (queue : List Letter) (replies : ℕ → Option JobOutcome) (client to : ℕ)
    (job : CoreJob) (said : JobOutcome) → to ≡ client → FitsPlaces places queue replies (Took client job)
    → FitsPlaces (λ a. place_where (to == a) (Answered job said) (places a)) queue
    (λ a. reply_after_reply true (to == a) said (replies a)) Free
flush-fits places queue replies client to job said same f =
    after-flush places (λ a. place_where (to == a) (Answered job said) (places a)) queue replies
    (λ a. reply_after_reply true (to == a) said (replies a)) client job said
    (ap (λ (x : Bool). place_where x (Answered job said) (places client)) (eq-eqb to client same))
    (λ c apart. ap (λ (x : Bool). place_where x (Answered job said) (places c)) (ne_eqb to c (λ e. apart (sym e ∙ same))))
    (ap (λ (x : Bool). reply_after_reply true x said (replies client)) (eq-eqb to client same))
    (λ c apart. ap (λ (x : Bool). reply_after_reply true x said (replies c)) (ne_eqb to c (λ e. apart (sym e ∙ same)))) f

abbrev TakeSays : WorkerMove → List Letter → Type 0
TakeSays (Take client job) queue = IsOldest client job queue
TakeSays move queue = Unit {0}

move-fits : (here : Bool) (q : RoundProgress) (lost : Bool) (move : WorkerMove) (places : ℕ → JobPlace)
    (queue : List Letter) (replies : ℕ → Option JobOutcome) (worker : WorkerState)
    → (here ≡ true → FitsWork q lost worker move) → (here ≡ true → TakeSays move queue)
    → FitsPlaces places queue replies worker
    → FitsPlaces (λ a. place_after_move here a worker move (places a)) (queue_after_move here move queue)
    (λ a. reply_after_move here a move (replies a)) (worker_after here move worker)
move-fits true q lost (Take client job) places queue replies Free fits says f = take-fits places queue replies client job (says refl) f
move-fits true q lost (Take client job) places queue replies (Took c j) fits says f = absurd (fits refl)
move-fits true q lost (Take client job) places queue replies (Worked c j x) fits says f = absurd (fits refl)
move-fits true q lost (NoJob closed) places queue replies Free fits says f = f
move-fits true q lost (NoJob closed) places queue replies (Took c j) fits says f = absurd (fits refl)
move-fits true q lost (NoJob closed) places queue replies (Worked c j x) fits says f = absurd (fits refl)
move-fits true q lost (Work made answer) places queue replies Free fits says f = absurd (fits refl)
move-fits true q lost (Work made answer) places queue replies (Took c j) fits says f =
    work-fits places queue replies c j made answer (fits refl).0 f
move-fits true q lost (Work made answer) places queue replies (Worked c j x) fits says f = absurd (fits refl)
move-fits true q lost (Reply to said) places queue replies Free fits says f = absurd (fits refl)
move-fits true q lost (Reply to said) places queue replies (Took c j) fits says f =
    flush-fits places queue replies c to j said (fits refl).0 f
move-fits true q lost (Reply to said) places queue replies (Worked c j x) fits says f =
    reply-fits places queue replies c to j x said (fits refl).0 (fits refl).1 f
move-fits false q lost (Take client job) places queue replies worker fits says f = f
move-fits false q lost (NoJob closed) places queue replies worker fits says f = f
move-fits false q lost (Work made answer) places queue replies worker fits says f = f
move-fits false q lost (Reply to said) places queue replies worker fits says f = f

-- A job that is done was asked.
pub done-asked : (q : RoundProgress) (lost : Bool) (move : WorkerMove) (places : ℕ → JobPlace) (queue : List Letter)
    (replies : ℕ → Option JobOutcome) (worker : WorkerState) (d : DoneJob) → FitsWork q lost worker move
    → FitsPlaces places queue replies worker → job_done worker move ≡ Some d → places d.client ≡ Asked d.job
done-asked q lost (Take client job) places queue replies Free d fits f is = absurd (none-some d is)
done-asked q lost (Take client job) places queue replies (Took c j) d fits f is = absurd fits
done-asked q lost (Take client job) places queue replies (Worked c j x) d fits f is = absurd fits
done-asked q lost (NoJob closed) places queue replies Free d fits f is = absurd (none-some d is)
done-asked q lost (NoJob closed) places queue replies (Took c j) d fits f is = absurd fits
done-asked q lost (NoJob closed) places queue replies (Worked c j x) d fits f is = absurd fits
done-asked q lost (Work made answer) places queue replies Free d fits f is = absurd fits
done-asked q lost (Work made answer) places queue replies (Took c j) d fits f is =
    let same = same_Some (record { client = c; job = made; answer = answer }) d is in
    coe 0 1 (i. places (same i).client ≡ Asked (same i).job) (f.busy.asked ∙ ap Asked (sym fits.0))
done-asked q lost (Work made answer) places queue replies (Worked c j x) d fits f is = absurd fits
done-asked q lost (Reply to said) places queue replies Free d fits f is = absurd fits
done-asked q lost (Reply to said) places queue replies (Took c j) d fits f is =
    let same = same_Some (record { client = to; job = j; answer = said }) d is in
    coe 0 1 (i. places (same i).client ≡ Asked (same i).job) (ap places fits.0 ∙ f.busy.asked)
done-asked q lost (Reply to said) places queue replies (Worked c j x) d fits f is = absurd (none-some d is)

done-out : (own : Bool) (d : DoneJob) (p : JobPlace) → (own ≡ true → p ≡ Asked d.job)
    → is_out (place_where own (Answered d.job d.answer) p) ≡ is_out p
done-out true d p asked = sym (ap is_out (asked refl))
done-out false d p asked = refl

with-done-out : (o : Option DoneJob) (a : ℕ) (p : JobPlace)
    → ((d : DoneJob) → o ≡ Some d → d.client ≡ a → p ≡ Asked d.job) → is_out (place_with_done a o p) ≡ is_out p
with-done-out None a p asked = refl
with-done-out (Some d) a p asked = done-out (d.client == a) d p (λ own. asked d refl (eqb-true d.client a own))

move-out : (here : Bool) (a : ℕ) (worker : WorkerState) (move : WorkerMove) (p : JobPlace)
    → (here ≡ true → (d : DoneJob) → job_done worker move ≡ Some d → d.client ≡ a → p ≡ Asked d.job)
    → is_out (place_after_move here a worker move p) ≡ is_out p
move-out true a worker move p asked = with-done-out (job_done worker move) a p (asked refl)
move-out false a worker move p asked = refl

-- Both together, over every run.
pub record ArePosted (o : Opening) (es : List CoreEvent) : Type 0 where
  pub tied : IsTied o es
  pub posted : (mail : ℕ) → IsPosted mail es

take-says : (o : Opening) (es : List CoreEvent) (mail : ℕ) (move : WorkerMove) → MoveSays o es mail move
    → TakeSays move (queue_of mail es)
take-says o es mail (Take client job) says = says
take-says o es mail move says = tt

pub run-posted : (o : Opening) (es : List CoreEvent) → IsCoreRun o es → ArePosted o es
run-posted o [] run = record {
  tied = λ a mail. refl;
  posted = λ mail. record { letters = tt; held = λ a answer is. absurd (none-some answer is); busy = tt };
}
run-posted o (By b call ∷ es) run =
    let before = run-posted o es run.0 in
    record {
      tied = λ a mail.
          call-tied o (b == a) a call (client_state o a es) mail (place mail a es)
          (λ own. let same = eqb-true b a own in coe 0 1 (i. FitsCall o (same i) call (client_state o (same i) es)) run.1.fits)
          (before.tied a mail);
      posted = λ mail. call-posted o b call es mail run.1.fits run.1.says before.tied (before.posted mail);
    }
run-posted o (At other move ∷ es) run =
    let before = run-posted o es run.0 in
    let q = round_progress o es in
    let lost = (client_state o (flusher o) es).store_lost in
    record {
      tied = λ a mail.
          before.tied a mail
          ∙ sym (move-out (other == mail) a (worker_of mail es) move (place mail a es)
          (λ here d is own. let same = eqb-true other mail here in
          ap (λ (c : ℕ). place mail c es) (sym own)
          ∙ done-asked q lost move (λ c. place mail c es) (queue_of mail es) (λ c. reply_for mail c es) (worker_of mail es) d
          (coe 0 1 (i. FitsWork q lost (worker_of (same i) es) move) run.1.fits) (before.posted mail) is));
      posted = λ mail.
          move-fits (other == mail) q lost move (λ a. place mail a es) (queue_of mail es) (λ a. reply_for mail a es) (worker_of mail es)
          (λ here. let same = eqb-true other mail here in coe 0 1 (i. FitsWork q lost (worker_of (same i) es) move) run.1.fits)
          (λ here. let same = eqb-true other mail here in
          coe 0 1 (i. TakeSays move (queue_of (same i) es)) (take-says o es other move run.1.says))
          (before.posted mail);
    }

-- Jobs are taken in the order of their posts.

post-order : (here : Bool) (a : ℕ) (job : CoreJob) (posts takes queue : List Letter) → posts ≡ takes ++ queue
    → letters_after here (letter a job) posts ≡ takes ++ queue_after_post here a job queue
post-order true a job posts takes queue e = ap (λ xs. xs ++ letter a job ∷ []) e ∙ append_assoc takes queue (letter a job ∷ [])
post-order false a job posts takes queue e = e

take-order : (here : Bool) (client : ℕ) (job : CoreJob) (posts takes queue : List Letter)
    → (here ≡ true → IsOldest client job queue) → posts ≡ takes ++ queue
    → posts ≡ letters_after here (letter client job) takes ++ queue_after_move here (Take client job) queue
take-order true client job posts takes [] says e = absurd (says refl)
take-order true client job posts takes (first ∷ queue) says e =
    e ∙ ap (λ (x : Letter). takes ++ x ∷ queue) (says refl) ∙ sym (append_assoc takes (letter client job ∷ []) queue)
take-order false client job posts takes queue says e = e

pub taken-in-order : (o : Opening) (es : List CoreEvent) (mail : ℕ) → IsCoreRun o es
    → posts_of mail es ≡ takes_of mail es ++ queue_of mail es
taken-in-order o [] mail run = refl
taken-in-order o (By a (OnDesk call) ∷ es) mail run = taken-in-order o es mail run.0
taken-in-order o (By a (OnNames call) ∷ es) mail run = taken-in-order o es mail run.0
taken-in-order o (By a (Post other job) ∷ es) mail run =
    post-order (other == mail) a job (posts_of mail es) (takes_of mail es) (queue_of mail es) (taken-in-order o es mail run.0)
taken-in-order o (By a (Fetch other answer) ∷ es) mail run = taken-in-order o es mail run.0
taken-in-order o (By a (CloseMail other) ∷ es) mail run = taken-in-order o es mail run.0
taken-in-order o (By a NoChange ∷ es) mail run = taken-in-order o es mail run.0
taken-in-order o (At other (Take client job) ∷ es) mail run =
    take-order (other == mail) client job (posts_of mail es) (takes_of mail es) (queue_of mail es)
    (λ here. let same = eqb-true other mail here in coe 0 1 (i. IsOldest client job (queue_of (same i) es)) run.1.says)
    (taken-in-order o es mail run.0)
taken-in-order o (At other (NoJob closed) ∷ es) mail run = taken-in-order o es mail run.0
taken-in-order o (At other (Work job answer) ∷ es) mail run = taken-in-order o es mail run.0
taken-in-order o (At other (Reply client answer) ∷ es) mail run = taken-in-order o es mail run.0

-- Each is done once, in that order.

letters-more : (done : List DoneJob) (d : DoneJob) → letters_of (done ++ d ∷ []) ≡ letters_of done ++ letter d.client d.job ∷ []
letters-more [] d = refl
letters-more (x ∷ done) d = ap (λ xs. letter x.client x.job ∷ xs) (letters-more done d)

one-done : (takes : List Letter) (done : List DoneJob) (c : ℕ) (j : CoreJob) (d : DoneJob) → letter d.client d.job ≡ letter c j
    → takes ≡ letters_of done ++ letter c j ∷ [] → takes ≡ letters_of (done ++ d ∷ []) ++ []
one-done takes done c j d same e =
    e ∙ ap (λ (x : Letter). letters_of done ++ x ∷ []) (sym same) ∙ sym (letters-more done d)
    ∙ sym (append-nil (letters_of (done ++ d ∷ [])))

move-done : (here : Bool) (q : RoundProgress) (lost : Bool) (move : WorkerMove) (takes : List Letter) (done : List DoneJob)
    (worker : WorkerState) → (here ≡ true → FitsWork q lost worker move) → takes ≡ letters_of done ++ job_to_come worker
    → takes_after here move takes ≡ letters_of (done_after here worker move done) ++ job_to_come (worker_after here move worker)
move-done true q lost (Take client job) takes done Free fits e =
    ap (λ xs. xs ++ letter client job ∷ []) (e ∙ append-nil (letters_of done))
move-done true q lost (Take client job) takes done (Took c j) fits e = absurd (fits refl)
move-done true q lost (Take client job) takes done (Worked c j x) fits e = absurd (fits refl)
move-done true q lost (NoJob closed) takes done Free fits e = e
move-done true q lost (NoJob closed) takes done (Took c j) fits e = absurd (fits refl)
move-done true q lost (NoJob closed) takes done (Worked c j x) fits e = absurd (fits refl)
move-done true q lost (Work made answer) takes done Free fits e = absurd (fits refl)
move-done true q lost (Work made answer) takes done (Took c j) fits e =
    one-done takes done c j (record { client = c; job = made; answer = answer }) (ap (letter c) (fits refl).0) e
move-done true q lost (Work made answer) takes done (Worked c j x) fits e = absurd (fits refl)
move-done true q lost (Reply to said) takes done Free fits e = absurd (fits refl)
move-done true q lost (Reply to said) takes done (Took c j) fits e =
    one-done takes done c j (record { client = to; job = j; answer = said }) (ap (λ (n : ℕ). letter n j) (fits refl).0) e
move-done true q lost (Reply to said) takes done (Worked c j x) fits e = e
move-done false q lost (Take client job) takes done worker fits e = e
move-done false q lost (NoJob closed) takes done worker fits e = e
move-done false q lost (Work made answer) takes done worker fits e = e
move-done false q lost (Reply to said) takes done worker fits e = e

pub done-in-order : (o : Opening) (es : List CoreEvent) (mail : ℕ) → IsCoreRun o es
    → takes_of mail es ≡ letters_of (jobs_done mail es) ++ job_to_come (worker_of mail es)
done-in-order o [] mail run = refl
done-in-order o (By a call ∷ es) mail run = done-in-order o es mail run.0
done-in-order o (At other move ∷ es) mail run =
    move-done (other == mail) (round_progress o es) (client_state o (flusher o) es).store_lost move (takes_of mail es)
    (jobs_done mail es) (worker_of mail es)
    (λ here. let same = eqb-true other mail here in
    coe 0 1 (i. FitsWork (round_progress o es) (client_state o (flusher o) es).store_lost (worker_of (same i) es) move) run.1.fits)
    (done-in-order o es mail run.0)

-- What is fetched is the answer of the one job done for the client's last post.

abbrev SinceFits : ℕ → JobPlace → Option CoreJob → List DoneJob → Type 0
SinceFits a Nowhere last done = Unit {0}
SinceFits a (Asked job) last done = (last ≡ Some job) × (done ≡ [])
SinceFits a (Answered job answer) last done =
    (last ≡ Some job) × (done ≡ record { client = a; job = job; answer = answer } ∷ [])

since-post : (here own : Bool) (a : ℕ) (job : CoreJob) (p : JobPlace) (last : Option CoreJob) (done : List DoneJob)
    → SinceFits a p last done
    → SinceFits a (place_after_post here own job p) (last_after_post here own job last) (since_after_post here own done)
since-post true true a job p last done f = (refl, refl)
since-post true false a job p last done f = f
since-post false own a job p last done f = f

since-fetch : (here own : Bool) (a : ℕ) (p : JobPlace) (last : Option CoreJob) (done : List DoneJob)
    → SinceFits a p last done → SinceFits a (place_after_fetch here own p) last done
since-fetch true true a p last done f = tt
since-fetch true false a p last done f = f
since-fetch false own a p last done f = f

since-done : (own : Bool) (a : ℕ) (d : DoneJob) (p : JobPlace) (last : Option CoreJob) (done : List DoneJob)
    → (d.client == a) ≡ own → (own ≡ true → p ≡ Asked d.job) → SinceFits a p last done
    → SinceFits a (place_where own (Answered d.job d.answer) p) last (if own then d ∷ done else done)
since-done true a d p last done is asked f =
    let g = coe 0 1 (i. SinceFits a (asked refl i) last done) f in
    let same = eqb-true d.client a is in
    (g.0, (λ i. record { client = same i; job = d.job; answer = d.answer } ∷ g.1 i))
since-done false a d p last done is asked f = f

since-with : (o : Option DoneJob) (a : ℕ) (p : JobPlace) (last : Option CoreJob) (done : List DoneJob)
    → ((d : DoneJob) → o ≡ Some d → d.client ≡ a → p ≡ Asked d.job) → SinceFits a p last done
    → SinceFits a (place_with_done a o p) last (with_own_done a o done)
since-with None a p last done asked f = f
since-with (Some d) a p last done asked f =
    since-done (d.client == a) a d p last done refl (λ own. asked d refl (eqb-true d.client a own)) f

since-move : (here : Bool) (a : ℕ) (worker : WorkerState) (move : WorkerMove) (p : JobPlace) (last : Option CoreJob)
    (done : List DoneJob) → (here ≡ true → (d : DoneJob) → job_done worker move ≡ Some d → d.client ≡ a → p ≡ Asked d.job)
    → SinceFits a p last done
    → SinceFits a (place_after_move here a worker move p) last (since_after_move here a worker move done)
since-move true a worker move p last done asked f = since-with (job_done worker move) a p last done (asked refl) f
since-move false a worker move p last done asked f = f

since-run : (o : Opening) (es : List CoreEvent) (mail a : ℕ) → IsCoreRun o es
    → SinceFits a (place mail a es) (last_post mail a es) (done_since_post mail a es)
since-run o [] mail a run = tt
since-run o (By b (OnDesk call) ∷ es) mail a run = since-run o es mail a run.0
since-run o (By b (OnNames call) ∷ es) mail a run = since-run o es mail a run.0
since-run o (By b (Post other job) ∷ es) mail a run =
    since-post (other == mail) (b == a) a job (place mail a es) (last_post mail a es) (done_since_post mail a es)
    (since-run o es mail a run.0)
since-run o (By b (Fetch other answer) ∷ es) mail a run =
    since-fetch (other == mail) (b == a) a (place mail a es) (last_post mail a es) (done_since_post mail a es)
    (since-run o es mail a run.0)
since-run o (By b (CloseMail other) ∷ es) mail a run = since-run o es mail a run.0
since-run o (By b NoChange ∷ es) mail a run = since-run o es mail a run.0
since-run o (At other move ∷ es) mail a run =
    let q = round_progress o es in
    let lost = (client_state o (flusher o) es).store_lost in
    since-move (other == mail) a (worker_of mail es) move (place mail a es) (last_post mail a es) (done_since_post mail a es)
    (λ here d is own. let same = eqb-true other mail here in
    ap (λ (c : ℕ). place mail c es) (sym own)
    ∙ done-asked q lost move (λ c. place mail c es) (queue_of mail es) (λ c. reply_for mail c es) (worker_of mail es) d
    (coe 0 1 (i. FitsWork q lost (worker_of (same i) es) move) run.1.fits) ((run-posted o es run.0).posted mail) is)
    (since-run o es mail a run.0)

pub fetched-is-done : (o : Opening) (es : List CoreEvent) (mail a : ℕ) (answer : JobOutcome) → IsCoreRun o es
    → reply_for mail a es ≡ Some answer → IsAnswered mail a answer es
fetched-is-done o es mail a answer run held =
    let there = ((run-posted o es run).posted mail).held a answer held in
    let f = coe 0 1 (i. SinceFits a (there.1 i) (last_post mail a es) (done_since_post mail a es)) (since-run o es mail a run) in
    record { job = there.0; asked = f.0; once = f.1 }

-- The job of a worker is its client's last.
last-served : (places : ℕ → JobPlace) (queue : List Letter) (replies : ℕ → Option JobOutcome) (a : ℕ) (job : CoreJob)
    (worker : WorkerState) (last : Option CoreJob) (done : List DoneJob) → IsBusy places queue replies worker
    → is_serving a worker ≡ true → job_served worker ≡ Some job → SinceFits a (places a) last done → last ≡ Some job
last-served places queue replies a job Free last done busy serves is f = absurd (false≢true serves)
last-served places queue replies a job (Took c j) last done busy serves is f =
    let asked : places a ≡ Asked j = ap places (sym (eqb-true c a serves)) ∙ busy.asked in
    (coe 0 1 (i. SinceFits a (asked i) last done) f).0 ∙ is
last-served places queue replies a job (Worked c j x) last done busy serves is f =
    let answered : places a ≡ Answered j x = ap places (sym (eqb-true c a serves)) ∙ busy.answered in
    (coe 0 1 (i. SinceFits a (answered i) last done) f).0 ∙ is

pub served-is-last : (o : Opening) (es : List CoreEvent) (mail a : ℕ) (job : CoreJob) → IsCoreRun o es
    → is_serving a (worker_of mail es) ≡ true → job_served (worker_of mail es) ≡ Some job → last_post mail a es ≡ Some job
served-is-last o es mail a job run serves is =
    last-served (λ c. place mail c es) (queue_of mail es) (λ c. reply_for mail c es) a job (worker_of mail es) (last_post mail a es)
    (done_since_post mail a es) ((run-posted o es run).posted mail).busy serves is (since-run o es mail a run)
