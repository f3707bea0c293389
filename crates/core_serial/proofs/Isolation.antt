-- What an open snapshot sees of a brick is changed by its own transaction alone.
use Rattle.std.proofs.Common.{◌≡◌, ◌⊎◌, ◌∙◌, ℕ, ◌%◌, ◌<◌, ◌≤◌, ◌==◌, Bool, true, false, true≢false, ◌&&◌, List, [], ◌∷◌, Option, Some, None, IfSome, IsSomeAnd, if◌then◌else◌, inl, inr, refl, sym, ap, arith, eqb-true}
use Rattle.std.proofs.lemmas.Option.{none-some, same_Some}
use Rattle.cube_values.specs.declared.row.CodedRow.{CodedRow}
use Rattle.cube_values.specs.declared.snapshot.Snapshot.{Snapshot}
use Rattle.cube_values.specs.Sees.{sees}
use Rattle.cube_journal.specs.declared.journal_entry.JournalEntry.{JournalEntry}
use Rattle.cube_journal.specs.declared.journal_entry.JournalEntry.TheVariants as entry
use Rattle.cube_journal.specs.declared.counters.Counters.{Counters}
use Rattle.cube_journal.specs.Counters.{JournalState, state_after, held_by, target}
use Rattle.cube_journal.specs.Order.{IsInOrder}
use Rattle.aosi_desk.specs.declared.answer.RoundAnswer.{RoundAnswer}
use Rattle.aosi_desk.specs.declared.answer.RoundAnswer.TheVariants.{Target, Nothing}
use Rattle.core_events.specs.ShardView.{BrickEntry, RowRun, RowMark, brick_rows_seen}
use Rattle.core_events.specs.Jobs.{CoreJob, Append, DropBox, Scan, Delta, Rollback, Purge, CopyRound, Flush, JobOutcome, Done, ShardFull, Found, Compared, Copied, StoreLost, OutOfMemory}
use Rattle.core_events.specs.Events.{Opening, IsSession, flusher, OpenWrite, OpenRead, Commit, AbortEnd, CloseRead, TakeNote, CreateCube, FindCube, CubesFrom, CountersNow, RoundOpen, RoundClose, StoreFailed, ClientCall, OnDesk, OnNames, Post, Fetch, CloseMail, NoChange, WorkerMove, Work, CoreEvent, By, At}
use Rattle.core_events.specs.Groups.{has_number}
use Rattle.core_events.specs.Clients.{Holding, ClientState, client_state, client_after_call, held_under, holds_after, ends_group, lse_in, greater_of}
use Rattle.core_events.specs.Cells.{counters_of_run, shard_view_of, brick_after_job, brick_after_move, rows_of_brick, box_has_brick, WorkerState, Free, Took, Worked, worker_of, queue_of, reply_for}
use Rattle.core_events.specs.Fitting.{FitsCall, OwnsWriter, FitsMove, FitsWork, round_progress}
use Rattle.core_events.specs.Runs.{IsCoreRun, CallSays}
use Rattle.core_events.specs.Histories.{DoneJob, job_done}
use Rattle.core_serial.specs.Isolation.{IsOfOther}
use Rattle.core_events.proofs.DeskSteps.{client_entry, state_with_entry, run-step}
use Rattle.core_events.proofs.Agreement.{agree}
use Rattle.core_events.proofs.InOrder.{StateAllows, AllowsEntry, run-allowed, run-order}
use Rattle.core_events.proofs.Finished.{held-writer, run-finished}
use Rattle.core_events.proofs.Blindness.{run-blind, sees-safe}
use Rattle.core_events.proofs.BrickRows.{append-unseen, mark-unseen, rollback-unseen, purge-unseen}
use Rattle.core_events.proofs.Places.{JobPlace, Nowhere, Asked, Answered, is_out, place, place_after_post, place_after_fetch, place_after_call, place_where, place_with_done, place_after_move, IsBusy, nowhere-asked, asked-answered}
use Rattle.core_events.proofs.Posted.{run-posted, ends-empty, empty-has-none}

-- LSE never falls, and no client was shown a greater one.

lse-entry : (s : JournalState) (e : JournalEntry) → StateAllows s e → IsInOrder s → s.lse ≤ (state_after s e).lse
lse-entry s (entry.Safe epoch) h order =
    let r = coe 0 1 (i. IfSome (h i) (λ t. (s.lse < t) × (t ≤ target s))) order.round in
    let l = r.0 in omega (arith, l)
lse-entry s e h order = omega arith

lse-step : (s : JournalState) (e : Option JournalEntry) → AllowsEntry s e → IsInOrder s → s.lse ≤ (state_with_entry e s).lse
lse-step s None h order = omega arith
lse-step s (Some e) h order = lse-entry s e h order

pub lse-rises : (o : Opening) (b : ℕ) (call : ClientCall) (es : List CoreEvent) → IsCoreRun o (By b call ∷ es)
    → (counters_of_run o es).lse ≤ (counters_of_run o (By b call ∷ es)).lse
lse-rises o b call es run =
    let l = lse-step (counters_of_run o es) (client_entry b call) (run-allowed o b call es run) (run-order o es run.0) in
    let is = ap (λ (s : JournalState). s.lse) (run-step o b call es) in
    omega (arith, l, is)

abbrev lse_of_answer : ℕ → RoundAnswer → ℕ
lse_of_answer lse (Target from epoch) = from
lse_of_answer lse (Nothing epoch) = epoch

answer-lse : (same : Bool) (lse target : ℕ) → (target == lse) ≡ same
    → lse_of_answer lse (if same then Nothing target else Target lse target) ≡ lse
answer-lse true lse target is = eqb-true target lse is
answer-lse false lse target is = refl

-- An answer shows the LSE that the desk has.
pub shown-lse : (o : Opening) (es : List CoreEvent) (b : ℕ) (call : ClientCall) (n : ℕ) → CallSays o es b call
    → lse_in call ≡ Some n → n ≡ (counters_of_run o es).lse
shown-lse o es b (OnDesk (OpenWrite statement epoch deps)) n says is = absurd (none-some n is)
shown-lse o es b (OnDesk (OpenRead number statement epoch)) n says is = absurd (none-some n is)
shown-lse o es b (OnDesk (Commit statement epoch)) n says is = absurd (none-some n is)
shown-lse o es b (OnDesk (AbortEnd statement epoch cause)) n says is = absurd (none-some n is)
shown-lse o es b (OnDesk (CloseRead number statement)) n says is = absurd (none-some n is)
shown-lse o es b (OnDesk (TakeNote note counters)) n says is =
    sym (same_Some counters.lse n is) ∙ ap (λ (c : Counters). c.lse) says
shown-lse o es b (OnDesk (CreateCube statement decl answer)) n says is = absurd (none-some n is)
shown-lse o es b (OnDesk (FindCube statement name answer)) n says is = absurd (none-some n is)
shown-lse o es b (OnDesk (CubesFrom place cubes)) n says is = absurd (none-some n is)
shown-lse o es b (OnDesk (CountersNow counters)) n says is =
    sym (same_Some counters.lse n is) ∙ ap (λ (c : Counters). c.lse) says
shown-lse o es b (OnDesk (RoundOpen (Target from epoch))) n says is =
    let s = counters_of_run o es in
    sym (same_Some from n is) ∙ ap (lse_of_answer s.lse) says ∙ answer-lse (target s == s.lse) s.lse (target s) refl
shown-lse o es b (OnDesk (RoundOpen (Nothing epoch))) n says is =
    let s = counters_of_run o es in
    sym (same_Some epoch n is) ∙ ap (lse_of_answer s.lse) says ∙ answer-lse (target s == s.lse) s.lse (target s) refl
shown-lse o es b (OnDesk (RoundClose epoch end)) n says is = absurd (none-some n is)
shown-lse o es b (OnDesk (StoreFailed failed)) n says is = absurd (none-some n is)
shown-lse o es b (OnNames call) n says is = absurd (none-some n is)
shown-lse o es b (Post mail job) n says is = absurd (none-some n is)
shown-lse o es b (Fetch mail answer) n says is = absurd (none-some n is)
shown-lse o es b (CloseMail mail) n says is = absurd (none-some n is)
shown-lse o es b NoChange n says is = absurd (none-some n is)

greater-within : (more : Option ℕ) (n most : ℕ) → n ≤ most → ((m : ℕ) → more ≡ Some m → m ≤ most) → greater_of more n ≤ most
greater-within None n most le all = le
greater-within (Some m) n most le all = let l = all m refl in omega (arith, le, l)

own-lse : (o : Opening) (own : Bool) (a : ℕ) (call : ClientCall) (k : ClientState) (most : ℕ) → k.lse ≤ most
    → ((m : ℕ) → lse_in call ≡ Some m → m ≤ most) → (client_after_call o own a call k).lse ≤ most
own-lse o true a call k most le all = greater-within (lse_in call) k.lse most le all
own-lse o false a call k most le all = le

pub shown-within : (o : Opening) (es : List CoreEvent) (a : ℕ) → IsCoreRun o es
    → (client_state o a es).lse ≤ (counters_of_run o es).lse
shown-within o [] a run = omega arith
shown-within o (By b call ∷ es) a run =
    let rises = lse-rises o b call es run in
    let before = shown-within o es a run.0 in
    own-lse o (b == a) a call (client_state o a es) (counters_of_run o (By b call ∷ es)).lse (omega (arith, rises, before))
    (λ m is. let same = shown-lse o es b call m run.1.says is in omega (arith, same, rises))
shown-within o (At mail move ∷ es) a run = shown-within o es a run.0

-- A job that is asked and not done bears what its client holds, and a purge is not above LSE.

abbrev pub JobFits : Opening → ℕ → CoreJob → ClientState → ℕ → Type 0
JobFits o a (Append cube epoch rows) k lse = IsSession o a × OwnsWriter a epoch k
JobFits o a (DropBox cube epoch box) k lse = IsSession o a × OwnsWriter a epoch k
JobFits o a (Rollback epoch) k lse = IsSession o a × OwnsWriter a epoch k
JobFits o a (Purge epoch) k lse = epoch ≤ lse
JobFits o a job k lse = Unit {0}

pub job-fits : (o : Opening) (a mail : ℕ) (job : CoreJob) (k : ClientState) (lse : ℕ) → FitsCall o a (Post mail job) k → k.lse ≤ lse
    → JobFits o a job k lse
job-fits o a mail (Append cube epoch rows) k lse f le = (f.bears.session, f.bears.writer)
job-fits o a mail (DropBox cube epoch box) k lse f le = (f.bears.session, f.bears.writer)
job-fits o a mail (Scan query snapshot) k lse f le = tt
job-fits o a mail (Delta query from to) k lse f le = tt
job-fits o a mail (Rollback epoch) k lse f le = (f.bears.0, f.bears.1)
job-fits o a mail (Purge epoch) k lse f le = let l = f.bears.1 in omega (arith, l, le)
job-fits o a mail (CopyRound from to) k lse f le = tt
job-fits o a mail Flush k lse f le = tt

-- It stays so while the client holds what it held.
pub job-stays : (o : Opening) (a : ℕ) (job : CoreJob) (k l : ClientState) (lse more : ℕ) → l.holds ≡ k.holds → lse ≤ more
    → JobFits o a job k lse → JobFits o a job l more
job-stays o a (Append cube epoch rows) k l lse more same le f =
    (f.0, coe 1 0 (i. IsSomeAnd (held_under a (same i)) (λ s. (s.own ≡ true) × (s.epoch ≡ epoch))) f.1)
job-stays o a (DropBox cube epoch box) k l lse more same le f =
    (f.0, coe 1 0 (i. IsSomeAnd (held_under a (same i)) (λ s. (s.own ≡ true) × (s.epoch ≡ epoch))) f.1)
job-stays o a (Scan query snapshot) k l lse more same le f = tt
job-stays o a (Delta query from to) k l lse more same le f = tt
job-stays o a (Rollback epoch) k l lse more same le f =
    (f.0, coe 1 0 (i. IsSomeAnd (held_under a (same i)) (λ s. (s.own ≡ true) × (s.epoch ≡ epoch))) f.1)
job-stays o a (Purge epoch) k l lse more same le f = omega (arith, f, le)
job-stays o a (CopyRound from to) k l lse more same le f = tt
job-stays o a Flush k l lse more same le f = tt

-- A call that ends no group leaves what the client holds.
pub holds-stay : (a : ℕ) (call : ClientCall) (holds : List Holding) → ends_group call ≡ false → holds_after a call holds ≡ holds
holds-stay a (OnDesk (OpenWrite statement epoch deps)) holds e = absurd (true≢false e)
holds-stay a (OnDesk (OpenRead number statement epoch)) holds e = absurd (true≢false e)
holds-stay a (OnDesk (Commit statement epoch)) holds e = absurd (true≢false e)
holds-stay a (OnDesk (AbortEnd statement epoch cause)) holds e = absurd (true≢false e)
holds-stay a (OnDesk (CloseRead number statement)) holds e = absurd (true≢false e)
holds-stay a (OnDesk (TakeNote note counters)) holds e = refl
holds-stay a (OnDesk (CreateCube statement decl answer)) holds e = refl
holds-stay a (OnDesk (FindCube statement name answer)) holds e = refl
holds-stay a (OnDesk (CubesFrom place cubes)) holds e = refl
holds-stay a (OnDesk (CountersNow counters)) holds e = refl
holds-stay a (OnDesk (RoundOpen answer)) holds e = refl
holds-stay a (OnDesk (RoundClose epoch end)) holds e = refl
holds-stay a (OnDesk (StoreFailed failed)) holds e = refl
holds-stay a (OnNames call) holds e = refl
holds-stay a (Post mail job) holds e = refl
holds-stay a (Fetch mail answer) holds e = refl
holds-stay a (CloseMail mail) holds e = refl
holds-stay a NoChange holds e = refl

-- A client that has a job out ends no group.
pub out-goes-on : (o : Opening) (a mail : ℕ) (call : ClientCall) (k : ClientState) (ends : Bool) → ends_group call ≡ ends
    → FitsCall o a call k → has_number k.group.waits mail ≡ true → ends_group call ≡ false
out-goes-on o a mail call k true e f out =
    absurd (true≢false (sym out ∙ empty-has-none k.group.waits mail (ends-empty o a call k f e)))
out-goes-on o a mail call k false e f out = e

pub own-holds : (o : Opening) (own : Bool) (a mail : ℕ) (call : ClientCall) (k : ClientState) → (own ≡ true → FitsCall o a call k)
    → has_number k.group.waits mail ≡ true → (client_after_call o own a call k).holds ≡ k.holds
own-holds o true a mail call k f out = holds-stay a call k.holds (out-goes-on o a mail call k (ends_group call) refl (f refl) out)
own-holds o false a mail call k f out = refl

same-asked : (job other : CoreJob) → Asked job ≡ Asked other → job ≡ other
same-asked job other e = ap (job_in job) e
  where
    job_in : CoreJob → JobPlace → CoreJob
    job_in default Nowhere = default
    job_in default (Asked j) = j
    job_in default (Answered j answer) = default

-- A job is asked by a post, or it was asked before.
post-back : (here own : Bool) (job asked : CoreJob) (p : JobPlace) → place_after_post here own job p ≡ Asked asked
    → ((own ≡ true) × (job ≡ asked)) ⊎ (p ≡ Asked asked)
post-back true true job asked p e = inl (refl, same-asked job asked e)
post-back true false job asked p e = inr e
post-back false own job asked p e = inr e

pub fetch-back : (here own : Bool) (asked : CoreJob) (p : JobPlace) → place_after_fetch here own p ≡ Asked asked → p ≡ Asked asked
fetch-back true true asked p e = absurd (nowhere-asked asked e)
fetch-back true false asked p e = e
fetch-back false own asked p e = e

where-back : (own : Bool) (job asked : CoreJob) (answer : JobOutcome) (p : JobPlace)
    → place_where own (Answered job answer) p ≡ Asked asked → p ≡ Asked asked
where-back true job asked answer p e = absurd (asked-answered asked job answer (sym e))
where-back false job asked answer p e = e

done-back : (o : Option DoneJob) (a : ℕ) (asked : CoreJob) (p : JobPlace) → place_with_done a o p ≡ Asked asked → p ≡ Asked asked
done-back None a asked p e = e
done-back (Some d) a asked p e = where-back (d.client == a) d.job asked d.answer p e

pub move-back : (here : Bool) (a : ℕ) (worker : WorkerState) (move : WorkerMove) (asked : CoreJob) (p : JobPlace)
    → place_after_move here a worker move p ≡ Asked asked → p ≡ Asked asked
move-back true a worker move asked p e = done-back (job_done worker move) a asked p e
move-back false a worker move asked p e = e

call-back : (mail : ℕ) (own : Bool) (call : ClientCall) (asked : CoreJob) (p : JobPlace)
    → place_after_call mail own call p ≡ Asked asked
    → ((m : ℕ) × (own ≡ true) × (call ≡ Post m asked)) ⊎ (p ≡ Asked asked)
call-back mail own (OnDesk call) asked p e = inr e
call-back mail own (OnNames call) asked p e = inr e
call-back mail own (Post other job) asked p e = elim (post-back (other == mail) own job asked p e) [
  | inl new ↦ inl (other, new.0, ap (Post other) new.1)
  | inr old ↦ inr old
]
call-back mail own (Fetch other answer) asked p e = inr (fetch-back (other == mail) own asked p e)
call-back mail own (CloseMail other) asked p e = inr e
call-back mail own NoChange asked p e = inr e

pub asked-fits : (o : Opening) (es : List CoreEvent) (mail a : ℕ) (job : CoreJob) → IsCoreRun o es
    → place mail a es ≡ Asked job → JobFits o a job (client_state o a es) (counters_of_run o es).lse
asked-fits o [] mail a job run e = absurd (nowhere-asked job e)
asked-fits o (By b call ∷ es) mail a job run e =
    let k = client_state o a es in
    let rises = lse-rises o b call es run in
    let fits : (b == a) ≡ true → FitsCall o a call k =
    λ own. let same = eqb-true b a own in coe 0 1 (i. FitsCall o (same i) call (client_state o (same i) es)) run.1.fits
    in
    elim (call-back mail (b == a) call job (place mail a es) e) [
      | inl new ↦
          let f = coe 0 1 (i. FitsCall o a (new.2 i) k) (fits new.1) in
          job-stays o a job k (client_after_call o (b == a) a call k) (counters_of_run o es).lse
          (counters_of_run o (By b call ∷ es)).lse (posted-holds (b == a) new.0 call k new.2) rises
          (job-fits o a new.0 job k (counters_of_run o es).lse f (shown-within o es a run.0))
      | inr old ↦
          let tied = (run-posted o es run.0).tied a mail ∙ ap is_out old in
          job-stays o a job k (client_after_call o (b == a) a call k) (counters_of_run o es).lse
          (counters_of_run o (By b call ∷ es)).lse (own-holds o (b == a) a mail call k fits tied) rises
          (asked-fits o es mail a job run.0 old)
    ]
  where
    posted-holds : (own : Bool) (m : ℕ) (c : ClientCall) (k : ClientState) → c ≡ Post m job
        → (client_after_call o own a c k).holds ≡ k.holds
    posted-holds true m c k is = ap (λ (x : ClientCall). (client_after_call o true a x k).holds) is
    posted-holds false m c k is = refl
asked-fits o (At other move ∷ es) mail a job run e =
    asked-fits o es mail a job run.0 (move-back (other == mail) a (worker_of mail es) move job (place mail a es) e)

-- The job that a worker makes is asked.
pub work-asked : (o : Opening) (es : List CoreEvent) (mail : ℕ) (job : CoreJob) (answer : JobOutcome) → IsCoreRun o es
    → FitsMove o es mail (Work job answer) → (a : ℕ) × (place mail a es ≡ Asked job)
work-asked o es mail job answer run may = made (worker_of mail es) may ((run-posted o es run).posted mail).busy
  where
    made : (w : WorkerState) → FitsWork (round_progress o es) (client_state o (flusher o) es).store_lost w (Work job answer)
        → IsBusy (λ a. place mail a es) (queue_of mail es) (λ a. reply_for mail a es) w → (a : ℕ) × (place mail a es ≡ Asked job)
    made Free fits busy = absurd fits
    made (Took c j) fits busy = (c, busy.asked ∙ ap Asked (sym fits.0))
    made (Worked c j x) fits busy = absurd fits

pub made-asked : (o : Opening) (es : List CoreEvent) (mail : ℕ) (job : CoreJob) (answer : JobOutcome)
    → IsCoreRun o (At mail (Work job answer) ∷ es) → (a : ℕ) × (place mail a es ≡ Asked job)
made-asked o es mail job answer run = work-asked o es mail job answer run.0 run.1.fits

-- A snapshot does not see what the job of another transaction changes.
abbrev pub IsUnseen : Snapshot → CoreJob → Type 0
IsUnseen s (Append cube epoch rows) = sees s epoch ≡ false
IsUnseen s (DropBox cube epoch box) = sees s epoch ≡ false
IsUnseen s (Rollback epoch) = sees s epoch ≡ false
IsUnseen s (Purge epoch) = (e : ℕ) → e ≤ epoch → sees s e ≡ true
IsUnseen s job = Unit {0}

other-unseen : (o : Opening) (es : List CoreEvent) (a m epoch : ℕ) (s : Snapshot) → IsCoreRun o es
    → held_by (counters_of_run o es).snapshots m ≡ Some s → IsSession o a → OwnsWriter a epoch (client_state o a es)
    → (s.own ≡ true → s.epoch ≡ epoch → ⊥) → sees s epoch ≡ false
other-unseen o es a m epoch s run held session owns other =
    let c = counters_of_run o es in
    let same = agree o es run a session a (inl refl) in
    let w = held-writer c a epoch (held_under a (client_state o a es).holds) same owns in
    let pending = ap (has_number c.pending) (sym w.at) ∙ (run-finished o es run).writers a w.snapshot w.is w.own in
    (run-blind o es run).blind m epoch s held pending other

job-unseen : (o : Opening) (es : List CoreEvent) (a m : ℕ) (job : CoreJob) (s : Snapshot) → IsCoreRun o es
    → held_by (counters_of_run o es).snapshots m ≡ Some s
    → JobFits o a job (client_state o a es) (counters_of_run o es).lse → IsOfOther s job → IsUnseen s job
job-unseen o es a m (Append cube epoch rows) s run held f other = other-unseen o es a m epoch s run held f.0 f.1 other
job-unseen o es a m (DropBox cube epoch box) s run held f other = other-unseen o es a m epoch s run held f.0 f.1 other
job-unseen o es a m (Scan query snapshot) s run held f other = tt
job-unseen o es a m (Delta query from to) s run held f other = tt
job-unseen o es a m (Rollback epoch) s run held f other = other-unseen o es a m epoch s run held f.0 f.1 other
job-unseen o es a m (Purge epoch) s run held f other =
    λ e le. sees-safe o es m e s run held (omega (arith, le, f))
job-unseen o es a m (CopyRound from to) s run held f other = tt
job-unseen o es a m Flush s run held f other = tt

append-where : (here : Bool) (s : Snapshot) (epoch : ℕ) (o : Opening) (cube brick : ℕ) (rows : List CodedRow) (xs : List BrickEntry)
    → sees s epoch ≡ false
    → brick_rows_seen s (if here then RowRun epoch (rows_of_brick o cube brick rows) ∷ xs else xs) ≡ brick_rows_seen s xs
append-where true s epoch o cube brick rows xs hidden = append-unseen (sees s) (sees s) epoch (rows_of_brick o cube brick rows) xs hidden
append-where false s epoch o cube brick rows xs hidden = refl

mark-where : (here : Bool) (s : Snapshot) (epoch : ℕ) (xs : List BrickEntry) → sees s epoch ≡ false
    → brick_rows_seen s (if here then RowMark epoch ∷ xs else xs) ≡ brick_rows_seen s xs
mark-where true s epoch xs hidden = mark-unseen (sees s) (sees s) epoch xs hidden
mark-where false s epoch xs hidden = refl

pub job-keeps : (o : Opening) (cube brick : ℕ) (job : CoreJob) (s : Snapshot) (xs : List BrickEntry) → IsUnseen s job
    → brick_rows_seen s (brick_after_job o cube brick job xs) ≡ brick_rows_seen s xs
job-keeps o cube brick (Append other epoch rows) s xs hidden = append-where (other == cube) s epoch o cube brick rows xs hidden
job-keeps o cube brick (DropBox other epoch box) s xs hidden = mark-where (other == cube && box_has_brick o cube box brick) s epoch xs hidden
job-keeps o cube brick (Scan query snapshot) s xs hidden = refl
job-keeps o cube brick (Delta query from to) s xs hidden = refl
job-keeps o cube brick (Rollback epoch) s xs hidden = rollback-unseen (sees s) (sees s) epoch xs hidden hidden
job-keeps o cube brick (Purge epoch) s xs hidden = purge-unseen (sees s) (sees s) epoch xs hidden
job-keeps o cube brick (CopyRound from to) s xs hidden = refl
job-keeps o cube brick Flush s xs hidden = refl

pub move-keeps : (o : Opening) (here : Bool) (cube brick : ℕ) (job : CoreJob) (answer : JobOutcome) (s : Snapshot) (xs : List BrickEntry)
    → brick_rows_seen s (brick_after_job o cube brick job xs) ≡ brick_rows_seen s xs
    → brick_rows_seen s (brick_after_move o here cube brick (Work job answer) xs) ≡ brick_rows_seen s xs
move-keeps o true cube brick job Done s xs keeps = keeps
move-keeps o true cube brick job (ShardFull rows) s xs keeps = refl
move-keeps o true cube brick job (Found rows) s xs keeps = refl
move-keeps o true cube brick job (Compared came went) s xs keeps = refl
move-keeps o true cube brick job (Copied view) s xs keeps = refl
move-keeps o true cube brick job StoreLost s xs keeps = refl
move-keeps o true cube brick job OutOfMemory s xs keeps = refl
move-keeps o false cube brick job answer s xs keeps = refl

-- Snapshot isolation: what an open snapshot sees stays.
pub isolated : (o : Opening) (es : List CoreEvent) (mail cube brick m : ℕ) (job : CoreJob) (answer : JobOutcome) (s : Snapshot)
    → IsCoreRun o (At mail (Work job answer) ∷ es) → held_by (counters_of_run o es).snapshots m ≡ Some s → IsOfOther s job
    → brick_rows_seen s (shard_view_of o (At mail (Work job answer) ∷ es) cube brick) ≡ brick_rows_seen s (shard_view_of o es cube brick)
isolated o es mail cube brick m job answer s run held other =
    let asked = made-asked o es mail job answer run in
    move-keeps o (mail == brick % o.shards) cube brick job answer s (shard_view_of o es cube brick)
    (job-keeps o cube brick job s (shard_view_of o es cube brick)
    (job-unseen o es asked.0 m job s run.0 held (asked-fits o es mail asked.0 job run.0 asked.1) other))

-- A purge that a worker makes is not above LSE.
pub purge-within : (o : Opening) (es : List CoreEvent) (mail epoch : ℕ) (answer : JobOutcome)
    → IsCoreRun o (At mail (Work (Purge epoch) answer) ∷ es) → epoch ≤ (counters_of_run o es).lse
purge-within o es mail epoch answer run =
    let asked = made-asked o es mail (Purge epoch) answer run in
    asked-fits o es mail asked.0 (Purge epoch) run.0 asked.1
