-- A job that is out bears what its client holds, and what became of the epochs of a run.
use Rattle.std.proofs.Common.{◌≡◌, ◌⊎◌, ◌∙◌, ℕ, ◌%◌, ◌<◌, ◌≤◌, ◌==◌, Bool, true, false, true≢false, not, ◌&&◌, ◌||◌, List, [], ◌∷◌, Option, Some, None, IsSomeAnd, inl, inr, refl, sym, ap, arith, eqb-true, eq-eqb, le-leb, if◌then◌else◌}
use Rattle.std.proofs.lemmas.Bool.{false≢true, false_from_ne_true}
use Rattle.std.proofs.lemmas.Option.{none-some, same_Some}
use Rattle.cube_values.specs.declared.row.CodedRow.{CodedRow}
use Rattle.cube_values.specs.declared.snapshot.Snapshot.{Snapshot}
use Rattle.cube_journal.specs.declared.journal_entry.AbortCause.{AbortCause}
use Rattle.cube_journal.specs.declared.journal_entry.JournalEntry.{JournalEntry}
use Rattle.cube_journal.specs.declared.journal_entry.JournalEntry.TheVariants as entry
use Rattle.cube_journal.specs.Counters.{JournalState, state_after}
use Rattle.core_events.specs.ShardView.{BrickEntry, RowRun, RowMark, EpochSet}
use Rattle.core_events.specs.Jobs.{CoreJob, Append, DropBox, Scan, Delta, Rollback, Purge, CopyRound, Flush, JobOutcome, Done, ShardFull, Found, Compared, Copied, StoreLost, OutOfMemory}
use Rattle.core_events.specs.Events.{Opening, flusher, DeskEvent, Commit, AbortEnd, ClientCall, OnDesk, OnNames, Post, Fetch, CloseMail, NoChange, WorkerMove, Take, NoJob, Work, Reply, CoreEvent, By, At}
use Rattle.core_events.specs.Groups.{RollsBack, kind_of, no_group, has_number, has_ended, mails_of}
use Rattle.core_events.specs.Clients.{ClientState, client_state, client_after_call, held_under, ends_group}
use Rattle.core_events.specs.Cells.{counters_of_run, shard_view_of, rows_of_brick, box_has_brick, WorkerState, Free, Took, Worked, worker_of, reply_for}
use Rattle.core_events.specs.Fitting.{FitsCall, OwnsWriter, FitsWork, FitsReply, RoundProgress, round_progress}
use Rattle.core_events.specs.Runs.{IsCoreRun, CallSays, MoveSays, ShardSays}
use Rattle.core_events.specs.Serial.{commits, has_committed, aborts, has_aborted}
use Rattle.core_events.specs.Histories.{DoneJob, job_done}
use Rattle.core_serial.specs.Told.{told_of, told_after_job, told_after_move, rolled_back, rolled_after_move, rolled_after_job}
use Rattle.core_events.proofs.Finished.{run-finished, has-more, has-without, or-is, done_after, gone_after, done_with, gone_with, done-same, gone-same}
use Rattle.core_events.proofs.DeskSteps.{client_entry, state_with_entry, run-step}
use Rattle.core_events.proofs.Places.{JobPlace, Nowhere, Asked, Answered, is_out, place, place_after_post, place_after_fetch, place_after_call, place_where, place_with_done, place_after_move}
use Rattle.core_events.proofs.Posted.{run-posted}
use Rattle.core_serial.proofs.Isolation.{JobFits, job-fits, job-stays, own-holds, holds-stay, lse-rises, shown-within, asked-fits, made-asked}
use Rattle.core_serial.proofs.Asking.{SuitsAt, run-suits, own-fits, moved-asked}
use Rattle.core_serial.proofs.FoundRows.{all-below}
use Rattle.core_serial.proofs.ToldBricks.{writer-of, rolled-new, rollback-fits, rolling-unready, run-rolled, is_rolling}

-- A job that is out.
abbrev pub PlaceBears : Opening → ℕ → ClientState → ℕ → JobPlace → Type 0
PlaceBears o a k lse Nowhere = Unit {0}
PlaceBears o a k lse (Asked job) = JobFits o a job k lse
PlaceBears o a k lse (Answered job answer) = JobFits o a job k lse

place-stays : (o : Opening) (a : ℕ) (p : JobPlace) (k l : ClientState) (lse more : ℕ) → (is_out p ≡ true → l.holds ≡ k.holds)
    → lse ≤ more → PlaceBears o a k lse p → PlaceBears o a l more p
place-stays o a Nowhere k l lse more same le f = tt
place-stays o a (Asked job) k l lse more same le f = job-stays o a job k l lse more (same refl) le f
place-stays o a (Answered job answer) k l lse more same le f = job-stays o a job k l lse more (same refl) le f

post-bears : (here own : Bool) (o : Opening) (a other : ℕ) (job : CoreJob) (p : JobPlace) (k : ClientState) (lse more : ℕ)
    → (own ≡ true → FitsCall o a (Post other job) k) → k.lse ≤ lse → lse ≤ more → PlaceBears o a k lse p
    → PlaceBears o a (client_after_call o own a (Post other job) k) more (place_after_post here own job p)
post-bears true true o a other job p k lse more f shown le b =
    job-stays o a job k (client_after_call o true a (Post other job) k) lse more refl le (job-fits o a other job k lse (f refl) shown)
post-bears true false o a other job p k lse more f shown le b = place-stays o a p k k lse more (λ out. refl) le b
post-bears false true o a other job p k lse more f shown le b =
    place-stays o a p k (client_after_call o true a (Post other job) k) lse more (λ out. refl) le b
post-bears false false o a other job p k lse more f shown le b = place-stays o a p k k lse more (λ out. refl) le b

fetch-bears : (here own : Bool) (o : Opening) (a other : ℕ) (answer : JobOutcome) (p : JobPlace) (k : ClientState) (lse more : ℕ)
    → lse ≤ more → PlaceBears o a k lse p
    → PlaceBears o a (client_after_call o own a (Fetch other answer) k) more (place_after_fetch here own p)
fetch-bears true true o a other answer p k lse more le b = tt
fetch-bears true false o a other answer p k lse more le b = place-stays o a p k k lse more (λ out. refl) le b
fetch-bears false true o a other answer p k lse more le b =
    place-stays o a p k (client_after_call o true a (Fetch other answer) k) lse more (λ out. refl) le b
fetch-bears false false o a other answer p k lse more le b = place-stays o a p k k lse more (λ out. refl) le b

call-bears : (o : Opening) (own : Bool) (a mail : ℕ) (call : ClientCall) (p : JobPlace) (k : ClientState) (lse more : ℕ)
    → (own ≡ true → FitsCall o a call k) → has_number k.group.waits mail ≡ is_out p → k.lse ≤ lse → lse ≤ more → PlaceBears o a k lse p
    → PlaceBears o a (client_after_call o own a call k) more (place_after_call mail own call p)
call-bears o own a mail (Post other job) p k lse more f tied shown le b =
    post-bears (other == mail) own o a other job p k lse more f shown le b
call-bears o own a mail (Fetch other answer) p k lse more f tied shown le b =
    fetch-bears (other == mail) own o a other answer p k lse more le b
call-bears o own a mail (OnDesk call) p k lse more f tied shown le b =
    place-stays o a p k (client_after_call o own a (OnDesk call) k) lse more
    (λ out. own-holds o own a mail (OnDesk call) k f (tied ∙ out)) le b
call-bears o own a mail (OnNames call) p k lse more f tied shown le b =
    place-stays o a p k (client_after_call o own a (OnNames call) k) lse more
    (λ out. own-holds o own a mail (OnNames call) k f (tied ∙ out)) le b
call-bears o own a mail (CloseMail other) p k lse more f tied shown le b =
    place-stays o a p k (client_after_call o own a (CloseMail other) k) lse more
    (λ out. own-holds o own a mail (CloseMail other) k f (tied ∙ out)) le b
call-bears o own a mail NoChange p k lse more f tied shown le b =
    place-stays o a p k (client_after_call o own a NoChange k) lse more
    (λ out. own-holds o own a mail NoChange k f (tied ∙ out)) le b

where-bears : (own : Bool) (o : Opening) (a : ℕ) (k : ClientState) (lse : ℕ) (job : CoreJob) (answer : JobOutcome) (p : JobPlace)
    → (own ≡ true → p ≡ Asked job) → PlaceBears o a k lse p → PlaceBears o a k lse (place_where own (Answered job answer) p)
where-bears true o a k lse job answer p asked b = coe 0 1 (i. PlaceBears o a k lse (asked refl i)) b
where-bears false o a k lse job answer p asked b = b

done-bears : (x : Option DoneJob) (o : Opening) (a : ℕ) (k : ClientState) (lse : ℕ) (p : JobPlace)
    → ((d : DoneJob) → x ≡ Some d → d.client ≡ a → p ≡ Asked d.job) → PlaceBears o a k lse p
    → PlaceBears o a k lse (place_with_done a x p)
done-bears None o a k lse p asked b = b
done-bears (Some d) o a k lse p asked b =
    where-bears (d.client == a) o a k lse d.job d.answer p (λ own. asked d refl (eqb-true d.client a own)) b

move-bears : (here : Bool) (o : Opening) (a : ℕ) (worker : WorkerState) (move : WorkerMove) (k : ClientState) (lse : ℕ) (p : JobPlace)
    → (here ≡ true → (d : DoneJob) → job_done worker move ≡ Some d → d.client ≡ a → p ≡ Asked d.job)
    → PlaceBears o a k lse p → PlaceBears o a k lse (place_after_move here a worker move p)
move-bears true o a worker move k lse p asked b = done-bears (job_done worker move) o a k lse p (asked refl) b
move-bears false o a worker move k lse p asked b = b

pub run-bears : (o : Opening) (es : List CoreEvent) (mail a : ℕ) → IsCoreRun o es
    → PlaceBears o a (client_state o a es) (counters_of_run o es).lse (place mail a es)
run-bears o [] mail a run = tt
run-bears o (By b call ∷ es) mail a run =
    call-bears o (b == a) a mail call (place mail a es) (client_state o a es) (counters_of_run o es).lse
    (counters_of_run o (By b call ∷ es)).lse (own-fits o a b call es run.1.fits) ((run-posted o es run.0).tied a mail)
    (shown-within o es a run.0) (lse-rises o b call es run) (run-bears o es mail a run.0)
run-bears o (At other move ∷ es) mail a run =
    move-bears (other == mail) o a (worker_of mail es) move (client_state o a es) (counters_of_run o es).lse (place mail a es)
    (moved-asked o es other mail a move run) (run-bears o es mail a run.0)

-- A rollback that is answered was made.

abbrev JobRolled : EpochSet → CoreJob → Type 0
JobRolled rolled (Rollback epoch) = rolled epoch ≡ true
JobRolled rolled job = Unit {0}

abbrev PlaceRolled : EpochSet → JobPlace → Type 0
PlaceRolled rolled (Answered job answer) = JobRolled rolled job
PlaceRolled rolled p = Unit {0}

pub or-right : (a b : Bool) → b ≡ true → (a || b) ≡ true
or-right true b e = refl
or-right false b e = e

rolled-job : (job : CoreJob) (rolled : EpochSet) (e : ℕ) → rolled e ≡ true → rolled_after_job job rolled e ≡ true
rolled-job (Rollback epoch) rolled e is = or-right (epoch == e) (rolled e) is
rolled-job job rolled e is = is

pub rolled-stays : (here : Bool) (move : WorkerMove) (rolled : EpochSet) (e : ℕ) → rolled e ≡ true → rolled_after_move here move rolled e ≡ true
rolled-stays true (Work job Done) rolled e is = rolled-job job rolled e is
rolled-stays true (Work job (ShardFull rows)) rolled e is = is
rolled-stays true (Work job (Found rows)) rolled e is = is
rolled-stays true (Work job (Compared came went)) rolled e is = is
rolled-stays true (Work job (Copied view)) rolled e is = is
rolled-stays true (Work job StoreLost) rolled e is = is
rolled-stays true (Work job OutOfMemory) rolled e is = is
rolled-stays true (Take client job) rolled e is = is
rolled-stays true (NoJob closed) rolled e is = is
rolled-stays true (Reply client answer) rolled e is = is
rolled-stays false move rolled e is = is

job-rolled-more : (job : CoreJob) (old new : EpochSet) → ((e : ℕ) → old e ≡ true → new e ≡ true) → JobRolled old job → JobRolled new job
job-rolled-more (Append cube epoch rows) old new more r = tt
job-rolled-more (DropBox cube epoch box) old new more r = tt
job-rolled-more (Scan query snapshot) old new more r = tt
job-rolled-more (Delta query from to) old new more r = tt
job-rolled-more (Rollback epoch) old new more r = more epoch r
job-rolled-more (Purge epoch) old new more r = tt
job-rolled-more (CopyRound from to) old new more r = tt
job-rolled-more Flush old new more r = tt

place-rolled-more : (p : JobPlace) (old new : EpochSet) → ((e : ℕ) → old e ≡ true → new e ≡ true) → PlaceRolled old p → PlaceRolled new p
place-rolled-more Nowhere old new more r = tt
place-rolled-more (Asked job) old new more r = tt
place-rolled-more (Answered job answer) old new more r = job-rolled-more job old new more r

made-rolled : (o : Opening) (es : List CoreEvent) (mail : ℕ) (made : CoreJob) (answer : JobOutcome) (rolled : EpochSet)
    → ShardSays o mail (shard_view_of o es) made answer → JobRolled (rolled_after_move true (Work made answer) rolled) made
made-rolled o es mail (Append cube epoch rows) answer rolled says = tt
made-rolled o es mail (DropBox cube epoch box) answer rolled says = tt
made-rolled o es mail (Scan query snapshot) answer rolled says = tt
made-rolled o es mail (Delta query from to) answer rolled says = tt
made-rolled o es mail (Rollback epoch) Done rolled says = ap (λ (b : Bool). b || rolled epoch) (eq-eqb epoch epoch refl)
made-rolled o es mail (Rollback epoch) (ShardFull rows) rolled says = absurd says
made-rolled o es mail (Rollback epoch) (Found rows) rolled says = absurd says
made-rolled o es mail (Rollback epoch) (Compared came went) rolled says = absurd says
made-rolled o es mail (Rollback epoch) (Copied view) rolled says = absurd says
made-rolled o es mail (Rollback epoch) StoreLost rolled says = absurd says
made-rolled o es mail (Rollback epoch) OutOfMemory rolled says = absurd says
made-rolled o es mail (Purge epoch) answer rolled says = tt
made-rolled o es mail (CopyRound from to) answer rolled says = tt
made-rolled o es mail Flush answer rolled says = tt

replied-rolled : (q : RoundProgress) (lost : Bool) (job : CoreJob) (said : JobOutcome) (rolled : EpochSet) → FitsReply q lost job said
    → JobRolled rolled job
replied-rolled q lost (Append cube epoch rows) said rolled f = tt
replied-rolled q lost (DropBox cube epoch box) said rolled f = tt
replied-rolled q lost (Scan query snapshot) said rolled f = tt
replied-rolled q lost (Delta query from to) said rolled f = tt
replied-rolled q lost (Rollback epoch) said rolled f = absurd f
replied-rolled q lost (Purge epoch) said rolled f = tt
replied-rolled q lost (CopyRound from to) said rolled f = tt
replied-rolled q lost Flush said rolled f = tt

free-none : (m : WorkerMove) (d : DoneJob) → job_done Free m ≡ Some d → ⊥
free-none (Take client job) d e = none-some d e
free-none (NoJob closed) d e = none-some d e
free-none (Work job answer) d e = none-some d e
free-none (Reply client answer) d e = none-some d e

worked-none : (c : ℕ) (j : CoreJob) (x : JobOutcome) (m : WorkerMove) (d : DoneJob) → job_done (Worked c j x) m ≡ Some d → ⊥
worked-none c j x (Take client job) d e = none-some d e
worked-none c j x (NoJob closed) d e = none-some d e
worked-none c j x (Work job answer) d e = none-some d e
worked-none c j x (Reply client answer) d e = none-some d e

done-rolled : (o : Opening) (es : List CoreEvent) (mail : ℕ) (q : RoundProgress) (lost : Bool) (worker : WorkerState) (move : WorkerMove)
    (rolled : EpochSet) (d : DoneJob) → FitsWork q lost worker move → MoveSays o es mail move → job_done worker move ≡ Some d
    → JobRolled (rolled_after_move true move rolled) d.job
done-rolled o es mail q lost (Took c j) (Work made answer) rolled d fits says is =
    coe 0 1 (i. JobRolled (rolled_after_move true (Work made answer) rolled) (same_Some (record { client = c; job = made; answer = answer }) d is i).job)
    (made-rolled o es mail made answer rolled says)
done-rolled o es mail q lost (Took c j) (Reply to said) rolled d fits says is =
    coe 0 1 (i. JobRolled (rolled_after_move true (Reply to said) rolled) (same_Some (record { client = to; job = j; answer = said }) d is i).job)
    (replied-rolled q lost j said rolled fits.1)
done-rolled o es mail q lost (Took c j) (Take client job) rolled d fits says is = absurd fits
done-rolled o es mail q lost (Took c j) (NoJob closed) rolled d fits says is = absurd fits
done-rolled o es mail q lost Free move rolled d fits says is = absurd (free-none move d is)
done-rolled o es mail q lost (Worked c j x) move rolled d fits says is = absurd (worked-none c j x move d is)

where-rolled : (own : Bool) (rolled : EpochSet) (job : CoreJob) (answer : JobOutcome) (p : JobPlace) → JobRolled rolled job → PlaceRolled rolled p
    → PlaceRolled rolled (place_where own (Answered job answer) p)
where-rolled true rolled job answer p new r = new
where-rolled false rolled job answer p new r = r

with-done-rolled : (x : Option DoneJob) (a : ℕ) (rolled : EpochSet) (p : JobPlace) → ((d : DoneJob) → x ≡ Some d → JobRolled rolled d.job)
    → PlaceRolled rolled p → PlaceRolled rolled (place_with_done a x p)
with-done-rolled None a rolled p new r = r
with-done-rolled (Some d) a rolled p new r = where-rolled (d.client == a) rolled d.job d.answer p (new d refl) r

move-rolled : (here : Bool) (a : ℕ) (worker : WorkerState) (move : WorkerMove) (rolled : EpochSet) (p : JobPlace)
    → (here ≡ true → (d : DoneJob) → job_done worker move ≡ Some d → JobRolled rolled d.job)
    → PlaceRolled rolled p → PlaceRolled rolled (place_after_move here a worker move p)
move-rolled true a worker move rolled p new r = with-done-rolled (job_done worker move) a rolled p (new refl) r
move-rolled false a worker move rolled p new r = r

call-rolled : (own : Bool) (mail : ℕ) (call : ClientCall) (rolled : EpochSet) (p : JobPlace) → PlaceRolled rolled p
    → PlaceRolled rolled (place_after_call mail own call p)
call-rolled own mail (Post other job) rolled p r = post-rolled (other == mail) own
  where
    post-rolled : (here mine : Bool) → PlaceRolled rolled (place_after_post here mine job p)
    post-rolled true true = tt
    post-rolled true false = r
    post-rolled false mine = r
call-rolled own mail (Fetch other answer) rolled p r = fetch-rolled (other == mail) own
  where
    fetch-rolled : (here mine : Bool) → PlaceRolled rolled (place_after_fetch here mine p)
    fetch-rolled true true = tt
    fetch-rolled true false = r
    fetch-rolled false mine = r
call-rolled own mail (OnDesk call) rolled p r = r
call-rolled own mail (OnNames call) rolled p r = r
call-rolled own mail (CloseMail other) rolled p r = r
call-rolled own mail NoChange rolled p r = r

pub run-place-rolled : (o : Opening) (es : List CoreEvent) (mail a : ℕ) → IsCoreRun o es → PlaceRolled (rolled_back mail es) (place mail a es)
run-place-rolled o [] mail a run = tt
run-place-rolled o (By b call ∷ es) mail a run =
    call-rolled (b == a) mail call (rolled_back mail es) (place mail a es) (run-place-rolled o es mail a run.0)
run-place-rolled o (At other move ∷ es) mail a run =
    let q = round_progress o es in
    let lost = (client_state o (flusher o) es).store_lost in
    let after = rolled_after_move (other == mail) move (rolled_back mail es) in
    move-rolled (other == mail) a (worker_of mail es) move after (place mail a es)
    (λ here d is. let same = eqb-true other mail here in
    coe 1 0 (i. JobRolled (rolled_after_move (here i) move (rolled_back mail es)) d.job)
    (done-rolled o es mail q lost (worker_of mail es) move (rolled_back mail es) d
    (coe 0 1 (i. FitsWork q lost (worker_of (same i) es) move) run.1.fits) (coe 0 1 (i. MoveSays o es (same i) move) run.1.says) is))
    (place-rolled-more (place mail a es) (rolled_back mail es) after (rolled-stays (other == mail) move (rolled_back mail es))
    (run-place-rolled o es mail a run.0))

-- A rollback whose answer was fetched was made.

abbrev rolled_epoch : ℕ → CoreJob → ℕ
rolled_epoch default (Rollback epoch) = epoch
rolled_epoch default job = default

one-epoch : (h : Option Snapshot) (j k : ℕ) → IsSomeAnd h (λ x. (x.own ≡ true) × (x.epoch ≡ j))
    → IsSomeAnd h (λ x. (x.own ≡ true) × (x.epoch ≡ k)) → j ≡ k
one-epoch None j k x y = absurd x
one-epoch (Some s) j k x y = sym x.1 ∙ y.1

answered-rolled : (o : Opening) (a mail k : ℕ) (job : CoreJob) (s : ClientState) (lse : ℕ) (rolled : EpochSet) → kind_of job ≡ RollsBack
    → JobFits o a job s lse → JobRolled rolled job → OwnsWriter a k s → rolled k ≡ true
answered-rolled o a mail k (Append cube epoch rows) s lse rolled kind f r owns = absurd (false≢true (ap is_rolling kind))
answered-rolled o a mail k (DropBox cube epoch box) s lse rolled kind f r owns = absurd (false≢true (ap is_rolling kind))
answered-rolled o a mail k (Scan query snapshot) s lse rolled kind f r owns = absurd (false≢true (ap is_rolling kind))
answered-rolled o a mail k (Delta query from to) s lse rolled kind f r owns = absurd (false≢true (ap is_rolling kind))
answered-rolled o a mail k (Rollback epoch) s lse rolled kind f r owns = ap rolled (sym (one-epoch (held_under a s.holds) epoch k f.1 owns)) ∙ r
answered-rolled o a mail k (Purge epoch) s lse rolled kind f r owns = absurd (false≢true (ap is_rolling kind))
answered-rolled o a mail k (CopyRound from to) s lse rolled kind f r owns = absurd (false≢true (ap is_rolling kind))
answered-rolled o a mail k Flush s lse rolled kind f r owns = absurd (false≢true (ap is_rolling kind))

abbrev RollsDone : Opening → List CoreEvent → ℕ → ℕ → ClientState → Type 0
RollsDone o es a mail s = (k : ℕ) → s.group.kind ≡ RollsBack → OwnsWriter a k s → has_number (mails_of s.group.answers) mail ≡ true
    → rolled_back mail es k ≡ true

post-rolls-done : (ended : Bool) (o : Opening) (es : List CoreEvent) (a mail other : ℕ) (job : CoreJob) (s : ClientState) (k : ℕ)
    → RollsDone o es a mail s
    → (if ended then record { kind = kind_of job; waits = other ∷ []; answers = [] } else record s.group { waits = other ∷ s.group.waits }).kind ≡ RollsBack
    → OwnsWriter a k s
    → has_number (mails_of (if ended then record { kind = kind_of job; waits = other ∷ []; answers = [] } else record s.group { waits = other ∷ s.group.waits }).answers) mail ≡ true
    → rolled_back mail es k ≡ true
post-rolls-done true o es a mail other job s k before kind owns has = absurd (false≢true has)
post-rolls-done false o es a mail other job s k before kind owns has = before k kind owns has

desk-rolls-done : (ends : Bool) (o : Opening) (es : List CoreEvent) (a mail : ℕ) (call : DeskEvent) (s : ClientState) (k : ℕ)
    → ends_group (OnDesk call) ≡ ends → RollsDone o es a mail s → (if ends then no_group else s.group).kind ≡ RollsBack
    → OwnsWriter a k (client_after_call o true a (OnDesk call) s)
    → has_number (mails_of (if ends then no_group else s.group).answers) mail ≡ true → rolled_back mail es k ≡ true
desk-rolls-done true o es a mail call s k is before kind owns has = absurd (false≢true has)
desk-rolls-done false o es a mail call s k is before kind owns has =
    before k kind (coe 0 1 (i. IsSomeAnd (held_under a (holds-stay a (OnDesk call) s.holds is i)) (λ x. (x.own ≡ true) × (x.epoch ≡ k))) owns) has

fetch-rolls-done : (here : Bool) (o : Opening) (es : List CoreEvent) (a mail other k : ℕ) (s : ClientState) → (other == mail) ≡ here
    → (here ≡ true → s.group.kind ≡ RollsBack → OwnsWriter a k s → rolled_back mail es k ≡ true)
    → RollsDone o es a mail s → s.group.kind ≡ RollsBack → OwnsWriter a k s
    → (here || has_number (mails_of s.group.answers) mail) ≡ true → rolled_back mail es k ≡ true
fetch-rolls-done true o es a mail other k s is new before kind owns has = new refl kind owns
fetch-rolls-done false o es a mail other k s is new before kind owns has = before k kind owns has

fetched-rolled : (o : Opening) (es : List CoreEvent) (a mail other : ℕ) (answer : JobOutcome) (k : ℕ) → IsCoreRun o es
    → reply_for other a es ≡ Some answer → other ≡ mail → (client_state o a es).group.kind ≡ RollsBack
    → OwnsWriter a k (client_state o a es) → rolled_back mail es k ≡ true
fetched-rolled o es a mail other answer k run held same kind owns =
    let there = ((run-posted o es run).posted other).held a answer held in
    let g = (client_state o a es).group in
    let suits = coe 0 1 (i. SuitsAt other g (there.1 i)) (run-suits o es other a run) in
    let bears = coe 0 1 (i. PlaceBears o a (client_state o a es) (counters_of_run o es).lse (there.1 i)) (run-bears o es other a run) in
    let rolled = coe 0 1 (i. PlaceRolled (rolled_back other es) (there.1 i)) (run-place-rolled o es other a run) in
    ap (λ (m : ℕ). rolled_back m es k) (sym same)
    ∙ answered-rolled o a other k there.0 (client_state o a es) (counters_of_run o es).lse (rolled_back other es) (suits.kind ∙ kind) bears rolled owns

call-rolls-done : (o : Opening) (es : List CoreEvent) (own : Bool) (a mail : ℕ) (call : ClientCall) → IsCoreRun o es
    → (own ≡ true → CallSays o es a call) → RollsDone o es a mail (client_state o a es)
    → RollsDone o (By a call ∷ es) a mail (client_after_call o own a call (client_state o a es))
call-rolls-done o es true a mail (Post other job) run says before k kind owns has =
    post-rolls-done (has_ended o.shards (client_state o a es).group) o es a mail other job (client_state o a es) k before kind owns has
call-rolls-done o es true a mail (Fetch other answer) run says before k kind owns has =
    fetch-rolls-done (other == mail) o es a mail other k (client_state o a es) refl
    (λ here kind owns. fetched-rolled o es a mail other answer k run (says refl) (eqb-true other mail here) kind owns) before kind owns has
call-rolls-done o es true a mail (OnDesk call) run says before k kind owns has =
    desk-rolls-done (ends_group (OnDesk call)) o es a mail call (client_state o a es) k refl before kind owns has
call-rolls-done o es true a mail (OnNames call) run says before k kind owns has = before k kind owns has
call-rolls-done o es true a mail (CloseMail other) run says before k kind owns has = before k kind owns has
call-rolls-done o es true a mail NoChange run says before k kind owns has = before k kind owns has
call-rolls-done o es false a mail call run says before k kind owns has = before k kind owns has

pub run-rolls-done : (o : Opening) (es : List CoreEvent) (a mail k : ℕ) → IsCoreRun o es → (client_state o a es).group.kind ≡ RollsBack
    → OwnsWriter a k (client_state o a es) → has_number (mails_of (client_state o a es).group.answers) mail ≡ true
    → rolled_back mail es k ≡ true
run-rolls-done o [] a mail k run kind owns has = absurd (false≢true has)
run-rolls-done o (By b call ∷ es) a mail k run kind owns has =
    call-rolls-done o es (b == a) a mail call run.0
    (λ own. let same = eqb-true b a own in coe 0 1 (i. CallSays o es (same i) call) run.1.says)
    (λ j. run-rolls-done o es a mail j run.0) k kind owns has
run-rolls-done o (At other move ∷ es) a mail k run kind owns has =
    rolled-stays (other == mail) move (rolled_back mail es) k (run-rolls-done o es a mail k run.0 kind owns has)

-- Aborted transactions were rolled back on each shard, committed ones on none.

pub record IsAbort (call : ClientCall) (e : ℕ) : Type 0 where
  pub statement : ℕ
  pub cause : AbortCause
  pub is : call ≡ OnDesk (AbortEnd statement e cause)

abort-of : (call : ClientCall) (e : ℕ) → aborts call e ≡ true → IsAbort call e
abort-of (OnDesk (AbortEnd statement epoch cause)) e h =
    record { statement = statement; cause = cause; is = ap (λ (n : ℕ). OnDesk (AbortEnd statement n cause)) (eqb-true epoch e h) }
abort-of call e h = absurd (false≢true h)

pub record IsCommit (call : ClientCall) (e : ℕ) : Type 0 where
  pub statement : ℕ
  pub is : call ≡ OnDesk (Commit statement e)

pub commit-of : (call : ClientCall) (e : ℕ) → commits call e ≡ true → IsCommit call e
commit-of (OnDesk (Commit statement epoch)) e h =
    record { statement = statement; is = ap (λ (n : ℕ). OnDesk (Commit statement n)) (eqb-true epoch e h) }
commit-of call e h = absurd (false≢true h)

pub aborted-rolled : (o : Opening) (es : List CoreEvent) (shard e : ℕ) → IsCoreRun o es → shard < o.shards → has_aborted es e ≡ true
    → rolled_back shard es e ≡ true
aborted-rolled o [] shard e run l is = absurd (false≢true is)
aborted-rolled o (By b call ∷ es) shard e run l is = elim (or-is (aborts call e) (has_aborted es e) is) [
  | inl new ↦
      (let x = abort-of call e new in
      let f = coe 0 1 (i. FitsCall o b (x.is i) (client_state o b es)) run.1.fits in
      run-rolls-done o es b shard e run.0 f.rolls f.writer
      (all-below o.shards shard (mails_of (client_state o b es).group.answers) f.done.all l))
  | inr old ↦ aborted-rolled o es shard e run.0 l old
]
aborted-rolled o (At mail move ∷ es) shard e run l is =
    rolled-stays (mail == shard) move (rolled_back shard es) e (aborted-rolled o es shard e run.0 l is)

pub committed-unrolled : (o : Opening) (es : List CoreEvent) (shard e : ℕ) → IsCoreRun o es → has_committed o es e ≡ true
    → rolled_back shard es e ≡ false
committed-unrolled o [] shard e run is = refl
committed-unrolled o (By b call ∷ es) shard e run is = elim (or-is (commits call e) (has_committed o es e) is) [
  | inl new ↦
      (let x = commit-of call e new in
      let f = coe 0 1 (i. FitsCall o b (x.is i) (client_state o b es)) run.1.fits in
      false_from_ne_true (rolled_back shard es e) (λ rolled.
      rolling-unready o.shards (client_state o b es).group ((run-rolled o es shard run.0).rolls b e rolled f.session f.writer) f.ready))
  | inr old ↦ committed-unrolled o es shard e run.0 old
]
committed-unrolled o (At mail move ∷ es) shard e run is =
    false_from_ne_true (rolled_after_move (mail == shard) move (rolled_back shard es) e) (λ rolled.
    elim (rolled-new (mail == shard) move (rolled_back shard es) e rolled) [
      | inl old ↦ true≢false (sym old ∙ committed-unrolled o es shard e run.0 is)
      | inr new ↦ (let f = rollback-fits o es mail e move run new.1 in true≢false (sym f.1.pending ∙ (run-finished o es run.0).done_ended e is))
    ])

-- What became of an epoch: it is committed, aborted or pending.

abbrev pub HasFate : Opening → List CoreEvent → ℕ → Type 0
HasFate o es e = (has_committed o es e ≡ true) ⊎ ((has_aborted es e ≡ true) ⊎ (has_number (counters_of_run o es).pending e ≡ true))

pub or-left : (a b : Bool) → a ≡ true → (a || b) ≡ true
or-left true b e = refl
or-left false b e = absurd (false≢true e)

pending-ends : (same : Bool) (has : Bool) → has ≡ true → ((has && not same) ≡ true) ⊎ ((same || false) ≡ true)
pending-ends true has e = inr refl
pending-ends false has e = inl (ap (λ (b : Bool). b && true) e)

abbrev PendingOr : JournalState → JournalEntry → ℕ → Type 0
PendingOr s x e = (has_number (state_after s x).pending e ≡ true)
    ⊎ ((done_after x (λ n. false) e ≡ true) ⊎ (gone_after x (λ n. false) e ≡ true))

pending-step : (s : JournalState) (x : JournalEntry) (e : ℕ) → has_number s.pending e ≡ true → PendingOr s x e
pending-step s (entry.Begin session statement epoch deps) e is = inl (has-more s.pending epoch e ∙ or-left (has_number s.pending e) (epoch == e) is)
pending-step s (entry.Committed session statement epoch) e is = elim (pending-ends (epoch == e) (has_number s.pending e) is) [
  | inl stays ↦ inl (has-without s.pending epoch e ∙ stays)
  | inr ended ↦ inr (inl ended)
]
pending-step s (entry.Aborted session statement epoch cause) e is = elim (pending-ends (epoch == e) (has_number s.pending e) is) [
  | inl stays ↦ inl (has-without s.pending epoch e ∙ stays)
  | inr ended ↦ inr (inr ended)
]
pending-step s x e is = inl is

or-none : (b : Bool) → (b || false) ≡ b
or-none true = refl
or-none false = refl

pending-call : (o : Opening) (b : ℕ) (call : ClientCall) (es : List CoreEvent) (x : Option JournalEntry) (e : ℕ)
    → client_entry b call ≡ x → has_number (counters_of_run o es).pending e ≡ true
    → (has_number (state_with_entry x (counters_of_run o es)).pending e ≡ true)
    ⊎ ((done_with x (λ n. false) e ≡ true) ⊎ (gone_with x (λ n. false) e ≡ true))
pending-call o b call es None e is has = inl has
pending-call o b call es (Some x) e is has = pending-step (counters_of_run o es) x e has

fate-call : (o : Opening) (b : ℕ) (call : ClientCall) (es : List CoreEvent) (e : ℕ) → HasFate o es e → HasFate o (By b call ∷ es) e
fate-call o b call es e (inl done) = inl (or-right (commits call e) (has_committed o es e) done)
fate-call o b call es e (inr (inl gone)) = inr (inl (or-right (aborts call e) (has_aborted es e) gone))
fate-call o b call es e (inr (inr pending)) = elim (pending-call o b call es (client_entry b call) e refl pending) [
  | inl stays ↦ inr (inr (ap (λ (s : JournalState). has_number s.pending e) (run-step o b call es) ∙ stays))
  | inr (inl done) ↦ inl (or-left (commits call e) (has_committed o es e)
      (sym (or-none (commits call e)) ∙ sym (done-same b call (λ n. false) e) ∙ done))
  | inr (inr gone) ↦ inr (inl (or-left (aborts call e) (has_aborted es e)
      (sym (or-none (aborts call e)) ∙ sym (gone-same b call (λ n. false) e) ∙ gone)))
]

abbrev pub HaveFates : Opening → List CoreEvent → List BrickEntry → Type 0
HaveFates o es [] = Unit {0}
HaveFates o es (RowRun e rows ∷ older) = HasFate o es e × HaveFates o es older
HaveFates o es (RowMark e ∷ older) = HasFate o es e × HaveFates o es older

pub fates-call : (o : Opening) (b : ℕ) (call : ClientCall) (es : List CoreEvent) (xs : List BrickEntry) → HaveFates o es xs → HaveFates o (By b call ∷ es) xs
fates-call o b call es [] f = tt
fates-call o b call es (RowRun e rows ∷ older) f = (fate-call o b call es e f.0, fates-call o b call es older f.1)
fates-call o b call es (RowMark e ∷ older) f = (fate-call o b call es e f.0, fates-call o b call es older f.1)

pub fates-move : (o : Opening) (mail : ℕ) (move : WorkerMove) (es : List CoreEvent) (xs : List BrickEntry) → HaveFates o es xs → HaveFates o (At mail move ∷ es) xs
fates-move o mail move es [] f = tt
fates-move o mail move es (RowRun e rows ∷ older) f = (f.0, fates-move o mail move es older f.1)
fates-move o mail move es (RowMark e ∷ older) f = (f.0, fates-move o mail move es older f.1)

run-where : (here : Bool) (o : Opening) (es : List CoreEvent) (e : ℕ) (rows : List CodedRow) (xs : List BrickEntry) → HasFate o es e → HaveFates o es xs
    → HaveFates o es (if here then RowRun e rows ∷ xs else xs)
run-where true o es e rows xs fate f = (fate, f)
run-where false o es e rows xs fate f = f

mark-where : (here : Bool) (o : Opening) (es : List CoreEvent) (e : ℕ) (xs : List BrickEntry) → HasFate o es e → HaveFates o es xs
    → HaveFates o es (if here then RowMark e ∷ xs else xs)
mark-where true o es e xs fate f = (fate, f)
mark-where false o es e xs fate f = f

job-fates : (o : Opening) (es : List CoreEvent) (a cube brick : ℕ) (job : CoreJob) (xs : List BrickEntry) → IsCoreRun o es
    → JobFits o a job (client_state o a es) (counters_of_run o es).lse → HaveFates o es xs → HaveFates o es (told_after_job o cube brick job xs)
job-fates o es a cube brick (Append other epoch rows) xs run f fates =
    run-where (other == cube) o es epoch (rows_of_brick o cube brick rows) xs (inr (inr (writer-of o es a epoch run f.0 f.1).pending)) fates
job-fates o es a cube brick (DropBox other epoch box) xs run f fates =
    mark-where (other == cube && box_has_brick o cube box brick) o es epoch xs (inr (inr (writer-of o es a epoch run f.0 f.1).pending)) fates
job-fates o es a cube brick (Scan query snapshot) xs run f fates = fates
job-fates o es a cube brick (Delta query from to) xs run f fates = fates
job-fates o es a cube brick (Rollback epoch) xs run f fates = fates
job-fates o es a cube brick (Purge epoch) xs run f fates = fates
job-fates o es a cube brick (CopyRound from to) xs run f fates = fates
job-fates o es a cube brick Flush xs run f fates = fates

told-fates : (here : Bool) (o : Opening) (es : List CoreEvent) (cube brick : ℕ) (move : WorkerMove) (xs : List BrickEntry)
    → ((job : CoreJob) → move ≡ Work job Done → HaveFates o es (told_after_job o cube brick job xs))
    → HaveFates o es xs → HaveFates o es (told_after_move o here cube brick move xs)
told-fates true o es cube brick (Work job Done) xs new f = new job refl
told-fates true o es cube brick (Work job (ShardFull rows)) xs new f = f
told-fates true o es cube brick (Work job (Found rows)) xs new f = f
told-fates true o es cube brick (Work job (Compared came went)) xs new f = f
told-fates true o es cube brick (Work job (Copied view)) xs new f = f
told-fates true o es cube brick (Work job StoreLost) xs new f = f
told-fates true o es cube brick (Work job OutOfMemory) xs new f = f
told-fates true o es cube brick (Take client job) xs new f = f
told-fates true o es cube brick (NoJob closed) xs new f = f
told-fates true o es cube brick (Reply client answer) xs new f = f
told-fates false o es cube brick move xs new f = f

pub run-fates : (o : Opening) (es : List CoreEvent) (cube brick : ℕ) → IsCoreRun o es → HaveFates o es (told_of o es cube brick)
run-fates o [] cube brick run = (inl (le-leb o.safe o.safe (omega arith)), tt)
run-fates o (By b call ∷ es) cube brick run = fates-call o b call es (told_of o es cube brick) (run-fates o es cube brick run.0)
run-fates o (At mail move ∷ es) cube brick run =
    fates-move o mail move es (told_after_move o (mail == brick % o.shards) cube brick move (told_of o es cube brick))
    (told-fates (mail == brick % o.shards) o es cube brick move (told_of o es cube brick)
    (λ job is.
    let made = made-asked o es mail job Done (coe 0 1 (i. IsCoreRun o (At mail (is i) ∷ es)) run) in
    job-fates o es made.0 cube brick job (told_of o es cube brick) run.0 (asked-fits o es mail made.0 job run.0 made.1) (run-fates o es cube brick run.0))
    (run-fates o es cube brick run.0))
