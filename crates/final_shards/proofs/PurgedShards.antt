-- A purge whose answer was fetched was made, and no mark up to its epoch has come since.
use Rattle.std.proofs.Common.{◌≡◌, ◌⊎◌, inl, inr, ◌∙◌, ℕ, ◌%◌, ◌<◌, ◌≤◌, ◌==◌, Bool, true, false, ◌&&◌, ◌||◌, List, [], ◌∷◌, Option, Some, None, if◌then◌else◌, refl, sym, ap, arith, eqb-true, eq-eqb, mod-lt}
use Rattle.std.proofs.lemmas.Bool.{false≢true}
use Rattle.std.proofs.lemmas.Option.{none-some, same_Some}
use Rattle.cube_values.specs.declared.row.CodedRow.{CodedRow}
use Rattle.core_events.specs.ShardView.{BrickEntry, RowRun, RowMark, EpochSet, every_epoch}
use Rattle.core_events.specs.Jobs.{CoreJob, Append, DropBox, Scan, Delta, Rollback, Purge, CopyRound, Flush, JobOutcome, Done, ShardFull, Found, Compared, Copied, StoreLost, OutOfMemory}
use Rattle.core_events.specs.Events.{Opening, flusher, ClientCall, OnDesk, OnNames, Post, Fetch, CloseMail, NoChange, WorkerMove, Take, NoJob, Work, Reply, CoreEvent, By, At}
use Rattle.core_events.specs.Groups.{GroupKind, Purges, JobGroup, kind_of, no_group, has_number, has_ended, mails_of}
use Rattle.core_events.specs.Clients.{client_state, client_after_call, ends_group}
use Rattle.core_events.specs.Cells.{counters_of_run, shard_view_of, rows_of_brick, box_has_brick, brick_after_job, brick_after_move, WorkerState, Free, Took, Worked, worker_of, reply_for}
use Rattle.core_events.specs.Fitting.{FitsWork, FitsReply, RoundProgress, round_progress}
use Rattle.core_events.specs.Runs.{IsCoreRun}
use Rattle.core_events.specs.Histories.{DoneJob, job_done}
use Rattle.core_events.proofs.Agreement.{opening-of}
use Rattle.core_events.proofs.Places.{JobPlace, Nowhere, Asked, Answered, place, place_after_post, place_after_fetch, place_after_call, place_where, place_with_done, place_after_move}
use Rattle.core_events.proofs.Posted.{run-posted}
use Rattle.core_serial.proofs.Isolation.{asked-fits, made-asked, lse-rises, purge-within}
use Rattle.core_serial.proofs.Asking.{SuitsAt, run-suits}
use Rattle.core_serial.proofs.FoundRows.{all-below}
use Rattle.core_serial.proofs.ToldBricks.{writer-of, above-lse}
use Rattle.core_serial.proofs.Fates.{or-right}
use Rattle.core_events.proofs.Finished.{or-is}
use Rattle.final_shards.specs.PurgedBricks.{HasNoMarkUpTo, HasPurgedShards, purged_after_job, purged_after_move, was_purged}
use Rattle.final_shards.proofs.LeftEntries.{no-mark-left, no-mark-purged, no-mark-rolled}

-- ---- a purge that was made

pub purged-job : (job : CoreJob) (old : EpochSet) (e : ℕ) → old e ≡ true → purged_after_job job old e ≡ true
purged-job (Purge epoch) old e is = or-right (epoch == e) (old e) is
purged-job (Append cube epoch rows) old e is = is
purged-job (DropBox cube epoch box) old e is = is
purged-job (Scan query snapshot) old e is = is
purged-job (Delta query from to) old e is = is
purged-job (Rollback epoch) old e is = is
purged-job (CopyRound from to) old e is = is
purged-job Flush old e is = is

purged-stays : (here : Bool) (move : WorkerMove) (old : EpochSet) (e : ℕ) → old e ≡ true
    → purged_after_move here move old e ≡ true
purged-stays true (Work job Done) old e is = purged-job job old e is
purged-stays true (Work job (ShardFull rows)) old e is = is
purged-stays true (Work job (Found rows)) old e is = is
purged-stays true (Work job (Compared came went)) old e is = is
purged-stays true (Work job (Copied view)) old e is = is
purged-stays true (Work job StoreLost) old e is = is
purged-stays true (Work job OutOfMemory) old e is = is
purged-stays true (Take client job) old e is = is
purged-stays true (NoJob closed) old e is = is
purged-stays true (Reply client answer) old e is = is
purged-stays false move old e is = is

-- It is made by this move, or it was before.
abbrev pub PurgedNow : ℕ → Bool → WorkerMove → Type 0
PurgedNow e here move = (here ≡ true) × (move ≡ Work (Purge e) Done)

job-cases : (job : CoreJob) (old : EpochSet) (e : ℕ) → purged_after_job job old e ≡ true
    → PurgedNow e true (Work job Done) ⊎ (old e ≡ true)
job-cases (Purge epoch) old e is = elim (or-is (epoch == e) (old e) is) [
  | inl new ↦ inl (refl, ap (λ (n : ℕ). Work (Purge n) Done) (eqb-true epoch e new))
  | inr before ↦ inr before
]
job-cases (Append cube epoch rows) old e is = inr is
job-cases (DropBox cube epoch box) old e is = inr is
job-cases (Scan query snapshot) old e is = inr is
job-cases (Delta query from to) old e is = inr is
job-cases (Rollback epoch) old e is = inr is
job-cases (CopyRound from to) old e is = inr is
job-cases Flush old e is = inr is

pub purged-cases : (here : Bool) (move : WorkerMove) (old : EpochSet) (e : ℕ)
    → purged_after_move here move old e ≡ true → PurgedNow e here move ⊎ (old e ≡ true)
purged-cases true (Work job Done) old e is = job-cases job old e is
purged-cases true (Work job (ShardFull rows)) old e is = inr is
purged-cases true (Work job (Found rows)) old e is = inr is
purged-cases true (Work job (Compared came went)) old e is = inr is
purged-cases true (Work job (Copied view)) old e is = inr is
purged-cases true (Work job StoreLost) old e is = inr is
purged-cases true (Work job OutOfMemory) old e is = inr is
purged-cases true (Take client job) old e is = inr is
purged-cases true (NoJob closed) old e is = inr is
purged-cases true (Reply client answer) old e is = inr is
purged-cases false move old e is = inr is

-- It is not above LSE.
pub purged-low : (o : Opening) (es : List CoreEvent) (mail epoch : ℕ) → IsCoreRun o es
    → was_purged mail es epoch ≡ true → epoch ≤ (counters_of_run o es).lse
purged-low o [] mail epoch run is = absurd (false≢true is)
purged-low o (By b call ∷ es) mail epoch run is =
    let before = purged-low o es mail epoch run.0 is in
    let rises = lse-rises o b call es run in
    omega (arith, before, rises)
purged-low o (At other move ∷ es) mail epoch run is =
    elim (purged-cases (other == mail) move (was_purged mail es) epoch is) [
      | inl new ↦ purge-within o es other epoch Done (coe 0 1 (i. IsCoreRun o (At other (new.1 i) ∷ es)) run)
      | inr before ↦ purged-low o es mail epoch run.0 before
    ]

-- ---- no mark comes behind it

-- A job marks no epoch up to one.
abbrev pub MarksAbove : ℕ → CoreJob → Type 0
MarksAbove low (DropBox cube epoch box) = low < epoch
MarksAbove low job = Unit {0}

pub marks-above : (o : Opening) (es : List CoreEvent) (mail low : ℕ) (job : CoreJob) (answer : JobOutcome)
    → IsCoreRun o (At mail (Work job answer) ∷ es) → low ≤ (counters_of_run o es).lse → MarksAbove low job
marks-above o es mail low (DropBox cube epoch box) answer run within =
    let asked = made-asked o es mail (DropBox cube epoch box) answer run in
    let fits = asked-fits o es mail asked.0 (DropBox cube epoch box) run.0 asked.1 in
    let above = above-lse o es epoch run.0 (writer-of o es asked.0 epoch run.0 fits.0 fits.1).pending in
    omega (arith, within, above)
marks-above o es mail low (Append cube epoch rows) answer run within = tt
marks-above o es mail low (Scan query snapshot) answer run within = tt
marks-above o es mail low (Delta query from to) answer run within = tt
marks-above o es mail low (Rollback epoch) answer run within = tt
marks-above o es mail low (Purge epoch) answer run within = tt
marks-above o es mail low (CopyRound from to) answer run within = tt
marks-above o es mail low Flush answer run within = tt

run-where : (here : Bool) (low epoch : ℕ) (rows : List CodedRow) (xs : List BrickEntry) → HasNoMarkUpTo low xs
    → HasNoMarkUpTo low (if here then RowRun epoch rows ∷ xs else xs)
run-where true low epoch rows xs none = none
run-where false low epoch rows xs none = none

mark-where : (here : Bool) (low epoch : ℕ) (xs : List BrickEntry) → low < epoch → HasNoMarkUpTo low xs
    → HasNoMarkUpTo low (if here then RowMark epoch ∷ xs else xs)
mark-where true low epoch xs above none = (above, none)
mark-where false low epoch xs above none = none

clear-job : (o : Opening) (cube brick low : ℕ) (job : CoreJob) (xs : List BrickEntry) → MarksAbove low job
    → HasNoMarkUpTo low xs → HasNoMarkUpTo low (brick_after_job o cube brick job xs)
clear-job o cube brick low (Append other epoch rows) xs above none =
    run-where (other == cube) low epoch (rows_of_brick o cube brick rows) xs none
clear-job o cube brick low (DropBox other epoch box) xs above none =
    mark-where (other == cube && box_has_brick o cube box brick) low epoch xs above none
clear-job o cube brick low (Rollback epoch) xs above none = no-mark-rolled low epoch xs none
clear-job o cube brick low (Purge epoch) xs above none = no-mark-purged every_epoch low epoch xs none
clear-job o cube brick low (Scan query snapshot) xs above none = none
clear-job o cube brick low (Delta query from to) xs above none = none
clear-job o cube brick low (CopyRound from to) xs above none = none
clear-job o cube brick low Flush xs above none = none

clear-work : (o : Opening) (here : Bool) (cube brick low : ℕ) (job : CoreJob) (answer : JobOutcome)
    (xs : List BrickEntry) → MarksAbove low job → HasNoMarkUpTo low xs
    → HasNoMarkUpTo low (brick_after_move o here cube brick (Work job answer) xs)
clear-work o true cube brick low job Done xs above none = clear-job o cube brick low job xs above none
clear-work o true cube brick low job (ShardFull rows) xs above none = none
clear-work o true cube brick low job (Found rows) xs above none = none
clear-work o true cube brick low job (Compared came went) xs above none = none
clear-work o true cube brick low job (Copied view) xs above none = none
clear-work o true cube brick low job StoreLost xs above none = none
clear-work o true cube brick low job OutOfMemory xs above none = none
clear-work o false cube brick low job answer xs above none = none

clear-move : (o : Opening) (es : List CoreEvent) (other low cube brick : ℕ) (move : WorkerMove)
    → IsCoreRun o (At other move ∷ es) → low ≤ (counters_of_run o es).lse
    → HasNoMarkUpTo low (shard_view_of o es cube brick)
    → HasNoMarkUpTo low (shard_view_of o (At other move ∷ es) cube brick)
clear-move o es other low cube brick (Work job answer) run within none =
    clear-work o (other == brick % o.shards) cube brick low job answer (shard_view_of o es cube brick)
    (marks-above o es other low job answer run within) none
clear-move o es other low cube brick (Take client job) run within none =
    same (other == brick % o.shards)
  where
    same : (here : Bool) → HasNoMarkUpTo low
        (brick_after_move o here cube brick (Take client job) (shard_view_of o es cube brick))
    same true = none
    same false = none
clear-move o es other low cube brick (NoJob closed) run within none = same (other == brick % o.shards)
  where
    same : (here : Bool) → HasNoMarkUpTo low
        (brick_after_move o here cube brick (NoJob closed) (shard_view_of o es cube brick))
    same true = none
    same false = none
clear-move o es other low cube brick (Reply client answer) run within none = same (other == brick % o.shards)
  where
    same : (here : Bool) → HasNoMarkUpTo low
        (brick_after_move o here cube brick (Reply client answer) (shard_view_of o es cube brick))
    same true = none
    same false = none

-- The shard has no mark up to the epoch.
pub purged-clear : (o : Opening) (es : List CoreEvent) (mail epoch cube brick : ℕ) → IsCoreRun o es
    → brick % o.shards ≡ mail → was_purged mail es epoch ≡ true → HasNoMarkUpTo epoch (shard_view_of o es cube brick)
purged-clear o [] mail epoch cube brick run here is = absurd (false≢true is)
purged-clear o (By b call ∷ es) mail epoch cube brick run here is =
    purged-clear o es mail epoch cube brick run.0 here is
purged-clear o (At other move ∷ es) mail epoch cube brick run here is =
    elim (purged-cases (other == mail) move (was_purged mail es) epoch is) [
      | inl new ↦
          coe 1 0 (i. HasNoMarkUpTo epoch (brick_after_move o
          (eq-eqb other (brick % o.shards) (eqb-true other mail new.0 ∙ sym here) i) cube brick
          (new.1 i) (shard_view_of o es cube brick)))
          (no-mark-left every_epoch epoch (shard_view_of o es cube brick))
      | inr before ↦
          clear-move o es other epoch cube brick move run (purged-low o es mail epoch run.0 before)
          (purged-clear o es mail epoch cube brick run.0 here before)
    ]

-- ---- an answer to it

abbrev IsPurged : Opening → List CoreEvent → ℕ → ℕ → Type 0
IsPurged o es mail epoch = was_purged mail es epoch ≡ true

purged-call : (o : Opening) (b : ℕ) (call : ClientCall) (es : List CoreEvent) (mail epoch : ℕ)
    → IsCoreRun o (By b call ∷ es) → IsPurged o es mail epoch → IsPurged o (By b call ∷ es) mail epoch
purged-call o b call es mail epoch run p = p

purged-move : (o : Opening) (other : ℕ) (move : WorkerMove) (es : List CoreEvent) (mail epoch : ℕ)
    → IsCoreRun o (At other move ∷ es) → IsPurged o es mail epoch → IsPurged o (At other move ∷ es) mail epoch
purged-move o other move es mail epoch run p = purged-stays (other == mail) move (was_purged mail es) epoch p

abbrev JobPurged : Opening → List CoreEvent → ℕ → CoreJob → Type 0
JobPurged o es mail (Purge epoch) = IsPurged o es mail epoch
JobPurged o es mail job = Unit {0}

abbrev PlacePurged : Opening → List CoreEvent → ℕ → JobPlace → Type 0
PlacePurged o es mail (Answered job answer) = JobPurged o es mail job
PlacePurged o es mail p = Unit {0}

-- The one answer to a purge is that it is done.
purge-done : (o : Opening) (es : List CoreEvent) (mail epoch : ℕ) (answer : JobOutcome)
    → IsCoreRun o (At mail (Work (Purge epoch) answer) ∷ es)
    → IsPurged o (At mail (Work (Purge epoch) answer) ∷ es) mail epoch
purge-done o es mail epoch Done run =
    (λ i. purged_after_move (eq-eqb mail mail refl i) (Work (Purge epoch) Done) (was_purged mail es) epoch)
    ∙ ap (λ (b : Bool). b || was_purged mail es epoch) (eq-eqb epoch epoch refl)
purge-done o es mail epoch (ShardFull rows) run = absurd run.1.says
purge-done o es mail epoch (Found rows) run = absurd run.1.says
purge-done o es mail epoch (Compared came went) run = absurd run.1.says
purge-done o es mail epoch (Copied view) run = absurd run.1.says
purge-done o es mail epoch StoreLost run = absurd run.1.says
purge-done o es mail epoch OutOfMemory run = absurd run.1.says

work-purged : (o : Opening) (es : List CoreEvent) (mail : ℕ) (job : CoreJob) (answer : JobOutcome)
    → IsCoreRun o (At mail (Work job answer) ∷ es) → JobPurged o (At mail (Work job answer) ∷ es) mail job
work-purged o es mail (Purge epoch) answer run = purge-done o es mail epoch answer run
work-purged o es mail (Append cube epoch rows) answer run = tt
work-purged o es mail (DropBox cube epoch box) answer run = tt
work-purged o es mail (Scan query snapshot) answer run = tt
work-purged o es mail (Delta query from to) answer run = tt
work-purged o es mail (Rollback epoch) answer run = tt
work-purged o es mail (CopyRound from to) answer run = tt
work-purged o es mail Flush answer run = tt

reply-purged : (q : RoundProgress) (lost : Bool) (job : CoreJob) (said : JobOutcome) (o : Opening)
    (es : List CoreEvent) (mail : ℕ) → FitsReply q lost job said → JobPurged o es mail job
reply-purged q lost (Purge epoch) said o es mail f = absurd f
reply-purged q lost (Append cube epoch rows) said o es mail f = tt
reply-purged q lost (DropBox cube epoch box) said o es mail f = tt
reply-purged q lost (Scan query snapshot) said o es mail f = tt
reply-purged q lost (Delta query from to) said o es mail f = tt
reply-purged q lost (Rollback epoch) said o es mail f = tt
reply-purged q lost (CopyRound from to) said o es mail f = tt
reply-purged q lost Flush said o es mail f = tt

none-done : {A : Type 0} (worker : WorkerState) (move : WorkerMove) (d : DoneJob) → job_done worker move ≡ None
    → job_done worker move ≡ Some d → A
none-done worker move d none is = absurd (none-some d (sym none ∙ is))

done-purged : (o : Opening) (es : List CoreEvent) (mail : ℕ) (worker : WorkerState) (move : WorkerMove) (d : DoneJob)
    → IsCoreRun o (At mail move ∷ es)
    → FitsWork (round_progress o es) (client_state o (flusher o) es).store_lost worker move
    → job_done worker move ≡ Some d → JobPurged o (At mail move ∷ es) mail d.job
done-purged o es mail (Took c j) (Work made answer) d run fits is =
    coe 0 1 (i. JobPurged o (At mail (Work made answer) ∷ es) mail
    (same_Some (record { client = c; job = made; answer = answer }) d is i).job)
    (work-purged o es mail made answer run)
done-purged o es mail (Took c j) (Reply to said) d run fits is =
    coe 0 1 (i. JobPurged o (At mail (Reply to said) ∷ es) mail
    (same_Some (record { client = to; job = j; answer = said }) d is i).job)
    (reply-purged (round_progress o es) (client_state o (flusher o) es).store_lost j said o
    (At mail (Reply to said) ∷ es) mail fits.1)
done-purged o es mail (Took c j) (Take client job) d run fits is = absurd fits
done-purged o es mail (Took c j) (NoJob closed) d run fits is = absurd fits
done-purged o es mail Free (Take client job) d run fits is = none-done Free (Take client job) d refl is
done-purged o es mail Free (NoJob closed) d run fits is = none-done Free (NoJob closed) d refl is
done-purged o es mail Free (Work job answer) d run fits is = absurd fits
done-purged o es mail Free (Reply client answer) d run fits is = absurd fits
done-purged o es mail (Worked c j x) (Take client job) d run fits is = absurd fits
done-purged o es mail (Worked c j x) (NoJob closed) d run fits is = absurd fits
done-purged o es mail (Worked c j x) (Work job answer) d run fits is = absurd fits
done-purged o es mail (Worked c j x) (Reply client answer) d run fits is =
    none-done (Worked c j x) (Reply client answer) d refl is

-- ---- where the job of a client is

job-call : (o : Opening) (b : ℕ) (call : ClientCall) (es : List CoreEvent) (mail : ℕ) (job : CoreJob)
    → IsCoreRun o (By b call ∷ es) → JobPurged o es mail job → JobPurged o (By b call ∷ es) mail job
job-call o b call es mail (Purge epoch) run p = purged-call o b call es mail epoch run p
job-call o b call es mail (Append cube epoch rows) run p = tt
job-call o b call es mail (DropBox cube epoch box) run p = tt
job-call o b call es mail (Scan query snapshot) run p = tt
job-call o b call es mail (Delta query from to) run p = tt
job-call o b call es mail (Rollback epoch) run p = tt
job-call o b call es mail (CopyRound from to) run p = tt
job-call o b call es mail Flush run p = tt

job-move : (o : Opening) (other : ℕ) (move : WorkerMove) (es : List CoreEvent) (mail : ℕ) (job : CoreJob)
    → IsCoreRun o (At other move ∷ es) → JobPurged o es mail job → JobPurged o (At other move ∷ es) mail job
job-move o other move es mail (Purge epoch) run p = purged-move o other move es mail epoch run p
job-move o other move es mail (Append cube epoch rows) run p = tt
job-move o other move es mail (DropBox cube epoch box) run p = tt
job-move o other move es mail (Scan query snapshot) run p = tt
job-move o other move es mail (Delta query from to) run p = tt
job-move o other move es mail (Rollback epoch) run p = tt
job-move o other move es mail (CopyRound from to) run p = tt
job-move o other move es mail Flush run p = tt

place-call : (o : Opening) (b : ℕ) (call : ClientCall) (es : List CoreEvent) (mail : ℕ) (p : JobPlace)
    → IsCoreRun o (By b call ∷ es) → PlacePurged o es mail p → PlacePurged o (By b call ∷ es) mail p
place-call o b call es mail Nowhere run f = tt
place-call o b call es mail (Asked job) run f = tt
place-call o b call es mail (Answered job answer) run f = job-call o b call es mail job run f

place-move : (o : Opening) (other : ℕ) (move : WorkerMove) (es : List CoreEvent) (mail : ℕ) (p : JobPlace)
    → IsCoreRun o (At other move ∷ es) → PlacePurged o es mail p → PlacePurged o (At other move ∷ es) mail p
place-move o other move es mail Nowhere run f = tt
place-move o other move es mail (Asked job) run f = tt
place-move o other move es mail (Answered job answer) run f = job-move o other move es mail job run f

place-after-call : (own : Bool) (o : Opening) (es : List CoreEvent) (mail : ℕ) (call : ClientCall) (p : JobPlace)
    → PlacePurged o es mail p → PlacePurged o es mail (place_after_call mail own call p)
place-after-call own o es mail (Post other job) p f = at (other == mail) own
  where
    at : (here mine : Bool) → PlacePurged o es mail (place_after_post here mine job p)
    at true true = tt
    at true false = f
    at false mine = f
place-after-call own o es mail (Fetch other answer) p f = at (other == mail) own
  where
    at : (here mine : Bool) → PlacePurged o es mail (place_after_fetch here mine p)
    at true true = tt
    at true false = f
    at false mine = f
place-after-call own o es mail (OnDesk call) p f = f
place-after-call own o es mail (OnNames call) p f = f
place-after-call own o es mail (CloseMail other) p f = f
place-after-call own o es mail NoChange p f = f

place-with-done : (x : Option DoneJob) (o : Opening) (es : List CoreEvent) (mail a : ℕ) (p : JobPlace)
    → ((d : DoneJob) → x ≡ Some d → JobPurged o es mail d.job) → PlacePurged o es mail p
    → PlacePurged o es mail (place_with_done a x p)
place-with-done None o es mail a p new f = f
place-with-done (Some d) o es mail a p new f = at (d.client == a)
  where
    at : (own : Bool) → PlacePurged o es mail (place_where own (Answered d.job d.answer) p)
    at true = new d refl
    at false = f

place-after-move : (here : Bool) (o : Opening) (es : List CoreEvent) (mail a : ℕ) (worker : WorkerState)
    (move : WorkerMove) (p : JobPlace)
    → (here ≡ true → (d : DoneJob) → job_done worker move ≡ Some d → JobPurged o es mail d.job)
    → PlacePurged o es mail p → PlacePurged o es mail (place_after_move here a worker move p)
place-after-move true o es mail a worker move p new f =
    place-with-done (job_done worker move) o es mail a p (new refl) f
place-after-move false o es mail a worker move p new f = f

run-place : (o : Opening) (es : List CoreEvent) (mail a : ℕ) → IsCoreRun o es → PlacePurged o es mail (place mail a es)
run-place o [] mail a run = tt
run-place o (By b call ∷ es) mail a run =
    place-after-call (b == a) o (By b call ∷ es) mail call (place mail a es)
    (place-call o b call es mail (place mail a es) run (run-place o es mail a run.0))
run-place o (At other move ∷ es) mail a run =
    place-after-move (other == mail) o (At other move ∷ es) mail a (worker_of mail es) move (place mail a es)
    (λ here d is.
    let same = eqb-true other mail here in
    coe 1 0 (i. JobPurged o (At (same i) move ∷ es) mail d.job)
    (done-purged o es mail (worker_of mail es) move d (coe 0 1 (i. IsCoreRun o (At (same i) move ∷ es)) run)
    (coe 0 1 (i. FitsWork (round_progress o es) (client_state o (flusher o) es).store_lost (worker_of (same i) es)
    move) run.1.fits) is))
    (place-move o other move es mail (place mail a es) run (run-place o es mail a run.0))

-- ---- an answer that is fetched

abbrev purged_epoch : ℕ → GroupKind → ℕ
purged_epoch default (Purges epoch) = epoch
purged_epoch default kind = default

abbrev is_purging : GroupKind → Bool
is_purging (Purges epoch) = true
is_purging kind = false

of-kind : (o : Opening) (es : List CoreEvent) (mail epoch : ℕ) (job : CoreJob) → kind_of job ≡ Purges epoch
    → JobPurged o es mail job → IsPurged o es mail epoch
of-kind o es mail epoch (Purge e) kind p = coe 0 1 (i. IsPurged o es mail (ap (purged_epoch e) kind i)) p
of-kind o es mail epoch (Append cube e rows) kind p = absurd (false≢true (ap is_purging kind))
of-kind o es mail epoch (DropBox cube e box) kind p = absurd (false≢true (ap is_purging kind))
of-kind o es mail epoch (Scan query snapshot) kind p = absurd (false≢true (ap is_purging kind))
of-kind o es mail epoch (Delta query from to) kind p = absurd (false≢true (ap is_purging kind))
of-kind o es mail epoch (Rollback e) kind p = absurd (false≢true (ap is_purging kind))
of-kind o es mail epoch (CopyRound from to) kind p = absurd (false≢true (ap is_purging kind))
of-kind o es mail epoch Flush kind p = absurd (false≢true (ap is_purging kind))

fetched-purged : (o : Opening) (es : List CoreEvent) (a mail epoch : ℕ) (answer : JobOutcome) → IsCoreRun o es
    → reply_for mail a es ≡ Some answer → (client_state o a es).group.kind ≡ Purges epoch → IsPurged o es mail epoch
fetched-purged o es a mail epoch answer run held kind =
    let there = ((run-posted o es run).posted mail).held a answer held in
    let suits = coe 0 1 (i. SuitsAt mail (client_state o a es).group (there.1 i)) (run-suits o es mail a run) in
    let purged = coe 0 1 (i. PlacePurged o es mail (there.1 i)) (run-place o es mail a run) in
    of-kind o es mail epoch there.0 (suits.kind ∙ kind) purged

-- The shards whose answers are fetched.
abbrev GroupPurged : Opening → List CoreEvent → ℕ → JobGroup → Type 0
GroupPurged o es mail g = (epoch : ℕ) → g.kind ≡ Purges epoch → has_number (mails_of g.answers) mail ≡ true
    → IsPurged o es mail epoch

post-group : (ended : Bool) (o : Opening) (es : List CoreEvent) (mail other : ℕ) (job : CoreJob) (g : JobGroup)
    → GroupPurged o es mail g
    → GroupPurged o es mail
    (if ended then record { kind = kind_of job; waits = other ∷ []; answers = [] }
    else record g { waits = other ∷ g.waits })
post-group true o es mail other job g f = λ epoch kind has. absurd (false≢true has)
post-group false o es mail other job g f = f

ends-group : (ends : Bool) (o : Opening) (es : List CoreEvent) (mail : ℕ) (g : JobGroup) → GroupPurged o es mail g
    → GroupPurged o es mail (if ends then no_group else g)
ends-group true o es mail g f = λ epoch kind has. absurd (false≢true has)
ends-group false o es mail g f = f

fetch-group : (here : Bool) (o : Opening) (es : List CoreEvent) (mail epoch : ℕ) (g : JobGroup)
    → (here ≡ true → IsPurged o es mail epoch) → GroupPurged o es mail g → g.kind ≡ Purges epoch
    → (here || has_number (mails_of g.answers) mail) ≡ true → IsPurged o es mail epoch
fetch-group true o es mail epoch g new f kind has = new refl
fetch-group false o es mail epoch g new f kind has = f epoch kind has

own-group : (o : Opening) (es : List CoreEvent) (a mail : ℕ) (call : ClientCall) → IsCoreRun o (By a call ∷ es)
    → GroupPurged o (By a call ∷ es) mail (client_state o a es).group
    → GroupPurged o (By a call ∷ es) mail (client_after_call o true a call (client_state o a es)).group
own-group o es a mail (Post other job) run f =
    post-group (has_ended o.shards (client_state o a es).group) o (By a (Post other job) ∷ es) mail other job
    (client_state o a es).group f
own-group o es a mail (Fetch other answer) run f =
    λ epoch kind has.
    fetch-group (other == mail) o (By a (Fetch other answer) ∷ es) mail epoch (client_state o a es).group
    (λ here.
    let same = eqb-true other mail here in
    purged-call o a (Fetch other answer) es mail epoch run
    (fetched-purged o es a mail epoch answer run.0
    (coe 0 1 (i. reply_for (same i) a es ≡ Some answer) run.1.says) kind))
    f kind has
own-group o es a mail (OnDesk call) run f =
    ends-group (ends_group (OnDesk call)) o (By a (OnDesk call) ∷ es) mail (client_state o a es).group f
own-group o es a mail (OnNames call) run f = f
own-group o es a mail (CloseMail other) run f = f
own-group o es a mail NoChange run f = f

call-group : (own : Bool) (o : Opening) (es : List CoreEvent) (a b mail : ℕ) (call : ClientCall) → (b == a) ≡ own
    → IsCoreRun o (By b call ∷ es) → GroupPurged o es mail (client_state o a es).group
    → GroupPurged o (By b call ∷ es) mail (client_after_call o own a call (client_state o a es)).group
call-group true o es a b mail call is run f =
    let same = eqb-true b a is in
    coe 1 0 (i. GroupPurged o (By (same i) call ∷ es) mail
    (client_after_call o true a call (client_state o a es)).group)
    (own-group o es a mail call (coe 0 1 (i. IsCoreRun o (By (same i) call ∷ es)) run)
    (coe 0 1 (i. GroupPurged o (By (same i) call ∷ es) mail (client_state o a es).group)
    (λ epoch kind has. purged-call o b call es mail epoch run (f epoch kind has))))
call-group false o es a b mail call is run f =
    λ epoch kind has. purged-call o b call es mail epoch run (f epoch kind has)

run-group : (o : Opening) (es : List CoreEvent) (a mail : ℕ) → IsCoreRun o es
    → GroupPurged o es mail (client_state o a es).group
run-group o [] a mail run = λ epoch kind has. absurd (false≢true has)
run-group o (By b call ∷ es) a mail run =
    call-group (b == a) o es a b mail call refl run (run-group o es a mail run.0)
run-group o (At other move ∷ es) a mail run =
    λ epoch kind has. purged-move o other move es mail epoch run (run-group o es a mail run.0 epoch kind has)

-- ---- all shards

pub all-purged : (o : Opening) (es : List CoreEvent) (client epoch mail : ℕ) → IsCoreRun o es
    → HasPurgedShards o.shards epoch (client_state o client es).group → mail < o.shards
    → was_purged mail es epoch ≡ true
all-purged o es client epoch mail run h there =
    run-group o es client mail run epoch h.purges
    (all-below o.shards mail (mails_of (client_state o client es).group.answers) h.done.all there)

pub has-purged : (o : Opening) (es : List CoreEvent) (client epoch cube brick : ℕ) → IsCoreRun o es
    → HasPurgedShards o.shards epoch (client_state o client es).group
    → HasNoMarkUpTo epoch (shard_view_of o es cube brick)
has-purged o es client epoch cube brick run h =
    let some = (opening-of o es run).some in
    purged-clear o es (brick % o.shards) epoch cube brick run refl
    (all-purged o es client epoch (brick % o.shards) run h (mod-lt brick (omega (arith, some))))
