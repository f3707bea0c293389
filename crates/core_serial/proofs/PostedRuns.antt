-- In every run, what was posted of a transaction that goes on well or is committed is what was done of it.
use Rattle.std.proofs.Common.{◌≡◌, ◌⊎◌, ◌∙◌, ℕ, ◌%◌, ◌<◌, ◌≤◌, ◌==◌, Bool, true, false, true≢false, ◌&&◌, List, [], ◌∷◌, ◌++◌, Some, IsSomeAnd, inl, inr, refl, sym, ap, arith, eqb-true, eq-eqb, le-leb, if◌then◌else◌}
use Rattle.std.proofs.lemmas.Bool.{false≢true, eqb-false}
use Rattle.std.proofs.lemmas.Bool.Decides.{leb_tells}
use Rattle.core_events.specs.ShardView.{BrickEntry, RowRun, RowMark}
use Rattle.core_events.specs.Jobs.{CoreJob, Append, DropBox, Scan, Delta, Rollback, Purge, CopyRound, Flush, JobOutcome, Done, ShardFull, Found, Compared, Copied, StoreLost, OutOfMemory, is_refusal}
use Rattle.core_events.specs.Events.{Opening, IsSession, flusher, DeskEvent, OpenWrite, OpenRead, Commit, AbortEnd, CloseRead, TakeNote, CreateCube, FindCube, CubesFrom, CountersNow, RoundOpen, RoundClose, StoreFailed, ClientCall, OnDesk, OnNames, Post, Fetch, CloseMail, NoChange, WorkerMove, Take, NoJob, Work, Reply, CoreEvent, By, At}
use Rattle.core_events.specs.Groups.{no_group, has_ended, has_refusal}
use Rattle.core_events.specs.Clients.{ClientState, client_state, client_after_call, held_under, ends_group}
use Rattle.core_events.specs.Cells.{counters_of_run, shard_view_of, rows_of_brick, box_has_brick, WorkerState, Free, Took, Worked, worker_of, queue_of, reply_for}
use Rattle.core_events.specs.Fitting.{FitsCall, OwnsWriter, FitsWork, FitsReply, RoundProgress, round_progress}
use Rattle.core_events.specs.Runs.{IsCoreRun, MoveSays, ShardSays}
use Rattle.core_events.specs.Histories.{DoneJob, job_done}
use Rattle.core_serial.specs.Told.{told_of, told_after_move}
use Rattle.core_events.proofs.Places.{JobPlace, Nowhere, Asked, Answered, is_out, place, place_after_post, place_after_fetch, place_after_call, place_where, place_after_move, IsBusy}
use Rattle.core_events.proofs.Posted.{run-posted, ends-empty, empty-has-none, none-out}
use Rattle.core_serial.proofs.Isolation.{job-fits, holds-stay, shown-within, asked-fits}
use Rattle.core_serial.proofs.Asking.{SuitsAt, run-suits, moved-asked}
use Rattle.core_serial.proofs.ToldBricks.{writer-of, is_rolling}
use Rattle.core_events.specs.BrickTransactions.{entries_of_epoch}
use Rattle.core_events.proofs.Posted.{not-out}
use Rattle.core_events.proofs.InOrder.{run-allowed}
use Rattle.core_serial.proofs.ToldBricks.{own-back, own-rolls}
use Rattle.core_serial.specs.PostedEntries.{entries_of_job, posted_after_post, posted_after, posted_of}
use Rattle.core_serial.proofs.Fates.{HaveFates, run-fates, fates-call}
use Rattle.core_serial.proofs.PostedJobs.{epoch-append, told-job, none-of-job, other-epoch, IsOtherEpoch, IsClean, is_write, PlacePosted, place-same, nowhere-posted, ready-clean, post-clean, spoiled-less, fine-answer, fates-append, none-fresh}

-- What a client posts.

one-fate : (here : Bool) (o : Opening) (es : List CoreEvent) (x : BrickEntry) → HaveFates o es (x ∷ []) → HaveFates o es (if here then x ∷ [] else [])
one-fate true o es x f = f
one-fate false o es x f = tt

pub job-entry-fates : (o : Opening) (es : List CoreEvent) (b other cube brick : ℕ) (job : CoreJob) → IsCoreRun o es
    → FitsCall o b (Post other job) (client_state o b es) → HaveFates o es (entries_of_job o cube brick job)
job-entry-fates o es b other cube brick (Append c epoch rows) run f =
    one-fate (c == cube) o es (RowRun epoch (rows_of_brick o cube brick rows))
    (inr (inr (writer-of o es b epoch run f.bears.session f.bears.writer).pending), tt)
job-entry-fates o es b other cube brick (DropBox c epoch box) run f =
    one-fate (c == cube && box_has_brick o cube box brick) o es (RowMark epoch)
    (inr (inr (writer-of o es b epoch run f.bears.session f.bears.writer).pending), tt)
job-entry-fates o es b other cube brick (Scan query snapshot) run f = tt
job-entry-fates o es b other cube brick (Delta query from to) run f = tt
job-entry-fates o es b other cube brick (Rollback epoch) run f = tt
job-entry-fates o es b other cube brick (Purge epoch) run f = tt
job-entry-fates o es b other cube brick (CopyRound from to) run f = tt
job-entry-fates o es b other cube brick Flush run f = tt

pub post-fates : (here : Bool) (o : Opening) (es : List CoreEvent) (xs ys : List BrickEntry) → HaveFates o es xs → HaveFates o es ys
    → HaveFates o es (posted_after_post here xs ys)
post-fates true o es xs ys f g = fates-append o es xs ys f g
post-fates false o es xs ys f g = g

pub run-posted-fates : (o : Opening) (es : List CoreEvent) (cube brick : ℕ) → IsCoreRun o es → HaveFates o es (posted_of o es cube brick)
run-posted-fates o [] cube brick run = (inl (le-leb o.safe o.safe (omega arith)), tt)
run-posted-fates o (By b (Post other job) ∷ es) cube brick run =
    fates-call o b (Post other job) es (posted_of o (By b (Post other job) ∷ es) cube brick)
    (post-fates (other == brick % o.shards) o es (entries_of_job o cube brick job) (posted_of o es cube brick)
    (job-entry-fates o es b other cube brick job run.0 run.1.fits) (run-posted-fates o es cube brick run.0))
run-posted-fates o (By b (OnDesk call) ∷ es) cube brick run =
    fates-call o b (OnDesk call) es (posted_of o es cube brick) (run-posted-fates o es cube brick run.0)
run-posted-fates o (By b (OnNames call) ∷ es) cube brick run =
    fates-call o b (OnNames call) es (posted_of o es cube brick) (run-posted-fates o es cube brick run.0)
run-posted-fates o (By b (Fetch mail answer) ∷ es) cube brick run =
    fates-call o b (Fetch mail answer) es (posted_of o es cube brick) (run-posted-fates o es cube brick run.0)
run-posted-fates o (By b (CloseMail mail) ∷ es) cube brick run =
    fates-call o b (CloseMail mail) es (posted_of o es cube brick) (run-posted-fates o es cube brick run.0)
run-posted-fates o (By b NoChange ∷ es) cube brick run =
    fates-call o b NoChange es (posted_of o es cube brick) (run-posted-fates o es cube brick run.0)
run-posted-fates o (At mail move ∷ es) cube brick run = run-posted-fates o es cube brick run.0

abbrev pub PostedFits : Opening → List CoreEvent → ℕ → ℕ → ℕ → ℕ → Type 0
PostedFits o es a e cube brick = IsSession o a → OwnsWriter a e (client_state o a es) → IsClean (client_state o a es).group
    → PlacePosted o cube brick e (posted_of o es cube brick) (told_of o es cube brick) (place (brick % o.shards) a es)

-- A post of another transaction.
pub other-post : (here : Bool) (o : Opening) (cube brick e : ℕ) (job : CoreJob) (posted : List BrickEntry) → IsOtherEpoch e job
    → entries_of_epoch e (posted_after_post here (entries_of_job o cube brick job) posted) ≡ entries_of_epoch e posted
other-post true o cube brick e job posted out =
    epoch-append e (entries_of_job o cube brick job) posted ∙ ap (λ xs. xs ++ entries_of_epoch e posted) (none-of-job o cube brick e job out)
other-post false o cube brick e job posted out = refl

place-other-post : (here : Bool) (job : CoreJob) (p : JobPlace) → place_after_post here false job p ≡ p
place-other-post true job p = refl
place-other-post false job p = refl

place-other-fetch : (here : Bool) (p : JobPlace) → place_after_fetch here false p ≡ p
place-other-fetch true p = refl
place-other-fetch false p = refl

-- A post of its own.
own-post : (here : Bool) (o : Opening) (cube brick e : ℕ) (job : CoreJob) (posted told : List BrickEntry) (p : JobPlace)
    → (here ≡ true → p ≡ Nowhere) → PlacePosted o cube brick e posted told p
    → PlacePosted o cube brick e (posted_after_post here (entries_of_job o cube brick job) posted) told (place_after_post here true job p)
own-post true o cube brick e job posted told p free f =
    epoch-append e (entries_of_job o cube brick job) posted
    ∙ ap (λ xs. entries_of_epoch e (entries_of_job o cube brick job) ++ xs) (nowhere-posted o cube brick e posted told p (free refl) f)
own-post false o cube brick e job posted told p free f = f

-- A fetch of its own.
own-fetch : (here : Bool) (o : Opening) (cube brick e : ℕ) (posted told : List BrickEntry) (p : JobPlace)
    → (here ≡ true → entries_of_epoch e posted ≡ entries_of_epoch e told) → PlacePosted o cube brick e posted told p
    → PlacePosted o cube brick e posted told (place_after_fetch here true p)
own-fetch true o cube brick e posted told p new f = new refl
own-fetch false o cube brick e posted told p new f = f

-- A call that ends a group, and leaves the writer.
ends-clean : (o : Opening) (a e : ℕ) (call : DeskEvent) (k : ClientState) → IsSession o a → FitsCall o a (OnDesk call) k
    → ends_group (OnDesk call) ≡ true → OwnsWriter a e (client_after_call o true a (OnDesk call) k) → IsClean k.group
ends-clean o a e (OpenWrite statement epoch deps) k session f ends owns = ready-clean o.shards k.group f.ready
ends-clean o a e (OpenRead number statement epoch) k session f ends owns = ready-clean o.shards k.group f.ready
ends-clean o a e (Commit statement epoch) k session f ends owns = ready-clean o.shards k.group f.ready
ends-clean o a e (AbortEnd statement epoch cause) k session f ends owns =
    absurd (false≢true (ap is_rolling (own-rolls o a e (OnDesk (AbortEnd statement epoch cause)) k session f f.rolls owns)))
ends-clean o a e (CloseRead number statement) k session f ends owns = ready-clean o.shards k.group f.ready
ends-clean o a e (TakeNote note counters) k session f ends owns = ready-clean o.shards k.group f.ready
ends-clean o a e (CreateCube statement decl answer) k session f ends owns = ready-clean o.shards k.group f.0.ready
ends-clean o a e (FindCube statement name answer) k session f ends owns = ready-clean o.shards k.group f.1
ends-clean o a e (CubesFrom place cubes) k session f ends owns = absurd (false≢true ends)
ends-clean o a e (CountersNow counters) k session f ends owns = absurd (false≢true ends)
ends-clean o a e (RoundOpen answer) k session f ends owns = ready-clean o.shards k.group f.ready
ends-clean o a e (RoundClose epoch end) k session f ends owns =
    absurd (let last = session.last in let is = f.flusher in omega (arith, last, is))
ends-clean o a e (StoreFailed failed) k session f ends owns = absurd (false≢true ends)

pub low-or-high : (e ec : ℕ) → (e < ec) ⊎ (ec ≤ e)
low-or-high e ec = elim (leb_tells ec e) [ inl high ↦ inr high.1 | inr low ↦ inl low.1 ]

desk-posted : (ends : Bool) (o : Opening) (es : List CoreEvent) (a e cube brick : ℕ) (call : DeskEvent) → IsCoreRun o (By a (OnDesk call) ∷ es)
    → ends_group (OnDesk call) ≡ ends → IsSession o a
    → OwnsWriter a e (client_after_call o true a (OnDesk call) (client_state o a es)) → PostedFits o es a e cube brick
    → IsClean (if ends then no_group else (client_state o a es).group)
    → PlacePosted o cube brick e (posted_of o es cube brick) (told_of o es cube brick) (place (brick % o.shards) a es)
desk-posted true o es a e cube brick call run is session owns before clean =
    let k = client_state o a es in
    let mail = brick % o.shards in
    let empty = ends-empty o a (OnDesk call) k run.1.fits is in
    let out = sym ((run-posted o es run.0).tied a mail) ∙ empty-has-none k.group.waits mail empty in
    let free = none-out (place mail a es) out in
    let same : entries_of_epoch e (posted_of o es cube brick) ≡ entries_of_epoch e (told_of o es cube brick) =
    elim (low-or-high e (counters_of_run o es).ec) [
      | inl low ↦
          nowhere-posted o cube brick e (posted_of o es cube brick) (told_of o es cube brick) (place mail a es) free
          (before session
          (own-back o true a a e (OnDesk call) k (counters_of_run o es) (eq-eqb a a refl) (run-allowed o a (OnDesk call) es run) low owns)
          (ends-clean o a e call k session run.1.fits is owns))
      | inr high ↦
          none-fresh o es e (posted_of o es cube brick) run.0 high (run-posted-fates o es cube brick run.0)
          ∙ sym (none-fresh o es e (told_of o es cube brick) run.0 high (run-fates o es cube brick run.0))
    ]
    in
    coe 1 0 (i. PlacePosted o cube brick e (posted_of o es cube brick) (told_of o es cube brick) (free i)) same
desk-posted false o es a e cube brick call run is session owns before clean =
    before session
    (coe 0 1 (i. IsSomeAnd (held_under a (holds-stay a (OnDesk call) (client_state o a es).holds is i)) (λ x. (x.own ≡ true) × (x.epoch ≡ e))) owns)
    clean

-- By the client itself.
own-posted : (o : Opening) (es : List CoreEvent) (a e cube brick : ℕ) (call : ClientCall) → IsCoreRun o (By a call ∷ es)
    → PostedFits o es a e cube brick → IsSession o a → OwnsWriter a e (client_after_call o true a call (client_state o a es))
    → IsClean (client_after_call o true a call (client_state o a es)).group
    → PlacePosted o cube brick e (posted_after o cube brick call (posted_of o es cube brick)) (told_of o es cube brick)
    (place_after_call (brick % o.shards) true call (place (brick % o.shards) a es))
own-posted o es a e cube brick (Post other job) run before session owns clean =
    let k = client_state o a es in
    let mail = brick % o.shards in
    own-post (other == mail) o cube brick e job (posted_of o es cube brick) (told_of o es cube brick) (place mail a es)
    (λ here. let same = eqb-true other mail here in
    none-out (place mail a es)
    (coe 0 1 (i. is_out (place (same i) a es) ≡ false)
    (sym ((run-posted o es run.0).tied a other) ∙ not-out o.shards other job k.group run.1.fits.group)))
    (before session owns (post-clean (has_ended o.shards k.group) o.shards other job k.group refl run.1.fits.group clean))
own-posted o es a e cube brick (Fetch other answer) run before session owns clean =
    let k = client_state o a es in
    let mail = brick % o.shards in
    let old : IsClean k.group = record {
      goes_on = clean.goes_on;
      unspoiled = spoiled-less k.group.kind (is_refusal answer) (has_refusal k.group.answers) clean.unspoiled;
    } in
    own-fetch (other == mail) o cube brick e (posted_of o es cube brick) (told_of o es cube brick) (place mail a es)
    (λ here. let same = eqb-true other mail here in
    let there = ((run-posted o es run.0).posted other).held a answer run.1.says in
    let at : place mail a es ≡ Answered there.0 answer = ap (λ (m : ℕ). place m a es) (sym same) ∙ there.1 in
    let suits = coe 0 1 (i. SuitsAt mail k.group (at i)) (run-suits o es mail a run.0) in
    let f = coe 0 1 (i. PlacePosted o cube brick e (posted_of o es cube brick) (told_of o es cube brick) (at i)) (before session owns old) in
    f (fine-answer there.0 k.group.kind (is_refusal answer) (has_refusal k.group.answers) suits.kind clean.unspoiled))
    (before session owns old)
own-posted o es a e cube brick (OnDesk call) run before session owns clean =
    desk-posted (ends_group (OnDesk call)) o es a e cube brick call run refl session owns before clean
own-posted o es a e cube brick (OnNames call) run before session owns clean = before session owns clean
own-posted o es a e cube brick (CloseMail other) run before session owns clean = before session owns clean
own-posted o es a e cube brick NoChange run before session owns clean = before session owns clean

-- By another client.
other-posted : (o : Opening) (es : List CoreEvent) (a b e cube brick : ℕ) (call : ClientCall) → IsCoreRun o (By b call ∷ es) → (b ≡ a → ⊥)
    → PostedFits o es a e cube brick → IsSession o a → OwnsWriter a e (client_state o a es) → IsClean (client_state o a es).group
    → PlacePosted o cube brick e (posted_after o cube brick call (posted_of o es cube brick)) (told_of o es cube brick)
    (place_after_call (brick % o.shards) false call (place (brick % o.shards) a es))
other-posted o es a b e cube brick (Post other job) run apart before session owns clean =
    let mail = brick % o.shards in
    let lse = (counters_of_run o es).lse in
    let out =
    other-epoch o es a b e lse job run.0 (writer-of o es a e run.0 session owns) apart
    (job-fits o b other job (client_state o b es) lse run.1.fits (shown-within o es b run.0))
    in
    coe 1 0 (i. PlacePosted o cube brick e (posted_after_post (other == mail) (entries_of_job o cube brick job) (posted_of o es cube brick))
    (told_of o es cube brick) (place-other-post (other == mail) job (place mail a es) i))
    (place-same o cube brick e (posted_of o es cube brick) (told_of o es cube brick)
    (posted_after_post (other == mail) (entries_of_job o cube brick job) (posted_of o es cube brick)) (told_of o es cube brick)
    (place mail a es) (other-post (other == mail) o cube brick e job (posted_of o es cube brick) out) refl (before session owns clean))
other-posted o es a b e cube brick (Fetch other answer) run apart before session owns clean =
    let mail = brick % o.shards in
    coe 1 0 (i. PlacePosted o cube brick e (posted_of o es cube brick) (told_of o es cube brick) (place-other-fetch (other == mail) (place mail a es) i))
    (before session owns clean)
other-posted o es a b e cube brick (OnDesk call) run apart before session owns clean = before session owns clean
other-posted o es a b e cube brick (OnNames call) run apart before session owns clean = before session owns clean
other-posted o es a b e cube brick (CloseMail other) run apart before session owns clean = before session owns clean
other-posted o es a b e cube brick NoChange run apart before session owns clean = before session owns clean

call-posted : (own : Bool) (o : Opening) (es : List CoreEvent) (a b e cube brick : ℕ) (call : ClientCall) → (b == a) ≡ own
    → IsCoreRun o (By b call ∷ es) → PostedFits o es a e cube brick → IsSession o a
    → OwnsWriter a e (client_after_call o own a call (client_state o a es))
    → IsClean (client_after_call o own a call (client_state o a es)).group
    → PlacePosted o cube brick e (posted_after o cube brick call (posted_of o es cube brick)) (told_of o es cube brick)
    (place_after_call (brick % o.shards) own call (place (brick % o.shards) a es))
call-posted true o es a b e cube brick call is run before session owns clean =
    let same = eqb-true b a is in
    own-posted o es a e cube brick call (coe 0 1 (i. IsCoreRun o (By (same i) call ∷ es)) run) before session owns clean
call-posted false o es a b e cube brick call is run before session owns clean =
    other-posted o es a b e cube brick call run (eqb-false b a is) before session owns clean

-- A move at the brick's own shard.

-- What a job that is done gives, by its answer.
written : (o : Opening) (es : List CoreEvent) (mail cube brick e : ℕ) (job : CoreJob) (answer : JobOutcome) (told posted : List BrickEntry)
    → ShardSays o mail (shard_view_of o es) job answer
    → entries_of_epoch e posted ≡ entries_of_epoch e (entries_of_job o cube brick job) ++ entries_of_epoch e told
    → (is_write job && is_refusal answer) ≡ false
    → entries_of_epoch e posted ≡ entries_of_epoch e (told_after_move o true cube brick (Work job answer) told)
written o es mail cube brick e job Done told posted says f fine =
    f ∙ sym (epoch-append e (entries_of_job o cube brick job) told) ∙ ap (entries_of_epoch e) (sym (told-job o cube brick job told))
written o es mail cube brick e job (ShardFull rows) told posted says f fine =
    f ∙ ap (λ xs. xs ++ entries_of_epoch e told) (unwritten job fine)
  where
    unwritten : (j : CoreJob) → (is_write j && true) ≡ false → entries_of_epoch e (entries_of_job o cube brick j) ≡ []
    unwritten (Append c epoch rows) x = absurd (true≢false x)
    unwritten (DropBox c epoch box) x = absurd (true≢false x)
    unwritten j x = refl
written o es mail cube brick e job StoreLost told posted says f fine =
    f ∙ ap (λ xs. xs ++ entries_of_epoch e told) (unwritten job fine)
  where
    unwritten : (j : CoreJob) → (is_write j && true) ≡ false → entries_of_epoch e (entries_of_job o cube brick j) ≡ []
    unwritten (Append c epoch rows) x = absurd (true≢false x)
    unwritten (DropBox c epoch box) x = absurd (true≢false x)
    unwritten j x = refl
written o es mail cube brick e job OutOfMemory told posted says f fine =
    f ∙ ap (λ xs. xs ++ entries_of_epoch e told) (unwritten job fine)
  where
    unwritten : (j : CoreJob) → (is_write j && true) ≡ false → entries_of_epoch e (entries_of_job o cube brick j) ≡ []
    unwritten (Append c epoch rows) x = absurd (true≢false x)
    unwritten (DropBox c epoch box) x = absurd (true≢false x)
    unwritten j x = refl
written o es mail cube brick e job (Found rows) told posted says f fine =
    f ∙ ap (λ xs. xs ++ entries_of_epoch e told) (unwritten job says)
  where
    unwritten : (j : CoreJob) → ShardSays o mail (shard_view_of o es) j (Found rows) → entries_of_epoch e (entries_of_job o cube brick j) ≡ []
    unwritten (Append c epoch more) x = absurd x
    unwritten (DropBox c epoch box) x = absurd x
    unwritten j x = refl
written o es mail cube brick e job (Compared came went) told posted says f fine =
    f ∙ ap (λ xs. xs ++ entries_of_epoch e told) (unwritten job says)
  where
    unwritten : (j : CoreJob) → ShardSays o mail (shard_view_of o es) j (Compared came went) → entries_of_epoch e (entries_of_job o cube brick j) ≡ []
    unwritten (Append c epoch more) x = absurd x
    unwritten (DropBox c epoch box) x = absurd x
    unwritten j x = refl
written o es mail cube brick e job (Copied view) told posted says f fine =
    f ∙ ap (λ xs. xs ++ entries_of_epoch e told) (unwritten job says)
  where
    unwritten : (j : CoreJob) → ShardSays o mail (shard_view_of o es) j (Copied view) → entries_of_epoch e (entries_of_job o cube brick j) ≡ []
    unwritten (Append c epoch more) x = absurd x
    unwritten (DropBox c epoch box) x = absurd x
    unwritten j x = refl

-- A job of another transaction.
pub other-told : (o : Opening) (cube brick e : ℕ) (job : CoreJob) (answer : JobOutcome) (told : List BrickEntry) → IsOtherEpoch e job
    → entries_of_epoch e (told_after_move o true cube brick (Work job answer) told) ≡ entries_of_epoch e told
other-told o cube brick e job Done told out =
    ap (entries_of_epoch e) (told-job o cube brick job told)
    ∙ epoch-append e (entries_of_job o cube brick job) told
    ∙ ap (λ xs. xs ++ entries_of_epoch e told) (none-of-job o cube brick e job out)
other-told o cube brick e job (ShardFull rows) told out = refl
other-told o cube brick e job (Found rows) told out = refl
other-told o cube brick e job (Compared came went) told out = refl
other-told o cube brick e job (Copied view) told out = refl
other-told o cube brick e job StoreLost told out = refl
other-told o cube brick e job OutOfMemory told out = refl

work-posted : (own : Bool) (o : Opening) (es : List CoreEvent) (mail cube brick e : ℕ) (job : CoreJob) (answer : JobOutcome)
    (posted told : List BrickEntry) (p : JobPlace) → ShardSays o mail (shard_view_of o es) job answer
    → (own ≡ true → p ≡ Asked job) → (own ≡ false → IsOtherEpoch e job) → PlacePosted o cube brick e posted told p
    → PlacePosted o cube brick e posted (told_after_move o true cube brick (Work job answer) told) (place_where own (Answered job answer) p)
work-posted true o es mail cube brick e job answer posted told p says asked other f =
    written o es mail cube brick e job answer told posted says (coe 0 1 (i. PlacePosted o cube brick e posted told (asked refl i)) f)
work-posted false o es mail cube brick e job answer posted told p says asked other f =
    place-same o cube brick e posted told posted (told_after_move o true cube brick (Work job answer) told) p refl
    (other-told o cube brick e job answer told (other refl)) f

flush-posted : (own : Bool) (o : Opening) (cube brick e : ℕ) (q : RoundProgress) (lost : Bool) (job : CoreJob) (said : JobOutcome)
    (posted told : List BrickEntry) (p : JobPlace) → FitsReply q lost job said → (own ≡ true → p ≡ Asked job)
    → PlacePosted o cube brick e posted told p → PlacePosted o cube brick e posted told (place_where own (Answered job said) p)
flush-posted true o cube brick e q lost job said posted told p fits asked f =
    λ fine. flushed job fits (coe 0 1 (i. PlacePosted o cube brick e posted told (asked refl i)) f)
  where
    flushed : (j : CoreJob) → FitsReply q lost j said
        → entries_of_epoch e posted ≡ entries_of_epoch e (entries_of_job o cube brick j) ++ entries_of_epoch e told
        → entries_of_epoch e posted ≡ entries_of_epoch e told
    flushed Flush x g = g
    flushed (Append c epoch rows) x g = absurd x
    flushed (DropBox c epoch box) x g = absurd x
    flushed (Scan query snapshot) x g = absurd x
    flushed (Delta query from to) x g = absurd x
    flushed (Rollback epoch) x g = absurd x
    flushed (Purge epoch) x g = absurd x
    flushed (CopyRound from to) x g = absurd x
flush-posted false o cube brick e q lost job said posted told p fits asked f = f

move-posted : (here : Bool) (o : Opening) (es : List CoreEvent) (mail a cube brick e : ℕ) (q : RoundProgress) (lost : Bool)
    (worker : WorkerState) (move : WorkerMove) (posted told : List BrickEntry) (p : JobPlace)
    → (here ≡ true → FitsWork q lost worker move) → (here ≡ true → MoveSays o es mail move)
    → (here ≡ true → (d : DoneJob) → job_done worker move ≡ Some d → d.client ≡ a → p ≡ Asked d.job)
    → (here ≡ true → (c : ℕ) (job : CoreJob) → worker ≡ Took c job → (c ≡ a → ⊥) → IsOtherEpoch e job)
    → PlacePosted o cube brick e posted told p
    → PlacePosted o cube brick e posted (told_after_move o here cube brick move told) (place_after_move here a worker move p)
move-posted true o es mail a cube brick e q lost Free (Take client job) posted told p fits says asked other f = f
move-posted true o es mail a cube brick e q lost (Took c j) (Take client job) posted told p fits says asked other f = absurd (fits refl)
move-posted true o es mail a cube brick e q lost (Worked c j x) (Take client job) posted told p fits says asked other f = absurd (fits refl)
move-posted true o es mail a cube brick e q lost Free (NoJob closed) posted told p fits says asked other f = f
move-posted true o es mail a cube brick e q lost (Took c j) (NoJob closed) posted told p fits says asked other f = absurd (fits refl)
move-posted true o es mail a cube brick e q lost (Worked c j x) (NoJob closed) posted told p fits says asked other f = absurd (fits refl)
move-posted true o es mail a cube brick e q lost Free (Work made answer) posted told p fits says asked other f = absurd (fits refl)
move-posted true o es mail a cube brick e q lost (Took c j) (Work made answer) posted told p fits says asked other f =
    work-posted (c == a) o es mail cube brick e made answer posted told p (says refl)
    (λ own. asked refl (record { client = c; job = made; answer = answer }) refl (eqb-true c a own))
    (λ apart. coe 1 0 (i. IsOtherEpoch e ((fits refl).0 i)) (other refl c j refl (eqb-false c a apart))) f
move-posted true o es mail a cube brick e q lost (Worked c j x) (Work made answer) posted told p fits says asked other f = absurd (fits refl)
move-posted true o es mail a cube brick e q lost Free (Reply to said) posted told p fits says asked other f = absurd (fits refl)
move-posted true o es mail a cube brick e q lost (Took c j) (Reply to said) posted told p fits says asked other f =
    flush-posted (to == a) o cube brick e q lost j said posted told p (fits refl).1
    (λ own. asked refl (record { client = to; job = j; answer = said }) refl (eqb-true to a own)) f
move-posted true o es mail a cube brick e q lost (Worked c j x) (Reply to said) posted told p fits says asked other f = f
move-posted false o es mail a cube brick e q lost worker move posted told p fits says asked other f = f

-- The job that a worker has taken is asked.
pub taken-asked : (o : Opening) (es : List CoreEvent) (mail c : ℕ) (job : CoreJob) → IsCoreRun o es → worker_of mail es ≡ Took c job
    → place mail c es ≡ Asked job
taken-asked o es mail c job run is =
    (coe 0 1 (i. IsBusy (λ a. place mail a es) (queue_of mail es) (λ a. reply_for mail a es) (is i)) ((run-posted o es run).posted mail).busy).asked

pub run-posted-fits : (o : Opening) (es : List CoreEvent) (a e cube brick : ℕ) → IsCoreRun o es → PostedFits o es a e cube brick
run-posted-fits o [] a e cube brick run = λ session owns clean. refl
run-posted-fits o (By b call ∷ es) a e cube brick run = λ session owns clean.
    call-posted (b == a) o es a b e cube brick call refl run (run-posted-fits o es a e cube brick run.0) session owns clean
run-posted-fits o (At other move ∷ es) a e cube brick run = λ session owns clean.
    let mail = brick % o.shards in
    let q = round_progress o es in
    let lost = (client_state o (flusher o) es).store_lost in
    let w = writer-of o es a e run.0 session owns in
    move-posted (other == mail) o es mail a cube brick e q lost (worker_of mail es) move (posted_of o es cube brick) (told_of o es cube brick)
    (place mail a es)
    (λ here. let same = eqb-true other mail here in coe 0 1 (i. FitsWork q lost (worker_of (same i) es) move) run.1.fits)
    (λ here. let same = eqb-true other mail here in coe 0 1 (i. MoveSays o es (same i) move) run.1.says)
    (moved-asked o es other mail a move run)
    (λ here c job took apart.
    other-epoch o es a c e (counters_of_run o es).lse job run.0 w apart
    (asked-fits o es mail c job run.0 (taken-asked o es mail c job run.0 took)))
    (run-posted-fits o es a e cube brick run.0 session owns clean)
