-- What the shards have copied shows, over what was kept, what a reader at the round's target sees now.
use Rattle.std.proofs.Common.{◌≡◌, ◌∙◌, ℕ, zero, suc, ◌%◌, ◌≤◌, ◌==◌, Bool, true, false, not, ◌&&◌, ◌||◌, nat_le, nat_lt, List, [], ◌∷◌, ◌++◌, inl, inr, refl, sym, ap, arith, eqb-true, mod-lt, if◌then◌else◌}
use Rattle.std.specs.List.{count_by}
use Rattle.std.proofs.lemmas.Bool.{false≢true, leb-true, or_parts}
use Rattle.cube_values.specs.declared.row.CodedRow.{CodedRow}
use Rattle.cube_values.specs.Sees.{sees}
use Rattle.cube_journal.specs.Counters.{JournalState, lce}
use Rattle.core_events.specs.ShardView.{BrickEntry, RowRun, RowMark, ShardView, EpochSet, is_below_mark, epochs_above, epochs_before_mark, every_epoch, rows_where, rows_shown_to, brick_rows_seen, entries_without_epoch, is_up_to, entries_after_purge, entries_of_round, rows_over_kept, HasNoZeroRows}
use Rattle.core_events.specs.Jobs.{CoreJob, Append, DropBox, Scan, Delta, Rollback, Purge, CopyRound, Flush, JobOutcome, Done, ShardFull, Found, Compared, Copied, StoreLost, OutOfMemory, is_refusal}
use Rattle.core_events.specs.Events.{Opening, IsSession, flusher, ClientCall, WorkerMove, Take, NoJob, Work, Reply, CoreEvent, By, At}
use Rattle.core_events.specs.Groups.{GroupKind, Copies, kind_of, Received, has_number, mails_of, has_refusal}
use Rattle.core_events.specs.Clients.{client_state, ends_group, reader_up_to}
use Rattle.core_events.specs.Cells.{counters_of_run, shard_view_of, rows_of_brick, box_has_brick, brick_after_job, brick_after_move, Took, worker_of}
use Rattle.core_events.specs.Fitting.{OwnsWriter, FlushSays, round_progress}
use Rattle.core_events.specs.Runs.{IsCoreRun, ShardSays}
use Rattle.core_events.proofs.CopyRows.{sees-low, sees-not, copies-restore}
use Rattle.core_events.proofs.Agreement.{opening-of}
use Rattle.core_events.proofs.Blindness.{least-pending}
use Rattle.core_serial.proofs.FoundRows.{all-below}
use Rattle.core_serial.proofs.Isolation.{JobFits, asked-fits, made-asked, IsUnseen, job-keeps, move-keeps}
use Rattle.core_serial.proofs.ToldBricks.{writer-of, above-lse}
use Rattle.core_serial.proofs.FetchedAnswers.{AnswersFit, run-answers}
use Rattle.core_serial.specs.Copies.{copy_in, copies_by, HasCopied, IsOfOpenRound}
use Rattle.core_serial.proofs.OpenRounds.{is_copying, of-open-round}
use Rattle.core_serial.proofs.OverKept.{NoneAtZero}

-- What a reader up to an epoch between LSE and LCE sees stays, though nobody holds it.

pub record IsSettledEpoch (s : JournalState) (x : ℕ) : Type 0 where
  pub safe : s.lse ≤ x
  pub committed : x ≤ lce s

pending-unseen : (o : Opening) (es : List CoreEvent) (a x epoch : ℕ) → IsCoreRun o es → IsSettledEpoch (counters_of_run o es) x → IsSession o a
    → OwnsWriter a epoch (client_state o a es) → sees (reader_up_to x) epoch ≡ false
pending-unseen o es a x epoch run settled session owns =
    let s = counters_of_run o es in
    let pending = (writer-of o es a epoch run session owns).pending in
    let above = above-lse o es epoch run pending in
    let later = least-pending s epoch pending (omega (arith, above)) in
    let most = settled.committed in
    sees-not x epoch (omega (arith, later, most))

job-unseen : (o : Opening) (es : List CoreEvent) (a x : ℕ) (job : CoreJob) → IsCoreRun o es → IsSettledEpoch (counters_of_run o es) x
    → JobFits o a job (client_state o a es) (counters_of_run o es).lse → IsUnseen (reader_up_to x) job
job-unseen o es a x (Append cube epoch rows) run settled f = pending-unseen o es a x epoch run settled f.0 f.1
job-unseen o es a x (DropBox cube epoch box) run settled f = pending-unseen o es a x epoch run settled f.0 f.1
job-unseen o es a x (Scan query snapshot) run settled f = tt
job-unseen o es a x (Delta query from to) run settled f = tt
job-unseen o es a x (Rollback epoch) run settled f = pending-unseen o es a x epoch run settled f.0 f.1
job-unseen o es a x (Purge epoch) run settled f = λ e le. let low = settled.safe in sees-low x e (omega (arith, le, f, low))
job-unseen o es a x (CopyRound from to) run settled f = tt
job-unseen o es a x Flush run settled f = tt

epoch-stays : (o : Opening) (es : List CoreEvent) (other x cube brick : ℕ) (move : WorkerMove) → IsCoreRun o (At other move ∷ es)
    → IsSettledEpoch (counters_of_run o es) x
    → brick_rows_seen (reader_up_to x) (shard_view_of o (At other move ∷ es) cube brick) ≡ brick_rows_seen (reader_up_to x) (shard_view_of o es cube brick)
epoch-stays o es other x cube brick (Work job answer) run settled =
    let made = made-asked o es other job answer run in
    move-keeps o (other == brick % o.shards) cube brick job answer (reader_up_to x) (shard_view_of o es cube brick)
    (job-keeps o cube brick job (reader_up_to x) (shard_view_of o es cube brick)
    (job-unseen o es made.0 x job run.0 settled (asked-fits o es other made.0 job run.0 made.1)))
epoch-stays o es other x cube brick (Take client job) run settled = by (other == brick % o.shards)
  where
    by : (h : Bool) → brick_rows_seen (reader_up_to x) (brick_after_move o h cube brick (Take client job) (shard_view_of o es cube brick))
        ≡ brick_rows_seen (reader_up_to x) (shard_view_of o es cube brick)
    by true = refl
    by false = refl
epoch-stays o es other x cube brick (NoJob closed) run settled = by (other == brick % o.shards)
  where
    by : (h : Bool) → brick_rows_seen (reader_up_to x) (brick_after_move o h cube brick (NoJob closed) (shard_view_of o es cube brick))
        ≡ brick_rows_seen (reader_up_to x) (shard_view_of o es cube brick)
    by true = refl
    by false = refl
epoch-stays o es other x cube brick (Reply client answer) run settled = by (other == brick % o.shards)
  where
    by : (h : Bool) → brick_rows_seen (reader_up_to x) (brick_after_move o h cube brick (Reply client answer) (shard_view_of o es cube brick))
        ≡ brick_rows_seen (reader_up_to x) (shard_view_of o es cube brick)
    by true = refl
    by false = refl

-- No brick has rows of epoch 0.

append-free : (here : Bool) (e : ℕ) (rows : List CodedRow) (xs : List BrickEntry) → (e ≡ 0 → ⊥) → HasNoZeroRows xs
    → HasNoZeroRows (if here then RowRun e rows ∷ xs else xs)
append-free true e rows xs later f = ((λ zero. absurd (later zero)), f)
append-free false e rows xs later f = f

mark-free : (here : Bool) (e : ℕ) (xs : List BrickEntry) → HasNoZeroRows xs → HasNoZeroRows (if here then RowMark e ∷ xs else xs)
mark-free true e xs f = f
mark-free false e xs f = f

rollback-free : (k : ℕ) (xs : List BrickEntry) → HasNoZeroRows xs → HasNoZeroRows (entries_without_epoch k xs)
rollback-free k [] f = tt
rollback-free k (RowRun e rows ∷ xs) f = by (e == k) (rollback-free k xs f.1)
  where
    by : (b : Bool) → HasNoZeroRows (entries_without_epoch k xs)
        → HasNoZeroRows (if b then entries_without_epoch k xs else RowRun e rows ∷ entries_without_epoch k xs)
    by true rest = rest
    by false rest = (f.0, rest)
rollback-free k (RowMark e ∷ xs) f = by (e == k) (rollback-free k xs f)
  where
    by : (b : Bool) → HasNoZeroRows (entries_without_epoch k xs)
        → HasNoZeroRows (if b then entries_without_epoch k xs else RowMark e ∷ entries_without_epoch k xs)
    by true rest = rest
    by false rest = rest

where-none : (b : Bool) (rows : List CodedRow) → rows ≡ [] → rows_where b rows ≡ []
where-none true rows e = e
where-none false rows e = refl

purge-free : (left : EpochSet) (at : ℕ) (xs : List BrickEntry) → HasNoZeroRows xs → HasNoZeroRows (entries_after_purge left at xs)
purge-free left at [] f = tt
purge-free left at (RowRun e rows ∷ xs) f =
    ((λ zero. where-none (left e && not (is_below_mark (is_up_to at) e xs)) rows (f.0 zero)), purge-free left at xs f.1)
purge-free left at (RowMark e ∷ xs) f = by (nat_le e at) (purge-free (epochs_above e left) at xs f) (purge-free left at xs f)
  where
    by : (b : Bool) → HasNoZeroRows (entries_after_purge (epochs_above e left) at xs) → HasNoZeroRows (entries_after_purge left at xs)
        → HasNoZeroRows (if b then entries_after_purge (epochs_above e left) at xs else RowMark e ∷ entries_after_purge left at xs)
    by true above rest = above
    by false above rest = rest

-- A job that writes is of a later epoch than 0.
abbrev IsLater : CoreJob → Type 0
IsLater (Append cube epoch rows) = epoch ≡ 0 → ⊥
IsLater job = Unit {0}

job-later : (o : Opening) (es : List CoreEvent) (a : ℕ) (job : CoreJob) → IsCoreRun o es
    → JobFits o a job (client_state o a es) (counters_of_run o es).lse → IsLater job
job-later o es a (Append cube epoch rows) run f = λ zero.
    let above = above-lse o es epoch run (writer-of o es a epoch run f.0 f.1).pending in omega (arith, above, zero)
job-later o es a (DropBox cube epoch box) run f = tt
job-later o es a (Scan query snapshot) run f = tt
job-later o es a (Delta query from to) run f = tt
job-later o es a (Rollback epoch) run f = tt
job-later o es a (Purge epoch) run f = tt
job-later o es a (CopyRound from to) run f = tt
job-later o es a Flush run f = tt

job-free : (o : Opening) (cube brick : ℕ) (job : CoreJob) (xs : List BrickEntry) → IsLater job → HasNoZeroRows xs
    → HasNoZeroRows (brick_after_job o cube brick job xs)
job-free o cube brick (Append other epoch rows) xs later f = append-free (other == cube) epoch (rows_of_brick o cube brick rows) xs later f
job-free o cube brick (DropBox other epoch box) xs later f = mark-free (other == cube && box_has_brick o cube box brick) epoch xs f
job-free o cube brick (Scan query snapshot) xs later f = f
job-free o cube brick (Delta query from to) xs later f = f
job-free o cube brick (Rollback epoch) xs later f = rollback-free epoch xs f
job-free o cube brick (Purge epoch) xs later f = purge-free every_epoch epoch xs f
job-free o cube brick (CopyRound from to) xs later f = f
job-free o cube brick Flush xs later f = f

move-free : (here : Bool) (o : Opening) (cube brick : ℕ) (move : WorkerMove) (xs : List BrickEntry)
    → ((job : CoreJob) (answer : JobOutcome) → move ≡ Work job answer → IsLater job) → HasNoZeroRows xs
    → HasNoZeroRows (brick_after_move o here cube brick move xs)
move-free true o cube brick (Work job Done) xs later f = job-free o cube brick job xs (later job Done refl) f
move-free true o cube brick (Work job (ShardFull rows)) xs later f = f
move-free true o cube brick (Work job (Found rows)) xs later f = f
move-free true o cube brick (Work job (Compared came went)) xs later f = f
move-free true o cube brick (Work job (Copied view)) xs later f = f
move-free true o cube brick (Work job StoreLost) xs later f = f
move-free true o cube brick (Work job OutOfMemory) xs later f = f
move-free true o cube brick (Take client job) xs later f = f
move-free true o cube brick (NoJob closed) xs later f = f
move-free true o cube brick (Reply client answer) xs later f = f
move-free false o cube brick move xs later f = f

pub run-free : (o : Opening) (es : List CoreEvent) (cube brick : ℕ) → IsCoreRun o es → HasNoZeroRows (shard_view_of o es cube brick)
run-free o [] cube brick run = ((λ zero. ap (rows_of_brick o cube brick) (run.none zero cube)), tt)
run-free o (By b call ∷ es) cube brick run = run-free o es cube brick run.0
run-free o (At other move ∷ es) cube brick run =
    move-free (other == brick % o.shards) o cube brick move (shard_view_of o es cube brick)
    (λ job answer is.
    let made = made-asked o es other job answer (coe 0 1 (i. IsCoreRun o (At other (is i) ∷ es)) run) in
    job-later o es made.0 job run.0 (asked-fits o es other made.0 job run.0 made.1))
    (run-free o es cube brick run.0)

before-zero : (here : Bool) (d : ℕ) (epochs : EpochSet) → ((e : ℕ) → epochs e ≡ true → e ≡ 0) → (e : ℕ) → epochs_before_mark here d epochs e ≡ true → e ≡ 0
before-zero true d epochs only e is = only e (left-and (epochs e) (nat_lt d e) is)
  where
    left-and : (a b : Bool) → (a && b) ≡ true → a ≡ true
    left-and true b x = refl
    left-and false b x = x
before-zero false d epochs only e is = only e is

zero-rows : (looked hidden : Bool) (e : ℕ) (rows : List CodedRow) → (looked ≡ true → e ≡ 0) → NoneAtZero e rows
    → rows_where (looked && not hidden) rows ≡ []
zero-rows true hidden e rows only none = where-none (not hidden) rows (none (only refl))
zero-rows false hidden e rows only none = refl

pub none-at-zero : (epochs marks : EpochSet) (xs : List BrickEntry) → ((e : ℕ) → epochs e ≡ true → e ≡ 0) → HasNoZeroRows xs → rows_shown_to epochs marks xs ≡ []
none-at-zero epochs marks [] only f = refl
none-at-zero epochs marks (RowRun e rows ∷ xs) only f =
    λ i. none-at-zero epochs marks xs only f.1 i ++ zero-rows (epochs e) (is_below_mark marks e xs) e rows (only e) f.0 i
none-at-zero epochs marks (RowMark d ∷ xs) only f =
    none-at-zero (epochs_before_mark (marks d) d epochs) marks xs (before-zero (marks d) d epochs only) f

pub sees-zero : (e : ℕ) → sees (reader_up_to 0) e ≡ true → e ≡ 0
sees-zero e is = let le = leb-true e 0 (left-and (nat_le e 0) true is) in omega (arith, le)
  where
    left-and : (a b : Bool) → (a && b) ≡ true → a ≡ true
    left-and true b x = refl
    left-and false b x = x

-- What is claimed of a copy. Nothing is kept up to epoch 0.

abbrev pub rows_kept : ℕ → List BrickEntry → List CodedRow
rows_kept zero xs = []
rows_kept (suc g) xs = brick_rows_seen (reader_up_to (suc g)) xs

pub kept-none : (from : ℕ) (xs : List BrickEntry) → NoneAtZero from (rows_kept from xs)
kept-none zero xs = λ zero. refl
kept-none (suc g) xs = λ zero. absurd (omega (arith, zero))

abbrev CopyShows : Opening → List CoreEvent → ℕ → ℕ → ℕ → ShardView → Type 0
CopyShows o es mail from to copy = (cube brick : ℕ) (c : CodedRow → Bool) → (r : brick % o.shards ≡ mail)
    → count_by c (rows_over_kept from (rows_kept from (shard_view_of o es cube brick)) (copy cube brick))
    ≡ count_by c (brick_rows_seen (reader_up_to to) (shard_view_of o es cube brick))

abbrev CopyAnswer : Opening → List CoreEvent → ℕ → ℕ → ℕ → JobOutcome → Type 0
CopyAnswer o es mail from to (Copied copy) = from ≤ to → CopyShows o es mail from to copy
CopyAnswer o es mail from to answer = is_refusal answer ≡ true

abbrev CopyClaim : Opening → List CoreEvent → ℕ → ℕ → CoreJob → JobOutcome → Type 0
CopyClaim o es a mail (CopyRound from to) answer = CopyAnswer o es mail from to answer
CopyClaim o es a mail job answer = Unit {0}

kept-seen : (o : Opening) (es : List CoreEvent) (from cube brick : ℕ) → IsCoreRun o es
    → rows_kept from (shard_view_of o es cube brick) ≡ brick_rows_seen (reader_up_to from) (shard_view_of o es cube brick)
kept-seen o es zero cube brick run =
    sym (none-at-zero (sees (reader_up_to 0)) (sees (reader_up_to 0)) (shard_view_of o es cube brick) sees-zero (run-free o es cube brick run))
kept-seen o es (suc g) cube brick run = refl

copy-given : (o : Opening) (es : List CoreEvent) (a mail : ℕ) (job : CoreJob) (answer : JobOutcome) → IsCoreRun o es
    → ShardSays o mail (shard_view_of o es) job answer → CopyClaim o es a mail job answer
copy-given o es a mail (Append cube epoch rows) answer run says = tt
copy-given o es a mail (DropBox cube epoch box) answer run says = tt
copy-given o es a mail (Scan query snapshot) answer run says = tt
copy-given o es a mail (Delta query from to) answer run says = tt
copy-given o es a mail (Rollback epoch) answer run says = tt
copy-given o es a mail (Purge epoch) answer run says = tt
copy-given o es a mail (CopyRound from to) Done run says = absurd says
copy-given o es a mail (CopyRound from to) (ShardFull rows) run says = absurd says
copy-given o es a mail (CopyRound from to) (Found rows) run says = absurd says
copy-given o es a mail (CopyRound from to) (Compared came went) run says = absurd says
copy-given o es a mail (CopyRound from to) (Copied copy) run says = λ le cube brick c here.
    let xs = shard_view_of o es cube brick in
    ap (λ (rows : List CodedRow). count_by c (rows_over_kept from rows (copy cube brick))) (kept-seen o es from cube brick run)
    ∙ ap (count_by c) (let said = says.own cube brick here in said.shows)
    ∙ copies-restore c from to xs le
copy-given o es a mail (CopyRound from to) StoreLost run says = absurd says
copy-given o es a mail (CopyRound from to) OutOfMemory run says = refl
copy-given o es a mail Flush answer run says = tt

copy-flushed : (o : Opening) (es : List CoreEvent) (a mail : ℕ) (said : JobOutcome) → IsCoreRun o es → worker_of mail es ≡ Took a Flush
    → FlushSays (round_progress o es) (client_state o (flusher o) es).store_lost said → CopyClaim o es a mail Flush said
copy-flushed o es a mail said run took says = tt

copy-call : (o : Opening) (es : List CoreEvent) (a b mail : ℕ) (call : ClientCall) (job : CoreJob) (answer : JobOutcome)
    → IsCoreRun o (By b call ∷ es) → kind_of job ≡ (client_state o a es).group.kind → (b ≡ a → ends_group call ≡ false)
    → CopyClaim o es a mail job answer → CopyClaim o (By b call ∷ es) a mail job answer
copy-call o es a b mail call (Append cube epoch rows) answer run kind goes f = f
copy-call o es a b mail call (DropBox cube epoch box) answer run kind goes f = f
copy-call o es a b mail call (Scan query snapshot) answer run kind goes f = f
copy-call o es a b mail call (Delta query from to) answer run kind goes f = f
copy-call o es a b mail call (Rollback epoch) answer run kind goes f = f
copy-call o es a b mail call (Purge epoch) answer run kind goes f = f
copy-call o es a b mail call (CopyRound from to) Done run kind goes f = f
copy-call o es a b mail call (CopyRound from to) (ShardFull rows) run kind goes f = f
copy-call o es a b mail call (CopyRound from to) (Found rows) run kind goes f = f
copy-call o es a b mail call (CopyRound from to) (Compared came went) run kind goes f = f
copy-call o es a b mail call (CopyRound from to) (Copied copy) run kind goes f = λ le cube brick c here. f le cube brick c here
copy-call o es a b mail call (CopyRound from to) StoreLost run kind goes f = f
copy-call o es a b mail call (CopyRound from to) OutOfMemory run kind goes f = f
copy-call o es a b mail call Flush answer run kind goes f = f

-- What was kept stays.
kept-stays : (o : Opening) (es : List CoreEvent) (other from to cube brick : ℕ) (move : WorkerMove) → IsCoreRun o (At other move ∷ es)
    → IsOfOpenRound from to (counters_of_run o es)
    → rows_kept from (shard_view_of o (At other move ∷ es) cube brick) ≡ rows_kept from (shard_view_of o es cube brick)
kept-stays o es other zero to cube brick move run opened = refl
kept-stays o es other (suc g) to cube brick move run opened =
    epoch-stays o es other (suc g) cube brick move run (elim opened.begins [
      | inl at ↦ record {
        safe = omega (arith, at);
        committed = let high = opened.committed in let rises = opened.rises in omega (arith, at, high, rises);
      }
      | inr none ↦ absurd (omega (arith, none))
    ])

copy-moves : (o : Opening) (es : List CoreEvent) (a other mail : ℕ) (move : WorkerMove) (from to : ℕ) (answer : JobOutcome)
    → IsCoreRun o (At other move ∷ es) → IsOfOpenRound from to (counters_of_run o es)
    → CopyAnswer o es mail from to answer → CopyAnswer o (At other move ∷ es) mail from to answer
copy-moves o es a other mail move from to Done run opened f = f
copy-moves o es a other mail move from to (ShardFull rows) run opened f = f
copy-moves o es a other mail move from to (Found rows) run opened f = f
copy-moves o es a other mail move from to (Compared came went) run opened f = f
copy-moves o es a other mail move from to (Copied copy) run opened f = λ le cube brick c here.
    let rises = opened.rises in
    ap (λ (rows : List CodedRow). count_by c (rows_over_kept from rows (copy cube brick))) (kept-stays o es other from to cube brick move run opened)
    ∙ f le cube brick c here
    ∙ ap (count_by c) (sym (epoch-stays o es other to cube brick move run (record { safe = omega (arith, rises); committed = opened.committed })))
copy-moves o es a other mail move from to StoreLost run opened f = f
copy-moves o es a other mail move from to OutOfMemory run opened f = f

copy-move : (o : Opening) (es : List CoreEvent) (a other mail : ℕ) (move : WorkerMove) (job : CoreJob) (answer : JobOutcome)
    → IsCoreRun o (At other move ∷ es) → kind_of job ≡ (client_state o a es).group.kind
    → CopyClaim o es a mail job answer → CopyClaim o (At other move ∷ es) a mail job answer
copy-move o es a other mail move (Append cube epoch rows) answer run kind f = f
copy-move o es a other mail move (DropBox cube epoch box) answer run kind f = f
copy-move o es a other mail move (Scan query snapshot) answer run kind f = f
copy-move o es a other mail move (Delta query from to) answer run kind f = f
copy-move o es a other mail move (Rollback epoch) answer run kind f = f
copy-move o es a other mail move (Purge epoch) answer run kind f = f
copy-move o es a other mail move (CopyRound from to) answer run kind f =
    copy-moves o es a other mail move from to answer run (of-open-round o es a from to run.0 (sym kind)) f
copy-move o es a other mail move Flush answer run kind f = f

-- The answers of all shards.

copy-answer : (o : Opening) (es : List CoreEvent) (a mail : ℕ) (job : CoreJob) (answer : JobOutcome) (from to : ℕ)
    → kind_of job ≡ Copies from to → CopyClaim o es a mail job answer → CopyAnswer o es mail from to answer
copy-answer o es a mail (CopyRound x y) answer from to e f =
    coe 0 1 (i. CopyAnswer o es mail (ap (first_in x) e i) (ap (second_in y) e i) answer) f
  where
    first_in : ℕ → GroupKind → ℕ
    first_in default (Copies u v) = u
    first_in default kind = default

    second_in : ℕ → GroupKind → ℕ
    second_in default (Copies u v) = v
    second_in default kind = default
copy-answer o es a mail (Append cube epoch rows) answer from to e f = absurd (false≢true (ap is_copying e))
copy-answer o es a mail (DropBox cube epoch box) answer from to e f = absurd (false≢true (ap is_copying e))
copy-answer o es a mail (Scan query snapshot) answer from to e f = absurd (false≢true (ap is_copying e))
copy-answer o es a mail (Delta query x y) answer from to e f = absurd (false≢true (ap is_copying e))
copy-answer o es a mail (Rollback epoch) answer from to e f = absurd (false≢true (ap is_copying e))
copy-answer o es a mail (Purge epoch) answer from to e f = absurd (false≢true (ap is_copying e))
copy-answer o es a mail Flush answer from to e f = absurd (false≢true (ap is_copying e))

copy-shows : (o : Opening) (es : List CoreEvent) (mail from to : ℕ) (answer : JobOutcome) → is_refusal answer ≡ false → from ≤ to
    → CopyAnswer o es mail from to answer → CopyShows o es mail from to (copy_in answer)
copy-shows o es mail from to (Copied copy) is le f = f le
copy-shows o es mail from to Done is le f = absurd (false≢true (sym is ∙ f))
copy-shows o es mail from to (ShardFull rows) is le f = absurd (false≢true (sym is ∙ f))
copy-shows o es mail from to (Found rows) is le f = absurd (false≢true (sym is ∙ f))
copy-shows o es mail from to (Compared came went) is le f = absurd (false≢true (sym is ∙ f))
copy-shows o es mail from to StoreLost is le f = absurd (false≢true (sym is ∙ f))
copy-shows o es mail from to OutOfMemory is le f = absurd (false≢true (sym is ∙ f))

copied-by : (here : Bool) (o : Opening) (es : List CoreEvent) (from to cube brick : ℕ) (c : CodedRow → Bool) (r : Received) (older : List Received)
    → (r.mail == brick % o.shards) ≡ here → (here || has_number (mails_of older) (brick % o.shards)) ≡ true
    → CopyShows o es r.mail from to (copy_in r.answer)
    → (has_number (mails_of older) (brick % o.shards) ≡ true
    → count_by c (rows_over_kept from (rows_kept from (shard_view_of o es cube brick)) (copies_by o older cube brick))
    ≡ count_by c (brick_rows_seen (reader_up_to to) (shard_view_of o es cube brick)))
    → count_by c (rows_over_kept from (rows_kept from (shard_view_of o es cube brick))
    (if here then copy_in r.answer cube brick else copies_by o older cube brick))
    ≡ count_by c (brick_rows_seen (reader_up_to to) (shard_view_of o es cube brick))
copied-by true o es from to cube brick c r older is all shows before = shows cube brick c (sym (eqb-true r.mail (brick % o.shards) is))
copied-by false o es from to cube brick c r older is all shows before = before all

answers-copies : (o : Opening) (es : List CoreEvent) (a from to cube brick : ℕ) (c : CodedRow → Bool) (answers : List Received) → from ≤ to
    → has_refusal answers ≡ false → has_number (mails_of answers) (brick % o.shards) ≡ true
    → AnswersFit CopyClaim copy-given copy-flushed copy-call copy-move o es a (Copies from to) answers
    → count_by c (rows_over_kept from (rows_kept from (shard_view_of o es cube brick)) (copies_by o answers cube brick))
    ≡ count_by c (brick_rows_seen (reader_up_to to) (shard_view_of o es cube brick))
answers-copies o es a from to cube brick c [] le none all f = absurd (false≢true all)
answers-copies o es a from to cube brick c (r ∷ older) le none all f =
    let parts = or_parts (is_refusal r.answer) (has_refusal older) none in
    copied-by (r.mail == brick % o.shards) o es from to cube brick c r older refl all
    (copy-shows o es r.mail from to r.answer parts.0 le (copy-answer o es a r.mail f.0.job r.answer from to f.0.of_kind f.0.claim))
    (λ there. answers-copies o es a from to cube brick c older le parts.1 there f.1)

pub from-below : (from to : ℕ) (s : JournalState) → IsOfOpenRound from to s → from ≤ to
from-below from to s opened =
    let rises = opened.rises in
    elim opened.begins [ inl at ↦ omega (arith, at, rises) | inr none ↦ omega (arith, none) ]

pub copied-shows : (o : Opening) (es : List CoreEvent) (a from to cube brick : ℕ) (c : CodedRow → Bool) → IsCoreRun o es
    → HasCopied o.shards from to (client_state o a es).group
    → count_by c (rows_over_kept from (rows_kept from (shard_view_of o es cube brick)) (copies_by o (client_state o a es).group.answers cube brick))
    ≡ count_by c (brick_rows_seen (reader_up_to to) (shard_view_of o es cube brick))
copied-shows o es a from to cube brick c run h =
    let g = (client_state o a es).group in
    let some = (opening-of o es run).some in
    answers-copies o es a from to cube brick c g.answers
    (from-below from to (counters_of_run o es) (of-open-round o es a from to run h.copies)) h.done.none
    (all-below o.shards (brick % o.shards) (mails_of g.answers) h.done.all (mod-lt brick (omega (arith, some))))
    (coe 0 1 (i. AnswersFit CopyClaim copy-given copy-flushed copy-call copy-move o es a (h.copies i) g.answers)
    (run-answers CopyClaim copy-given copy-flushed copy-call copy-move o es a run))
