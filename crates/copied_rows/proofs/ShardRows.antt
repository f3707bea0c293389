-- The rows of a shard's bricks are rows of their cubes, each in the brick of its coordinates.
use Rattle.std.proofs.Common.{◌≡◌, ℕ, ◌%◌, ◌==◌, Bool, true, false, not, cond, ◌&&◌, List, [], ◌∷◌, ◌++◌, All, refl, eqb-true, nat_le}
use Rattle.std.specs.List.{AllByRecursion}
use Rattle.std.proofs.lemmas.List.Elements.{recursion_from_All, All-from_recursion}
use Rattle.cube_values.specs.declared.row.CodedRow.{CodedRow}
use Rattle.brick_address.specs.Addresses.{brick_of}
use Rattle.core_events.specs.ShardView.{BrickEntry, RowRun, RowMark, EpochSet, entries_after_purge, entries_without_epoch, epochs_above, every_epoch, is_below_mark, is_up_to, rows_appended, rows_where}
use Rattle.core_events.specs.Jobs.{CoreJob, Append, DropBox, Scan, Delta, Rollback, Purge, CopyRound, Flush, JobOutcome, Done, ShardFull, Found, Compared, Copied, StoreLost, OutOfMemory}
use Rattle.core_events.specs.Events.{Opening, flusher, ClientCall, OnDesk, OnNames, Post, Fetch, CloseMail, NoChange, WorkerMove, Take, NoJob, Work, Reply, CoreEvent, By, At}
use Rattle.core_events.specs.Clients.{client_state}
use Rattle.core_events.specs.Cells.{Letter, letter, queue_of, queue_after_call, queue_after_move, queue_after_post, queue_after_take, WorkerState, Free, Took, Worked, worker_of, worker_after, box_has_brick, brick_after_job, brick_after_move, rows_of_brick, shard_view_of, sizes_of_cube}
use Rattle.core_events.specs.Fitting.{FitsMove, FitsWork, RoundProgress, round_progress}
use Rattle.core_events.specs.Runs.{IsCoreRun, IsOldest, MoveSays}
use Rattle.core_events.proofs.RoundEntries.{append-first, append-second}
use Rattle.core_rows.specs.RowsOfCubes.{IsCubeRow}
use Rattle.core_rows.proofs.RowsOfRuns.{JobRows, all-append, all-as, job-rows, row-later}
use Rattle.copied_rows.specs.CopiedRows.{IsPlacedRow, KeptAreCubeRows}

-- Jobs that are on their way.

job-later : (o : Opening) (es : List CoreEvent) (e : CoreEvent) (job : CoreJob) → JobRows o es job → JobRows o (e ∷ es) job
job-later o es e (Append cube epoch rows) f =
    all-as (IsCubeRow o es cube) (IsCubeRow o (e ∷ es) cube) rows (λ row r. row-later o es cube e row r) f
job-later o es e (DropBox cube epoch box) f = tt
job-later o es e (Scan query snapshot) f = tt
job-later o es e (Delta query from to) f = tt
job-later o es e (Rollback epoch) f = tt
job-later o es e (Purge epoch) f = tt
job-later o es e (CopyRound from to) f = tt
job-later o es e Flush f = tt

abbrev LettersRows : Opening → List CoreEvent → List Letter → Type 0
LettersRows o es [] = Unit {0}
LettersRows o es (l ∷ queue) = JobRows o es l.job × LettersRows o es queue

letters-later : (o : Opening) (es : List CoreEvent) (e : CoreEvent) (queue : List Letter) → LettersRows o es queue → LettersRows o (e ∷ es) queue
letters-later o es e [] f = tt
letters-later o es e (l ∷ queue) f = (job-later o es e l.job f.0, letters-later o es e queue f.1)

letters-more : (o : Opening) (es : List CoreEvent) (a : ℕ) (job : CoreJob) (queue : List Letter) → LettersRows o es queue → JobRows o es job
    → LettersRows o es (queue ++ letter a job ∷ [])
letters-more o es a job [] f g = (g, tt)
letters-more o es a job (l ∷ queue) f g = (f.0, letters-more o es a job queue f.1 g)

letters-less : (here : Bool) (o : Opening) (es : List CoreEvent) (queue : List Letter) → LettersRows o es queue
    → LettersRows o es (queue_after_take here queue)
letters-less true o es [] f = tt
letters-less true o es (l ∷ queue) f = f.1
letters-less false o es queue f = f

call-letters : (o : Opening) (es : List CoreEvent) (mail a : ℕ) (call : ClientCall) → IsCoreRun o (By a call ∷ es)
    → LettersRows o es (queue_of mail es) → LettersRows o (By a call ∷ es) (queue_after_call mail a call (queue_of mail es))
call-letters o es mail a (Post other job) run f =
    letters-later o es (By a (Post other job)) (queue_after_call mail a (Post other job) (queue_of mail es)) (at (other == mail))
  where
    at : (here : Bool) → LettersRows o es (queue_after_post here a job (queue_of mail es))
    at true = letters-more o es a job (queue_of mail es) f (job-rows o es a other job run.0 run.1.fits)
    at false = f
call-letters o es mail a (OnDesk call) run f = letters-later o es (By a (OnDesk call)) (queue_of mail es) f
call-letters o es mail a (OnNames call) run f = letters-later o es (By a (OnNames call)) (queue_of mail es) f
call-letters o es mail a (Fetch other answer) run f = letters-later o es (By a (Fetch other answer)) (queue_of mail es) f
call-letters o es mail a (CloseMail other) run f = letters-later o es (By a (CloseMail other)) (queue_of mail es) f
call-letters o es mail a NoChange run f = letters-later o es (By a NoChange) (queue_of mail es) f

move-letters : (here : Bool) (o : Opening) (es : List CoreEvent) (move : WorkerMove) (queue : List Letter) → LettersRows o es queue
    → LettersRows o es (queue_after_move here move queue)
move-letters here o es (Take client job) queue f = letters-less here o es queue f
move-letters here o es (NoJob closed) queue f = f
move-letters here o es (Work job answer) queue f = f
move-letters here o es (Reply client answer) queue f = f

abbrev WorkerRows : Opening → List CoreEvent → WorkerState → Type 0
WorkerRows o es Free = Unit {0}
WorkerRows o es (Took client job) = JobRows o es job
WorkerRows o es (Worked client job answer) = Unit {0}

worker-later : (o : Opening) (es : List CoreEvent) (e : CoreEvent) (worker : WorkerState) → WorkerRows o es worker → WorkerRows o (e ∷ es) worker
worker-later o es e Free f = tt
worker-later o es e (Took client job) f = job-later o es e job f
worker-later o es e (Worked client job answer) f = tt

oldest-rows : (o : Opening) (es : List CoreEvent) (client : ℕ) (job : CoreJob) (queue : List Letter) → IsOldest client job queue
    → LettersRows o es queue → JobRows o es job
oldest-rows o es client job [] is f = absurd is
oldest-rows o es client job (first ∷ queue) is f = coe 0 1 (i. JobRows o es (is i).job) f.0

work-rows : (o : Opening) (es : List CoreEvent) (made : CoreJob) (answer : JobOutcome) (worker : WorkerState) → WorkerRows o es worker
    → WorkerRows o es (worker_after true (Work made answer) worker)
work-rows o es made answer Free f = tt
work-rows o es made answer (Took client job) f = tt
work-rows o es made answer (Worked client job old) f = tt

move-worker : (here : Bool) (o : Opening) (es : List CoreEvent) (mail other : ℕ) (move : WorkerMove) → (other == mail) ≡ here
    → MoveSays o es other move → LettersRows o es (queue_of mail es) → WorkerRows o es (worker_of mail es)
    → WorkerRows o es (worker_after here move (worker_of mail es))
move-worker true o es mail other (Take client job) is says letters f =
    let same = eqb-true other mail is in
    oldest-rows o es client job (queue_of mail es) (coe 0 1 (i. IsOldest client job (queue_of (same i) es)) says) letters
move-worker true o es mail other (NoJob closed) is says letters f = f
move-worker true o es mail other (Work made answer) is says letters f = work-rows o es made answer (worker_of mail es) f
move-worker true o es mail other (Reply client answer) is says letters f = tt
move-worker false o es mail other move is says letters f = f

-- The jobs in a mail and with its worker.
record MailRows (o : Opening) (es : List CoreEvent) (mail : ℕ) : Type 0 where
  letters : LettersRows o es (queue_of mail es)
  worker : WorkerRows o es (worker_of mail es)

run-mails : (o : Opening) (es : List CoreEvent) (mail : ℕ) → IsCoreRun o es → MailRows o es mail
run-mails o [] mail run = record { letters = tt; worker = tt }
run-mails o (By a call ∷ es) mail run =
    let f = run-mails o es mail run.0 in record {
      letters = call-letters o es mail a call run f.letters;
      worker = worker-later o es (By a call) (worker_of mail es) f.worker;
    }
run-mails o (At other move ∷ es) mail run =
    let f = run-mails o es mail run.0 in
    let here = other == mail in record {
      letters = letters-later o es (At other move) (queue_after_move here move (queue_of mail es)) (move-letters here o es move (queue_of mail es) f.letters);
      worker = worker-later o es (At other move) (worker_after here move (worker_of mail es))
          (move-worker here o es mail other move refl run.1.says f.letters f.worker);
    }

-- The job that a worker makes is the one that it took.
made-rows : (o : Opening) (es : List CoreEvent) (p : RoundProgress) (lost : Bool) (worker : WorkerState) (made : CoreJob) (answer : JobOutcome)
    → FitsWork p lost worker (Work made answer) → WorkerRows o es worker → JobRows o es made
made-rows o es p lost Free made answer fits f = absurd fits
made-rows o es p lost (Took client job) made answer fits f = coe 1 0 (i. JobRows o es (fits.0 i)) f
made-rows o es p lost (Worked client job old) made answer fits f = absurd fits

-- What a brick has.

abbrev pub BrickRows : Opening → List CoreEvent → ℕ → ℕ → List BrickEntry → Type 0
BrickRows o es cube brick xs = AllByRecursion (IsPlacedRow o es cube brick) (rows_appended xs)

brick-row-later : (o : Opening) (es : List CoreEvent) (cube brick : ℕ) (e : CoreEvent) (row : CodedRow) → IsPlacedRow o es cube brick row
    → IsPlacedRow o (e ∷ es) cube brick row
brick-row-later o es cube brick e row r = record { of_cube = row-later o es cube e row r.of_cube; place = r.place }

pub rows-later : (o : Opening) (es : List CoreEvent) (cube brick : ℕ) (e : CoreEvent) (rows : List CodedRow)
    → AllByRecursion (IsPlacedRow o es cube brick) rows → AllByRecursion (IsPlacedRow o (e ∷ es) cube brick) rows
rows-later o es cube brick e rows f =
    all-as (IsPlacedRow o es cube brick) (IsPlacedRow o (e ∷ es) cube brick) rows (λ row r. brick-row-later o es cube brick e row r) f

-- Of rows of the cube those of the brick.
placed-rows : (o : Opening) (es : List CoreEvent) (cube brick : ℕ) (rows : List CodedRow) → AllByRecursion (IsCubeRow o es cube) rows
    → AllByRecursion (IsPlacedRow o es cube brick) (rows_of_brick o cube brick rows)
placed-rows o es cube brick [] f = tt
placed-rows o es cube brick (row ∷ rows) f = at (brick_of (sizes_of_cube o cube) row.coords == brick) refl (placed-rows o es cube brick rows f.1)
  where
    at : (here : Bool) → (brick_of (sizes_of_cube o cube) row.coords == brick) ≡ here
        → AllByRecursion (IsPlacedRow o es cube brick) (rows_of_brick o cube brick rows)
        → AllByRecursion (IsPlacedRow o es cube brick) (cond here (row ∷ rows_of_brick o cube brick rows) (rows_of_brick o cube brick rows))
    at true is rest = (record { of_cube = f.0; place = eqb-true (brick_of (sizes_of_cube o cube) row.coords) brick is }, rest)
    at false is rest = rest

module _ (P : CodedRow → Type 0) where
  without-rows : (epoch : ℕ) (xs : List BrickEntry) → AllByRecursion P (rows_appended xs)
      → AllByRecursion P (rows_appended (entries_without_epoch epoch xs))
  without-rows epoch [] f = tt
  without-rows epoch (RowRun other rows ∷ older) f =
      at (other == epoch) (without-rows epoch older (append-first P (rows_appended older) rows f))
    where
      at : (gone : Bool) → AllByRecursion P (rows_appended (entries_without_epoch epoch older)) → AllByRecursion P
          (rows_appended (cond gone (entries_without_epoch epoch older) (RowRun other rows ∷ entries_without_epoch epoch older)))
      at true rest = rest
      at false rest = all-append P (rows_appended (entries_without_epoch epoch older)) rows rest (append-second P (rows_appended older) rows f)
  without-rows epoch (RowMark other ∷ older) f = at (other == epoch) (without-rows epoch older f)
    where
      at : (gone : Bool) → AllByRecursion P (rows_appended (entries_without_epoch epoch older)) → AllByRecursion P
          (rows_appended (cond gone (entries_without_epoch epoch older) (RowMark other ∷ entries_without_epoch epoch older)))
      at true rest = rest
      at false rest = rest

  where-rows : (b : Bool) (rows : List CodedRow) → AllByRecursion P rows → AllByRecursion P (rows_where b rows)
  where-rows true rows f = f
  where-rows false rows f = tt

  purged-rows : (set : EpochSet) (at : ℕ) (xs : List BrickEntry) → AllByRecursion P (rows_appended xs)
      → AllByRecursion P (rows_appended (entries_after_purge set at xs))
  purged-rows set at [] f = tt
  purged-rows set at (RowRun epoch rows ∷ older) f =
      let left = set epoch && not (is_below_mark (is_up_to at) epoch older) in
      all-append P (rows_appended (entries_after_purge set at older)) (rows_where left rows)
      (purged-rows set at older (append-first P (rows_appended older) rows f))
      (where-rows left rows (append-second P (rows_appended older) rows f))
  purged-rows set at (RowMark epoch ∷ older) f = marked (nat_le epoch at) (purged-rows (epochs_above epoch set) at older f) (purged-rows set at older f)
    where
      marked : (gone : Bool) → AllByRecursion P (rows_appended (entries_after_purge (epochs_above epoch set) at older))
          → AllByRecursion P (rows_appended (entries_after_purge set at older)) → AllByRecursion P
          (rows_appended (cond gone (entries_after_purge (epochs_above epoch set) at older) (RowMark epoch ∷ entries_after_purge set at older)))
      marked true gone stays = gone
      marked false gone stays = stays

job-brick : (o : Opening) (es : List CoreEvent) (cube brick : ℕ) (job : CoreJob) (xs : List BrickEntry) → JobRows o es job
    → BrickRows o es cube brick xs → BrickRows o es cube brick (brick_after_job o cube brick job xs)
job-brick o es cube brick (Append other epoch rows) xs f g = at (other == cube) refl
  where
    at : (here : Bool) → (other == cube) ≡ here
        → BrickRows o es cube brick (cond here (RowRun epoch (rows_of_brick o cube brick rows) ∷ xs) xs)
    at true is =
        all-append (IsPlacedRow o es cube brick) (rows_appended xs) (rows_of_brick o cube brick rows) g
        (placed-rows o es cube brick rows (coe 0 1 (i. AllByRecursion (IsCubeRow o es (eqb-true other cube is i)) rows) f))
    at false is = g
job-brick o es cube brick (DropBox other epoch box) xs f g = at (other == cube && box_has_brick o cube box brick)
  where
    at : (here : Bool) → BrickRows o es cube brick (cond here (RowMark epoch ∷ xs) xs)
    at true = g
    at false = g
job-brick o es cube brick (Scan query snapshot) xs f g = g
job-brick o es cube brick (Delta query from to) xs f g = g
job-brick o es cube brick (Rollback epoch) xs f g = without-rows (IsPlacedRow o es cube brick) epoch xs g
job-brick o es cube brick (Purge epoch) xs f g = purged-rows (IsPlacedRow o es cube brick) every_epoch epoch xs g
job-brick o es cube brick (CopyRound from to) xs f g = g
job-brick o es cube brick Flush xs f g = g

moved-brick : (here : Bool) (o : Opening) (es : List CoreEvent) (cube brick : ℕ) (move : WorkerMove) (xs : List BrickEntry)
    → ((job : CoreJob) → move ≡ Work job Done → JobRows o es job) → BrickRows o es cube brick xs
    → BrickRows o es cube brick (brick_after_move o here cube brick move xs)
moved-brick true o es cube brick (Work job Done) xs jobs g = job-brick o es cube brick job xs (jobs job refl) g
moved-brick true o es cube brick (Work job (ShardFull rows)) xs jobs g = g
moved-brick true o es cube brick (Work job (Found rows)) xs jobs g = g
moved-brick true o es cube brick (Work job (Compared came went)) xs jobs g = g
moved-brick true o es cube brick (Work job (Copied view)) xs jobs g = g
moved-brick true o es cube brick (Work job StoreLost) xs jobs g = g
moved-brick true o es cube brick (Work job OutOfMemory) xs jobs g = g
moved-brick true o es cube brick (Take client job) xs jobs g = g
moved-brick true o es cube brick (NoJob closed) xs jobs g = g
moved-brick true o es cube brick (Reply client answer) xs jobs g = g
moved-brick false o es cube brick move xs jobs g = g

run-brick : (o : Opening) (es : List CoreEvent) (cube brick : ℕ) → IsCoreRun o es → AllByRecursion (IsCubeRow o [] cube) (o.rows cube)
    → BrickRows o es cube brick (shard_view_of o es cube brick)
run-brick o [] cube brick run kept = placed-rows o [] cube brick (o.rows cube) kept
run-brick o (By a call ∷ es) cube brick run kept =
    rows-later o es cube brick (By a call) (rows_appended (shard_view_of o es cube brick)) (run-brick o es cube brick run.0 kept)
run-brick o (At mail move ∷ es) cube brick run kept =
    let here = mail == brick % o.shards in
    let xs = shard_view_of o es cube brick in
    rows-later o es cube brick (At mail move) (rows_appended (brick_after_move o here cube brick move xs))
    (moved-brick here o es cube brick move xs (done move run.1.fits) (run-brick o es cube brick run.0 kept))
  where
    done : (m : WorkerMove) → FitsMove o es mail m → (job : CoreJob) → m ≡ Work job Done → JobRows o es job
    done m fits job is =
        let made = coe 0 1 (i. FitsMove o es mail (is i)) fits in
        made-rows o es (round_progress o es) (client_state o (flusher o) es).store_lost (worker_of mail es) job Done made (run-mails o es mail run.0).worker

pub shard-rows : (o : Opening) (es : List CoreEvent) (cube brick : ℕ) → IsCoreRun o es → KeptAreCubeRows o
    → All (IsPlacedRow o es cube brick) (rows_appended (shard_view_of o es cube brick))
shard-rows o es cube brick run kept =
    All-from_recursion (IsPlacedRow o es cube brick) (rows_appended (shard_view_of o es cube brick))
    (run-brick o es cube brick run (recursion_from_All (IsCubeRow o [] cube) (o.rows cube) (kept cube)))
