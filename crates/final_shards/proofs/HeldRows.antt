-- What a brick holds at the end: the rows that committed transactions leave, and no others where nothing is above LSE.
use Rattle.std.proofs.Common.{◌≡◌, ◌∙◌, ℕ, zero, suc, ◌+◌, ◌%◌, ◌≤◌, ◌==◌, Bool, true, false, ◌&&◌, nat_le, List, [], ◌∷◌, if◌then◌else◌, refl, sym, ap, arith}
use Rattle.std.specs.List.{count_by}
use Rattle.std.specs.List.Sorted.{IsPermutation}
use Rattle.std.proofs.lemmas.Bool.{false≢true}
use Rattle.cube_values.specs.Sees.{sees}
use Rattle.cube_journal.specs.Counters.{JournalState}
use Rattle.core_events.specs.ShardView.{BrickEntry, RowRun, RowMark, EpochSet, entries_without_epoch, entries_after_purge, epochs_above, every_epoch, rows_appended}
use Rattle.core_events.specs.Jobs.{CoreJob, Append, DropBox, Scan, Delta, Rollback, Purge, CopyRound, Flush, JobOutcome, Done, ShardFull, Found, Compared, Copied, StoreLost, OutOfMemory}
use Rattle.core_events.specs.Events.{Opening, WorkerMove, Take, NoJob, Work, Reply, CoreEvent, By, At}
use Rattle.core_events.specs.Clients.{reader_up_to}
use Rattle.core_events.specs.Cells.{counters_of_run, shard_view_of, rows_of_brick, box_has_brick, brick_after_job, brick_after_move}
use Rattle.core_events.specs.Runs.{IsCoreRun}
use Rattle.core_events.proofs.CopyRows.{sees-low, sees-not}
use Rattle.core_events.proofs.DeskSteps.{client_entry, run-step}
use Rattle.core_events.proofs.Finished.{run-finished}
use Rattle.core_serial.specs.Copies.{rows_committed_up_to}
use Rattle.core_serial.proofs.CountedRows.{IsSettled}
use Rattle.core_serial.proofs.CubeSerial.{seen-serial}
use Rattle.core_serial.proofs.Isolation.{asked-fits, made-asked}
use Rattle.core_serial.proofs.Permutations.{permuted-by-counts}
use Rattle.core_serial.proofs.ToldBricks.{above-lse, run-keeps, writer-of}
use Rattle.core_settled.proofs.Settled.{ec-rises}
use Rattle.final_shards.specs.PurgedBricks.{HasNoMark, rows_held_up_to}
use Rattle.final_shards.specs.FinalShards.{AllIsSafe, HasPurgedToLse, lse_of}
use Rattle.final_shards.proofs.LeftEntries.{AreUpTo, all-held, held-is-seen, no-mark-at-all}
use Rattle.final_shards.proofs.PurgedShards.{has-purged}

-- ---- a reader at LSE

lse-settled : (o : Opening) (es : List CoreEvent) → IsCoreRun o es → IsSettled o es (reader_up_to (lse_of o es))
lse-settled o es run = record {
  blind = λ e seen pending.
      absurd (false≢true (sym (sees-not (lse_of o es) e (above-lse o es e run pending)) ∙ seen));
  stays = λ brick e own. absurd (false≢true own);
  done = λ cube brick e own. absurd (false≢true own);
}

pub held-permuted : (o : Opening) (es : List CoreEvent) (client cube brick : ℕ) → IsCoreRun o es
    → HasPurgedToLse o es client
    → IsPermutation (rows_held_up_to (lse_of o es) (shard_view_of o es cube brick))
    (rows_of_brick o cube brick (rows_committed_up_to o es cube (lse_of o es)))
held-permuted o es client cube brick run h =
    let low = lse_of o es in
    let view = shard_view_of o es cube brick in
    permuted-by-counts (rows_held_up_to low view) (rows_of_brick o cube brick (rows_committed_up_to o es cube low))
    (λ test.
    ap (count_by test) (sym (held-is-seen low view (has-purged o es client low cube brick run h)))
    ∙ seen-serial o es cube brick (reader_up_to low) test run (lse-settled o es run) (λ e own. absurd (false≢true own))
    ((run-keeps o es cube brick run).shows (sees (reader_up_to low)) (sees (reader_up_to low))
    (λ e le. sees-low low e le)))

-- ---- no entry is of an epoch to come

up-to-more : (most more : ℕ) (xs : List BrickEntry) → most ≤ more → AreUpTo most xs → AreUpTo more xs
up-to-more most more [] le low = tt
up-to-more most more (RowRun j rows ∷ xs) le low =
    let first = low.0 in (omega (arith, le, first), up-to-more most more xs le low.1)
up-to-more most more (RowMark d ∷ xs) le low =
    let first = low.0 in (omega (arith, le, first), up-to-more most more xs le low.1)

up-to-rolled : (most epoch : ℕ) (xs : List BrickEntry) → AreUpTo most xs
    → AreUpTo most (entries_without_epoch epoch xs)
up-to-rolled most epoch [] low = tt
up-to-rolled most epoch (RowRun j rows ∷ xs) low = at (j == epoch) (up-to-rolled most epoch xs low.1)
  where
    at : (here : Bool) → AreUpTo most (entries_without_epoch epoch xs)
        → AreUpTo most
        (if here then entries_without_epoch epoch xs else RowRun j rows ∷ entries_without_epoch epoch xs)
    at true rest = rest
    at false rest = (low.0, rest)
up-to-rolled most epoch (RowMark d ∷ xs) low = at (d == epoch) (up-to-rolled most epoch xs low.1)
  where
    at : (here : Bool) → AreUpTo most (entries_without_epoch epoch xs)
        → AreUpTo most
        (if here then entries_without_epoch epoch xs else RowMark d ∷ entries_without_epoch epoch xs)
    at true rest = rest
    at false rest = (low.0, rest)

purged-mark : (up : Bool) (most at d : ℕ) (left : EpochSet) (xs : List BrickEntry) → d ≤ most
    → ((set : EpochSet) → AreUpTo most (entries_after_purge set at xs))
    → AreUpTo most
    (if up then entries_after_purge (epochs_above d left) at xs else RowMark d ∷ entries_after_purge left at xs)
purged-mark true most at d left xs low rest = rest (epochs_above d left)
purged-mark false most at d left xs low rest = (low, rest left)

up-to-purged : (most at : ℕ) (left : EpochSet) (xs : List BrickEntry) → AreUpTo most xs
    → AreUpTo most (entries_after_purge left at xs)
up-to-purged most at left [] low = tt
up-to-purged most at left (RowRun j rows ∷ xs) low = (low.0, up-to-purged most at left xs low.1)
up-to-purged most at left (RowMark d ∷ xs) low =
    purged-mark (nat_le d at) most at d left xs low.0 (λ set. up-to-purged most at set xs low.1)

-- A job writes at an epoch that is given out.
abbrev WritesUpTo : ℕ → CoreJob → Type 0
WritesUpTo most (Append cube epoch rows) = epoch ≤ most
WritesUpTo most (DropBox cube epoch box) = epoch ≤ most
WritesUpTo most job = Unit {0}

-- The last epoch that is given out.
abbrev last_given : Opening → List CoreEvent → ℕ → Type 0
last_given o es most = (counters_of_run o es).ec ≡ most + 1

writes-given : (o : Opening) (es : List CoreEvent) (mail most : ℕ) (job : CoreJob) (answer : JobOutcome)
    → IsCoreRun o (At mail (Work job answer) ∷ es) → last_given o es most → WritesUpTo most job
writes-given o es mail most (Append cube epoch rows) answer run last =
    let asked = made-asked o es mail (Append cube epoch rows) answer run in
    let fits = asked-fits o es mail asked.0 (Append cube epoch rows) run.0 asked.1 in
    let below = (run-finished o es run.0).below epoch (writer-of o es asked.0 epoch run.0 fits.0 fits.1).pending in
    omega (arith, last, below)
writes-given o es mail most (DropBox cube epoch box) answer run last =
    let asked = made-asked o es mail (DropBox cube epoch box) answer run in
    let fits = asked-fits o es mail asked.0 (DropBox cube epoch box) run.0 asked.1 in
    let below = (run-finished o es run.0).below epoch (writer-of o es asked.0 epoch run.0 fits.0 fits.1).pending in
    omega (arith, last, below)
writes-given o es mail most (Scan query snapshot) answer run last = tt
writes-given o es mail most (Delta query from to) answer run last = tt
writes-given o es mail most (Rollback epoch) answer run last = tt
writes-given o es mail most (Purge epoch) answer run last = tt
writes-given o es mail most (CopyRound from to) answer run last = tt
writes-given o es mail most Flush answer run last = tt

job-up-to : (o : Opening) (cube brick most : ℕ) (job : CoreJob) (xs : List BrickEntry) → WritesUpTo most job
    → AreUpTo most xs → AreUpTo most (brick_after_job o cube brick job xs)
job-up-to o cube brick most (Append other epoch rows) xs writes low = at (other == cube)
  where
    at : (here : Bool)
        → AreUpTo most (if here then RowRun epoch (rows_of_brick o cube brick rows) ∷ xs else xs)
    at true = (writes, low)
    at false = low
job-up-to o cube brick most (DropBox other epoch box) xs writes low =
    at (other == cube && box_has_brick o cube box brick)
  where
    at : (here : Bool) → AreUpTo most (if here then RowMark epoch ∷ xs else xs)
    at true = (writes, low)
    at false = low
job-up-to o cube brick most (Rollback epoch) xs writes low = up-to-rolled most epoch xs low
job-up-to o cube brick most (Purge epoch) xs writes low = up-to-purged most epoch every_epoch xs low
job-up-to o cube brick most (Scan query snapshot) xs writes low = low
job-up-to o cube brick most (Delta query from to) xs writes low = low
job-up-to o cube brick most (CopyRound from to) xs writes low = low
job-up-to o cube brick most Flush xs writes low = low

work-up-to : (o : Opening) (here : Bool) (cube brick most : ℕ) (job : CoreJob) (answer : JobOutcome)
    (xs : List BrickEntry) → WritesUpTo most job → AreUpTo most xs
    → AreUpTo most (brick_after_move o here cube brick (Work job answer) xs)
work-up-to o true cube brick most job Done xs writes low = job-up-to o cube brick most job xs writes low
work-up-to o true cube brick most job (ShardFull rows) xs writes low = low
work-up-to o true cube brick most job (Found rows) xs writes low = low
work-up-to o true cube brick most job (Compared came went) xs writes low = low
work-up-to o true cube brick most job (Copied view) xs writes low = low
work-up-to o true cube brick most job StoreLost xs writes low = low
work-up-to o true cube brick most job OutOfMemory xs writes low = low
work-up-to o false cube brick most job answer xs writes low = low

move-up-to : (o : Opening) (here : Bool) (cube brick most : ℕ) (move : WorkerMove) (xs : List BrickEntry)
    → ((job : CoreJob) (answer : JobOutcome) → move ≡ Work job answer → WritesUpTo most job) → AreUpTo most xs
    → AreUpTo most (brick_after_move o here cube brick move xs)
move-up-to o here cube brick most (Work job answer) xs writes low =
    work-up-to o here cube brick most job answer xs (writes job answer refl) low
move-up-to o true cube brick most (Take client job) xs writes low = low
move-up-to o true cube brick most (NoJob closed) xs writes low = low
move-up-to o true cube brick most (Reply client answer) xs writes low = low
move-up-to o false cube brick most (Take client job) xs writes low = low
move-up-to o false cube brick most (NoJob closed) xs writes low = low
move-up-to o false cube brick most (Reply client answer) xs writes low = low

given-one : (o : Opening) (es : List CoreEvent) → IsCoreRun o es → (most : ℕ) × last_given o es most
given-one o [] run = (o.safe, refl)
given-one o (By b call ∷ es) run =
    let before = given-one o es run.0 in
    let last = before.1 in
    let rises = ec-rises (counters_of_run o es) (client_entry b call) in
    let step = ap (λ (s : JournalState). s.ec) (run-step o b call es) in
    above ((counters_of_run o (By b call ∷ es)).ec) (omega (arith, last, rises, step))
  where
    above : (ec : ℕ) → 1 ≤ ec → (most : ℕ) × (ec ≡ most + 1)
    above zero some = absurd (omega (arith, some))
    above (suc n) some = (n, omega arith)
given-one o (At mail move ∷ es) run = given-one o es run.0

pub view-up-to : (o : Opening) (es : List CoreEvent) (cube brick most : ℕ) → IsCoreRun o es → last_given o es most
    → AreUpTo most (shard_view_of o es cube brick)
view-up-to o [] cube brick most run last = (omega (arith, last), tt)
view-up-to o (By b call ∷ es) cube brick most run last =
    let before = given-one o es run.0 in
    let earlier = before.1 in
    let rises = ec-rises (counters_of_run o es) (client_entry b call) in
    let step = ap (λ (s : JournalState). s.ec) (run-step o b call es) in
    up-to-more before.0 most (shard_view_of o es cube brick) (omega (arith, last, earlier, rises, step))
    (view-up-to o es cube brick before.0 run.0 earlier)
view-up-to o (At mail move ∷ es) cube brick most run last =
    move-up-to o (mail == brick % o.shards) cube brick most move (shard_view_of o es cube brick)
    (λ job answer is.
    writes-given o es mail most job answer (coe 0 1 (i. IsCoreRun o (At mail (is i) ∷ es)) run) last)
    (view-up-to o es cube brick most run.0 last)

pub no-mark : (o : Opening) (es : List CoreEvent) (client cube brick : ℕ) → IsCoreRun o es
    → HasPurgedToLse o es client → AllIsSafe o es → HasNoMark (shard_view_of o es cube brick)
no-mark o es client cube brick run h safe =
    no-mark-at-all (lse_of o es) (shard_view_of o es cube brick)
    (view-up-to o es cube brick (lse_of o es) run safe) (has-purged o es client (lse_of o es) cube brick run h)

pub no-other-row : (o : Opening) (es : List CoreEvent) (cube brick : ℕ) → IsCoreRun o es → AllIsSafe o es
    → rows_appended (shard_view_of o es cube brick) ≡ rows_held_up_to (lse_of o es) (shard_view_of o es cube brick)
no-other-row o es cube brick run safe =
    all-held (lse_of o es) (shard_view_of o es cube brick) (view-up-to o es cube brick (lse_of o es) run safe)
