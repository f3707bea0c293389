-- In every run, the operations of a transaction that goes on well or is committed make of the rows of its cube, brick by
-- brick, what was posted to the brick's shard makes of the rows of the brick.
use Rattle.std.proofs.Common.{◌≡◌, ◌⊎◌, ◌∙◌, ℕ, ◌%◌, ◌≤◌, ◌==◌, Bool, true, false, true≢false, not, ◌&&◌, ◌||◌, List, [], ◌∷◌, ◌++◌, Option, Some, None, IsSomeAnd, inl, inr, refl, sym, ap, arith, eqb-true, eq-eqb, ne_eqb, le-leb, mod-lt, if◌then◌else◌}
use Rattle.std.specs.List.{AllByRecursion}
use Rattle.std.proofs.lemmas.Bool.{false≢true, eqb-false}
use Rattle.std.proofs.lemmas.List.Elements.{recursion_from_All}
use Rattle.cube_values.specs.declared.row.CodedRow.{CodedRow}
use Rattle.cube_values.specs.declared.snapshot.Snapshot.{Snapshot}
use Rattle.cube_values.specs.declared.span.Span.{Span}
use Rattle.brick_address.specs.Addresses.{brick_of, AreCoords}
use Rattle.core_events.specs.ShardView.{BrickEntry, RowRun, RowMark}
use Rattle.core_events.specs.Jobs.{CoreJob, Append, DropBox, Scan, Delta, Rollback, Purge, CopyRound, Flush, JobOutcome, is_refusal}
use Rattle.core_events.specs.Events.{Opening, IsSession, DeskEvent, OpenWrite, OpenRead, Commit, AbortEnd, CloseRead, TakeNote, CreateCube, FindCube, CubesFrom, CountersNow, RoundOpen, RoundClose, StoreFailed, ClientCall, OnDesk, OnNames, Post, Fetch, CloseMail, NoChange, CoreEvent, By, At}
use Rattle.core_events.specs.Groups.{GroupKind, Puts, Drops, Asks, Compares, RollsBack, Purges, Copies, Flushes, kind_of, JobGroup, no_group, has_number, numbers_without, is_empty, has_all_below, mails_of, has_refusal, is_complete, has_ended, is_ready, is_spoiled}
use Rattle.core_events.specs.Clients.{ClientState, client_state, client_after_call, held_under, ends_group}
use Rattle.core_events.specs.Cells.{counters_of_run, sizes_of_cube, rows_of_brick}
use Rattle.core_events.specs.Fitting.{FitsCall, OwnsWriter, MayPutRow, CutsNoBrick, BeginsGroup, JoinsGroup}
use Rattle.core_events.specs.Runs.{IsCoreRun}
use Rattle.core_events.specs.Serial.{CubeOperation, PutRows, DropRows, operations_with, operations_of, commits, has_committed}
use Rattle.core_events.proofs.Agreement.{opening-of}
use Rattle.core_events.proofs.Finished.{run-finished, or-is, has-without}
use Rattle.core_events.proofs.InOrder.{run-allowed}
use Rattle.core_serial.proofs.FoundRows.{all-below}
use Rattle.core_serial.proofs.Isolation.{job-fits, holds-stay, shown-within}
use Rattle.core_serial.proofs.ToldBricks.{writer-of, own-back, own-rolls, is_rolling}
use Rattle.core_events.specs.BrickTransactions.{entries_of_epoch}
use Rattle.core_serial.specs.PostedEntries.{entries_of_job, posted_after_post, posted_after, posted_of}
use Rattle.core_serial.proofs.Fates.{HasFate, fates-call, fates-move, commit-of}
use Rattle.core_serial.proofs.PostedJobs.{epoch-append, IsOtherEpoch, IsClean, ready-clean, post-clean, spoiled-less, none-fresh, fate-below, other-epoch}
use Rattle.core_serial.proofs.PostedRuns.{run-posted-fates, other-post, low-or-high}
use Rattle.core_serial.proofs.CountedRows.{call-same, ended-epoch}
use Rattle.core_serial.proofs.CubeOperations.{AreOfCube, FitCube, RunAlike, put-here, put-runs-here, put-runs-elsewhere, drop-runs}

-- Which rows and boxes are posted.

-- The epoch of a job that writes is this one.
abbrev WritesEpoch : ℕ → CoreJob → Type 0
WritesEpoch e (Append cube epoch rows) = epoch ≡ e
WritesEpoch e (DropBox cube epoch box) = epoch ≡ e
WritesEpoch e job = Unit {0}

-- What is posted to a mail is of its cube, and of the mail's shard.
abbrev JobOfCube : Opening → ℕ → CoreJob → Type 0
JobOfCube o mail (Append cube epoch rows) =
    AreOfCube o cube rows × AllByRecursion (λ row. brick_of (sizes_of_cube o cube) row.coords % o.shards ≡ mail) rows
JobOfCube o mail (DropBox cube epoch box) = CutsNoBrick o cube box
JobOfCube o mail job = Unit {0}

all-as : {X : Type 0} (P Q : X → Type 0) (xs : List X) → ((x : X) → P x → Q x) → AllByRecursion P xs → AllByRecursion Q xs
all-as P Q [] f h = tt
all-as P Q (x ∷ xs) f h = (f x h.0, all-as P Q xs f h.1)

job-of-cube : (o : Opening) (a mail : ℕ) (job : CoreJob) (k : ClientState) → FitsCall o a (Post mail job) k → JobOfCube o mail job
job-of-cube o a mail (Append cube epoch rows) k f =
    let all = recursion_from_All (MayPutRow o cube mail k) rows f.bears.of_cube in (
      all-as (MayPutRow o cube mail k) (λ row. AreCoords (sizes_of_cube o cube) row.coords) rows (λ row h. h.coords) all,
      all-as (MayPutRow o cube mail k) (λ row. brick_of (sizes_of_cube o cube) row.coords % o.shards ≡ mail) rows (λ row h. h.of_shard) all,
    )
job-of-cube o a mail (DropBox cube epoch box) k f = f.bears.aligned
job-of-cube o a mail (Scan query snapshot) k f = tt
job-of-cube o a mail (Delta query from to) k f = tt
job-of-cube o a mail (Rollback epoch) k f = tt
job-of-cube o a mail (Purge epoch) k f = tt
job-of-cube o a mail (CopyRound from to) k f = tt
job-of-cube o a mail Flush k f = tt

put-fits : (here same : Bool) (o : Opening) (cube : ℕ) (rows : List CodedRow) (operations : List CubeOperation)
    → (here ≡ true → AreOfCube o cube rows) → FitCube o cube operations
    → FitCube o cube (if here && same then PutRows rows ∷ operations else operations)
put-fits true true o cube rows operations f g = (f refl, g)
put-fits true false o cube rows operations f g = g
put-fits false same o cube rows operations f g = g

drop-fits : (begins here same : Bool) (o : Opening) (cube : ℕ) (box : Span) (operations : List CubeOperation)
    → (here ≡ true → CutsNoBrick o cube box) → FitCube o cube operations
    → FitCube o cube (if begins && (here && same) then DropRows box ∷ operations else operations)
drop-fits true true true o cube box operations f g = (f refl, g)
drop-fits true true false o cube box operations f g = g
drop-fits true false same o cube box operations f g = g
drop-fits false here same o cube box operations f g = g

with-fits : (o : Opening) (cube e mail : ℕ) (begins : Bool) (job : CoreJob) (operations : List CubeOperation) → JobOfCube o mail job
    → FitCube o cube operations → FitCube o cube (operations_with cube e begins job operations)
with-fits o cube e mail begins (Append other epoch rows) operations f g =
    put-fits (other == cube) (epoch == e) o cube rows operations
    (λ here. coe 0 1 (i. AreOfCube o (eqb-true other cube here i) rows) f.0) g
with-fits o cube e mail begins (DropBox other epoch box) operations f g =
    drop-fits begins (other == cube) (epoch == e) o cube box operations
    (λ here. coe 0 1 (i. CutsNoBrick o (eqb-true other cube here i) box) f) g
with-fits o cube e mail begins (Scan query snapshot) operations f g = g
with-fits o cube e mail begins (Delta query from to) operations f g = g
with-fits o cube e mail begins (Rollback epoch) operations f g = g
with-fits o cube e mail begins (Purge epoch) operations f g = g
with-fits o cube e mail begins (CopyRound from to) operations f g = g
with-fits o cube e mail begins Flush operations f g = g

kept-fits : (here : Bool) (o : Opening) (cube : ℕ) → AreOfCube o cube (o.rows cube) → FitCube o cube (if here then PutRows (o.rows cube) ∷ [] else [])
kept-fits true o cube f = (f, tt)
kept-fits false o cube f = tt

pub kept-of-cube : (o : Opening) (es : List CoreEvent) (cube : ℕ) → IsCoreRun o es → AreOfCube o cube (o.rows cube)
kept-of-cube o es cube run =
    recursion_from_All (λ row. AreCoords (sizes_of_cube o cube) row.coords) (o.rows cube) ((opening-of o es run).rows cube)

pub run-fit-cube : (o : Opening) (es : List CoreEvent) (cube e : ℕ) → IsCoreRun o es → FitCube o cube (operations_of o cube es e)
run-fit-cube o [] cube e run = kept-fits (e == o.safe) o cube (kept-of-cube o [] cube run)
run-fit-cube o (By b (Post mail job) ∷ es) cube e run =
    with-fits o cube e mail (has_ended o.shards (client_state o b es).group) job (operations_of o cube es e)
    (job-of-cube o b mail job (client_state o b es) run.1.fits) (run-fit-cube o es cube e run.0)
run-fit-cube o (By b (OnDesk call) ∷ es) cube e run = run-fit-cube o es cube e run.0
run-fit-cube o (By b (OnNames call) ∷ es) cube e run = run-fit-cube o es cube e run.0
run-fit-cube o (By b (Fetch mail answer) ∷ es) cube e run = run-fit-cube o es cube e run.0
run-fit-cube o (By b (CloseMail mail) ∷ es) cube e run = run-fit-cube o es cube e run.0
run-fit-cube o (By b NoChange ∷ es) cube e run = run-fit-cube o es cube e run.0
run-fit-cube o (At mail move ∷ es) cube e run = run-fit-cube o es cube e run.0

-- A job of another epoch is no operation of this one.

skip-epoch : {X : Type 0} (here same : Bool) (x y : X) → same ≡ false → (if here && same then x else y) ≡ y
skip-epoch true same x y e = λ i. if e i then x else y
skip-epoch false same x y e = refl

skip-begun : {X : Type 0} (begins here same : Bool) (x y : X) → same ≡ false → (if begins && (here && same) then x else y) ≡ y
skip-begun true here same x y e = skip-epoch here same x y e
skip-begun false here same x y e = refl

pub other-operations : (cube e : ℕ) (begins : Bool) (job : CoreJob) (operations : List CubeOperation) → IsOtherEpoch e job
    → operations_with cube e begins job operations ≡ operations
other-operations cube e begins (Append other epoch rows) operations out =
    skip-epoch (other == cube) (epoch == e) (PutRows rows ∷ operations) operations (ne_eqb epoch e out)
other-operations cube e begins (DropBox other epoch box) operations out =
    skip-begun begins (other == cube) (epoch == e) (DropRows box ∷ operations) operations (ne_eqb epoch e out)
other-operations cube e begins (Scan query snapshot) operations out = refl
other-operations cube e begins (Delta query from to) operations out = refl
other-operations cube e begins (Rollback epoch) operations out = refl
other-operations cube e begins (Purge epoch) operations out = refl
other-operations cube e begins (CopyRound from to) operations out = refl
other-operations cube e begins Flush operations out = refl

-- An epoch without a fate has no operations.

abbrev NoneOrFate : Opening → ℕ → List CoreEvent → ℕ → Type 0
NoneOrFate o cube es e = (operations_of o cube es e ≡ []) ⊎ HasFate o es e

same-or-new : (e epoch : ℕ) → (epoch ≡ e → ⊥) ⊎ (epoch ≡ e)
same-or-new e epoch = at (epoch == e) refl
  where
    at : (b : Bool) → (epoch == e) ≡ b → (epoch ≡ e → ⊥) ⊎ (epoch ≡ e)
    at true is = inr (eqb-true epoch e is)
    at false is = inl (eqb-false epoch e is)

pub job-fate : (o : Opening) (es : List CoreEvent) (b mail e : ℕ) (job : CoreJob) → IsCoreRun o es
    → FitsCall o b (Post mail job) (client_state o b es) → IsOtherEpoch e job ⊎ HasFate o es e
job-fate o es b mail e (Append cube epoch rows) run f = elim (same-or-new e epoch) [
  | inl other ↦ inl other
  | inr same ↦ inr (inr (inr (ap (has_number (counters_of_run o es).pending) (sym same)
      ∙ (writer-of o es b epoch run f.bears.session f.bears.writer).pending)))
]
job-fate o es b mail e (DropBox cube epoch box) run f = elim (same-or-new e epoch) [
  | inl other ↦ inl other
  | inr same ↦ inr (inr (inr (ap (has_number (counters_of_run o es).pending) (sym same)
      ∙ (writer-of o es b epoch run f.bears.session f.bears.writer).pending)))
]
job-fate o es b mail e (Scan query snapshot) run f = inl tt
job-fate o es b mail e (Delta query from to) run f = inl tt
job-fate o es b mail e (Rollback epoch) run f = inl tt
job-fate o es b mail e (Purge epoch) run f = inl tt
job-fate o es b mail e (CopyRound from to) run f = inl tt
job-fate o es b mail e Flush run f = inl tt

pub fate-call : (o : Opening) (b : ℕ) (call : ClientCall) (es : List CoreEvent) (e : ℕ) → HasFate o es e → HasFate o (By b call ∷ es) e
fate-call o b call es e f = (fates-call o b call es (RowMark e ∷ []) (f, tt)).0

call-none : (o : Opening) (cube b : ℕ) (call : ClientCall) (es : List CoreEvent) (e : ℕ)
    → operations_of o cube (By b call ∷ es) e ≡ operations_of o cube es e → NoneOrFate o cube es e → NoneOrFate o cube (By b call ∷ es) e
call-none o cube b call es e same (inl none) = inl (same ∙ none)
call-none o cube b call es e same (inr fate) = inr (fate-call o b call es e fate)

run-none : (o : Opening) (es : List CoreEvent) (cube e : ℕ) → IsCoreRun o es → NoneOrFate o cube es e
run-none o [] cube e run = at (e == o.safe) refl
  where
    at : (b : Bool) → (e == o.safe) ≡ b → ((if b then PutRows (o.rows cube) ∷ [] else []) ≡ []) ⊎ HasFate o [] e
    at true is = inr (inl (le-leb e o.safe (let same = eqb-true e o.safe is in omega (arith, same))))
    at false is = inl refl
run-none o (By b (Post mail job) ∷ es) cube e run = elim (job-fate o es b mail e job run.0 run.1.fits) [
  | inl other ↦
      call-none o cube b (Post mail job) es e
      (other-operations cube e (has_ended o.shards (client_state o b es).group) job (operations_of o cube es e) other) (run-none o es cube e run.0)
  | inr fate ↦ inr (fate-call o b (Post mail job) es e fate)
]
run-none o (By b (OnDesk call) ∷ es) cube e run = call-none o cube b (OnDesk call) es e refl (run-none o es cube e run.0)
run-none o (By b (OnNames call) ∷ es) cube e run = call-none o cube b (OnNames call) es e refl (run-none o es cube e run.0)
run-none o (By b (Fetch mail answer) ∷ es) cube e run = call-none o cube b (Fetch mail answer) es e refl (run-none o es cube e run.0)
run-none o (By b (CloseMail mail) ∷ es) cube e run = call-none o cube b (CloseMail mail) es e refl (run-none o es cube e run.0)
run-none o (By b NoChange ∷ es) cube e run = call-none o cube b NoChange es e refl (run-none o es cube e run.0)
run-none o (At mail move ∷ es) cube e run = elim (run-none o es cube e run.0) [
  | inl none ↦ inl none
  | inr fate ↦ inr (fates-move o mail move es (RowMark e ∷ []) (fate, tt)).0
]

pub none-from-ec : (o : Opening) (es : List CoreEvent) (cube e : ℕ) → IsCoreRun o es → (counters_of_run o es).ec ≤ e → operations_of o cube es e ≡ []
none-from-ec o es cube e run high = elim (run-none o es cube e run) [
  | inl none ↦ none
  | inr fate ↦ absurd (let low = fate-below o es e run fate in omega (arith, low, high))
]

-- What is still to be posted of a box, where its group has no job yet at the mail of the brick.

abbrev has_job : JobGroup → ℕ → Bool
has_job g mail = has_number g.waits mail || has_number (mails_of g.answers) mail

abbrev entries_to_come : Bool → Opening → ℕ → ℕ → ℕ → GroupKind → List BrickEntry
entries_to_come true o cube brick e kind = []
entries_to_come false o cube brick e (Drops other box) = entries_of_epoch e (entries_of_job o cube brick (DropBox other e box))
entries_to_come false o cube brick e kind = []

abbrev to_come : Opening → ℕ → ℕ → ℕ → JobGroup → List BrickEntry
to_come o cube brick e g = entries_to_come (has_job g (brick % o.shards)) o cube brick e g.kind

abbrev OperationsFit : Opening → List CoreEvent → ℕ → ℕ → ℕ → ℕ → Type 0
OperationsFit o es a e cube brick = IsSession o a → OwnsWriter a e (client_state o a es) → IsClean (client_state o a es).group
    → RunAlike o cube brick (operations_of o cube es e)
    (to_come o cube brick e (client_state o a es).group ++ entries_of_epoch e (posted_of o es cube brick))

or-second : (a b : Bool) → b ≡ true → (a || b) ≡ true
or-second true b e = refl
or-second false b e = e

abbrev is_dropping : GroupKind → Bool
is_dropping (Drops cube box) = true
is_dropping kind = false

-- Nothing is to come of a group that drops no box.
none-else : (has : Bool) (o : Opening) (cube brick e : ℕ) (kind : GroupKind) → is_dropping kind ≡ false
    → entries_to_come has o cube brick e kind ≡ []
none-else true o cube brick e kind d = refl
none-else false o cube brick e (Drops other box) d = absurd (true≢false d)
none-else false o cube brick e kind d = refl

-- Nothing is to come of a group that has ended.
ended-none : (kind : GroupKind) (refused : Bool) (o : Opening) (cube brick e : ℕ) (g : JobGroup) → g.kind ≡ kind
    → has_refusal g.answers ≡ refused → has_ended o.shards g ≡ true → is_spoiled g.kind (has_refusal g.answers) ≡ false → 1 ≤ o.shards
    → entries_to_come (has_job g (brick % o.shards)) o cube brick e kind ≡ []
ended-none (Drops other box) true o cube brick e g is r ended clean some =
    absurd (true≢false (sym (λ i. is_spoiled (is i) (r i)) ∙ clean))
ended-none (Drops other box) false o cube brick e g is r ended clean some =
    let complete = right-and (is_empty g.waits) (is_complete o.shards g.kind (has_refusal g.answers) (mails_of g.answers)) ended in
    let all : has_all_below o.shards (mails_of g.answers) ≡ true = sym (λ i. is_complete o.shards (is i) (r i) (mails_of g.answers)) ∙ complete in
    let there = all-below o.shards (brick % o.shards) (mails_of g.answers) all (mod-lt brick (omega (arith, some))) in
    ap (λ (b : Bool). entries_to_come b o cube brick e (Drops other box)) (or-second (has_number g.waits (brick % o.shards)) (has_number (mails_of g.answers) (brick % o.shards)) there)
  where
    right-and : (a b : Bool) → (a && b) ≡ true → b ≡ true
    right-and true b x = x
    right-and false b x = absurd (false≢true x)
ended-none kind refused o cube brick e g is r ended clean some = none-else (has_job g (brick % o.shards)) o cube brick e kind refl

ended-to-come : (o : Opening) (cube brick e : ℕ) (g : JobGroup) → has_ended o.shards g ≡ true → IsClean g → 1 ≤ o.shards
    → to_come o cube brick e g ≡ []
ended-to-come o cube brick e g ended clean some =
    ended-none g.kind (has_refusal g.answers) o cube brick e g refl refl ended clean.unspoiled some

-- A post of the transaction itself.

elsewhere-none : (o : Opening) (cube brick mail : ℕ) (rows : List CodedRow) → (mail == brick % o.shards) ≡ false
    → AllByRecursion (λ row. brick_of (sizes_of_cube o cube) row.coords % o.shards ≡ mail) rows → rows_of_brick o cube brick rows ≡ []
elsewhere-none o cube brick mail [] other f = refl
elsewhere-none o cube brick mail (row ∷ rows) other f =
    ap (λ (b : Bool). if b then row ∷ rows_of_brick o cube brick rows else rows_of_brick o cube brick rows)
    (ne_eqb (brick_of (sizes_of_cube o cube) row.coords) brick
    (λ same. true≢false (sym (eq-eqb mail (brick % o.shards) (sym f.0 ∙ ap (λ (b : ℕ). b % o.shards) same)) ∙ other)))
    ∙ elsewhere-none o cube brick mail rows other f.1

-- Rows that are put here or elsewhere, whatever is to come.
append-runs : (here : Bool) (o : Opening) (cube brick e mail other : ℕ) (rows : List CodedRow) (operations : List CubeOperation)
    (entries : List BrickEntry) → (mail == brick % o.shards) ≡ here
    → AllByRecursion (λ row. brick_of (sizes_of_cube o other) row.coords % o.shards ≡ mail) rows
    → RunAlike o cube brick operations entries
    → RunAlike o cube brick (if other == cube && e == e then PutRows rows ∷ operations else operations)
    (if here then entries_of_epoch e (if other == cube then RowRun e (rows_of_brick o cube brick rows) ∷ [] else []) ++ entries else entries)
append-runs true o cube brick e mail other rows operations entries is f alike =
    put-runs-here (other == cube) o cube brick e rows operations entries alike
append-runs false o cube brick e mail other rows operations entries is f alike =
    put-runs-elsewhere (other == cube) o cube brick e rows operations entries
    (λ same. elsewhere-none o cube brick mail rows is
    (coe 0 1 (i. AllByRecursion (λ row. brick_of (sizes_of_cube o (eqb-true other cube same i)) row.coords % o.shards ≡ mail) rows) f))
    alike

-- What is posted of an epoch, where a job is posted here or elsewhere.
epoch-posted : (here : Bool) (o : Opening) (cube brick e : ℕ) (job : CoreJob) (posted : List BrickEntry)
    → entries_of_epoch e (posted_after_post here (entries_of_job o cube brick job) posted)
    ≡ (if here then entries_of_epoch e (entries_of_job o cube brick job) ++ entries_of_epoch e posted else entries_of_epoch e posted)
epoch-posted true o cube brick e job posted = epoch-append e (entries_of_job o cube brick job) posted
epoch-posted false o cube brick e job posted = refl

here-nothing : (here : Bool) (entries : List BrickEntry) → (if here then [] ++ entries else entries) ≡ entries
here-nothing true entries = refl
here-nothing false entries = refl

-- The job begins a group: what came of the last one is all there.
begin-runs : (here : Bool) (o : Opening) (cube brick e mail : ℕ) (job : CoreJob) (operations : List CubeOperation) (entries : List BrickEntry)
    → (mail == brick % o.shards) ≡ here → WritesEpoch e job → JobOfCube o mail job → FitCube o cube operations
    → RunAlike o cube brick operations entries
    → RunAlike o cube brick (operations_with cube e true job operations)
    (entries_to_come here o cube brick e (kind_of job)
    ++ (if here then entries_of_epoch e (entries_of_job o cube brick job) ++ entries else entries))
begin-runs here o cube brick e mail (Append other epoch rows) operations entries is writes f fit alike =
    coe 1 0 (i. RunAlike o cube brick (operations_with cube e true (Append other (writes i) rows) operations)
    (none-else here o cube brick e Puts refl i
    ++ (if here then entries_of_epoch e (entries_of_job o cube brick (Append other (writes i) rows)) ++ entries else entries)))
    (append-runs here o cube brick e mail other rows operations entries is f.1 alike)
begin-runs true o cube brick e mail (DropBox other epoch box) operations entries is writes f fit alike =
    coe 1 0 (i. RunAlike o cube brick (operations_with cube e true (DropBox other (writes i) box) operations)
    (entries_of_epoch e (entries_of_job o cube brick (DropBox other (writes i) box)) ++ entries))
    (drop-runs (other == cube) o cube brick e box operations entries (λ same. coe 0 1 (i. CutsNoBrick o (eqb-true other cube same i) box) f) fit alike)
begin-runs false o cube brick e mail (DropBox other epoch box) operations entries is writes f fit alike =
    coe 1 0 (i. RunAlike o cube brick (operations_with cube e true (DropBox other (writes i) box) operations)
    (entries_of_epoch e (entries_of_job o cube brick (DropBox other e box)) ++ entries))
    (drop-runs (other == cube) o cube brick e box operations entries (λ same. coe 0 1 (i. CutsNoBrick o (eqb-true other cube same i) box) f) fit alike)
begin-runs here o cube brick e mail (Scan query snapshot) operations entries is writes f fit alike =
    coe 1 0 (i. RunAlike o cube brick operations (none-else here o cube brick e (Asks query snapshot) refl i ++ here-nothing here entries i)) alike
begin-runs here o cube brick e mail (Delta query from to) operations entries is writes f fit alike =
    coe 1 0 (i. RunAlike o cube brick operations (none-else here o cube brick e (Compares query from to) refl i ++ here-nothing here entries i)) alike
begin-runs here o cube brick e mail (Rollback epoch) operations entries is writes f fit alike =
    coe 1 0 (i. RunAlike o cube brick operations (none-else here o cube brick e RollsBack refl i ++ here-nothing here entries i)) alike
begin-runs here o cube brick e mail (Purge epoch) operations entries is writes f fit alike =
    coe 1 0 (i. RunAlike o cube brick operations (none-else here o cube brick e (Purges epoch) refl i ++ here-nothing here entries i)) alike
begin-runs here o cube brick e mail (CopyRound from to) operations entries is writes f fit alike =
    coe 1 0 (i. RunAlike o cube brick operations (none-else here o cube brick e (Copies from to) refl i ++ here-nothing here entries i)) alike
begin-runs here o cube brick e mail Flush operations entries is writes f fit alike =
    coe 1 0 (i. RunAlike o cube brick operations (none-else here o cube brick e Flushes refl i ++ here-nothing here entries i)) alike

same-runs : (here had : Bool) (o : Opening) (cube brick e : ℕ) (kind : GroupKind) (operations : List CubeOperation) (entries : List BrickEntry)
    → is_dropping kind ≡ false → RunAlike o cube brick operations (entries_to_come had o cube brick e kind ++ entries)
    → RunAlike o cube brick operations (entries_to_come (here || had) o cube brick e kind ++ (if here then [] ++ entries else entries))
same-runs here had o cube brick e kind operations entries d alike =
    coe 1 0 (i. RunAlike o cube brick operations (none-else (here || had) o cube brick e kind d i ++ here-nothing here entries i))
    (coe 0 1 (i. RunAlike o cube brick operations (none-else had o cube brick e kind d i ++ entries)) alike)

-- The job joins a group of its kind, and the mail had none of it.
join-runs : (here had : Bool) (o : Opening) (cube brick e mail : ℕ) (job : CoreJob) (operations : List CubeOperation) (entries : List BrickEntry)
    → (mail == brick % o.shards) ≡ here → (here ≡ true → had ≡ false) → WritesEpoch e job → JobOfCube o mail job
    → RunAlike o cube brick operations (entries_to_come had o cube brick e (kind_of job) ++ entries)
    → RunAlike o cube brick (operations_with cube e false job operations)
    (entries_to_come (here || had) o cube brick e (kind_of job)
    ++ (if here then entries_of_epoch e (entries_of_job o cube brick job) ++ entries else entries))
join-runs here had o cube brick e mail (Append other epoch rows) operations entries is free writes f alike =
    coe 1 0 (i. RunAlike o cube brick (operations_with cube e false (Append other (writes i) rows) operations)
    (none-else (here || had) o cube brick e Puts refl i
    ++ (if here then entries_of_epoch e (entries_of_job o cube brick (Append other (writes i) rows)) ++ entries else entries)))
    (append-runs here o cube brick e mail other rows operations entries is f.1
    (coe 0 1 (i. RunAlike o cube brick operations (none-else had o cube brick e Puts refl i ++ entries)) alike))
join-runs true true o cube brick e mail (DropBox other epoch box) operations entries is free writes f alike = absurd (true≢false (free refl))
join-runs true false o cube brick e mail (DropBox other epoch box) operations entries is free writes f alike =
    coe 1 0 (i. RunAlike o cube brick operations (entries_of_epoch e (entries_of_job o cube brick (DropBox other (writes i) box)) ++ entries)) alike
join-runs false had o cube brick e mail (DropBox other epoch box) operations entries is free writes f alike = alike
join-runs here had o cube brick e mail (Scan query snapshot) operations entries is free writes f alike =
    same-runs here had o cube brick e (Asks query snapshot) operations entries refl alike
join-runs here had o cube brick e mail (Delta query from to) operations entries is free writes f alike =
    same-runs here had o cube brick e (Compares query from to) operations entries refl alike
join-runs here had o cube brick e mail (Rollback epoch) operations entries is free writes f alike =
    same-runs here had o cube brick e RollsBack operations entries refl alike
join-runs here had o cube brick e mail (Purge epoch) operations entries is free writes f alike =
    same-runs here had o cube brick e (Purges epoch) operations entries refl alike
join-runs here had o cube brick e mail (CopyRound from to) operations entries is free writes f alike =
    same-runs here had o cube brick e (Copies from to) operations entries refl alike
join-runs here had o cube brick e mail Flush operations entries is free writes f alike =
    same-runs here had o cube brick e Flushes operations entries refl alike

-- The one writer of a session.
owns-one : (held : Option Snapshot) (e f : ℕ) → IsSomeAnd held (λ s. (s.own ≡ true) × (s.epoch ≡ e)) → IsSomeAnd held (λ s. (s.own ≡ true) × (s.epoch ≡ f))
    → e ≡ f
owns-one None e f a b = absurd a
owns-one (Some s) e f a b = sym a.1 ∙ b.1

writes-own : (o : Opening) (a e mail : ℕ) (job : CoreJob) (k : ClientState) → FitsCall o a (Post mail job) k → OwnsWriter a e k → WritesEpoch e job
writes-own o a e mail (Append cube epoch rows) k f owns = owns-one (held_under a k.holds) epoch e f.bears.writer owns
writes-own o a e mail (DropBox cube epoch box) k f owns = owns-one (held_under a k.holds) epoch e f.bears.writer owns
writes-own o a e mail (Scan query snapshot) k f owns = tt
writes-own o a e mail (Delta query from to) k f owns = tt
writes-own o a e mail (Rollback epoch) k f owns = tt
writes-own o a e mail (Purge epoch) k f owns = tt
writes-own o a e mail (CopyRound from to) k f owns = tt
writes-own o a e mail Flush k f owns = tt

or-none : (b : Bool) → ((b || false) || false) ≡ b
or-none true = refl
or-none false = refl

or-shift : (a b c : Bool) → (a || (b || c)) ≡ ((a || b) || c)
or-shift true b c = refl
or-shift false b c = refl

none-of-two : (a b : Bool) → a ≡ false → b ≡ false → (a || b) ≡ false
none-of-two a b p q = λ i. p i || q i

post-fit : (ended : Bool) (o : Opening) (es : List CoreEvent) (a e cube brick mail : ℕ) (job : CoreJob) → IsCoreRun o (By a (Post mail job) ∷ es)
    → has_ended o.shards (client_state o a es).group ≡ ended → OwnsWriter a e (client_state o a es) → IsClean (client_state o a es).group
    → RunAlike o cube brick (operations_of o cube es e)
    (to_come o cube brick e (client_state o a es).group ++ entries_of_epoch e (posted_of o es cube brick))
    → RunAlike o cube brick (operations_with cube e ended job (operations_of o cube es e))
    (to_come o cube brick e (if ended then record { kind = kind_of job; waits = mail ∷ []; answers = [] }
    else record (client_state o a es).group { waits = mail ∷ (client_state o a es).group.waits })
    ++ entries_of_epoch e (posted_after_post (mail == brick % o.shards) (entries_of_job o cube brick job) (posted_of o es cube brick)))
post-fit true o es a e cube brick mail job run is owns clean alike =
    let k = client_state o a es in
    let here = mail == brick % o.shards in
    let posted = posted_of o es cube brick in
    let none = ended-to-come o cube brick e k.group is clean (opening-of o es run.0).some in
    coe 1 0 (i. RunAlike o cube brick (operations_with cube e true job (operations_of o cube es e))
    (entries_to_come (or-none here i) o cube brick e (kind_of job) ++ epoch-posted here o cube brick e job posted i))
    (begin-runs here o cube brick e mail job (operations_of o cube es e) (entries_of_epoch e posted) refl
    (writes-own o a e mail job k run.1.fits owns) (job-of-cube o a mail job k run.1.fits) (run-fit-cube o es cube e run.0)
    (coe 0 1 (i. RunAlike o cube brick (operations_of o cube es e) (none i ++ entries_of_epoch e posted)) alike))
post-fit false o es a e cube brick mail job run is owns clean alike = joined run.1.fits.group
  where
    k : ClientState
    k = client_state o a es

    here : Bool
    here = mail == brick % o.shards

    had : Bool
    had = has_job k.group (brick % o.shards)

    posted : List BrickEntry
    posted = posted_of o es cube brick

    joined : BeginsGroup o.shards job k.group ⊎ JoinsGroup o.shards mail job k.group
        → RunAlike o cube brick (operations_with cube e false job (operations_of o cube es e))
        (to_come o cube brick e (record k.group { waits = mail ∷ k.group.waits })
        ++ entries_of_epoch e (posted_after_post here (entries_of_job o cube brick job) posted))
    joined (inl begins) = absurd (true≢false (sym begins.ended ∙ is))
    joined (inr joins) =
        let free : here ≡ true → had ≡ false = (λ at.
        let same = eqb-true mail (brick % o.shards) at in
        none-of-two (has_number k.group.waits (brick % o.shards)) (has_number (mails_of k.group.answers) (brick % o.shards))
        (ap (has_number k.group.waits) (sym same) ∙ joins.not_out) (ap (has_number (mails_of k.group.answers)) (sym same) ∙ joins.not_done))
        in
        coe 1 0 (i. RunAlike o cube brick (operations_with cube e false job (operations_of o cube es e))
        (entries_to_come (sym (or-shift here (has_number k.group.waits (brick % o.shards)) (has_number (mails_of k.group.answers) (brick % o.shards))) i)
        o cube brick e (sym joins.kind i)
        ++ epoch-posted here o cube brick e job posted i))
        (join-runs here had o cube brick e mail job (operations_of o cube es e) (entries_of_epoch e posted) refl free
        (writes-own o a e mail job k run.1.fits owns) (job-of-cube o a mail job k run.1.fits)
        (coe 1 0 (i. RunAlike o cube brick (operations_of o cube es e)
        (entries_to_come had o cube brick e (joins.kind i) ++ entries_of_epoch e posted)) alike))

-- A fetch of its own.
fetch-has : (here waits answered : Bool) → (here ≡ true → waits ≡ true) → ((waits && not here) || (here || answered)) ≡ (waits || answered)
fetch-has true true answered f = refl
fetch-has true false answered f = absurd (false≢true (f refl))
fetch-has false true answered f = refl
fetch-has false false answered f = refl

swap-test : (a b : ℕ) → (a == b) ≡ (b == a)
swap-test a b = at (a == b) refl
  where
    at : (c : Bool) → (a == b) ≡ c → (a == b) ≡ (b == a)
    at true is = is ∙ sym (eq-eqb b a (sym (eqb-true a b is)))
    at false is = is ∙ sym (ne_eqb b a (λ e. eqb-false a b is (sym e)))

fetch-job : (other mail : ℕ) (answer : JobOutcome) (g : JobGroup) → has_number g.waits other ≡ true
    → has_job (record {
      kind = g.kind;
      waits = numbers_without other g.waits;
      answers = record { mail = other; answer = answer } ∷ g.answers;
    }) mail
    ≡ has_job g mail
fetch-job other mail answer g waits =
    (λ i. has-without g.waits other mail i || ((other == mail) || has_number (mails_of g.answers) mail))
    ∙ (λ i. (has_number g.waits mail && not (swap-test other mail i)) || ((other == mail) || has_number (mails_of g.answers) mail))
    ∙ (λ i. (has_number g.waits mail && not (swap-test mail other i)) || ((other == mail) || has_number (mails_of g.answers) mail))
    ∙ fetch-has (other == mail) (has_number g.waits mail) (has_number (mails_of g.answers) mail)
    (λ here. ap (has_number g.waits) (sym (eqb-true other mail here)) ∙ waits)

-- A call that ends a group, and leaves the writer.
ends-ready : (o : Opening) (a e : ℕ) (call : DeskEvent) (k : ClientState) → IsSession o a → FitsCall o a (OnDesk call) k
    → ends_group (OnDesk call) ≡ true → OwnsWriter a e (client_after_call o true a (OnDesk call) k) → is_ready o.shards k.group ≡ true
ends-ready o a e (OpenWrite statement epoch deps) k session f ends owns = f.ready
ends-ready o a e (OpenRead number statement epoch) k session f ends owns = f.ready
ends-ready o a e (Commit statement epoch) k session f ends owns = f.ready
ends-ready o a e (AbortEnd statement epoch cause) k session f ends owns =
    absurd (false≢true (ap is_rolling (own-rolls o a e (OnDesk (AbortEnd statement epoch cause)) k session f f.rolls owns)))
ends-ready o a e (CloseRead number statement) k session f ends owns = f.ready
ends-ready o a e (TakeNote note counters) k session f ends owns = f.ready
ends-ready o a e (CreateCube statement decl answer) k session f ends owns = f.0.ready
ends-ready o a e (FindCube statement name answer) k session f ends owns = f.1
ends-ready o a e (CubesFrom place cubes) k session f ends owns = absurd (false≢true ends)
ends-ready o a e (CountersNow counters) k session f ends owns = absurd (false≢true ends)
ends-ready o a e (RoundOpen answer) k session f ends owns = f.ready
ends-ready o a e (RoundClose epoch end) k session f ends owns =
    absurd (let last = session.last in let is = f.flusher in omega (arith, last, is))
ends-ready o a e (StoreFailed failed) k session f ends owns = absurd (false≢true ends)

pub ready-ended : (shards : ℕ) (g : JobGroup) → is_ready shards g ≡ true → has_ended shards g ≡ true
ready-ended shards g ready = left-and (has_ended shards g) (not (is_spoiled g.kind (has_refusal g.answers))) ready
  where
    left-and : (a b : Bool) → (a && b) ≡ true → a ≡ true
    left-and true b x = refl
    left-and false b x = x

ready-none : (o : Opening) (cube brick e : ℕ) (g : JobGroup) → is_ready o.shards g ≡ true → 1 ≤ o.shards → to_come o cube brick e g ≡ []
ready-none o cube brick e g ready some =
    ended-to-come o cube brick e g (ready-ended o.shards g ready) (ready-clean o.shards g ready) some

nothing-runs : (o : Opening) (cube brick : ℕ) (operations : List CubeOperation) (entries : List BrickEntry) → operations ≡ [] → entries ≡ []
    → RunAlike o cube brick operations entries
nothing-runs o cube brick operations entries none empty = coe 1 0 (i. RunAlike o cube brick (none i) (empty i)) (λ rows f. refl)

desk-fit : (ends : Bool) (o : Opening) (es : List CoreEvent) (a e cube brick : ℕ) (call : DeskEvent) → IsCoreRun o (By a (OnDesk call) ∷ es)
    → ends_group (OnDesk call) ≡ ends → IsSession o a
    → OwnsWriter a e (client_after_call o true a (OnDesk call) (client_state o a es)) → OperationsFit o es a e cube brick
    → IsClean (if ends then no_group else (client_state o a es).group)
    → RunAlike o cube brick (operations_of o cube es e)
    (to_come o cube brick e (if ends then no_group else (client_state o a es).group) ++ entries_of_epoch e (posted_of o es cube brick))
desk-fit true o es a e cube brick call run is session owns before clean =
    let k = client_state o a es in
    elim (low-or-high e (counters_of_run o es).ec) [
      | inl low ↦
          (let ready = ends-ready o a e call k session run.1.fits is owns in
          let none = ready-none o cube brick e k.group ready (opening-of o es run.0).some in
          coe 0 1 (i. RunAlike o cube brick (operations_of o cube es e) (none i ++ entries_of_epoch e (posted_of o es cube brick)))
          (before session
          (own-back o true a a e (OnDesk call) k (counters_of_run o es) (eq-eqb a a refl) (run-allowed o a (OnDesk call) es run) low owns)
          (ready-clean o.shards k.group ready)))
      | inr high ↦
          nothing-runs o cube brick (operations_of o cube es e) (entries_of_epoch e (posted_of o es cube brick))
          (none-from-ec o es cube e run.0 high)
          (none-fresh o es e (posted_of o es cube brick) run.0 high (run-posted-fates o es cube brick run.0))
    ]
desk-fit false o es a e cube brick call run is session owns before clean =
    before session
    (coe 0 1 (i. IsSomeAnd (held_under a (holds-stay a (OnDesk call) (client_state o a es).holds is i)) (λ x. (x.own ≡ true) × (x.epoch ≡ e))) owns)
    clean

own-fit : (o : Opening) (es : List CoreEvent) (a e cube brick : ℕ) (call : ClientCall) → IsCoreRun o (By a call ∷ es)
    → OperationsFit o es a e cube brick → IsSession o a → OwnsWriter a e (client_after_call o true a call (client_state o a es))
    → IsClean (client_after_call o true a call (client_state o a es)).group
    → RunAlike o cube brick (operations_of o cube (By a call ∷ es) e)
    (to_come o cube brick e (client_after_call o true a call (client_state o a es)).group
    ++ entries_of_epoch e (posted_after o cube brick call (posted_of o es cube brick)))
own-fit o es a e cube brick (Post mail job) run before session owns clean =
    let k = client_state o a es in
    let old = post-clean (has_ended o.shards k.group) o.shards mail job k.group refl run.1.fits.group clean in
    post-fit (has_ended o.shards k.group) o es a e cube brick mail job run refl owns old (before session owns old)
own-fit o es a e cube brick (Fetch mail answer) run before session owns clean =
    let k = client_state o a es in
    let old : IsClean k.group = record {
      goes_on = clean.goes_on;
      unspoiled = spoiled-less k.group.kind (is_refusal answer) (has_refusal k.group.answers) clean.unspoiled;
    } in
    coe 1 0 (i. RunAlike o cube brick (operations_of o cube es e)
    (entries_to_come (fetch-job mail (brick % o.shards) answer k.group run.1.fits i) o cube brick e k.group.kind
    ++ entries_of_epoch e (posted_of o es cube brick)))
    (before session owns old)
own-fit o es a e cube brick (OnDesk call) run before session owns clean =
    desk-fit (ends_group (OnDesk call)) o es a e cube brick call run refl session owns before clean
own-fit o es a e cube brick (OnNames call) run before session owns clean = before session owns clean
own-fit o es a e cube brick (CloseMail mail) run before session owns clean = before session owns clean
own-fit o es a e cube brick NoChange run before session owns clean = before session owns clean

-- By another client.
other-fit : (o : Opening) (es : List CoreEvent) (a b e cube brick : ℕ) (call : ClientCall) → IsCoreRun o (By b call ∷ es) → (b ≡ a → ⊥)
    → OperationsFit o es a e cube brick → IsSession o a → OwnsWriter a e (client_state o a es) → IsClean (client_state o a es).group
    → RunAlike o cube brick (operations_of o cube (By b call ∷ es) e)
    (to_come o cube brick e (client_state o a es).group ++ entries_of_epoch e (posted_after o cube brick call (posted_of o es cube brick)))
other-fit o es a b e cube brick (Post mail job) run apart before session owns clean =
    let lse = (counters_of_run o es).lse in
    let out =
    other-epoch o es a b e lse job run.0 (writer-of o es a e run.0 session owns) apart
    (job-fits o b mail job (client_state o b es) lse run.1.fits (shown-within o es b run.0))
    in
    coe 1 0 (i. RunAlike o cube brick
    (other-operations cube e (has_ended o.shards (client_state o b es).group) job (operations_of o cube es e) out i)
    (to_come o cube brick e (client_state o a es).group
    ++ other-post (mail == brick % o.shards) o cube brick e job (posted_of o es cube brick) out i))
    (before session owns clean)
other-fit o es a b e cube brick (Fetch mail answer) run apart before session owns clean = before session owns clean
other-fit o es a b e cube brick (OnDesk call) run apart before session owns clean = before session owns clean
other-fit o es a b e cube brick (OnNames call) run apart before session owns clean = before session owns clean
other-fit o es a b e cube brick (CloseMail mail) run apart before session owns clean = before session owns clean
other-fit o es a b e cube brick NoChange run apart before session owns clean = before session owns clean

call-fit : (own : Bool) (o : Opening) (es : List CoreEvent) (a b e cube brick : ℕ) (call : ClientCall) → (b == a) ≡ own
    → IsCoreRun o (By b call ∷ es) → OperationsFit o es a e cube brick → IsSession o a
    → OwnsWriter a e (client_after_call o own a call (client_state o a es))
    → IsClean (client_after_call o own a call (client_state o a es)).group
    → RunAlike o cube brick (operations_of o cube (By b call ∷ es) e)
    (to_come o cube brick e (client_after_call o own a call (client_state o a es)).group
    ++ entries_of_epoch e (posted_after o cube brick call (posted_of o es cube brick)))
call-fit true o es a b e cube brick call is run before session owns clean =
    let same = eqb-true b a is in
    coe 1 0 (i. RunAlike o cube brick (operations_of o cube (By (same i) call ∷ es) e)
    (to_come o cube brick e (client_after_call o true a call (client_state o a es)).group
    ++ entries_of_epoch e (posted_after o cube brick call (posted_of o es cube brick))))
    (own-fit o es a e cube brick call (coe 0 1 (i. IsCoreRun o (By (same i) call ∷ es)) run) before session owns clean)
call-fit false o es a b e cube brick call is run before session owns clean =
    other-fit o es a b e cube brick call run (eqb-false b a is) before session owns clean

run-operations-fit : (o : Opening) (es : List CoreEvent) (a e cube brick : ℕ) → IsCoreRun o es → OperationsFit o es a e cube brick
run-operations-fit o [] a e cube brick run = λ session owns clean. absurd owns
run-operations-fit o (By b call ∷ es) a e cube brick run = λ session owns clean.
    call-fit (b == a) o es a b e cube brick call refl run (run-operations-fit o es a e cube brick run.0) session owns clean
run-operations-fit o (At mail move ∷ es) a e cube brick run = run-operations-fit o es a e cube brick run.0

-- A transaction whose group has ended.
pub ended-runs : (o : Opening) (es : List CoreEvent) (a e cube brick : ℕ) → IsCoreRun o es → IsSession o a → OwnsWriter a e (client_state o a es)
    → IsClean (client_state o a es).group → has_ended o.shards (client_state o a es).group ≡ true
    → RunAlike o cube brick (operations_of o cube es e) (entries_of_epoch e (posted_of o es cube brick))
ended-runs o es a e cube brick run session owns clean ended =
    let none = ended-to-come o cube brick e (client_state o a es).group ended clean (opening-of o es run).some in
    coe 0 1 (i. RunAlike o cube brick (operations_of o cube es e) (none i ++ entries_of_epoch e (posted_of o es cube brick)))
    (run-operations-fit o es a e cube brick run session owns clean)

-- A transaction that is committed.

call-operations : (o : Opening) (b : ℕ) (call : ClientCall) (es : List CoreEvent) (cube e : ℕ) → IsCoreRun o (By b call ∷ es)
    → has_number (counters_of_run o es).pending e ≡ false → operations_of o cube (By b call ∷ es) e ≡ operations_of o cube es e
call-operations o b (Post mail job) es cube e run past =
    other-operations cube e (has_ended o.shards (client_state o b es).group) job (operations_of o cube es e)
    (ended-epoch o es b e (counters_of_run o es).lse job run.0 past
    (job-fits o b mail job (client_state o b es) (counters_of_run o es).lse run.1.fits (shown-within o es b run.0)))
call-operations o b (OnDesk call) es cube e run past = refl
call-operations o b (OnNames call) es cube e run past = refl
call-operations o b (Fetch mail answer) es cube e run past = refl
call-operations o b (CloseMail mail) es cube e run past = refl
call-operations o b NoChange es cube e run past = refl

kept-runs : (here : Bool) (o : Opening) (cube brick e : ℕ) → (e == o.safe) ≡ here
    → RunAlike o cube brick (if e == o.safe then PutRows (o.rows cube) ∷ [] else [])
    (entries_of_epoch e (RowRun o.safe (rows_of_brick o cube brick (o.rows cube)) ∷ []))
kept-runs true o cube brick e is =
    let same = eqb-true e o.safe is in
    coe 1 0 (i. RunAlike o cube brick (if is i then PutRows (o.rows cube) ∷ [] else [])
    (if eq-eqb o.safe e (sym same) i then RowRun o.safe (rows_of_brick o cube brick (o.rows cube)) ∷ [] else []))
    (put-here o cube brick o.safe (o.rows cube) [] [] (λ rows f. refl))
kept-runs false o cube brick e is =
    coe 1 0 (i. RunAlike o cube brick (if is i then PutRows (o.rows cube) ∷ [] else [])
    (if (swap-test o.safe e ∙ is) i then RowRun o.safe (rows_of_brick o cube brick (o.rows cube)) ∷ [] else []))
    (λ rows f. refl)

pub committed-runs : (o : Opening) (es : List CoreEvent) (e cube brick : ℕ) → IsCoreRun o es → has_committed o es e ≡ true
    → RunAlike o cube brick (operations_of o cube es e) (entries_of_epoch e (posted_of o es cube brick))
committed-runs o [] e cube brick run is = kept-runs (e == o.safe) o cube brick e refl
committed-runs o (By b call ∷ es) e cube brick run is = elim (or-is (commits call e) (has_committed o es e) is) [
  | inl new ↦
      (let x = commit-of call e new in
      let f = coe 0 1 (i. FitsCall o b (x.is i) (client_state o b es)) run.1.fits in
      let g = (client_state o b es).group in
      coe 1 0 (i. RunAlike o cube brick (operations_of o cube (By b (x.is i) ∷ es) e)
      (entries_of_epoch e (posted_after o cube brick (x.is i) (posted_of o es cube brick))))
      (ended-runs o es b e cube brick run.0 f.session f.writer (ready-clean o.shards g f.ready) (ready-ended o.shards g f.ready)))
  | inr old ↦
      (let past = (run-finished o es run.0).done_ended e old in
      coe 1 0 (i. RunAlike o cube brick (call-operations o b call es cube e run past i) (call-same o b call es cube brick e run past i))
      (committed-runs o es e cube brick run.0 old))
]
committed-runs o (At mail move ∷ es) e cube brick run is = committed-runs o es e cube brick run.0 is
