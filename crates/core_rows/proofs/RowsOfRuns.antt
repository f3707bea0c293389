-- The rows that are put are rows of their cube, and stay so.
use Rattle.std.proofs.Common.{◌≡◌, ◌∙◌, ℕ, zero, suc, ◌+◌, ◌<◌, ◌≤◌, ◌==◌, Bool, true, false, not, cond, ◌&&◌, List, [], ◌∷◌, ◌++◌, filter, length, All, refl, sym, ap, arith, eqb-true, length-append, if◌then◌else◌}
use Rattle.std.specs.List.{AllByRecursion}
use Rattle.std.proofs.lemmas.List.Elements.{recursion_from_All, All-from_recursion}
use Rattle.cube_values.specs.declared.row.CodedRow.{CodedRow}
use Rattle.cube_values.specs.declared.snapshot.Snapshot.{Snapshot}
use Rattle.cube_values.specs.Spans.{span_has}
use Rattle.core_events.specs.ShardView.{EpochSet}
use Rattle.core_events.specs.Jobs.{CoreJob, Append, DropBox, Scan, Delta, Rollback, Purge, CopyRound, Flush}
use Rattle.core_events.specs.Events.{Opening, ClientCall, OnDesk, OnNames, Post, Fetch, CloseMail, NoChange, CoreEvent, By, At}
use Rattle.core_events.specs.Groups.{has_ended}
use Rattle.core_events.specs.Clients.{client_state}
use Rattle.core_events.specs.Cells.{dictionary_of}
use Rattle.core_events.specs.Fitting.{FitsCall, MayPutRow}
use Rattle.core_events.specs.Runs.{IsCoreRun}
use Rattle.core_events.specs.Serial.{CubeOperation, PutRows, DropRows, counts_for, operations_with, operations_of, rows_after_transaction, rows_left_below}
use Rattle.core_events.proofs.Names.{names-grow, told-names}
use Rattle.core_serial.specs.CubeRows.{rows_of_serial_run}
use Rattle.core_rows.specs.RowsOfCubes.{IsCubeRow}

-- Facts on all rows of a list.

pub all-append : (P : CodedRow → Type 0) (xs ys : List CodedRow) → AllByRecursion P xs → AllByRecursion P ys → AllByRecursion P (xs ++ ys)
all-append P [] ys f g = g
all-append P (x ∷ xs) ys f g = (f.0, all-append P xs ys f.1 g)

pub all-filter : (P : CodedRow → Type 0) (test : CodedRow → Bool) (xs : List CodedRow) → AllByRecursion P xs → AllByRecursion P (filter test xs)
all-filter P test [] f = tt
all-filter P test (x ∷ xs) f = at (test x) (all-filter P test xs f.1)
  where
    at : (b : Bool) → AllByRecursion P (filter test xs) → AllByRecursion P (cond b (x ∷ filter test xs) (filter test xs))
    at true rest = (f.0, rest)
    at false rest = rest

pub all-as : (P Q : CodedRow → Type 0) (xs : List CodedRow) → ((x : CodedRow) → P x → Q x) → AllByRecursion P xs → AllByRecursion Q xs
all-as P Q [] f h = tt
all-as P Q (x ∷ xs) f h = (f x h.0, all-as P Q xs f h.1)

-- Names only grow.

more-names : (o : Opening) (es : List CoreEvent) (cube dim : ℕ) (e : CoreEvent)
    → length (dictionary_of o cube dim es).names ≤ length (dictionary_of o cube dim (e ∷ es)).names
more-names o es cube dim e =
    let grown = names-grow o cube dim (e ∷ []) es in
    let same = ap length grown.1 in
    let both = length-append (dictionary_of o cube dim es).names grown.0 in
    omega (arith, same, both)

pub row-later : (o : Opening) (es : List CoreEvent) (cube : ℕ) (e : CoreEvent) (row : CodedRow) → IsCubeRow o es cube row → IsCubeRow o (e ∷ es) cube row
row-later o es cube e row r = record {
  coords = r.coords;
  metrics = r.metrics;
  names = λ dim coord texts at.
      let low = r.names dim coord texts at in
      let more = more-names o es cube dim e in
      omega (arith, low, more);
}

-- Operations that put rows of their cube.

abbrev PutRowsOf : Opening → List CoreEvent → ℕ → List CubeOperation → Type 0
PutRowsOf o es cube [] = Unit {0}
PutRowsOf o es cube (PutRows rows ∷ older) = AllByRecursion (IsCubeRow o es cube) rows × PutRowsOf o es cube older
PutRowsOf o es cube (DropRows box ∷ older) = PutRowsOf o es cube older

put-later : (o : Opening) (es : List CoreEvent) (cube : ℕ) (e : CoreEvent) (operations : List CubeOperation) → PutRowsOf o es cube operations
    → PutRowsOf o (e ∷ es) cube operations
put-later o es cube e [] f = tt
put-later o es cube e (PutRows rows ∷ older) f =
    (all-as (IsCubeRow o es cube) (IsCubeRow o (e ∷ es) cube) rows (λ row r. row-later o es cube e row r) f.0, put-later o es cube e older f.1)
put-later o es cube e (DropRows box ∷ older) f = put-later o es cube e older f

-- What is posted.

abbrev pub JobRows : Opening → List CoreEvent → CoreJob → Type 0
JobRows o es (Append cube epoch rows) = AllByRecursion (IsCubeRow o es cube) rows
JobRows o es job = Unit {0}

pub job-rows : (o : Opening) (es : List CoreEvent) (a mail : ℕ) (job : CoreJob) → IsCoreRun o es → FitsCall o a (Post mail job) (client_state o a es)
    → JobRows o es job
job-rows o es a mail (Append cube epoch rows) run f =
    let k = client_state o a es in
    all-as (MayPutRow o cube mail k) (IsCubeRow o es cube) rows
    (λ row r. record {
      coords = r.coords;
      metrics = r.metrics;
      names = λ dim coord texts at.
          let low = r.names dim coord texts at in
          let told = told-names o es run a cube dim in
          omega (arith, low, told);
    })
    (recursion_from_All (MayPutRow o cube mail k) rows f.bears.of_cube)
job-rows o es a mail (DropBox cube epoch box) run f = tt
job-rows o es a mail (Scan query snapshot) run f = tt
job-rows o es a mail (Delta query from to) run f = tt
job-rows o es a mail (Rollback epoch) run f = tt
job-rows o es a mail (Purge epoch) run f = tt
job-rows o es a mail (CopyRound from to) run f = tt
job-rows o es a mail Flush run f = tt

put-where : (here same : Bool) (o : Opening) (es : List CoreEvent) (cube : ℕ) (rows : List CodedRow) (operations : List CubeOperation)
    → (here ≡ true → AllByRecursion (IsCubeRow o es cube) rows) → PutRowsOf o es cube operations
    → PutRowsOf o es cube (if here && same then PutRows rows ∷ operations else operations)
put-where true true o es cube rows operations f g = (f refl, g)
put-where true false o es cube rows operations f g = g
put-where false same o es cube rows operations f g = g

with-job : (o : Opening) (es : List CoreEvent) (cube e : ℕ) (begins : Bool) (job : CoreJob) (operations : List CubeOperation) → JobRows o es job
    → PutRowsOf o es cube operations → PutRowsOf o es cube (operations_with cube e begins job operations)
with-job o es cube e begins (Append other epoch rows) operations f g =
    put-where (other == cube) (epoch == e) o es cube rows operations
    (λ here. coe 0 1 (i. AllByRecursion (IsCubeRow o es (eqb-true other cube here i)) rows) f) g
with-job o es cube e begins (DropBox other epoch box) operations f g = dropped (begins && (other == cube && epoch == e))
  where
    dropped : (b : Bool) → PutRowsOf o es cube (if b then DropRows box ∷ operations else operations)
    dropped true = g
    dropped false = g
with-job o es cube e begins (Scan query snapshot) operations f g = g
with-job o es cube e begins (Delta query from to) operations f g = g
with-job o es cube e begins (Rollback epoch) operations f g = g
with-job o es cube e begins (Purge epoch) operations f g = g
with-job o es cube e begins (CopyRound from to) operations f g = g
with-job o es cube e begins Flush operations f g = g

kept-where : (here : Bool) (o : Opening) (cube : ℕ) → AllByRecursion (IsCubeRow o [] cube) (o.rows cube)
    → PutRowsOf o [] cube (if here then PutRows (o.rows cube) ∷ [] else [])
kept-where true o cube f = (f, tt)
kept-where false o cube f = tt

run-put-rows : (o : Opening) (es : List CoreEvent) (cube e : ℕ) → IsCoreRun o es → AllByRecursion (IsCubeRow o [] cube) (o.rows cube)
    → PutRowsOf o es cube (operations_of o cube es e)
run-put-rows o [] cube e run kept = kept-where (e == o.safe) o cube kept
run-put-rows o (By b (Post mail job) ∷ es) cube e run kept =
    put-later o es cube (By b (Post mail job)) (operations_of o cube (By b (Post mail job) ∷ es) e)
    (with-job o es cube e (has_ended o.shards (client_state o b es).group) job (operations_of o cube es e)
    (job-rows o es b mail job run.0 run.1.fits) (run-put-rows o es cube e run.0 kept))
run-put-rows o (By b (OnDesk call) ∷ es) cube e run kept =
    put-later o es cube (By b (OnDesk call)) (operations_of o cube es e) (run-put-rows o es cube e run.0 kept)
run-put-rows o (By b (OnNames call) ∷ es) cube e run kept =
    put-later o es cube (By b (OnNames call)) (operations_of o cube es e) (run-put-rows o es cube e run.0 kept)
run-put-rows o (By b (Fetch mail answer) ∷ es) cube e run kept =
    put-later o es cube (By b (Fetch mail answer)) (operations_of o cube es e) (run-put-rows o es cube e run.0 kept)
run-put-rows o (By b (CloseMail mail) ∷ es) cube e run kept =
    put-later o es cube (By b (CloseMail mail)) (operations_of o cube es e) (run-put-rows o es cube e run.0 kept)
run-put-rows o (By b NoChange ∷ es) cube e run kept =
    put-later o es cube (By b NoChange) (operations_of o cube es e) (run-put-rows o es cube e run.0 kept)
run-put-rows o (At mail move ∷ es) cube e run kept =
    put-later o es cube (At mail move) (operations_of o cube es e) (run-put-rows o es cube e run.0 kept)

-- What is left.

after-rows : (o : Opening) (es : List CoreEvent) (cube : ℕ) (operations : List CubeOperation) (rows : List CodedRow) → PutRowsOf o es cube operations
    → AllByRecursion (IsCubeRow o es cube) rows → AllByRecursion (IsCubeRow o es cube) (rows_after_transaction operations rows)
after-rows o es cube [] rows f g = g
after-rows o es cube (PutRows more ∷ older) rows f g =
    all-append (IsCubeRow o es cube) (rows_after_transaction older rows) more (after-rows o es cube older rows f.1 g) f.0
after-rows o es cube (DropRows box ∷ older) rows f g =
    all-filter (IsCubeRow o es cube) (λ row. not (span_has box row.coords)) (rows_after_transaction older rows) (after-rows o es cube older rows f g)

left-rows : (o : Opening) (es : List CoreEvent) (cube limit : ℕ) (set : EpochSet) (operations : ℕ → List CubeOperation)
    → ((e : ℕ) → PutRowsOf o es cube (operations e)) → AllByRecursion (IsCubeRow o es cube) (rows_left_below limit set operations)
left-rows o es cube zero set operations f = tt
left-rows o es cube (suc m) set operations f = at (set m) (left-rows o es cube m set operations f)
  where
    left : List CodedRow
    left = rows_left_below m set operations

    at : (b : Bool) → AllByRecursion (IsCubeRow o es cube) left
        → AllByRecursion (IsCubeRow o es cube) (if b then rows_after_transaction (operations m) left else left)
    at true rest = after-rows o es cube (operations m) left (f m) rest
    at false rest = rest

pub serial-rows-of : (o : Opening) (es : List CoreEvent) (cube : ℕ) (s : Snapshot) → IsCoreRun o es → All (IsCubeRow o [] cube) (o.rows cube)
    → All (IsCubeRow o es cube) (rows_of_serial_run o es cube s)
serial-rows-of o es cube s run kept =
    All-from_recursion (IsCubeRow o es cube) (rows_of_serial_run o es cube s)
    (left-rows o es cube (s.epoch + 1) (counts_for o es s) (operations_of o cube es)
    (λ e. run-put-rows o es cube e run (recursion_from_All (IsCubeRow o [] cube) (o.rows cube) kept)))
