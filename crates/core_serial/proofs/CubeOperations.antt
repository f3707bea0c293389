-- What operations make of the rows of a cube is, brick by brick, what entries make of the rows of the brick.
use Rattle.std.proofs.Common.{◌≡◌, ◌∙◌, ℕ, zero, suc, ◌==◌, Bool, true, false, true≢false, cond, not, ◌&&◌, List, [], ◌∷◌, ◌++◌, filter, refl, sym, ap, eq-eqb, eqb-true, if◌then◌else◌}
use Rattle.std.specs.List.{AllByRecursion}
use Rattle.std.proofs.lemmas.Bool.{false≢true}
use Rattle.std.proofs.lemmas.List.{append-nil}
use Rattle.std.proofs.lemmas.List.Elements.{filter-append}
use Rattle.cube_values.specs.declared.row.CodedRow.{CodedRow}
use Rattle.cube_values.specs.declared.span.Span.{Span}
use Rattle.cube_values.specs.Spans.{span_has}
use Rattle.brick_address.specs.Addresses.{brick_of, AreCoords}
use Rattle.core_events.specs.ShardView.{BrickEntry, RowRun, RowMark, EpochSet}
use Rattle.core_events.specs.Events.{Opening}
use Rattle.core_events.specs.Cells.{sizes_of_cube, rows_of_brick, box_has_brick}
use Rattle.core_events.specs.Fitting.{CutsNoBrick}
use Rattle.core_events.specs.Serial.{CubeOperation, PutRows, DropRows, rows_after_transaction, rows_left_below}
use Rattle.core_events.specs.BrickTransactions.{entries_of_epoch, rows_after_entries, brick_rows_left}

-- Rows that have coordinates of the cube.
abbrev pub AreOfCube : Opening → ℕ → List CodedRow → Type 0
AreOfCube o cube rows = AllByRecursion (λ row. AreCoords (sizes_of_cube o cube) row.coords) rows

pub of-cube-append : (o : Opening) (cube : ℕ) (xs ys : List CodedRow) → AreOfCube o cube xs → AreOfCube o cube ys → AreOfCube o cube (xs ++ ys)
of-cube-append o cube [] ys f g = g
of-cube-append o cube (x ∷ xs) ys f g = (f.0, of-cube-append o cube xs ys f.1 g)

of-cube-filter : (o : Opening) (cube : ℕ) (test : CodedRow → Bool) (xs : List CodedRow) → AreOfCube o cube xs → AreOfCube o cube (filter test xs)
of-cube-filter o cube test [] f = tt
of-cube-filter o cube test (x ∷ xs) f = at (test x) (of-cube-filter o cube test xs f.1)
  where
    at : (b : Bool) → AreOfCube o cube (filter test xs) → AreOfCube o cube (cond b (x ∷ filter test xs) (filter test xs))
    at true rest = (f.0, rest)
    at false rest = rest

-- Operations whose rows are of the cube and whose boxes cut no brick of it.
abbrev pub FitCube : Opening → ℕ → List CubeOperation → Type 0
FitCube o cube [] = Unit {0}
FitCube o cube (PutRows rows ∷ older) = AreOfCube o cube rows × FitCube o cube older
FitCube o cube (DropRows box ∷ older) = CutsNoBrick o cube box × FitCube o cube older

pub after-of-cube : (o : Opening) (cube : ℕ) (operations : List CubeOperation) (rows : List CodedRow) → FitCube o cube operations
    → AreOfCube o cube rows → AreOfCube o cube (rows_after_transaction operations rows)
after-of-cube o cube [] rows f g = g
after-of-cube o cube (PutRows more ∷ older) rows f g =
    of-cube-append o cube (rows_after_transaction older rows) more (after-of-cube o cube older rows f.1 g) f.0
after-of-cube o cube (DropRows box ∷ older) rows f g =
    of-cube-filter o cube (λ row. not (span_has box row.coords)) (rows_after_transaction older rows) (after-of-cube o cube older rows f.1 g)

-- Operations make of the rows of the cube what entries make of those of the brick.
abbrev pub RunAlike : Opening → ℕ → ℕ → List CubeOperation → List BrickEntry → Type 0
RunAlike o cube brick operations entries = (rows : List CodedRow) → AreOfCube o cube rows
    → rows_of_brick o cube brick (rows_after_transaction operations rows) ≡ rows_after_entries entries (rows_of_brick o cube brick rows)

-- Rows that are put.

pub put-here : (o : Opening) (cube brick e : ℕ) (more : List CodedRow) (operations : List CubeOperation) (entries : List BrickEntry)
    → RunAlike o cube brick operations entries
    → RunAlike o cube brick (PutRows more ∷ operations) (RowRun e (rows_of_brick o cube brick more) ∷ entries)
put-here o cube brick e more operations entries alike rows f =
    filter-append (λ (row : CodedRow). brick_of (sizes_of_cube o cube) row.coords == brick) (rows_after_transaction operations rows) more
    ∙ ap (λ (r : List CodedRow). r ++ rows_of_brick o cube brick more) (alike rows f)

put-elsewhere : (o : Opening) (cube brick : ℕ) (more : List CodedRow) (operations : List CubeOperation) (entries : List BrickEntry)
    → rows_of_brick o cube brick more ≡ [] → RunAlike o cube brick operations entries
    → RunAlike o cube brick (PutRows more ∷ operations) entries
put-elsewhere o cube brick more operations entries none alike rows f =
    filter-append (λ (row : CodedRow). brick_of (sizes_of_cube o cube) row.coords == brick) (rows_after_transaction operations rows) more
    ∙ ap (λ (r : List CodedRow). rows_of_brick o cube brick (rows_after_transaction operations rows) ++ r) none
    ∙ append-nil (rows_of_brick o cube brick (rows_after_transaction operations rows))
    ∙ alike rows f

pub put-runs-here : (of_cube : Bool) (o : Opening) (cube brick e : ℕ) (more : List CodedRow) (operations : List CubeOperation)
    (entries : List BrickEntry) → RunAlike o cube brick operations entries
    → RunAlike o cube brick (if of_cube && e == e then PutRows more ∷ operations else operations)
    (entries_of_epoch e (if of_cube then RowRun e (rows_of_brick o cube brick more) ∷ [] else []) ++ entries)
put-runs-here false o cube brick e more operations entries alike = alike
put-runs-here true o cube brick e more operations entries alike =
    coe 1 0 (i. RunAlike o cube brick (if eq-eqb e e refl i then PutRows more ∷ operations else operations)
    ((if eq-eqb e e refl i then RowRun e (rows_of_brick o cube brick more) ∷ [] else []) ++ entries))
    (put-here o cube brick e more operations entries alike)

pub put-runs-elsewhere : (of_cube : Bool) (o : Opening) (cube brick e : ℕ) (more : List CodedRow) (operations : List CubeOperation)
    (entries : List BrickEntry) → (of_cube ≡ true → rows_of_brick o cube brick more ≡ []) → RunAlike o cube brick operations entries
    → RunAlike o cube brick (if of_cube && e == e then PutRows more ∷ operations else operations) entries
put-runs-elsewhere false o cube brick e more operations entries none alike = alike
put-runs-elsewhere true o cube brick e more operations entries none alike =
    coe 1 0 (i. RunAlike o cube brick (if eq-eqb e e refl i then PutRows more ∷ operations else operations) entries)
    (put-elsewhere o cube brick more operations entries (none refl) alike)

-- A box that is dropped.

drop-step : (has in_box here : Bool) (f : CodedRow → Bool) (x : CodedRow) (rest xs : List CodedRow) → f x ≡ here → (here ≡ true → in_box ≡ has)
    → filter f rest ≡ (if has then [] else filter f xs)
    → filter f (cond (not in_box) (x ∷ rest) rest) ≡ (if has then [] else cond here (x ∷ filter f xs) (filter f xs))
drop-step true true here f x rest xs e aligned before = before
drop-step true false true f x rest xs e aligned before = absurd (false≢true (aligned refl))
drop-step true false false f x rest xs e aligned before = (λ i. cond (e i) (x ∷ filter f rest) (filter f rest)) ∙ before
drop-step false true true f x rest xs e aligned before = absurd (true≢false (aligned refl))
drop-step false true false f x rest xs e aligned before = before
drop-step false false true f x rest xs e aligned before = λ i. cond (e i) (x ∷ before i) (before i)
drop-step false false false f x rest xs e aligned before = (λ i. cond (e i) (x ∷ filter f rest) (filter f rest)) ∙ before

drop-brick : (o : Opening) (cube brick : ℕ) (box : Span) (rows : List CodedRow) → CutsNoBrick o cube box → AreOfCube o cube rows
    → rows_of_brick o cube brick (filter (λ row. not (span_has box row.coords)) rows)
    ≡ (if box_has_brick o cube box brick then [] else rows_of_brick o cube brick rows)
drop-brick o cube brick box [] cuts f = none (box_has_brick o cube box brick)
  where
    none : (b : Bool) → rows_of_brick o cube brick [] ≡ (if b then [] else rows_of_brick o cube brick [])
    none true = refl
    none false = refl
drop-brick o cube brick box (x ∷ rows) cuts f =
    let of_brick = λ (row : CodedRow). brick_of (sizes_of_cube o cube) row.coords == brick in
    drop-step (box_has_brick o cube box brick) (span_has box x.coords) (of_brick x) of_brick x
    (filter (λ row. not (span_has box row.coords)) rows) rows refl
    (λ here. cuts x.coords f.0 ∙ ap (box_has_brick o cube box) (eqb-true (brick_of (sizes_of_cube o cube) x.coords) brick here))
    (drop-brick o cube brick box rows cuts f.1)

drop-runs-by : (has : Bool) (o : Opening) (cube brick e : ℕ) (box : Span) (operations : List CubeOperation) (entries : List BrickEntry)
    → box_has_brick o cube box brick ≡ has → CutsNoBrick o cube box → FitCube o cube operations → RunAlike o cube brick operations entries
    → RunAlike o cube brick (DropRows box ∷ operations) ((if has then RowMark e ∷ [] else []) ++ entries)
drop-runs-by true o cube brick e box operations entries is cuts fit alike rows f =
    drop-brick o cube brick box (rows_after_transaction operations rows) cuts (after-of-cube o cube operations rows fit f)
    ∙ (λ i. if is i then [] else rows_of_brick o cube brick (rows_after_transaction operations rows))
drop-runs-by false o cube brick e box operations entries is cuts fit alike rows f =
    drop-brick o cube brick box (rows_after_transaction operations rows) cuts (after-of-cube o cube operations rows fit f)
    ∙ (λ i. if is i then [] else rows_of_brick o cube brick (rows_after_transaction operations rows))
    ∙ alike rows f

mark-of-epoch : (has : Bool) (e : ℕ) → (if has then RowMark e ∷ [] else []) ≡ entries_of_epoch e (if has then RowMark e ∷ [] else [])
mark-of-epoch true e = λ i. if sym (eq-eqb e e refl) i then RowMark e ∷ [] else []
mark-of-epoch false e = refl

pub drop-runs : (of_cube : Bool) (o : Opening) (cube brick e : ℕ) (box : Span) (operations : List CubeOperation) (entries : List BrickEntry)
    → (of_cube ≡ true → CutsNoBrick o cube box) → FitCube o cube operations → RunAlike o cube brick operations entries
    → RunAlike o cube brick (if of_cube && e == e then DropRows box ∷ operations else operations)
    (entries_of_epoch e (if of_cube && box_has_brick o cube box brick then RowMark e ∷ [] else []) ++ entries)
drop-runs false o cube brick e box operations entries cuts fit alike = alike
drop-runs true o cube brick e box operations entries cuts fit alike =
    let has = box_has_brick o cube box brick in
    coe 1 0 (i. RunAlike o cube brick (if eq-eqb e e refl i then DropRows box ∷ operations else operations) (sym (mark-of-epoch has e) i ++ entries))
    (drop-runs-by has o cube brick e box operations entries refl (cuts refl) fit alike)

-- Transactions one after the other.

-- Those of a set below a limit make of the rows of the cube what their entries make of those of the brick.
pub record LeaveAlike (o : Opening) (cube brick limit : ℕ) (set : EpochSet) (operations : ℕ → List CubeOperation) (entries : List BrickEntry)
    : Type 0 where
  pub of_cube : AreOfCube o cube (rows_left_below limit set operations)
  pub rows : rows_of_brick o cube brick (rows_left_below limit set operations) ≡ brick_rows_left limit set entries

leave-step : (counts : Bool) (o : Opening) (cube brick m : ℕ) (operations : List CubeOperation) (entries : List BrickEntry)
    (left : List CodedRow) (of_brick : List CodedRow) → FitCube o cube operations
    → (counts ≡ true → RunAlike o cube brick operations entries) → AreOfCube o cube left → rows_of_brick o cube brick left ≡ of_brick
    → AreOfCube o cube (if counts then rows_after_transaction operations left else left)
    × (rows_of_brick o cube brick (if counts then rows_after_transaction operations left else left)
    ≡ (if counts then rows_after_entries entries of_brick else of_brick))
leave-step true o cube brick m operations entries left of_brick fit alike f is = (
  after-of-cube o cube operations left fit f,
  alike refl left f ∙ ap (rows_after_entries entries) is,
)
leave-step false o cube brick m operations entries left of_brick fit alike f is = (f, is)

pub leave-alike : (o : Opening) (cube brick limit : ℕ) (set : EpochSet) (operations : ℕ → List CubeOperation) (entries : List BrickEntry)
    → ((e : ℕ) → FitCube o cube (operations e))
    → ((e : ℕ) → set e ≡ true → RunAlike o cube brick (operations e) (entries_of_epoch e entries))
    → LeaveAlike o cube brick limit set operations entries
leave-alike o cube brick zero set operations entries fit alike = record { of_cube = tt; rows = refl }
leave-alike o cube brick (suc m) set operations entries fit alike =
    let below = leave-alike o cube brick m set operations entries fit alike in
    let step = leave-step (set m) o cube brick m (operations m) (entries_of_epoch m entries) (rows_left_below m set operations)
    (brick_rows_left m set entries) (fit m) (alike m) below.of_cube below.rows in
    record { of_cube = step.0; rows = step.1 }
