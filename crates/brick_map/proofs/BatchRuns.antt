-- Runs of a batch, and what they make of bricks.
use Rattle.std.proofs.Common.{◌≡◌, ℕ, ◌+◌, ◌-◌, ◌<◌, ◌≤◌, ◌==◌, ◌||◌, Bool, true, false, cond, suc, zero, List, [], ◌∷◌, ◌++◌, length, take, drop, filter, All, refl, sym, ap, ◌∙◌, arith, subst}
use Rattle.std.proofs.Math.Seq.{take-add}
use Rattle.std.proofs.lemmas.Bool.Decides.{nat_tests}
use Rattle.std.proofs.lemmas.List.{append-nil, append_assoc, drop_all, drop-drop, get_or-drop, length-append, length-take-le, length-drop, take-append-drop, take_more}
use Rattle.std.proofs.lemmas.List.Elements.{All-cons, All-head, All-nil, All-push, All-tail, All-weaker, filter-append}
use Rattle.cube_values.specs.declared.entry.Entry.{Entry}
use Rattle.cube_values.specs.declared.entry.Entry.TheVariants.{Run, Mark}
use Rattle.cube_values.specs.declared.row.CodedRow.{CodedRow}
use Rattle.cube_values.specs.declared.shape.Size.{Size}
use Rattle.cube_values.specs.Batches.{coded_row_at, rows_between}
use Rattle.cube_values.specs.EpochsVector.{vector_with_entry}
use Rattle.brick_address.specs.Addresses.{brick_of}
use Rattle.brick_store.specs.Bricks.{BrickState}
use Rattle.brick_store.proofs.Folds.{filter_none}
use Rattle.brick_map.specs.declared.runs.BatchRun.{BatchRun}
use Rattle.brick_map.specs.Batches.{AreRuns, AreRunsOver, IsRunFrom, RunsRiseFrom, has_run, rows_for, run_at, runs_for}
use Rattle.brick_map.specs.Births.{BrickContent, content_of_brick, content_with_rows, rows_of_brick}
use Rattle.brick_map.specs.Lists.{brick_with_rows}
use Rattle.brick_map.proofs.Births.{behind}

-- how many rows runs have
pub runs_over : (sizes : List Size) (rows : List CodedRow) (from : ℕ) (runs : List BatchRun) → AreRuns sizes rows from runs → AreRunsOver (length rows) from runs
runs_over sizes rows from [] h = h
runs_over sizes rows from (run ∷ runs) h = (h.0.begins, h.0.some, h.0.within, runs_over sizes rows run.to runs h.1)

pub rows_for_most : (number rows from : ℕ) (runs : List BatchRun) → AreRunsOver rows from runs → rows_for number runs + from ≤ rows
rows_for_most number rows from [] h = omega arith
rows_for_most number rows from (run ∷ runs) h = by_test (rows_for_most number rows run.to runs h.3) (run.number == number) where
  begins : run.from ≡ from
  begins = h.0

  some : run.from < run.to
  some = h.1

  by_test : rows_for number runs + run.to ≤ rows → (t : Bool) → cond t ((run.to - run.from) + rows_for number runs) (rows_for number runs) + from ≤ rows
  by_test again true = omega (arith, begins, some)
  by_test again false = omega (arith, begins, some)

pub runs_for_most : (number : ℕ) (runs : List BatchRun) → runs_for number runs ≤ length runs
runs_for_most number [] = omega arith
runs_for_most number (run ∷ runs) = by_test (runs_for_most number runs) (run.number == number) where
  by_test : runs_for number runs ≤ length runs → (t : Bool) → cond t (1 + runs_for number runs) (runs_for number runs) ≤ suc (length runs)
  by_test again true = omega arith
  by_test again false = omega arith

-- where numbers rise, no brick has two runs
pub record HasNoRun (number : ℕ) (runs : List BatchRun) : Type 0 where
  pub rows : rows_for number runs ≡ 0
  pub count : runs_for number runs ≡ 0

not_number : (a b : ℕ) → a < b → (b == a) ≡ false
not_number a b l = grind (arith, nat_tests)

own_number : (a : ℕ) → (a == a) ≡ true
own_number a = grind (arith, nat_tests)

none_below : (number low : ℕ) (runs : List BatchRun) → number < low → RunsRiseFrom low runs → HasNoRun number runs
none_below number low [] l h = record { rows = refl; count = refl }
none_below number low (run ∷ runs) l h =
    let first : number < run.number = omega (arith, h.0) in
    let rest = none_below number (run.number + 1) runs (omega arith) h.1 in
    let test = not_number number run.number first in
    record {
      rows = ap (λ t. cond t ((run.to - run.from) + rows_for number runs) (rows_for number runs)) test ∙ rest.rows;
      count = ap (λ t. cond t (1 + runs_for number runs) (runs_for number runs)) test ∙ rest.count;
    }

low_number : (low i : ℕ) (runs : List BatchRun) → i < length runs → RunsRiseFrom low runs → low ≤ (run_at runs i).number
low_number low i [] l h = absurd (omega arith)
low_number low zero (run ∷ runs) l h = h.0
low_number low (suc i) (run ∷ runs) l h =
    let next = low_number (run.number + 1) i runs (omega arith) h.1 in
    omega (arith, h.0)

pub record HasOneRun (runs : List BatchRun) (run : BatchRun) : Type 0 where
  pub rows : rows_for run.number runs ≡ run.to - run.from
  pub count : runs_for run.number runs ≡ 1

pub one_run : (low i : ℕ) (runs : List BatchRun) → i < length runs → RunsRiseFrom low runs → HasOneRun runs (run_at runs i)
one_run low i [] l h = absurd (omega arith)
one_run low zero (run ∷ runs) l h =
    let rest = none_below run.number (run.number + 1) runs (omega arith) h.1 in
    let test = own_number run.number in
    record {
      rows = ap (λ t. cond t ((run.to - run.from) + rows_for run.number runs) (rows_for run.number runs)) test ∙ omega (arith, rest.rows);
      count = ap (λ t. cond t (1 + runs_for run.number runs) (runs_for run.number runs)) test ∙ omega (arith, rest.count);
    }
one_run low (suc i) (run ∷ runs) l h =
    let rest = one_run (run.number + 1) i runs (omega arith) h.1 in
    let number = (run_at runs i).number in
    let next = low_number (run.number + 1) i runs (omega arith) h.1 in
    let less : run.number < number = omega (arith, next) in
    let test : (run.number == number) ≡ false = grind (arith, nat_tests) in
    record {
      rows = ap (λ t. cond t ((run.to - run.from) + rows_for number runs) (rows_for number runs)) test ∙ rest.rows;
      count = ap (λ t. cond t (1 + runs_for number runs) (runs_for number runs)) test ∙ rest.count;
    }

-- rows of a run behind others
pub length_between : (from to : ℕ) (rows : List CodedRow) → from ≤ to → to ≤ length rows → length (rows_between from to rows) ≡ to - from
length_between from to rows l m = length-take-le (to - from) (drop from rows) (omega (arith, length-drop from rows))

-- rows appended twice by one epoch
run_twice : (entries : List Entry) (epoch m n : ℕ) → vector_with_entry (vector_with_entry entries (Run epoch m)) (Run epoch n) ≡ vector_with_entry entries (Run epoch n)
run_twice [] epoch m n = ap (λ t. cond t (Run epoch n ∷ []) (Run epoch m ∷ Run epoch n ∷ [])) (own_number epoch)
run_twice (Run f end ∷ []) epoch m n = by_test (run_twice [] epoch m n) (f == epoch) where
  by_test : vector_with_entry (Run epoch m ∷ []) (Run epoch n) ≡ Run epoch n ∷ [] → (t : Bool) → vector_with_entry (cond t (Run epoch m ∷ []) (Run f end ∷ Run epoch m ∷ [])) (Run epoch n) ≡ cond t (Run epoch n ∷ []) (Run f end ∷ Run epoch n ∷ [])
  by_test again true = again
  by_test again false = ap (λ l. Run f end ∷ l) again
run_twice (Mark f at ∷ []) epoch m n = ap (λ l. Mark f at ∷ l) (run_twice [] epoch m n)
run_twice (a ∷ b ∷ entries) epoch m n = behind a b entries (Run epoch m) (Run epoch n) ∙ ap (λ l. a ∷ l) (run_twice (b ∷ entries) epoch m n)

pub appended_twice : (epoch : ℕ) (a b : List CodedRow) (c : BrickContent) → content_with_rows epoch (a ++ b) c ≡ content_with_rows epoch b (content_with_rows epoch a c)
appended_twice epoch [] b c = refl
appended_twice epoch (x ∷ a) [] c = ap (λ l. content_with_rows epoch (x ∷ l) c) (append-nil a)
appended_twice epoch (x ∷ a) (y ∷ b) c =
    let long : length c.rows + length (x ∷ a ++ y ∷ b) ≡ length (c.rows ++ x ∷ a) + length (y ∷ b) = omega (arith, length-append (x ∷ a) (y ∷ b), length-append c.rows (x ∷ a)) in
    let entries = run_twice c.entries epoch (length c.rows + length (x ∷ a)) (length (c.rows ++ x ∷ a) + length (y ∷ b)) in
    λ t. record {
      rows = sym (append_assoc c.rows (x ∷ a) (y ∷ b)) t;
      entries = (ap (λ n. vector_with_entry c.entries (Run epoch n)) long ∙ sym entries) t;
    }

-- the rows of a brick in a run
filter_all : (test : CodedRow → Bool) (rows : List CodedRow) → All (λ row. test row ≡ true) rows → filter test rows ≡ rows
filter_all test [] h = refl
filter_all test (row ∷ rows) h =
    ap (λ t. cond t (row ∷ filter test rows) (filter test rows)) (All-head (λ row. test row ≡ true) row rows h)
    ∙ ap (λ l. row ∷ l) (filter_all test rows (All-tail (λ row. test row ≡ true) row rows h))

is_one : (a b n : ℕ) → a ≡ b → (n == b) ≡ true → (a == n) ≡ true
is_one a b n e h = grind (arith, nat_tests)

is_other : (a b n : ℕ) → a ≡ b → (n == b) ≡ false → (a == n) ≡ false
is_other a b n e h = grind (arith, nat_tests)

pub rows_of_run : (sizes : List Size) (number brick : ℕ) (rows : List CodedRow) → All (λ row. brick_of sizes row.coords ≡ brick) rows → rows_of_brick sizes number rows ≡ cond (number == brick) rows []
rows_of_run sizes number brick rows h = by_test (number == brick) refl where
  by_test : (t : Bool) → (number == brick) ≡ t → rows_of_brick sizes number rows ≡ cond t rows []
  by_test true e = filter_all (λ row. brick_of sizes row.coords == number) rows (All-weaker (λ row. brick_of sizes row.coords ≡ brick) (λ row. (brick_of sizes row.coords == number) ≡ true) (λ row i. is_one (brick_of sizes row.coords) brick number i e) rows h)
  by_test false e = filter_none (λ row. brick_of sizes row.coords == number) rows (All-weaker (λ row. brick_of sizes row.coords ≡ brick) (λ row. (brick_of sizes row.coords == number) ≡ false) (λ row i. is_other (brick_of sizes row.coords) brick number i e) rows h)

-- the rows before a place, and those of the next run
pub rows_joined : (from to : ℕ) (rows : List CodedRow) → from ≤ to → take to rows ≡ take from rows ++ rows_between from to rows
rows_joined from to rows l = ap (λ n. take n rows) (omega arith) ∙ take-add from (to - from) rows

pub run_rows : (sizes : List Size) (rows : List CodedRow) (from number : ℕ) (run : BatchRun) → IsRunFrom sizes rows from run → rows_of_brick sizes number (take run.to rows) ≡ rows_of_brick sizes number (take from rows) ++ cond (number == run.number) (rows_between run.from run.to rows) []
run_rows sizes rows from number run h =
    let between = rows_between run.from run.to rows in
    ap (rows_of_brick sizes number) (rows_joined run.from run.to rows (omega (arith, h.some)))
    ∙ filter-append (λ row. brick_of sizes row.coords == number) (take run.from rows) between
    ∙ (λ t. rows_of_brick sizes number (take (h.begins t) rows) ++ rows_of_run sizes number run.number between h.of_brick t)

-- rows of a brick without a run
pub no_rows : (sizes : List Size) (rows : List CodedRow) (from number : ℕ) (runs : List BatchRun) → AreRuns sizes rows from runs → has_run number runs ≡ false → rows_of_brick sizes number (drop from rows) ≡ []
no_rows sizes rows from number [] h e = ap (rows_of_brick sizes number) (drop_all from rows (omega (arith, h)))
no_rows sizes rows from number (run ∷ runs) h e = by_test (λ f. no_rows sizes rows run.to number runs h.1 f) (run.number == number) refl e where
  flip : (a b : ℕ) → (a == b) ≡ false → (b == a) ≡ false
  flip a b h = grind (arith, nat_tests)

  cut : drop from rows ≡ (rows_between run.from run.to rows) ++ drop run.to rows
  cut =
      ap (λ n. drop n rows) (sym h.0.begins)
      ∙ sym (take-append-drop (run.to - run.from) (drop run.from rows))
      ∙ ap (λ l. (rows_between run.from run.to rows) ++ l) (drop-drop (run.to - run.from) run.from rows ∙ ap (λ n. drop n rows) (omega (arith, h.0.some)))

  by_test : (has_run number runs ≡ false → rows_of_brick sizes number (drop run.to rows) ≡ []) → (t : Bool) → (run.number == number) ≡ t → (t || has_run number runs) ≡ false → rows_of_brick sizes number (drop from rows) ≡ []
  by_test again true k f = cc
  by_test again false k f =
      ap (rows_of_brick sizes number) cut
      ∙ filter-append (λ row. brick_of sizes row.coords == number) (rows_between run.from run.to rows) (drop run.to rows)
      ∙ (λ t. (rows_of_run sizes number run.number (rows_between run.from run.to rows) h.0.of_brick ∙ ap (λ t. cond t (rows_between run.from run.to rows) []) (flip run.number number k)) t ++ again f t)

-- what a brick has after rows that it takes
pub taken : (epoch : ℕ) (rows : List CodedRow) (b : BrickState) → 0 < length rows → content_of_brick (brick_with_rows epoch rows b) ≡ content_with_rows epoch rows (content_of_brick b)
taken epoch [] b l = absurd (omega arith)
taken epoch (row ∷ rows) b l = refl

-- a run is put behind others
pub runs_put : (sizes : List Size) (rows : List CodedRow) (from : ℕ) (runs more : List BatchRun) (run : BatchRun) → more ≡ runs ++ run ∷ [] → ((tail : List BatchRun) → AreRuns sizes rows from tail → AreRuns sizes rows 0 (runs ++ tail)) → IsRunFrom sizes rows from run → (tail : List BatchRun) → AreRuns sizes rows run.to tail → AreRuns sizes rows 0 (more ++ tail)
runs_put sizes rows from runs more run e before is tail after =
    let joined : more ++ tail ≡ runs ++ run ∷ tail = ap (λ (l : List BatchRun). l ++ tail) e ∙ append_assoc runs (run ∷ []) tail in
    subst (AreRuns sizes rows 0) (sym joined) (before (run ∷ tail) (is, after))

-- numbers that rise so far
pub rise_more : (runs : List BatchRun) (i low : ℕ) → i < length runs → ((tail : List BatchRun) → RunsRiseFrom low tail → RunsRiseFrom 0 (take i runs ++ tail)) → low ≤ (run_at runs i).number → (tail : List BatchRun) → RunsRiseFrom ((run_at runs i).number + 1) tail → RunsRiseFrom 0 (take (i + 1) runs ++ tail)
rise_more runs i low l before least tail after =
    let d : BatchRun = record { number = 0; from = 0; to = 0 } in
    let run = run_at runs i in
    let joined : take (i + 1) runs ++ tail ≡ take i runs ++ run ∷ tail = ap (λ (l : List BatchRun). l ++ tail) (take_more runs i d l) ∙ append_assoc (take i runs) (run ∷ []) tail in
    subst (RunsRiseFrom 0) (sym joined) (before (run ∷ tail) (least, after))

pub run_there : (rows from i : ℕ) (runs : List BatchRun) → i < length runs → AreRunsOver rows from runs → (run_at runs i).from < (run_at runs i).to
run_there rows from i [] l h = absurd (omega arith)
run_there rows from zero (run ∷ runs) l h = h.1
run_there rows from (suc i) (run ∷ runs) l h = run_there rows run.to i runs (omega arith) h.3

-- one more row of a run
pub between_row : (from to : ℕ) (rows : List CodedRow) → from ≤ to → to < length rows → rows_between from (to + 1) rows ≡ rows_between from to rows ++ coded_row_at rows to ∷ []
between_row from to rows l m =
    let d : CodedRow = record { coords = []; metrics = [] } in
    let long : to - from < length (drop from rows) = omega (arith, length-drop from rows) in
    ap (λ n. take n (drop from rows)) (omega arith)
    ∙ take_more (drop from rows) (to - from) d long
    ∙ ap (λ (row : CodedRow). rows_between from to rows ++ row ∷ []) (get_or-drop from rows (to - from) d ∙ ap (coded_row_at rows) (omega arith))

pub between_first : (P : CodedRow → Type 0) (from : ℕ) (rows : List CodedRow) → from < length rows → P (coded_row_at rows from) → All P (rows_between from (from + 1) rows)
between_first P from rows l p =
    let zero_long : from - from ≡ 0 = omega arith in
    let none : rows_between from from rows ≡ [] = ap (λ n. take n (drop from rows)) zero_long in
    subst (All P) (sym (between_row from from rows (omega arith) l ∙ ap (λ (l : List CodedRow). l ++ coded_row_at rows from ∷ []) none)) (All-cons P (coded_row_at rows from) [] p (All-nil P))

pub between_next : (P : CodedRow → Type 0) (from to : ℕ) (rows : List CodedRow) → from ≤ to → to < length rows → All P (rows_between from to rows) → P (coded_row_at rows to) → All P (rows_between from (to + 1) rows)
between_next P from to rows l m before p = subst (All P) (sym (between_row from to rows l m)) (All-push P (rows_between from to rows) (coded_row_at rows to) before p)
