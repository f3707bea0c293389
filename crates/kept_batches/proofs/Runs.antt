-- The rows of a part that are seen, run by run.
use Rattle.std.proofs.Common.{◌≡◌, ℕ, ◌+◌, ◌-◌, ◌<◌, ◌≤◌, ◌&&◌, Bool, true, false, not, nat_lt, List, [], ◌∷◌, ◌++◌, Some, length, take, drop, sym, ◌∙◌, inl, inr, arith}
use Rattle.std.specs.List.{AllByRecursion}
use Rattle.std.proofs.lemmas.Bool.{cases_Bool, cond-true, cond-false}
use Rattle.std.proofs.lemmas.Bool.Decides.{nat_tests}
use Rattle.std.proofs.lemmas.List.{take_all}
use Rattle.cube_values.specs.declared.entry.Entry.{Entry}
use Rattle.cube_values.specs.declared.entry.Entry.TheVariants.{Run, Mark}
use Rattle.cube_values.specs.declared.row.CodedRow.{CodedRow}
use Rattle.cube_values.specs.declared.snapshot.Snapshot.{Snapshot}
use Rattle.cube_values.specs.Batches.{rows_between}
use Rattle.cube_values.specs.EpochsVector.{Leads, epoch_at}
use Rattle.cube_values.specs.Sees.{sees}
use Rattle.cube_rounds.specs.Bricks.{BrickPart}
use Rattle.cube_rounds.specs.Demands.{IsOfEpochs}
use Rattle.cube_rounds.proofs.Leads.{leads_up}
use Rattle.epochs_vector.specs.declared.limit.Limit.{Limit}
use Rattle.epochs_vector.specs.Limits.{is_below}
use Rattle.kept_batches.specs.Unhidden.{rows_at_places, rows_of_run, rows_of_runs, unhidden_rows}
use Rattle.kept_batches.proofs.Alls.{all_append, all_drop, all_if, all_take}
use Rattle.kept_batches.proofs.Places.{places_append, places_alike, no_places, places_from, between_from, between_long, between_parts, all_places}

pub in_run : (rest : List Entry) (j end i : ℕ) → i < end → epoch_at (Run j end ∷ rest) i ≡ Some j
in_run rest j end i h = let e : nat_lt i end ≡ true = grind (arith, nat_tests) in rw e

pub past_run : (rest : List Entry) (j end i : ℕ) → end ≤ i → epoch_at (Run j end ∷ rest) i ≡ epoch_at rest i
past_run rest j end i h = let e : nat_lt i end ≡ false = grind (arith, nat_tests) in rw e

-- A test says of each place whether its row is seen: it is of an epoch that the snapshot sees, and not below the limit.
abbrev pub TellsSeen : Snapshot → Limit → ℕ → ℕ → List Entry → ℕ → (ℕ → Bool) → Type 0
TellsSeen s limit low up entries from test =
    (j i : ℕ) → low < j → j ≤ up → from ≤ i → epoch_at entries i ≡ Some j
    → test i ≡ (sees s j && not (is_below limit j i))

run_rows : (s : Snapshot) (limit : Limit) (j from end : ℕ) (rows : List CodedRow) (test : ℕ → Bool) → from ≤ end
    → end ≤ length rows
    → ((i : ℕ) → from ≤ i → i < end → test i ≡ (sees s j && not (is_below limit j i)))
    → rows_at_places test from (rows_between from end rows) ≡ rows_of_run s limit j from end rows
run_rows s limit j from end rows test le within same =
    let xs = rows_between from end rows in
    let long : length xs ≡ end - from = between_long from end rows le within in
    let left : ℕ → Bool = λ i. not (is_below limit j i) in
    elim (cases_Bool (sees s j)) [
      | inl yes' ↦
          places_alike test left from from xs
          (λ n lt. same (from + n) (omega arith) (omega arith) ∙ λ k. yes' k && left (from + n))
          ∙ sym (cond-true (sees s j) (rows_at_places left from xs) [] yes')
      | inr no' ↦
          no_places test from xs
          (λ n lt. same (from + n) (omega arith) (omega arith) ∙ λ k. no' k && left (from + n))
          ∙ sym (cond-false (sees s j) (rows_at_places left from xs) [] no')
    ]

pub runs_rows : (s : Snapshot) (limit : Limit) (low up : ℕ) (rows : List CodedRow) (test : ℕ → Bool) (from : ℕ)
    (entries : List Entry) → Leads from entries (length rows) → AllByRecursion (IsOfEpochs low up) entries
    → TellsSeen s limit low up entries from test
    → rows_at_places test from (rows_between from (length rows) rows) ≡ rows_of_runs s limit rows from entries
runs_rows s limit low up rows test from [] leads epochs tells =
    let e : length rows - from ≡ 0 = omega (arith, leads) in λ k. rows_at_places test from (take (e k) (drop from rows))
runs_rows s limit low up rows test from (Run j end ∷ entries) leads epochs tells =
    let n = length rows in
    let up_to = leads_up end entries n leads.1 in
    let le : from ≤ end = omega (arith, leads.0) in
    let long : from + length (rows_between from end rows) ≡ end = omega (arith, between_long from end rows le up_to) in
    let xs = rows_between from end rows in
    let ys = rows_between end n rows in
    let first = run_rows s limit j from end rows test le up_to
    (λ i a b. tells j i epochs.0.above epochs.0.within a (in_run entries j end i b)) in
    let rest = runs_rows s limit low up rows test end entries leads.1 epochs.1
    (λ other i a b c d. tells other i a b (omega arith) (past_run entries j end i c ∙ d)) in
    (λ k. rows_at_places test from (between_parts from end n rows le up_to k))
    ∙ places_append test from xs ys
    ∙ (λ k. rows_at_places test from xs ++ rows_at_places test (long k) ys)
    ∙ λ k. first k ++ rest k
runs_rows s limit low up rows test from (Mark d at ∷ entries) leads epochs tells =
    runs_rows s limit low up rows test from entries leads.1 epochs.1 tells

-- so of a part
pub part_rows : (s : Snapshot) (limit : Limit) (low up : ℕ) (test : ℕ → Bool) (part : BrickPart)
    → Leads 0 part.entries (length part.rows) → AllByRecursion (IsOfEpochs low up) part.entries
    → TellsSeen s limit low up part.entries 0 test
    → rows_at_places test 0 part.rows ≡ unhidden_rows s limit part
part_rows s limit low up test part leads epochs tells =
    let whole : part.rows ≡ rows_between 0 (length part.rows) part.rows =
    sym (take_all (length part.rows - 0) part.rows (omega arith)) in
    (λ k. rows_at_places test 0 (whole k)) ∙ runs_rows s limit low up part.rows test 0 part.entries leads epochs tells

-- a run that is seen, from the first row that is not below the limit on
pub run_from_first : (s : Snapshot) (limit : Limit) (j from first end : ℕ) (rows : List CodedRow) → sees s j ≡ true
    → from ≤ first → first ≤ end → end ≤ length rows
    → ((i : ℕ) → from ≤ i → i < end → is_below limit j i ≡ nat_lt i first)
    → rows_of_run s limit j from end rows ≡ rows_between first end rows
run_from_first s limit j from first end rows seen low high within below =
    let xs = rows_between from end rows in
    let long : length xs ≡ end - from = between_long from end rows (omega arith) within in
    let left : ℕ → Bool = λ i. not (is_below limit j i) in
    cond-true (sees s j) (rows_at_places left from xs) [] seen
    ∙ places_from left from first xs (λ n lt k. not (below (from + n) (omega arith) (omega arith) k))
    ∙ between_from from first end rows low high

-- what holds of each row of a part holds of each that is not hidden
pub all_runs : (P : CodedRow → Type 0) (s : Snapshot) (limit : Limit) (rows : List CodedRow) (from : ℕ)
    (entries : List Entry) → AllByRecursion P rows → AllByRecursion P (rows_of_runs s limit rows from entries)
all_runs P s limit rows from [] all = tt
all_runs P s limit rows from (Run j end ∷ entries) all =
    let xs = rows_between from end rows in
    let left : ℕ → Bool = λ i. not (is_below limit j i) in
    let here = all_take P (end - from) (drop from rows) (all_drop P from rows all) in
    all_append P (rows_of_run s limit j from end rows) (rows_of_runs s limit rows end entries)
    (all_if P (sees s j) (rows_at_places left from xs) [] (λ e. all_places P left from xs here) (λ e. tt))
    (all_runs P s limit rows end entries all)
all_runs P s limit rows from (Mark d at ∷ entries) all = all_runs P s limit rows from entries all
