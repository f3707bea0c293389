-- What a snapshot sees is what the transactions that it sees leave, run one after the other.
use Rattle.std.proofs.Common.{◌≡◌, ℕ, ◌+◌, ◌<◌, Bool, true, false, not, cond, ◌&&◌, ◌||◌, List, [], ◌∷◌, ◌++◌, map, filter, fold, refl, sym, ap, ◌∙◌, append_assoc, arith}
use Rattle.std.specs.List.{list_any, flat_map, enumerate_from, AllByRecursion}
use Rattle.std.proofs.lemmas.Bool.Decides.{nat_tests}
use Rattle.std.proofs.lemmas.List.Elements.{filter-append}
use Rattle.std.proofs.lemmas.List.Sums.{fold-append}
use Rattle.cube_values.specs.declared.operation.Operation.{Operation}
use Rattle.cube_values.specs.declared.operation.Operation.TheVariants.{Put, Drop}
use Rattle.cube_values.specs.declared.operation.Region.{Region}
use Rattle.cube_values.specs.declared.operation.Transaction.{Transaction}
use Rattle.cube_values.specs.declared.row.StoredRow.{StoredRow}
use Rattle.cube_values.specs.declared.snapshot.Snapshot.{Snapshot}
use Rattle.cube_values.specs.Regions.{region_has}
use Rattle.cube_values.specs.Sees.{sees}
use Rattle.cube_values.specs.Visible.{PlacedOperation, placed_operations, comes_before, rows_put, deletes, hides, remaining_rows, visible_rows, RisesByEpoch}
use Rattle.cube_values.specs.Running.{after_operation, after_transaction, rows_left_by}

-- ---- steps that come one before the other

-- each step comes before those that follow it
abbrev InOrder : List PlacedOperation → Type 0
InOrder [] = Unit {0}
InOrder (s ∷ later) = AllByRecursion (λ l. (comes_before s l ≡ true) × (comes_before l s ≡ false)) later × InOrder later

-- no step deletes the row
abbrev keeps : List PlacedOperation → StoredRow → Bool
keeps steps row = not (list_any (λ drop. deletes drop.operation row) steps)

-- the rows of a put that none of the steps hides
abbrev shown : List PlacedOperation → PlacedOperation → List StoredRow
shown steps put = filter (λ row. not (list_any (λ drop. hides drop put row) steps)) (rows_put put.operation)

abbrev run : List StoredRow → List PlacedOperation → List StoredRow
run rows steps = fold (λ rows step. after_operation rows step.operation) rows steps

and-true : (b : Bool) → (b && true) ≡ b
and-true true = refl
and-true false = refl

and-false : (b : Bool) → (b && false) ≡ false
and-false true = refl
and-false false = refl

-- of steps that all come after a put, those hide a row of it that delete it
hidden_first : (put : PlacedOperation) (row : StoredRow) (later : List PlacedOperation) → AllByRecursion (λ l. (comes_before put l ≡ true) × (comes_before l put ≡ false)) later
    → list_any (λ drop. hides drop put row) later ≡ list_any (λ drop. deletes drop.operation row) later
hidden_first put row [] h = refl
hidden_first put row (l ∷ later) h = λ i. (ap (λ b. deletes l.operation row && b) h.0.0 ∙ and-true (deletes l.operation row)) i || hidden_first put row later h.1 i

-- a step hides no row of a put that comes after it
not_hidden_first : (s put : PlacedOperation) (row : StoredRow) → comes_before put s ≡ false → hides s put row ≡ false
not_hidden_first s put row h = ap (λ b. deletes s.operation row && b) h ∙ and-false (deletes s.operation row)

-- so what is shown of later puts is the same with the step as without
same_later : (s : PlacedOperation) (steps later : List PlacedOperation) → AllByRecursion (λ l. (comes_before s l ≡ true) × (comes_before l s ≡ false)) later → flat_map (shown (s ∷ steps)) later ≡ flat_map (shown steps) later
same_later s steps [] h = refl
same_later s steps (l ∷ later) h = λ i. filter (λ row. not (not_hidden_first s l row h.0.1 i || list_any (λ drop. hides drop l row) steps)) (rows_put l.operation) ++ same_later s steps later h.1 i

filter-filter : (p q r : StoredRow → Bool) → ((x : StoredRow) → r x ≡ (q x && p x)) → (xs : List StoredRow) → filter p (filter q xs) ≡ filter r xs
filter-filter p q r h [] = refl
filter-filter p q r h (x ∷ xs) = at_head (q x) (h x) (filter-filter p q r h xs)
  where
    at_head : (b : Bool) → r x ≡ (b && p x) → filter p (filter q xs) ≡ filter r xs → filter p (cond b (x ∷ filter q xs) (filter q xs)) ≡ filter r (x ∷ xs)
    at_head true e rest = λ i. cond (sym e i) (x ∷ rest i) (rest i)
    at_head false e rest = rest ∙ ap (λ b. cond b (x ∷ filter r xs) (filter r xs)) (sym e)

not-or : (a b : Bool) → not (a || b) ≡ (not a && not b)
not-or true b = refl
not-or false b = refl

-- a step in front of steps that all come after it
abbrev Runs : List PlacedOperation → Type 0
Runs steps = (rows : List StoredRow) → run rows steps ≡ filter (keeps steps) rows ++ remaining_rows steps

-- the same rows, with the step that follows
abbrev AllAfter : PlacedOperation → List PlacedOperation → Type 0
AllAfter s later = AllByRecursion (λ l. (comes_before s l ≡ true) × (comes_before l s ≡ false)) later

put_is : (epoch place : ℕ) (new : List StoredRow) (later : List PlacedOperation) → let s : PlacedOperation = record { epoch = epoch; place = place; operation = Put new } in AllAfter s later → Runs later → Runs (s ∷ later)
put_is epoch place new later after rest rows =
    let s : PlacedOperation = record { epoch = epoch; place = place; operation = Put new } in
    let own : filter (keeps later) new ≡ shown (s ∷ later) s = λ i. filter (λ row. not (sym (hidden_first s row later after) i)) new in
    let others : remaining_rows later ≡ flat_map (shown (s ∷ later)) later = sym (same_later s later later after) in
    rest (rows ++ new)
    ∙ ap (λ kept. kept ++ remaining_rows later) (filter-append (keeps later) rows new)
    ∙ append_assoc (filter (keeps later) rows) (filter (keeps later) new) (remaining_rows later)
    ∙ (λ i. filter (keeps later) rows ++ (own i ++ others i))

drop_is : (epoch place : ℕ) (region : Region) (later : List PlacedOperation) → let s : PlacedOperation = record { epoch = epoch; place = place; operation = Drop region } in AllAfter s later → Runs later → Runs (s ∷ later)
drop_is epoch place region later after rest rows =
    let s : PlacedOperation = record { epoch = epoch; place = place; operation = Drop region } in
    let others : remaining_rows later ≡ flat_map (shown (s ∷ later)) later = sym (same_later s later later after) in
    rest (filter (λ row. not (region_has region row)) rows)
    ∙ (λ i. filter-filter (keeps later) (λ row. not (region_has region row)) (keeps (s ∷ later)) (λ row. not-or (region_has region row) (list_any (λ drop. deletes drop.operation row) later)) rows i ++ others i)

step_is : (epoch place : ℕ) (operation : Operation) (later : List PlacedOperation) → let s : PlacedOperation = record { epoch = epoch; place = place; operation = operation } in AllAfter s later → Runs later → Runs (s ∷ later)
step_is epoch place (Put new) later after rest = put_is epoch place new later after rest
step_is epoch place (Drop region) later after rest = drop_is epoch place region later after rest

filter_all : (xs : List StoredRow) → xs ≡ filter (λ row. true) xs ++ []
filter_all [] = refl
filter_all (x ∷ xs) = ap (λ ys. x ∷ ys) (filter_all xs)

-- Steps in order, run on rows, keep of them what none deletes, and add what remains of the steps.
run_is : (steps : List PlacedOperation) → InOrder steps → Runs steps
run_is [] h = filter_all
run_is (s ∷ later) h = step_is s.epoch s.place s.operation later h.0 (run_is later h.1)

-- ---- from transactions to steps

abbrev steps_from : ℕ → ℕ → List Operation → List PlacedOperation
steps_from epoch place operations = map (λ (p : ℕ × Operation). record { epoch = epoch; place = p.0; operation = p.1 }) (enumerate_from place operations)

run_steps : (epoch place : ℕ) (operations : List Operation) (rows : List StoredRow) → fold after_operation rows operations ≡ run rows (steps_from epoch place operations)
run_steps epoch place [] rows = refl
run_steps epoch place (o ∷ operations) rows = run_steps epoch (place + 1) operations (after_operation rows o)

run_transactions : (ts : List Transaction) (rows : List StoredRow) → fold after_transaction rows ts ≡ run rows (flat_map placed_operations ts)
run_transactions [] rows = refl
run_transactions (t ∷ ts) rows =
    run_transactions ts (after_transaction rows t)
    ∙ ap (λ so_far. run so_far (flat_map placed_operations ts)) (run_steps t.epoch 0 t.operations rows)
    ∙ sym (fold-append (λ rows step. after_operation rows step.operation) rows (placed_operations t) (flat_map placed_operations ts))

filter_steps : (p : ℕ → Bool) (epoch place : ℕ) (operations : List Operation) → filter (λ step. p step.epoch) (steps_from epoch place operations) ≡ cond (p epoch) (steps_from epoch place operations) []
filter_steps p epoch place [] = both (p epoch)
  where
    both : (b : Bool) → [] ≡ cond b (steps_from epoch place []) []
    both true = refl
    both false = refl
filter_steps p epoch place (o ∷ operations) = both (p epoch) (filter_steps p epoch (place + 1) operations)
  where
    both : (b : Bool) → filter (λ step. p step.epoch) (steps_from epoch (place + 1) operations) ≡ cond b (steps_from epoch (place + 1) operations) []
        → cond b (record { epoch = epoch; place = place; operation = o } ∷ filter (λ step. p step.epoch) (steps_from epoch (place + 1) operations)) (filter (λ step. p step.epoch) (steps_from epoch (place + 1) operations)) ≡ cond b (steps_from epoch place (o ∷ operations)) []
    both true e = ap (λ steps. record { epoch = epoch; place = place; operation = o } ∷ steps) e
    both false e = e

filter_transactions : (p : ℕ → Bool) (ts : List Transaction) → filter (λ step. p step.epoch) (flat_map placed_operations ts) ≡ flat_map placed_operations (filter (λ t. p t.epoch) ts)
filter_transactions p [] = refl
filter_transactions p (t ∷ ts) =
    filter-append (λ step. p step.epoch) (placed_operations t) (flat_map placed_operations ts)
    ∙ (λ i. filter_steps p t.epoch 0 t.operations i ++ filter_transactions p ts i)
    ∙ both (p t.epoch)
  where
    both : (b : Bool) → cond b (placed_operations t) [] ++ flat_map placed_operations (filter (λ t. p t.epoch) ts) ≡ flat_map placed_operations (cond b (t ∷ filter (λ t. p t.epoch) ts) (filter (λ t. p t.epoch) ts))
    both true = refl
    both false = refl

-- ---- the steps of transactions by rising epoch are in order

above_by_epoch : (a b : PlacedOperation) → a.epoch < b.epoch → (comes_before a b ≡ true) × (comes_before b a ≡ false)
above_by_epoch a b h = (grind (arith, nat_tests), grind (arith, nat_tests))

above_by_place : (a b : PlacedOperation) → a.epoch ≡ b.epoch → a.place < b.place → (comes_before a b ≡ true) × (comes_before b a ≡ false)
above_by_place a b e h = (grind (arith, nat_tests), grind (arith, nat_tests))

-- a step, then the later ones of its transaction, then the steps of later transactions
after_own : (s : PlacedOperation) (place : ℕ) (operations : List Operation) (later : List PlacedOperation) → s.place < place → AllByRecursion (λ l. s.epoch < l.epoch) later → AllAfter s (steps_from s.epoch place operations ++ later)
after_own s place [] [] h all = tt
after_own s place [] (l ∷ later) h all = (above_by_epoch s l all.0, after_own s place [] later h all.1)
after_own s place (o ∷ operations) later h all =
    (above_by_place s (record { epoch = s.epoch; place = place; operation = o }) refl h, after_own s (place + 1) operations later (omega arith) all)

own_in_order : (epoch place : ℕ) (operations : List Operation) (later : List PlacedOperation) → AllByRecursion (λ l. epoch < l.epoch) later → InOrder later → InOrder (steps_from epoch place operations ++ later)
own_in_order epoch place [] later all h = h
own_in_order epoch place (o ∷ operations) later all h =
    (after_own (record { epoch = epoch; place = place; operation = o }) (place + 1) operations later (omega arith) all, own_in_order epoch (place + 1) operations later all h)

later_steps : (epoch other place : ℕ) (operations : List Operation) (later : List PlacedOperation) → epoch < other → AllByRecursion (λ l. epoch < l.epoch) later → AllByRecursion (λ l. epoch < l.epoch) (steps_from other place operations ++ later)
later_steps epoch other place [] later h all = all
later_steps epoch other place (o ∷ operations) later h all = (h, later_steps epoch other (place + 1) operations later h all)

later_transactions : (epoch : ℕ) (ts : List Transaction) → AllByRecursion (λ u. epoch < u.epoch) ts → AllByRecursion (λ l. epoch < l.epoch) (flat_map placed_operations ts)
later_transactions epoch [] h = tt
later_transactions epoch (t ∷ ts) h = later_steps epoch t.epoch 0 t.operations (flat_map placed_operations ts) h.0 (later_transactions epoch ts h.1)

all_in_order : (ts : List Transaction) → RisesByEpoch ts → InOrder (flat_map placed_operations ts)
all_in_order [] h = tt
all_in_order (t ∷ ts) h = own_in_order t.epoch 0 t.operations (flat_map placed_operations ts) (later_transactions t.epoch ts h.0) (all_in_order ts h.1)

All-filter : (epoch : ℕ) (p : Transaction → Bool) (ts : List Transaction) → AllByRecursion (λ u. epoch < u.epoch) ts → AllByRecursion (λ u. epoch < u.epoch) (filter p ts)
All-filter epoch p [] h = tt
All-filter epoch p (t ∷ ts) h = both (p t) h.0 (All-filter epoch p ts h.1)
  where
    both : (b : Bool) → epoch < t.epoch → AllByRecursion (λ u. epoch < u.epoch) (filter p ts) → AllByRecursion (λ u. epoch < u.epoch) (cond b (t ∷ filter p ts) (filter p ts))
    both true here rest = (here, rest)
    both false here rest = rest

-- transactions that a snapshot sees rise as all do
pub RisesByEpoch-filter : (p : Transaction → Bool) (ts : List Transaction) → RisesByEpoch ts → RisesByEpoch (filter p ts)
RisesByEpoch-filter p [] h = tt
RisesByEpoch-filter p (t ∷ ts) h = both (p t) (All-filter t.epoch p ts h.0) (RisesByEpoch-filter p ts h.1)
  where
    both : (b : Bool) → AllByRecursion (λ u. t.epoch < u.epoch) (filter p ts) → RisesByEpoch (filter p ts) → RisesByEpoch (cond b (t ∷ filter p ts) (filter p ts))
    both true here rest = (here, rest)
    both false here rest = rest

pub what_is_left : (s : Snapshot) (transactions : List Transaction) → RisesByEpoch transactions → visible_rows s transactions ≡ rows_left_by (filter (λ t. sees s t.epoch) transactions)
what_is_left s transactions h =
    let seen : List Transaction = filter (λ t. sees s t.epoch) transactions in
    ap remaining_rows (filter_transactions (sees s) transactions)
    ∙ sym (run_is (flat_map placed_operations seen) (all_in_order seen (RisesByEpoch-filter (λ t. sees s t.epoch) transactions h)) [])
    ∙ sym (run_transactions seen [])
