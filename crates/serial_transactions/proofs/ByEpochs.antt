-- Transactions put in the order of their epochs.
use Rattle.std.proofs.Common.{◌≡◌, ◌∙◌, ℕ, zero, suc, ◌+◌, ◌<◌, ◌≤◌, ◌==◌, Bool, true, false, not, ◌&&◌, cond, nat_le, List, [], ◌∷◌, ◌++◌, length, filter, fold, append-nil, append_assoc, if◌then◌else◌, inl, inr, refl, sym, ap, subst, arith, eqb-true}
use Rattle.std.specs.List.{AllByRecursion, flat_map, list_any}
use Rattle.std.specs.List.Sorted.{IsPermutation}
use Rattle.std.proofs.lemmas.Bool.Decides.{eqb_tells, nat_tests}
use Rattle.std.proofs.lemmas.List.Elements.{filter-append}
use Rattle.std.proofs.lemmas.List.Sums.{fold-append}
use Rattle.cube_values.specs.Running.{after_operation, after_transaction, rows_left_by}
use Rattle.cube_values.specs.Sees.{sees}
use Rattle.cube_values.specs.Visible.{PlacedOperation, RisesByEpoch, hides, placed_operations, remaining_rows, rows_put, visible_rows}
use Rattle.cube_values.specs.declared.operation.Transaction.{Transaction}
use Rattle.cube_values.specs.declared.row.StoredRow.{StoredRow}
use Rattle.cube_values.specs.declared.snapshot.Snapshot.{Snapshot}
use Rattle.cube_values.proofs.WhatIsLeft.{what_is_left}
use Rattle.serial_transactions.specs.SerialTransactions.{AreOfOwnEpochs, operations_of_epoch, stored_left_below, transactions_of_epoch}
use Rattle.serial_transactions.proofs.Rearranged.{Rearranged, any-same, keep, mapped, passed, past, permuted, joined, same}

-- The transactions of the epochs below a limit, epoch by epoch.
abbrev by_epochs : ℕ → List Transaction → List Transaction
by_epochs zero ts = []
by_epochs (suc m) ts = by_epochs m ts ++ transactions_of_epoch ts m

-- ---- they are the same ones

-- One more in front does not count below its epoch, and stands somewhere among them above.
below-epoch : (m : ℕ) (t : Transaction) (ts : List Transaction) → m ≤ t.epoch
    → by_epochs m (t ∷ ts) ≡ by_epochs m ts
below-epoch zero t ts low = refl
below-epoch (suc m) t ts low = elim (eqb_tells t.epoch m) [
  | inl here ↦ (let is = here.1 in absurd (omega (arith, is, low)))
  | inr other ↦
      (λ i.
      below-epoch m t ts (omega (arith, low)) i
      ++ cond (other.0 i) (t ∷ transactions_of_epoch ts m) (transactions_of_epoch ts m))
]

record StandsAmong (t : Transaction) (all others : List Transaction) : Type 0 where
  front : List Transaction
  back : List Transaction
  all_are : all ≡ front ++ t ∷ back
  others_are : others ≡ front ++ back

among : (m : ℕ) (t : Transaction) (ts : List Transaction) → t.epoch < m
    → StandsAmong t (by_epochs m (t ∷ ts)) (by_epochs m ts)
among zero t ts low = absurd (omega (arith, low))
among (suc m) t ts low = elim (eqb_tells t.epoch m) [
  | inl here ↦ (
      let is = here.1 in
      record {
        front = by_epochs m ts;
        back = transactions_of_epoch ts m;
        all_are = λ i.
            below-epoch m t ts (omega (arith, is)) i
            ++ cond (here.0 i) (t ∷ transactions_of_epoch ts m) (transactions_of_epoch ts m);
        others_are = refl;
      })
  | inr other ↦ (
      let no = other.1 in
      let s = among m t ts (omega (arith, no, low)) in
      record {
        front = s.front;
        back = s.back ++ transactions_of_epoch ts m;
        all_are =
            (λ i. s.all_are i ++ cond (other.0 i) (t ∷ transactions_of_epoch ts m) (transactions_of_epoch ts m))
            ∙ append_assoc s.front (t ∷ s.back) (transactions_of_epoch ts m);
        others_are =
            ap (λ (xs : List Transaction). xs ++ transactions_of_epoch ts m) s.others_are
            ∙ append_assoc s.front s.back (transactions_of_epoch ts m);
      })
]

in-order : (m : ℕ) (ts : List Transaction) → AllByRecursion (λ t. t.epoch < m) ts → Rearranged ts (by_epochs m ts)
in-order m [] low = subst (λ (xs : List Transaction). Rearranged [] xs) (sym (none m)) (same [])
  where
    none : (m : ℕ) → by_epochs m [] ≡ []
    none zero = refl
    none (suc m) = ap (λ (xs : List Transaction). xs ++ []) (none m)
in-order m (t ∷ ts) low =
    let s = among m t ts low.0 in
    subst (λ (xs : List Transaction). Rearranged (t ∷ ts) xs) (sym s.all_are)
    (joined (t ∷ ts) (t ∷ (s.front ++ s.back)) (s.front ++ t ∷ s.back)
    (keep t ts (s.front ++ s.back)
    (subst (λ (xs : List Transaction). Rearranged ts xs) s.others_are (in-order m ts low.1)))
    (past t s.front s.back))

-- ---- their epochs rise

of-epoch : (m : ℕ) (ts : List Transaction) → AllByRecursion (λ t. t.epoch ≡ m) (transactions_of_epoch ts m)
of-epoch m [] = tt
of-epoch m (t ∷ ts) = at (t.epoch == m) refl (of-epoch m ts)
  where
    at : (b : Bool) → (t.epoch == m) ≡ b → AllByRecursion (λ t. t.epoch ≡ m) (transactions_of_epoch ts m)
        → AllByRecursion (λ t. t.epoch ≡ m) (cond b (t ∷ transactions_of_epoch ts m) (transactions_of_epoch ts m))
    at true is rest = (eqb-true t.epoch m is, rest)
    at false is rest = rest

all-both : {X : Type 0} (P : X → Type 0) (xs ys : List X) → AllByRecursion P xs → AllByRecursion P ys
    → AllByRecursion P (xs ++ ys)
all-both P [] ys h k = k
all-both P (x ∷ xs) ys h k = (h.0, all-both P xs ys h.1 k)

all-weaker : {X : Type 0} (P Q : X → Type 0) → ((x : X) → P x → Q x) → (xs : List X) → AllByRecursion P xs
    → AllByRecursion Q xs
all-weaker P Q f [] h = tt
all-weaker P Q f (x ∷ xs) h = (f x h.0, all-weaker P Q f xs h.1)

all-below : (m : ℕ) (ts : List Transaction) → AllByRecursion (λ t. t.epoch < m) (by_epochs m ts)
all-below zero ts = tt
all-below (suc m) ts =
    all-both (λ (t : Transaction). t.epoch < suc m) (by_epochs m ts) (transactions_of_epoch ts m)
    (all-weaker (λ (t : Transaction). t.epoch < m) (λ (t : Transaction). t.epoch < suc m)
    (λ t low. omega (arith, low)) (by_epochs m ts) (all-below m ts))
    (all-weaker (λ (t : Transaction). t.epoch ≡ m) (λ (t : Transaction). t.epoch < suc m)
    (λ t is. omega (arith, is)) (transactions_of_epoch ts m) (of-epoch m ts))

rises-more : (xs : List Transaction) (t : Transaction) → RisesByEpoch xs → AllByRecursion (λ u. u.epoch < t.epoch) xs
    → RisesByEpoch (xs ++ t ∷ [])
rises-more [] t rises low = (tt, tt)
rises-more (x ∷ xs) t rises low = (
  all-both (λ (u : Transaction). x.epoch < u.epoch) xs (t ∷ []) rises.0 (low.0, tt),
  rises-more xs t rises.1 low.1,
)

rises-with : (m : ℕ) (xs group : List Transaction) → RisesByEpoch xs → AllByRecursion (λ u. u.epoch < m) xs
    → AllByRecursion (λ t. t.epoch ≡ m) group → length group ≤ 1 → RisesByEpoch (xs ++ group)
rises-with m xs [] rises low of one = subst RisesByEpoch (sym (append-nil xs)) rises
rises-with m xs (t ∷ []) rises low of one =
    let is = of.0 in
    rises-more xs t rises
    (all-weaker (λ (u : Transaction). u.epoch < m) (λ (u : Transaction). u.epoch < t.epoch)
    (λ u below. omega (arith, below, is)) xs low)
rises-with m xs (t ∷ u ∷ group) rises low of one = absurd (omega (arith, one))

rises : (m : ℕ) (ts : List Transaction) → AreOfOwnEpochs ts → RisesByEpoch (by_epochs m ts)
rises zero ts own = tt
rises (suc m) ts own =
    rises-with m (by_epochs m ts) (transactions_of_epoch ts m) (rises m ts own) (all-below m ts) (of-epoch m ts) (own m)

-- ---- what they leave

run-group : (rows : List StoredRow) (group : List Transaction)
    → fold after_transaction rows group ≡ fold after_operation rows (flat_map (λ (t : Transaction). t.operations) group)
run-group rows [] = refl
run-group rows (t ∷ group) =
    run-group (after_transaction rows t) group
    ∙ sym (fold-append after_operation rows t.operations (flat_map (λ (t : Transaction). t.operations) group))

either-way : (b : Bool) (xs : List Transaction) → xs ≡ (if b then xs else xs)
either-way true xs = refl
either-way false xs = refl

seen-group : (s : Snapshot) (m : ℕ) (group : List Transaction) → AllByRecursion (λ t. t.epoch ≡ m) group
    → filter (λ t. sees s t.epoch) group ≡ (if sees s m then group else [])
seen-group s m [] of = either-way (sees s m) []
seen-group s m (t ∷ group) of =
    (λ i. cond (sees s (of.0 i)) (t ∷ seen-group s m group of.1 i) (seen-group s m group of.1 i)) ∙ at (sees s m)
  where
    at : (b : Bool) → cond b (t ∷ (if b then group else [])) (if b then group else []) ≡ (if b then t ∷ group else [])
    at true = refl
    at false = refl

left-by : (s : Snapshot) (m : ℕ) (ts : List Transaction)
    → rows_left_by (filter (λ t. sees s t.epoch) (by_epochs m ts))
    ≡ stored_left_below m (sees s) (operations_of_epoch ts)
left-by s zero ts = refl
left-by s (suc m) ts =
    ap rows_left_by (filter-append (λ (t : Transaction). sees s t.epoch) (by_epochs m ts) (transactions_of_epoch ts m))
    ∙ fold-append after_transaction [] (filter (λ t. sees s t.epoch) (by_epochs m ts))
    (filter (λ t. sees s t.epoch) (transactions_of_epoch ts m))
    ∙ (λ i. fold after_transaction (left-by s m ts i)
    (seen-group s m (transactions_of_epoch ts m) (of-epoch m ts) i))
    ∙ at (sees s m) (stored_left_below m (sees s) (operations_of_epoch ts))
  where
    at : (b : Bool) (rows : List StoredRow)
        → fold after_transaction rows (if b then transactions_of_epoch ts m else [])
        ≡ (if b then fold after_operation rows (operations_of_epoch ts m) else rows)
    at true rows = run-group rows (transactions_of_epoch ts m)
    at false rows = refl

-- Epochs above a snapshot's own leave nothing more.
not-seen : (s : Snapshot) (e : ℕ) → s.epoch < e → sees s e ≡ false
not-seen s e high = ap (λ (b : Bool). b && not (list_any (λ dep. dep == e) s.deps)) (above e s.epoch high)
  where
    above : (m n : ℕ) → n < m → nat_le m n ≡ false
    above m n high = grind (arith, nat_tests)

left-above : (s : Snapshot) (n : ℕ) (ts : List Transaction)
    → stored_left_below (s.epoch + 1 + n) (sees s) (operations_of_epoch ts)
    ≡ stored_left_below (s.epoch + 1) (sees s) (operations_of_epoch ts)
left-above s zero ts =
    let is : s.epoch + 1 + 0 ≡ s.epoch + 1 = omega arith in
    ap (λ (k : ℕ). stored_left_below k (sees s) (operations_of_epoch ts)) is
left-above s (suc n) ts =
    let is : s.epoch + 1 + suc n ≡ suc (s.epoch + 1 + n) = omega arith in
    ap (λ (k : ℕ). stored_left_below k (sees s) (operations_of_epoch ts)) is
    ∙ ap (λ (b : Bool). if b
    then fold after_operation (stored_left_below (s.epoch + 1 + n) (sees s) (operations_of_epoch ts))
    (operations_of_epoch ts (s.epoch + 1 + n))
    else stored_left_below (s.epoch + 1 + n) (sees s) (operations_of_epoch ts))
    (not-seen s (s.epoch + 1 + n) (omega arith))
    ∙ left-above s n ts

-- ---- what is seen does not depend on the order

abbrev rows_shown : List PlacedOperation → PlacedOperation → List StoredRow
rows_shown all put = filter (λ row. not (list_any (λ drop. hides drop put row) all)) (rows_put put.operation)

pub filter-made : {X Y : Type 0} (test : Y → Bool) (f : X → List Y) (xs : List X)
    → filter test (flat_map f xs) ≡ flat_map (λ (x : X). filter test (f x)) xs
filter-made test f [] = refl
filter-made {X} test f (x ∷ xs) =
    filter-append test (f x) (flat_map f xs) ∙ ap (λ ys. filter test (f x) ++ ys) (filter-made test f xs)

remain-alike : (test : StoredRow → Bool) (xs ys : List PlacedOperation) → Rearranged xs ys
    → Rearranged (filter test (remaining_rows xs)) (filter test (remaining_rows ys))
remain-alike test xs ys r =
    let alike : rows_shown xs ≡ rows_shown ys =
    (λ i put. filter (λ row. not (any-same (λ drop. hides drop put row) xs ys r i)) (rows_put put.operation))
    in
    subst (λ (rows : List StoredRow). Rearranged (filter test (remaining_rows xs)) rows)
    (ap (λ (f : PlacedOperation → List StoredRow). filter test (flat_map f ys)) alike)
    (passed test (flat_map (rows_shown xs) xs) (flat_map (rows_shown xs) ys) (mapped (rows_shown xs) xs ys r))

visible-alike : (s : Snapshot) (test : StoredRow → Bool) (xs ys : List Transaction) → Rearranged xs ys
    → Rearranged (filter test (visible_rows s xs)) (filter test (visible_rows s ys))
visible-alike s test xs ys r =
    remain-alike test (filter (λ placed. sees s placed.epoch) (flat_map placed_operations xs))
    (filter (λ placed. sees s placed.epoch) (flat_map placed_operations ys))
    (passed (λ (placed : PlacedOperation). sees s placed.epoch) (flat_map placed_operations xs)
    (flat_map placed_operations ys) (mapped placed_operations xs ys r))

-- A number above all epochs.
abbrev above_epochs : List Transaction → ℕ
above_epochs [] = 0
above_epochs (t ∷ ts) = t.epoch + 1 + above_epochs ts

below-all : (n : ℕ) (ts : List Transaction) → above_epochs ts ≤ n → AllByRecursion (λ t. t.epoch < n) ts
below-all n [] high = tt
below-all n (t ∷ ts) high =
    let sum : t.epoch + 1 + above_epochs ts ≤ n = high in
    (omega (arith, sum), below-all n ts (omega (arith, sum)))

pub left-by-epochs : (s : Snapshot) (ts : List Transaction) (test : StoredRow → Bool) → AreOfOwnEpochs ts
    → IsPermutation (filter test (visible_rows s ts))
    (filter test (stored_left_below (s.epoch + 1) (sees s) (operations_of_epoch ts)))
left-by-epochs s ts test own =
    let n = s.epoch + 1 + above_epochs ts in
    let low = below-all n ts (omega arith) in
    subst (λ (rows : List StoredRow). IsPermutation (filter test (visible_rows s ts)) (filter test rows))
    (what_is_left s (by_epochs n ts) (rises n ts own)
    ∙ left-by s n ts
    ∙ left-above s (above_epochs ts) ts)
    (permuted (filter test (visible_rows s ts)) (filter test (visible_rows s (by_epochs n ts)))
    (visible-alike s test ts (by_epochs n ts) (in-order n ts low)))
