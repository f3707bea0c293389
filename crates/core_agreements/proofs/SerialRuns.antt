-- What serial execution leaves of rows by coordinates stands for what it leaves of rows of values.
use Rattle.std.proofs.Common.{◌≡◌, ◌∙◌, ℕ, zero, suc, ◌<◌, Bool, true, false, List, [], ◌∷◌, length, fold, get_or, map, set, if◌then◌else◌, refl, sym, ap, arith}
use Rattle.std.specs.List.{swap}
use Rattle.std.specs.List.Sorted.{IsPermutation}
use Rattle.std.proofs.lemmas.List.{length-map, map-set, get_or-map}
use Rattle.std.proofs.lemmas.List.Elements.{All-from_recursion, recursion_from_All}
use Rattle.std.proofs.lemmas.List.Sorted.{All-permutation, IsPermutation-keeps, IsPermutation-refl, IsPermutation-swap, IsPermutation-trans}
use Rattle.cube_values.specs.Running.{after_operation}
use Rattle.cube_values.specs.declared.operation.Operation.{Operation}
use Rattle.cube_values.specs.declared.row.CodedRow.{CodedRow}
use Rattle.cube_values.specs.declared.row.StoredRow.{StoredRow}
use Rattle.cube_language.specs.declared.decl.Decl.{Decl}
use Rattle.query_plan.specs.Ties.{StandForValues, stored_for}
use Rattle.one_session.specs.Changes.{AllStandForValues, rows_in_cube}
use Rattle.core_events.specs.Serial.{CubeOperation, rows_after_transaction, rows_left_below}
use Rattle.core_events.specs.ShardView.{EpochSet}
use Rattle.serial_transactions.specs.SerialTransactions.{stored_left_below}
use Rattle.core_agreements.specs.PostsForOperations.{PostsStandFor, StandForAll}
use Rattle.core_agreements.proofs.PostsLeave.{posts-leave}

-- ---- epoch by epoch

coded-step : (b : Bool) (posts : List CubeOperation) (rows : List CodedRow)
    → (if b then rows_after_transaction posts rows else rows) ≡ rows_after_transaction (if b then posts else []) rows
coded-step true posts rows = refl
coded-step false posts rows = refl

stored-step : (b : Bool) (done : List Operation) (rows : List StoredRow)
    → (if b then fold after_operation rows done else rows) ≡ fold after_operation rows (if b then done else [])
stored-step true done rows = refl
stored-step false done rows = refl

-- Of an epoch, the posts that count stand for the operations that are seen.
abbrev pub StandsAt : Decl → List (List (List ℕ)) → EpochSet → (ℕ → List CubeOperation) → EpochSet
    → (ℕ → List Operation) → ℕ → Type 0
StandsAt d lists counts posts seen done epoch =
    PostsStandFor d lists (if counts epoch then posts epoch else []) (if seen epoch then done epoch else [])

none-stand : (d : Decl) (lists : List (List (List ℕ))) → StandForAll d lists [] []
none-stand d lists = record { ordered = []; moved = IsPermutation-refl []; come = record { are = refl; each = tt } }

pub serial-stands : (d : Decl) (lists : List (List (List ℕ))) (m : ℕ) (counts : EpochSet)
    (posts : ℕ → List CubeOperation) (seen : EpochSet) (done : ℕ → List Operation)
    → ((epoch : ℕ) → epoch < m → StandsAt d lists counts posts seen done epoch)
    → StandForAll d lists (rows_left_below m counts posts) (rows_in_cube d.name (stored_left_below m seen done))
serial-stands d lists zero counts posts seen done stand = none-stand d lists
serial-stands d lists (suc m) counts posts seen done stand =
    let rows = rows_left_below m counts posts in
    let stored = stored_left_below m seen done in
    let before = serial-stands d lists m counts posts seen done (λ epoch low. stand epoch (omega (arith, low))) in
    let after =
    posts-leave d lists (if counts m then posts m else []) (if seen m then done m else []) rows stored
    (stand m (omega arith)) before
    in
    coe 1 0 (i. StandForAll d lists (coded-step (counts m) (posts m) rows i)
    (rows_in_cube d.name (stored-step (seen m) (done m) stored i))) after

-- ---- rows of values in another order

mapped-swap : {X Y : Type 0} (f : X → Y) (xs : List X) (i j : ℕ) → i < length xs → j < length xs
    → map f (swap xs i j) ≡ swap (map f xs) i j
mapped-swap f [] i j low high = refl
mapped-swap {X} {Y} f (x ∷ xs) i j low high =
    let all = x ∷ xs in
    let long = length-map all f in
    map-set f (set all i (get_or all j x)) j (get_or all i x)
    ∙ ap (λ (l : List Y). set l j (f (get_or all i x))) (map-set f all i (get_or all j x))
    ∙ (λ k.
    set (set (map f all) i (sym (get_or-map f all j x (f x) high) k)) j (sym (get_or-map f all i x (f x) low) k))

pub each-moved : (d : Decl) (lists : List (List (List ℕ))) (rows others : List CodedRow) → IsPermutation rows others
    → AllStandForValues d lists rows → AllStandForValues d lists others
each-moved d lists rows others moved each =
    recursion_from_All (λ (row : CodedRow). StandForValues d lists row.coords) others
    (All-permutation (λ (row : CodedRow). StandForValues d lists row.coords) rows others moved
    (All-from_recursion (λ (row : CodedRow). StandForValues d lists row.coords) rows each))

pub stand-moved : (d : Decl) (lists : List (List (List ℕ))) (rows : List CodedRow) (stored others : List StoredRow)
    → StandForAll d lists rows stored → IsPermutation stored others → StandForAll d lists rows others
stand-moved d lists rows stored others h =
    IsPermutation-keeps stored (λ (l : List StoredRow). StandForAll d lists rows l) h step others
  where
    step : (l : List StoredRow) (i j : ℕ) → i < length l → j < length l → StandForAll d lists rows l
        → StandForAll d lists rows (swap l i j)
    step l i j low high k =
        let long : length l ≡ length k.ordered =
        ap length k.come.are ∙ length-map k.ordered (stored_for d.name lists)
        in
        let moved =
        IsPermutation-swap k.ordered (swap k.ordered i j) i j (omega (arith, low, long)) (omega (arith, high, long))
        refl
        in
        record {
          ordered = swap k.ordered i j;
          moved = IsPermutation-trans rows k.ordered (swap k.ordered i j) k.moved moved;
          come = record {
            are =
                ap (λ (xs : List StoredRow). swap xs i j) k.come.are
                ∙ sym (mapped-swap (stored_for d.name lists) k.ordered i j (omega (arith, low, long))
                (omega (arith, high, long)));
            each = each-moved d lists k.ordered (swap k.ordered i j) moved k.come.each;
          };
        }
