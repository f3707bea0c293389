-- What holds at each index holds of all.
use Rattle.std.proofs.Common.{ℕ, zero, suc, ◌<◌, List, [], ◌∷◌, length, slice_index_or, arith}
use Rattle.std.specs.List.{AllByRecursion}

pub all-by-index : {X : Type 0} (P : X → Type 0) (xs : List X) (d : X) → ((k : ℕ) → k < length xs → P (slice_index_or xs k d))
    → AllByRecursion P xs
all-by-index P [] d each = tt
all-by-index P (x ∷ xs) d each =
    (each zero (omega arith), all-by-index P xs d (λ k low. each (suc k) (omega (arith, low))))
