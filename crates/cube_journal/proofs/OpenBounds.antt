-- The bounds of open snapshots in the order of opening.
use Rattle.std.proofs.Common.{◌≡◌, ℕ, ◌≤◌, Bool, true, false, not, ◌==◌, List, [], ◌∷◌, ◌++◌, if◌then◌else◌, refl, arith}
use Rattle.cube_journal.specs.declared.counters.OpenSnapshot.{OpenSnapshot}
use Rattle.cube_journal.specs.Counters.{oldest_bound, snapshots_without}
use Rattle.cube_journal.specs.Order.{NeverFalls}

pub from-lower : (low lower high : ℕ) (xs : List OpenSnapshot) → lower ≤ low → NeverFalls low xs high
    → NeverFalls lower xs high
from-lower low lower high [] le n = omega arith
from-lower low lower high (o ∷ xs) le n = let first = n.0 in (omega arith, n.1)

pub to-higher : (low high higher : ℕ) (xs : List OpenSnapshot) → high ≤ higher → NeverFalls low xs high
    → NeverFalls low xs higher
to-higher low high higher [] le n = omega arith
to-higher low high higher (o ∷ xs) le n = (n.0, to-higher o.bound high higher xs le n.1)

keep-step : (b : Bool) (low high : ℕ) (o : OpenSnapshot) (xs : List OpenSnapshot) → low ≤ o.bound
    → NeverFalls o.bound xs high → NeverFalls low (if b then o ∷ xs else xs) high
keep-step true low high o xs le n = (le, n)
keep-step false low high o xs le n = from-lower o.bound low high xs le n

pub bounds-without : (session low high : ℕ) (xs : List OpenSnapshot) → NeverFalls low xs high
    → NeverFalls low (snapshots_without session xs) high
bounds-without session low high [] n = n
bounds-without session low high (o ∷ xs) n =
    keep-step (not (o.session == session)) low high o (snapshots_without session xs) n.0 (bounds-without session o.bound high xs n.1)

-- A snapshot opens with the top as its bound.
pub bounds-with : (low high : ℕ) (xs : List OpenSnapshot) (o : OpenSnapshot) → o.bound ≡ high → NeverFalls low xs high
    → NeverFalls low (xs ++ o ∷ []) high
bounds-with low high [] o is n = (omega arith, omega arith)
bounds-with low high (x ∷ xs) o is n = (n.0, bounds-with x.bound high xs o is n.1)

pub oldest-above : (low high : ℕ) (xs : List OpenSnapshot) → NeverFalls low xs high → low ≤ oldest_bound xs high
oldest-above low high [] n = n
oldest-above low high (o ∷ xs) n = n.0

pub from-oldest : (low high epoch : ℕ) (xs : List OpenSnapshot) → epoch ≤ oldest_bound xs high → NeverFalls low xs high
    → NeverFalls epoch xs high
from-oldest low high epoch [] le n = le
from-oldest low high epoch (o ∷ xs) le n = (le, n.1)

pub oldest-higher : (high higher : ℕ) (xs : List OpenSnapshot) → high ≤ higher
    → oldest_bound xs high ≤ oldest_bound xs higher
oldest-higher high higher [] le = le
oldest-higher high higher (o ∷ xs) le = omega arith

pub oldest-with : (high : ℕ) (xs : List OpenSnapshot) (o : OpenSnapshot) → o.bound ≡ high
    → oldest_bound (xs ++ o ∷ []) high ≡ oldest_bound xs high
oldest-with high [] o is = is
oldest-with high (x ∷ xs) o is = refl

oldest-step : (b : Bool) (high : ℕ) (o : OpenSnapshot) (xs : List OpenSnapshot) → NeverFalls o.bound xs high
    → o.bound ≤ oldest_bound (if b then o ∷ xs else xs) high
oldest-step true high o xs n = omega arith
oldest-step false high o xs n = oldest-above o.bound high xs n

pub oldest-without : (session low high : ℕ) (xs : List OpenSnapshot) → NeverFalls low xs high
    → oldest_bound xs high ≤ oldest_bound (snapshots_without session xs) high
oldest-without session low high [] n = omega arith
oldest-without session low high (o ∷ xs) n =
    oldest-step (not (o.session == session)) high o (snapshots_without session xs) (bounds-without session o.bound high xs n.1)
