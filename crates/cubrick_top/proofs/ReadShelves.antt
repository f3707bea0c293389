-- The shelves of a run, of which the first gave the cubes file and the scripts.
use Rattle.std.proofs.Common.{◌≡◌, ◌∙◌, ℕ, zero, suc, ◌<◌, ◌≤◌, Bool, true, false, List, [], ◌∷◌, length, drop, get_or, set, ap, refl, sym, subst, arith, Option}
use Rattle.std.specs.Bool.{OnTrue}
use Rattle.cube_journal.specs.declared.reply.Reply.{Reply}
use Rattle.loaded_files.specs.CountedReplies.{GainsReplies}
use Rattle.played_runs.specs.Shelves.{ShelvesGoOn}

-- The first of a list and the others, also where it was set.
pub first-and-rest : {X : Type 0} (xs : List X) (x : X) → 1 ≤ length xs → x ≡ get_or xs 0 x → xs ≡ x ∷ drop 1 xs
first-and-rest [] x some is = absurd (omega (arith, some))
first-and-rest (y ∷ xs) x some is = ap (λ z. z ∷ xs) (sym is)

pub set-first : {X : Type 0} (xs : List X) (x : X) → 1 ≤ length xs → set xs 0 x ≡ x ∷ drop 1 xs
set-first [] x some = absurd (omega (arith, some))
set-first (y ∷ xs) x some = refl

-- Shelves of which the first tells and counts as another go on as with that one.
module _ {H : Type 0} (told : H → Option (List (List ℕ × List ℕ))) (fault_count absence_count : H → ℕ) (x y : H)
    (ys : List H) (same : told x ≡ told y) (faults : fault_count x ≡ fault_count y)
    (absences : absence_count x ≡ absence_count y) (after : List H) (replies : List (List Reply)) (sessions : ℕ)
    (some : 1 ≤ sessions) where
  abbrev Counted : List H → Type 0
  Counted before = (k : ℕ) (d : H) → k < sessions
      → GainsReplies [] (get_or replies k []) (fault_count (get_or before k d)) (fault_count (get_or after k d))
      (absence_count (get_or before k d)) (absence_count (get_or after k d))

  tell-as : ((k : ℕ) (d : H) → told (get_or after k d) ≡ told (get_or (x ∷ ys) k d))
      → (k : ℕ) (d : H) → told (get_or after k d) ≡ told (get_or (y ∷ ys) k d)
  tell-as tell zero d = tell zero d ∙ same
  tell-as tell (suc k) d = tell (suc k) d

  later-as : ((k : ℕ) (d : H) → fault_count (get_or (x ∷ ys) k d) ≤ fault_count (get_or after k d))
      → (k : ℕ) (d : H) → fault_count (get_or (y ∷ ys) k d) ≤ fault_count (get_or after k d)
  later-as later zero d = subst (λ (n : ℕ). n ≤ fault_count (get_or after zero d)) faults (later zero d)
  later-as later (suc k) d = later (suc k) d

  each-as : Counted (x ∷ ys) → Counted (y ∷ ys)
  each-as counted zero d less =
      coe 0 1 (i. GainsReplies [] (get_or replies zero []) (faults i) (fault_count (get_or after zero d)) (absences i)
      (absence_count (get_or after zero d))) (counted zero d less)
  each-as counted (suc k) d less = counted (suc k) d less

  counted-as : (whole : Bool) → OnTrue whole (Counted (x ∷ ys)) → OnTrue whole (Counted (y ∷ ys))
  counted-as true counted = each-as counted
  counted-as false counted = tt

  others-as : ((k : ℕ) (d : H) → sessions ≤ k → get_or after k d ≡ get_or (x ∷ ys) k d)
      → (k : ℕ) (d : H) → sessions ≤ k → get_or after k d ≡ get_or (y ∷ ys) k d
  others-as others zero d high = absurd (omega (arith, some, high))
  others-as others (suc k) d high = others (suc k) d high

  pub go-on-as : (whole : Bool) → ShelvesGoOn told fault_count absence_count sessions whole replies (x ∷ ys) after
      → ShelvesGoOn told fault_count absence_count sessions whole replies (y ∷ ys) after
  go-on-as whole s = record {
    as_many = s.as_many;
    tell = tell-as s.tell;
    later = later-as s.later;
    counted = counted-as whole s.counted;
    others = others-as s.others;
  }
