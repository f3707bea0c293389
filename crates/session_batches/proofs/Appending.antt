-- The calls that append batches: one to each shard with rows, in the order of the shards.
use Rattle.std.proofs.Common.{◌≡◌, ◌∙◌, ℕ, zero, suc, ◌+◌, ◌<◌, ◌≤◌, nat_eq, Bool, true, false, List, [], ◌∷◌, ◌++◌, All, length, slice_get, Some, refl, sym, ap, subst, arith, ne_eqb, if◌then◌else◌}
use Rattle.std.proofs.lemmas.Option.{none-some, same_Some}
use Rattle.std.specs.List.{AllByRecursion, IsDistinct}
use Rattle.cube_values.specs.Batches.{Batch}
use Rattle.cube_values.specs.declared.shape.CubeShape.{CubeShape}
use Rattle.cube_core.specs.BoardCells.{call_job}
use Rattle.core_events.specs.Groups.{Puts, kind_of}
use Rattle.cube_core.specs.declared.shard.ShardCall.{ShardCall}
use Rattle.cube_core.specs.declared.shard.ShardCall.TheVariants as shard
use Rattle.job_groups.specs.AskedEach.{AreOfOneKind, kind_of_calls}
use Rattle.shard_batches.specs.ShardBatches.{batch_at}
use Rattle.session_batches.specs.BatchCalls.{AreAppends, IsAppend, append_calls, numbers_with_rows}
use Rattle.session_batches.specs.RowPosts.{has_rows}

append-kind : (c : ShardCall) → IsAppend c → kind_of (call_job c) ≡ Puts
append-kind (shard.Append cube shape epoch rows) is = refl
append-kind c is = absurd is

pub append-at : (calls : List ShardCall) (n : ℕ) (c : ShardCall) → AreAppends calls → slice_get calls n ≡ Some c
    → IsAppend c
append-at [] n c are at = absurd (none-some c at)
append-at (d ∷ ds) zero c are at = subst IsAppend (same_Some d c at) are.0
append-at (d ∷ ds) (suc n) c are at = append-at ds n c are.1 at

pub kind-of-all : (calls : List ShardCall) → 1 ≤ length calls → AreAppends calls → kind_of_calls calls ≡ Puts
kind-of-all [] some are = absurd (omega (arith, some))
kind-of-all (c ∷ calls) some are = append-kind c are.0

pub one-kind : (calls : List ShardCall) → AreAppends calls → AreOfOneKind calls
one-kind [] are n c at = absurd (none-some c at)
one-kind (d ∷ ds) are n c at = append-kind c (append-at (d ∷ ds) n c are at) ∙ sym (append-kind d are.0)

-- One item or none before others.
all-by : {X : Type 0} (P : X → Type 0) (t : Bool) (x : X) (xs : List X) → P x → AllByRecursion P xs
    → AllByRecursion P ((if t then x ∷ [] else []) ++ xs)
all-by P true x xs is all = (is, all)
all-by P false x xs is all = all

all-with : {X : Type 0} (P : X → Type 0) (t : Bool) (x : X) (xs : List X) → P x → All P xs
    → All P ((if t then x ∷ [] else []) ++ xs)
all-with P true x xs is all zero d low = is
all-with P true x xs is all (suc k) d low = all k d (omega (arith, low))
all-with P false x xs is all k d low = all k d low

as-long : {X Y : Type 0} (t : Bool) (x : X) (y : Y) (xs : List X) (ys : List Y) → length xs ≡ length ys
    → length ((if t then x ∷ [] else []) ++ xs) ≡ length ((if t then y ∷ [] else []) ++ ys)
as-long true x y xs ys same = ap suc same
as-long false x y xs ys same = same

distinct-with : (t : Bool) (n : ℕ) (ns : List ℕ) → AllByRecursion (λ (m : ℕ). nat_eq n m ≡ false) ns
    → IsDistinct nat_eq ns
    → IsDistinct nat_eq ((if t then n ∷ [] else []) ++ ns)
unfolding IsDistinct
distinct-with true n ns apart distinct = (apart, distinct)
distinct-with false n ns apart distinct = distinct

differ : (n m : ℕ) → n < m → nat_eq n m ≡ false
differ n m lt = ne_eqb n m (λ same. absurd (omega (arith, lt, same)))

apart-from : (n first : ℕ) (bs : List Batch) → n < first
    → AllByRecursion (λ (m : ℕ). nat_eq n m ≡ false) (numbers_with_rows first bs)
apart-from n first [] lt = tt
apart-from n first (b ∷ bs) lt =
    all-by (λ (m : ℕ). nat_eq n m ≡ false) (has_rows b.rows) first (numbers_with_rows (first + 1) bs)
    (differ n first lt)
    (apart-from n (first + 1) bs (omega (arith, lt)))

-- No shard has two.
pub distinct-numbers : (first : ℕ) (bs : List Batch) → IsDistinct nat_eq (numbers_with_rows first bs)
unfolding IsDistinct
distinct-numbers first [] = tt
distinct-numbers first (b ∷ bs) =
    distinct-with (has_rows b.rows) first (numbers_with_rows (first + 1) bs)
    (apart-from first (first + 1) bs (omega arith))
    (distinct-numbers (first + 1) bs)

pub numbers-below : (first most : ℕ) (bs : List Batch) → first + length bs ≤ most
    → All (λ (n : ℕ). n < most) (numbers_with_rows first bs)
numbers-below first most [] within = λ k d low. absurd (omega (arith, low))
numbers-below first most (b ∷ bs) within =
    all-with (λ (n : ℕ). n < most) (has_rows b.rows) first (numbers_with_rows (first + 1) bs) (omega (arith, within))
    (numbers-below (first + 1) most bs (omega (arith, within)))

module _ (cube : ℕ) (shape : CubeShape) (epoch : ℕ) where
  pub are-appends : (bs : List Batch) → AreAppends (append_calls cube shape epoch bs)
  are-appends [] = tt
  are-appends (b ∷ bs) =
      all-by IsAppend (has_rows b.rows) (shard.Append cube shape epoch b) (append_calls cube shape epoch bs) tt
      (are-appends bs)

  pub call-for-each : (first : ℕ) (bs : List Batch)
      → length (append_calls cube shape epoch bs) ≡ length (numbers_with_rows first bs)
  call-for-each first [] = refl
  call-for-each first (b ∷ bs) =
      as-long (has_rows b.rows) (shard.Append cube shape epoch b) first (append_calls cube shape epoch bs)
      (numbers_with_rows (first + 1) bs)
      (call-for-each (first + 1) bs)

  -- The call of a number appends the batch of that shard.
  pub record IsCallOf (bs : List Batch) (first number : ℕ) (c : ShardCall) : Type 0 where
    pub place : ℕ
    pub low : place < length bs
    pub at : number ≡ first + place
    pub is : c ≡ shard.Append cube shape epoch (batch_at bs place)

  later : (b : Batch) (bs : List Batch) (first number : ℕ) (c : ShardCall) → IsCallOf bs (first + 1) number c
      → IsCallOf (b ∷ bs) first number c
  later b bs first number c of =
      let low = of.low in
      let at = of.at in
      record { place = suc of.place; low = omega (arith, low); at = omega (arith, at); is = of.is }

  call-with : (t : Bool) (b : Batch) (bs : List Batch) (ns : List ℕ) (cs : List ShardCall) (first number n : ℕ)
      (c : ShardCall)
      → ((m : ℕ) → slice_get ns m ≡ Some number → slice_get cs m ≡ Some c → IsCallOf bs (first + 1) number c)
      → slice_get ((if t then first ∷ [] else []) ++ ns) n ≡ Some number
      → slice_get ((if t then shard.Append cube shape epoch b ∷ [] else []) ++ cs) n ≡ Some c
      → IsCallOf (b ∷ bs) first number c
  call-with true b bs ns cs first number zero c rest at is =
      let same = same_Some first number at in record {
        place = 0;
        low = omega arith;
        at = omega (arith, same);
        is = sym (same_Some (shard.Append cube shape epoch b) c is);
      }
  call-with true b bs ns cs first number (suc n) c rest at is = later b bs first number c (rest n at is)
  call-with false b bs ns cs first number n c rest at is = later b bs first number c (rest n at is)

  pub call-at : (bs : List Batch) (first number n : ℕ) (c : ShardCall)
      → slice_get (numbers_with_rows first bs) n ≡ Some number
      → slice_get (append_calls cube shape epoch bs) n ≡ Some c → IsCallOf bs first number c
  call-at [] first number n c at is = absurd (none-some number at)
  call-at (b ∷ bs) first number n c at is =
      call-with (has_rows b.rows) b bs (numbers_with_rows (first + 1) bs) (append_calls cube shape epoch bs) first
      number n c
      (λ m there got. call-at bs (first + 1) number m c there got) at is
