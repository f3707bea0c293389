-- A mark more among the limits of bricks.
use Rattle.std.proofs.Common.{◌≡◌, ℕ, ◌&&◌, ◌||◌, ◌==◌, if◌then◌else◌, Bool, true, false, Some, refl, sym, ◌∙◌, inl, inr, arith}
use Rattle.std.specs.BTreeMap.{BTreeMap, get, is_at}
use Rattle.std.specs.Option.{unwrap_or}
use Rattle.std.specs.Ordering.{nat_cmp}
use Rattle.std.proofs.lemmas.Bool.{cases_Bool, cond-true, cond-false, eqb-true}
use Rattle.std.proofs.lemmas.Bool.Decides.{nat_tests}
use Rattle.cube_values.specs.declared.snapshot.Snapshot.{Snapshot}
use Rattle.cube_values.specs.EpochsVector.{mark_hides}
use Rattle.cube_values.specs.Sees.{sees}
use Rattle.epochs_vector.specs.declared.limit.Limit.{Limit}
use Rattle.epochs_vector.specs.Limits.{is_below}
use Rattle.kept_batches.specs.Unhidden.{limit_in}

or_none : (a : Bool) → a ≡ (a || false)
or_none true = refl
or_none false = refl

same_key : (n m : ℕ) → is_at (nat_cmp n) m ≡ (n == m)
same_key n m = grind (arith, nat_tests)

-- The limit of a brick with a mark that is seen takes the place of the one before it.
pub mark_put : (s : Snapshot) (number epoch at : ℕ) (old new : BTreeMap ℕ Limit) (before limit : Limit)
    → sees s epoch ≡ true → before ≡ limit_in old number
    → ((j i : ℕ) → is_below limit j i ≡ (is_below before j i || mark_hides epoch at j i))
    → ((other : ℕ) → get nat_cmp new other
    ≡ (if is_at (nat_cmp number) other then Some limit else get nat_cmp old other))
    → (other j i : ℕ) → is_below (limit_in new other) j i
    ≡ (is_below (limit_in old other) j i || (number == other && (sees s epoch && mark_hides epoch at j i)))
mark_put s number epoch at old new before limit seen was either put other j i =
    let none : Limit = record { epoch = 0; row = 0 } in
    let test = is_at (nat_cmp number) other in
    let hides = mark_hides epoch at j i in
    elim (cases_Bool (number == other)) [
      | inl yes' ↦
          let same : number ≡ other = eqb-true number other yes' in
          let found : get nat_cmp new other ≡ Some limit =
          put other ∙ cond-true test (Some limit) (get nat_cmp old other) (same_key number other ∙ yes') in
          (λ k. is_below (unwrap_or (found k) none) j i)
          ∙ either j i
          ∙ (λ k. is_below (was k) j i || hides)
          ∙ (λ k. is_below (limit_in old (same k)) j i || hides)
          ∙ λ k. is_below (limit_in old other) j i || (sym yes' k && (sym seen k && hides))
      | inr no' ↦
          let found : get nat_cmp new other ≡ get nat_cmp old other =
          put other ∙ cond-false test (Some limit) (get nat_cmp old other) (same_key number other ∙ no') in
          (λ k. is_below (unwrap_or (found k) none) j i)
          ∙ or_none (is_below (limit_in old other) j i)
          ∙ λ k. is_below (limit_in old other) j i || (sym no' k && (sees s epoch && hides))
    ]
