-- Products of numbers of ranges.
use Rattle.std.proofs.Common.{◌≡◌, ℕ, zero, suc, ◌+◌, ◌-◌, ◌*◌, ◌≤◌, ◌<◌, Bool, true, false, List, [], ◌∷◌, length, get_or, drop, None, refl, ◌∙◌, inl, inr, add-one, arith}
use Rattle.std.specs.Prelude.{find, nat_lt}
use Rattle.std.proofs.Math.Nat.{one-le-mul, le-mul_of_pos_right, le-div_iff_mul-le, mul_assoc}
use Rattle.std.proofs.Math.Seq.{drop-cons}
use Rattle.std.proofs.lemmas.Bool.{cases_Bool, lt-ltb}
use Rattle.std.proofs.lemmas.Bool.Decides.{nat_tests}
use Rattle.cube_values.specs.Shapes.{ranges_of, bricks_of}
use Rattle.cube_language.specs.declared.decl.DimDecl.{DimDecl}
use Rattle.cube_language.specs.Cubes.{has_zero, size_of, sizes_of}
use Rattle.cube_schema.specs.Dimensions.{AreNotZero}

-- What no element is found to pass, the first does not pass, nor is an element found behind it.
pub none_found : {A : Type 0} (p : A → Bool) (x : A) (xs : List A) → find p (x ∷ xs) ≡ None → (p x ≡ false) × (find p xs ≡ None)
none_found p x xs none = elim (cases_Bool (p x)) [
  | inl there ↦ let not = rw there at none in absurd cc
  | inr fails ↦ (fails, rw fails at none)
]

pub none_found_at : {A : Type 0} (p : A → Bool) (xs : List A) (i : ℕ) (d : A) → find p xs ≡ None → i < length xs → p (get_or xs i d) ≡ false
none_found_at p [] i d none lt = absurd (omega arith)
none_found_at p (x ∷ xs) zero d none lt = (none_found p x xs none).0
none_found_at p (x ∷ xs) (suc i) d none lt = none_found_at p xs i d (none_found p x xs none).1 (omega arith)

none_found_behind : {A : Type 0} (p : A → Bool) (i : ℕ) (xs : List A) → find p xs ≡ None → find p (drop i xs) ≡ None
none_found_behind p zero xs none = none
none_found_behind p (suc i) [] none = none
none_found_behind p (suc i) (x ∷ xs) none = none_found_behind p i xs (none_found p x xs none).1

has_ranges : (dim : DimDecl) → has_zero dim ≡ false → 1 ≤ ranges_of (size_of dim)
has_ranges dim sound =
    let coords : 0 < dim.cardinality = grind (arith, nat_tests) in
    let range : 0 < dim.range = grind (arith, nat_tests) in
    (le-div_iff_mul-le {k = dim.range} {x = 1} {y = dim.cardinality + (dim.range - 1)} range).1 (omega arith)

has_bricks : (dims : List DimDecl) → AreNotZero dims → 1 ≤ bricks_of (sizes_of dims)
has_bricks [] sound = omega arith
has_bricks (d ∷ dims) sound =
    let parts = none_found has_zero d dims sound in
    one-le-mul (has_ranges d parts.0) (has_bricks dims parts.1)

-- One factor more of a product whose rest is still to come.
pub next_factor : (dims : List DimDecl) (i : ℕ) (d : DimDecl) (bricks ranges : ℕ) → i < length dims → ranges ≡ ranges_of (size_of (get_or dims i d))
    → (bricks * ranges) * bricks_of (sizes_of (drop (i + 1) dims)) ≡ bricks * bricks_of (sizes_of (drop i dims))
next_factor dims i d bricks ranges lt e =
    mul_assoc bricks ranges (bricks_of (sizes_of (drop (i + 1) dims))) ∙ rw (e, add-one, drop-cons dims i d) refl

-- A product is above what one of its fronts is above.
pub too_many : (dims : List DimDecl) (i : ℕ) (d : DimDecl) (bricks ranges most : ℕ) → AreNotZero dims → i < length dims → ranges ≡ ranges_of (size_of (get_or dims i d))
    → bricks * bricks_of (sizes_of (drop i dims)) ≡ bricks_of (sizes_of dims) → most < bricks * ranges → nat_lt most (bricks_of (sizes_of dims)) ≡ true
too_many dims i d bricks ranges most sound lt e product above =
    let rest = has_bricks (drop (i + 1) dims) (none_found_behind has_zero (i + 1) dims sound) in
    let front : bricks * ranges ≤ (bricks * ranges) * bricks_of (sizes_of (drop (i + 1) dims)) = le-mul_of_pos_right (bricks * ranges) rest in
    let whole : bricks * ranges ≤ bricks_of (sizes_of dims) = rw (next_factor dims i d bricks ranges lt e, product) at front in
    lt-ltb most (bricks_of (sizes_of dims)) (omega arith)
