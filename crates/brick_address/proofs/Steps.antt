-- What the definitions say of a list of which the code has the first item and the rest.
use Rattle.std.proofs.Common.{◌≡◌, ℕ, suc, zero, ◌+◌, ◌-◌, ◌*◌, ◌/◌, ◌%◌, ◌<◌, ◌≤◌, List, [], ◌∷◌, All, length, refl, sym, ap, ◌∙◌, subst, arith}
use Rattle.std.proofs.lemmas.List.Elements.{All-head, All-tail}
use Rattle.cube_values.specs.declared.shape.Size.{Size}
use Rattle.cube_values.specs.Shapes.{ranges_of, bricks_of, IsSoundSize}
use Rattle.cube_values.specs.declared.span.Part.{Part}
use Rattle.cube_values.specs.Spans.{part_has}
use Rattle.brick_address.specs.declared.cover.Cover.{Cover}
use Rattle.brick_address.specs.declared.share.Share.{Share}
use Rattle.brick_address.specs.Addresses.{AreCoords, brick_of, range_in, length_of, coord_at}
use Rattle.brick_address.specs.Covers.{HasAll, HasNone, Covers}
use Rattle.brick_address.specs.CoverParts.{cover_with}
use Rattle.brick_address.specs.Shares.{IsShare}
use Rattle.brick_address.proofs.Dimensions.{length_pos, joined_covers, as_many, other_number}
use Rattle.brick_address.proofs.Bricks.{bricks_pos, other_bricks, first_range_below, next_dimension, at_most_total}

pub record FirstSize (sizes rest : List Size) (s : Size) : Type 0 where
  pub sound : IsSoundSize s
  pub others : All IsSoundSize rest
  pub bricks : bricks_of sizes ≡ ranges_of s * bricks_of rest
  pub below : bricks_of sizes / ranges_of s ≡ bricks_of rest
  pub some : 0 < bricks_of rest
  pub some_length : (brick : ℕ) → brick < bricks_of sizes → 0 < length_of s (brick / bricks_of rest)

first_of_cons : (s : Size) (rest : List Size) → All IsSoundSize (s ∷ rest) → FirstSize (s ∷ rest) rest s
first_of_cons s rest h =
    let sound = All-head IsSoundSize s rest h in
    let tail = All-tail IsSoundSize s rest h in
    record { sound = sound; others = tail; bricks = refl; below = other_bricks s rest h; some = bricks_pos rest tail; some_length = λ brick b. length_pos s (brick / bricks_of rest) sound (first_range_below s rest brick tail b) }

pub first_size : (sizes rest : List Size) (s : Size) → sizes ≡ s ∷ rest → All IsSoundSize sizes → FirstSize sizes rest s
first_size sizes rest s e h = subst (λ (l : List Size). FirstSize l rest s) (sym e) (first_of_cons s rest (subst (λ (l : List Size). All IsSoundSize l) e h))

pub range_in_first : (sizes rest : List Size) (s : Size) (brick dim : ℕ) → sizes ≡ s ∷ rest → dim ≡ 0 → range_in sizes brick dim ≡ brick / bricks_of rest
range_in_first sizes rest s brick dim e z = (λ i. range_in (e i) brick (z i))

pub range_in_later : (sizes rest : List Size) (s : Size) (brick dim : ℕ) → sizes ≡ s ∷ rest → (dim ≡ 0 → ⊥)
    → range_in sizes brick dim ≡ range_in rest (brick % bricks_of rest) (dim - 1)
range_in_later sizes rest s brick zero e z = absurd (z refl)
range_in_later sizes rest s brick (suc dim) e z =
    let f : dim ≡ suc dim - 1 = omega arith in
    (λ i. range_in (e i) brick (suc dim)) ∙ ap (range_in rest (brick % bricks_of rest)) f

-- the first coordinate and the others
pub record FirstCoord (sizes rest : List Size) (coords more : List ℕ) (s : Size) (x : ℕ) : Type 0 where
  pub below : x < s.cardinality
  pub others : AreCoords rest more
  pub brick : brick_of sizes coords ≡ x / s.range * bricks_of rest + brick_of rest more

pub first_coord : (sizes rest : List Size) (coords others : List ℕ) (s : Size) (x : ℕ) → sizes ≡ s ∷ rest → coords ≡ x ∷ others → AreCoords sizes coords
    → FirstCoord sizes rest coords others s x
first_coord sizes rest coords others s x e f c =
    let d : AreCoords (s ∷ rest) (x ∷ others) = coe 0 1 (i. AreCoords (e i) (f i)) c in
    record { below = d.0; others = d.1; brick = λ i. brick_of (e i) (f i) }

-- the next step of a product, and of a row-major number
pub next_product : (a n m below whole total : ℕ) → a * whole ≡ total → whole ≡ n * below → m ≡ n → 0 < below → (a * m * below ≡ total) × (a * m ≤ total)
next_product a n m below whole total h w e p =
    let h2 : a * (n * below) ≡ total = rw w at h in
    let t : a * m * below ≡ total = rw e (omega arith) in
    (t, at_most_total (a * m) below 0 total p (omega arith))

pub next_number : (b n m q k below r whole low total : ℕ) → b * whole + low ≡ total → whole ≡ n * below → low ≡ q * below + r → m ≡ n → k ≡ q → 0 < below
    → ((b * m + k) * below + r ≡ total) × (b * m + k ≤ total)
next_number b n m q k below r whole low total h w l e f p =
    let h2 : b * (n * below) + (q * below + r) ≡ total = rw (w, l) at h in
    let t : (b * m + k) * below + r ≡ total = rw (e, f) (next_dimension b n q below r total h2) in
    (t, at_most_total (b * m + k) below r total p t)

-- coordinates are as many as dimensions
pub some_coord : (sizes rest : List Size) (s : Size) (coords : List ℕ) → sizes ≡ s ∷ rest → AreCoords sizes coords → 1 ≤ length coords
some_coord sizes rest s [] e c = absurd (let d : AreCoords (s ∷ rest) [] = coe 0 1 (i. AreCoords (e i) []) c in d)
some_coord sizes rest s (x ∷ coords) e c = omega arith

pub no_coords : (sizes : List Size) (coords : List ℕ) → length sizes ≡ 0 → brick_of sizes coords ≡ 0
no_coords [] coords l = refl
no_coords (s ∷ sizes) coords l = absurd (omega arith)

pub no_sizes : (sizes : List Size) → length sizes ≡ 0 → bricks_of sizes ≡ 1
no_sizes [] l = refl
no_sizes (s ∷ sizes) l = absurd (omega arith)

-- the cover of a brick, from its first dimension and the others
pub cover_step : (sizes rest : List Size) (parts more : List Part) (s : Size) (p : Part) (brick start end : ℕ) (share : Share) (others : Cover)
    → sizes ≡ s ∷ rest → parts ≡ p ∷ more → All IsSoundSize sizes → brick < bricks_of sizes
    → start ≡ coord_at s (brick / bricks_of rest) 0 → end ≡ coord_at s (brick / bricks_of rest) (length_of s (brick / bricks_of rest))
    → IsShare (λ c. part_has p c) start end share → Covers rest more (brick % bricks_of rest) others → Covers sizes parts brick (cover_with share others)
cover_step sizes rest parts more s p brick start end share others e f h b st en is c =
    coe 1 0 (i. Covers (e i) (f i) brick (cover_with share others))
    (joined_covers s rest p more brick share others (subst (λ (l : List Size). All IsSoundSize l) e h) (subst (λ (l : List Size). brick < bricks_of l) e b)
    (coe 0 1 (i. IsShare (λ c. part_has p c) (st i) (en i) share) is) c)

pub none_past : (sizes : List Size) (parts : List Part) (brick : ℕ) → (length sizes ≡ length parts → ⊥) → HasNone sizes parts brick
none_past sizes parts brick n coords i = other_number parts coords (λ e. n (sym (as_many sizes coords i.of_cube) ∙ sym e))

pub all_of_none : (sizes : List Size) (parts : List Part) (brick : ℕ) → length sizes ≡ 0 → length parts ≡ 0 → HasAll sizes parts brick
all_of_none [] [] brick l m [] i = refl
all_of_none [] [] brick l m (x ∷ coords) i = absurd i.of_cube
all_of_none (s ∷ sizes) parts brick l m coords i = absurd (omega arith)
all_of_none sizes (p ∷ parts) brick l m coords i = absurd (omega arith)
