-- Bricks and ranges by arithmetic.
use Rattle.std.proofs.Common.{◌≡◌, ℕ, suc, zero, ◌+◌, ◌-◌, ◌*◌, ◌/◌, ◌%◌, ◌<◌, ◌≤◌, List, [], ◌∷◌, All, length, get_or, refl, sym, arith}
use Rattle.std.proofs.lemmas.List.Elements.{All-head, All-tail}
use Rattle.std.proofs.Math.Nat.{le-mul_of_pos_right, mul-div_right}
use Rattle.std.proofs.lemmas.Nat.{le-div, mul-add-lt, div-mul-add, mod-mul-add, div-add-mod', div_below, mod_below}
use Rattle.cube_values.specs.declared.shape.Size.{Size}
use Rattle.cube_values.specs.Shapes.{ranges_of, bricks_of, IsSoundSize}
use Rattle.brick_address.specs.Addresses.{size_at, AreCoords, brick_of, offset_of, range_in, length_of, coord_at, AreOffsets, coords_of, LieIn, HaveAnAddress, IsAnAddress}

pub ranges_pos : (s : Size) → IsSoundSize s → 0 < ranges_of s
ranges_pos s h = let l = le-div 1 (s.cardinality + (s.range - 1)) s.range h.range (omega arith) in omega arith

pub bricks_pos : (sizes : List Size) → All IsSoundSize sizes → 0 < bricks_of sizes
bricks_pos [] h = omega arith
bricks_pos (s ∷ sizes) h =
    let a = ranges_pos s (All-head IsSoundSize s sizes h) in
    let b = bricks_pos sizes (All-tail IsSoundSize s sizes h) in
    let m = mul-add-lt 0 (bricks_of sizes) 0 (ranges_of s) a b in
    omega arith

-- the range of a coordinate is one of the dimension's
pub range_below : (s : Size) → IsSoundSize s → (coord : ℕ) → coord < s.cardinality → coord / s.range < ranges_of s
range_below s h coord l =
    let e = div-add-mod' coord s.range in
    let m = le-div (coord / s.range + 1) (s.cardinality + (s.range - 1)) s.range h.range (omega arith) in
    omega arith

pub brick_below : (sizes : List Size) (coords : List ℕ) → All IsSoundSize sizes → AreCoords sizes coords → brick_of sizes coords < bricks_of sizes
brick_below [] [] h c = omega arith
brick_below (s ∷ sizes) [] h c = absurd c
brick_below [] (x ∷ coords) h c = absurd c
brick_below (s ∷ sizes) (x ∷ coords) h c =
    let a = range_below s (All-head IsSoundSize s sizes h) x c.0 in
    let b = brick_below sizes coords (All-tail IsSoundSize s sizes h) c.1 in
    let m = mul-add-lt (x / s.range) (bricks_of sizes) (brick_of sizes coords) (ranges_of s) a b in
    omega arith

-- the first dimension's range, and the brick of the others
pub first_range : (s : Size) (sizes : List Size) (x : ℕ) (coords : List ℕ) → All IsSoundSize sizes → AreCoords sizes coords
    → brick_of (s ∷ sizes) (x ∷ coords) / bricks_of sizes ≡ x / s.range
first_range s sizes x coords h c = div-mul-add (x / s.range) (bricks_of sizes) (brick_of sizes coords) (brick_below sizes coords h c)

pub other_brick : (s : Size) (sizes : List Size) (x : ℕ) (coords : List ℕ) → All IsSoundSize sizes → AreCoords sizes coords
    → brick_of (s ∷ sizes) (x ∷ coords) % bricks_of sizes ≡ brick_of sizes coords
other_brick s sizes x coords h c = mod-mul-add (x / s.range) (bricks_of sizes) (brick_of sizes coords) (brick_below sizes coords h c)

pub offset_below : (s : Size) → IsSoundSize s → (x : ℕ) → x < s.cardinality → x % s.range < length_of s (x / s.range)
offset_below s h x l =
    let e = div-add-mod' x s.range in
    let m = mod_below x s.range h.range in
    omega arith

pub has_address : (sizes : List Size) (coords : List ℕ) → All IsSoundSize sizes → AreCoords sizes coords → HaveAnAddress sizes coords
has_address [] [] h c = record { brick = omega arith; offsets = tt; back = refl }
has_address (s ∷ sizes) [] h c = absurd c
has_address [] (x ∷ coords) h c = absurd c
has_address (s ∷ sizes) (x ∷ coords) h c =
    let tail = All-tail IsSoundSize s sizes h in
    let others = has_address sizes coords tail c.1 in
    let q = first_range s sizes x coords tail c.1 in
    let r = other_brick s sizes x coords tail c.1 in
    record {
      brick = brick_below (s ∷ sizes) (x ∷ coords) h c;
      offsets = (rw q (offset_below s (All-head IsSoundSize s sizes h) x c.0), rw r others.offsets);
      back = rw (q, r) (λ i. div-add-mod' x s.range i ∷ others.back i);
    }

-- a coordinate at an offset of a range is one of the dimension, in that range and at that offset
pub coord_below : (s : Size) (range offset : ℕ) → offset < length_of s range → coord_at s range offset < s.cardinality
coord_below s range offset l = omega arith

pub range_of_coord : (s : Size) (range offset : ℕ) → offset < length_of s range → coord_at s range offset / s.range ≡ range
range_of_coord s range offset l = div-mul-add range s.range offset (omega arith)

pub offset_of_coord : (s : Size) (range offset : ℕ) → offset < length_of s range → coord_at s range offset % s.range ≡ offset
offset_of_coord s range offset l = mod-mul-add range s.range offset (omega arith)

pub is_address : (sizes : List Size) (brick : ℕ) (offsets : List ℕ) → All IsSoundSize sizes → brick < bricks_of sizes → AreOffsets sizes brick offsets → IsAnAddress sizes brick offsets
is_address [] brick [] h b o = record { coords = record { of_cube = tt; of_brick = omega arith }; back = refl }
is_address (s ∷ sizes) brick [] h b o = absurd o
is_address [] brick (f ∷ offsets) h b o = absurd o
is_address (s ∷ sizes) brick (f ∷ offsets) h b o =
    let tail = All-tail IsSoundSize s sizes h in
    let pos = bricks_pos sizes tail in
    let q = brick / bricks_of sizes in
    let others = is_address sizes (brick % bricks_of sizes) offsets tail (mod_below brick (bricks_of sizes) pos) o.1 in
    let at = range_of_coord s q f o.0 in
    let split = div-add-mod' brick (bricks_of sizes) in
    record {
      coords = record {
        of_cube = (coord_below s q f o.0, others.coords.of_cube);
        of_brick = rw (at, others.coords.of_brick) split;
      };
      back = λ i. offset_of_coord s q f o.0 i ∷ others.back i;
    }

pub each_coord : (sizes : List Size) (brick : ℕ) (offsets : List ℕ) (dim : ℕ) → AreOffsets sizes brick offsets → dim < length sizes
    → get_or (coords_of sizes brick offsets) dim 0 ≡ coord_at (size_at sizes dim) (range_in sizes brick dim) (get_or offsets dim 0)
each_coord [] brick offsets dim o l = absurd (omega arith)
each_coord (s ∷ sizes) brick [] dim o l = absurd o
each_coord (s ∷ sizes) brick (f ∷ offsets) zero o l = refl
each_coord (s ∷ sizes) brick (f ∷ offsets) (suc dim) o l = each_coord sizes (brick % bricks_of sizes) offsets dim o.1 (omega arith)

-- one dimension more of a row-major number
pub next_dimension : (b n q below r total : ℕ) → b * (n * below) + (q * below + r) ≡ total → (b * n + q) * below + r ≡ total
next_dimension b n q below r total h = omega arith

pub at_most_total : (a below r total : ℕ) → 0 < below → a * below + r ≡ total → a ≤ total
at_most_total a below r total p h = let m = le-mul_of_pos_right {m = below} a p in omega arith

-- the bricks of the other dimensions
pub other_bricks : (s : Size) (sizes : List Size) → All IsSoundSize (s ∷ sizes) → bricks_of (s ∷ sizes) / ranges_of s ≡ bricks_of sizes
other_bricks s sizes h = mul-div_right (bricks_of sizes) (ranges_pos s (All-head IsSoundSize s sizes h))

pub first_range_below : (s : Size) (sizes : List Size) (brick : ℕ) → All IsSoundSize sizes → brick < bricks_of (s ∷ sizes) → brick / bricks_of sizes < ranges_of s
first_range_below s sizes brick h b = div_below brick (bricks_of sizes) (ranges_of s) (bricks_pos sizes h) b

-- the range of coordinates of a brick
pub range_of_some : (sizes : List Size) (coords : List ℕ) (dim : ℕ) → All IsSoundSize sizes → AreCoords sizes coords → dim < length sizes
    → range_in sizes (brick_of sizes coords) dim ≡ get_or coords dim 0 / (size_at sizes dim).range
range_of_some [] coords dim h c l = absurd (omega arith)
range_of_some (s ∷ sizes) [] dim h c l = absurd c
range_of_some (s ∷ sizes) (x ∷ coords) zero h c l = first_range s sizes x coords (All-tail IsSoundSize s sizes h) c.1
range_of_some (s ∷ sizes) (x ∷ coords) (suc dim) h c l =
    let tail = All-tail IsSoundSize s sizes h in
    rw (other_brick s sizes x coords tail c.1) (range_of_some sizes coords dim tail c.1 (omega arith))

-- coordinates of a brick that have an offset in a dimension have the coordinate there that is at it
pub only_coord : (sizes : List Size) (brick dim offset : ℕ) (coords : List ℕ) → All IsSoundSize sizes → dim < length sizes → LieIn sizes brick coords
    → offset_of (size_at sizes dim) (get_or coords dim 0) ≡ offset → get_or coords dim 0 ≡ coord_at (size_at sizes dim) (range_in sizes brick dim) offset
only_coord sizes brick dim offset coords h l i o =
    let r = range_of_some sizes coords dim h i.of_cube l in
    let split = div-add-mod' (get_or coords dim 0) (size_at sizes dim).range in
    rw (← i.of_brick, r, ← o) (sym split)
