-- The coordinates of a brick by its first dimension and the others.
use Rattle.std.proofs.Common.{◌≡◌, ℕ, suc, zero, ◌+◌, ◌-◌, ◌*◌, ◌/◌, ◌%◌, ◌<◌, ◌≤◌, Bool, true, false, ◌&&◌, List, [], ◌∷◌, All, length, refl, sym, ap, subst, ◌∙◌, inl, inr, arith}
use Rattle.std.proofs.lemmas.Bool.{cases_Bool, and_from, and_left, and_right, true≢false}
use Rattle.std.proofs.lemmas.List.Elements.{All-head, All-tail}
use Rattle.std.proofs.lemmas.Nat.{mul-le, div-add-mod', mod_below}
use Rattle.cube_values.specs.declared.shape.Size.{Size}
use Rattle.cube_values.specs.declared.span.Part.{Part}
use Rattle.cube_values.specs.Shapes.{ranges_of, bricks_of, IsSoundSize}
use Rattle.cube_values.specs.Spans.{part_has, parts_have}
use Rattle.brick_address.specs.declared.cover.Cover.{Cover}
use Rattle.brick_address.specs.declared.cover.Cover.TheVariants.{Inside, Outside, Cut}
use Rattle.brick_address.specs.declared.share.Share.{Share}
use Rattle.brick_address.specs.declared.share.Share.TheVariants.{Whole, Empty, Partial}
use Rattle.brick_address.specs.Addresses.{AreCoords, length_of, coord_at, LieIn}
use Rattle.brick_address.specs.Covers.{HasAll, HasNone, HasAllAt, CutFirst, Covers}
use Rattle.brick_address.specs.CoverParts.{cover_with}
use Rattle.brick_address.specs.Shares.{AnswersAll, IsShare}
use Rattle.brick_address.proofs.Bricks.{bricks_pos, first_range, other_brick, first_range_below, offset_below, coord_below, range_of_coord}

pub length_pos : (s : Size) (range : ℕ) → IsSoundSize s → range < ranges_of s → 0 < length_of s range
length_pos s range h l =
    let d = div-add-mod' (s.cardinality + (s.range - 1)) s.range in
    let m = mod_below (s.cardinality + (s.range - 1)) s.range h.range in
    let k = mul-le (range + 1) s.range (ranges_of s) s.range (omega arith) (omega arith) in
    omega arith

-- a coordinate is in the bounds of a range exactly where it is of the dimension and of that range
pub in_bounds : (s : Size) (range x : ℕ) → IsSoundSize s → x < s.cardinality → x / s.range ≡ range → (coord_at s range 0 ≤ x) × (x < coord_at s range (length_of s range))
in_bounds s range x h l e =
    let o = offset_below s h x l in
    let d = div-add-mod' x s.range in
    let own : (coord_at s (x / s.range) 0 ≤ x) × (x < coord_at s (x / s.range) (length_of s (x / s.range))) = (omega arith, omega arith) in
    subst (λ (n : ℕ). (coord_at s n 0 ≤ x) × (x < coord_at s n (length_of s n))) e own

pub of_bounds : (s : Size) (range x : ℕ) → coord_at s range 0 ≤ x → x < coord_at s range (length_of s range) → (x < s.cardinality) × (x / s.range ≡ range)
of_bounds s range x l m =
    let o : x - range * s.range < length_of s range = omega arith in
    let e : coord_at s range (x - range * s.range) ≡ x = omega arith in
    let c = coord_below s range (x - range * s.range) o in
    (omega arith, ap (λ n. n / s.range) (sym e) ∙ range_of_coord s range (x - range * s.range) o)

pub lie_apart : (s : Size) (sizes : List Size) (brick x : ℕ) (coords : List ℕ) → All IsSoundSize sizes → LieIn (s ∷ sizes) brick (x ∷ coords)
    → (x < s.cardinality) × (x / s.range ≡ brick / bricks_of sizes) × LieIn sizes (brick % bricks_of sizes) coords
lie_apart s sizes brick x coords h i =
    let b = i.of_brick in (
      i.of_cube.0,
      sym (first_range s sizes x coords h i.of_cube.1) ∙ ap (λ n. n / bricks_of sizes) b,
      record { of_cube = i.of_cube.1; of_brick = sym (other_brick s sizes x coords h i.of_cube.1) ∙ ap (λ n. n % bricks_of sizes) b },
    )

pub lie_together : (s : Size) (sizes : List Size) (brick x : ℕ) (coords : List ℕ) → x < s.cardinality → x / s.range ≡ brick / bricks_of sizes
    → LieIn sizes (brick % bricks_of sizes) coords → LieIn (s ∷ sizes) brick (x ∷ coords)
lie_together s sizes brick x coords l e i = record {
  of_cube = (l, i.of_cube);
  of_brick = rw (e, i.of_brick) (div-add-mod' brick (bricks_of sizes));
}

pub some_coords : (sizes : List Size) (brick : ℕ) → All IsSoundSize sizes → brick < bricks_of sizes → (coords : List ℕ) × LieIn sizes brick coords
some_coords [] brick h b = ([], record { of_cube = tt; of_brick = omega arith })
some_coords (s ∷ sizes) brick h b =
    let tail = All-tail IsSoundSize s sizes h in
    let q = brick / bricks_of sizes in
    let others = some_coords sizes (brick % bricks_of sizes) tail (mod_below brick (bricks_of sizes) (bricks_pos sizes tail)) in
    let p = length_pos s q (All-head IsSoundSize s sizes h) (first_range_below s sizes brick tail b) in
    let o = of_bounds s q (coord_at s q 0) (omega arith) (omega arith) in
    (coord_at s q 0 ∷ others.0, lie_together s sizes brick (coord_at s q 0) others.0 o.0 o.1 others.1)

-- what the share of the first dimension says of the brick's coordinates
pub first_answer : (s : Size) (sizes : List Size) (p : Part) (brick x : ℕ) (coords : List ℕ) (answer : Bool) → All IsSoundSize (s ∷ sizes)
    → AnswersAll (λ c. part_has p c) (coord_at s (brick / bricks_of sizes) 0) (coord_at s (brick / bricks_of sizes) (length_of s (brick / bricks_of sizes))) answer
    → LieIn (s ∷ sizes) brick (x ∷ coords) → part_has p x ≡ answer
first_answer s sizes p brick x coords answer h share i =
    let a = lie_apart s sizes brick x coords (All-tail IsSoundSize s sizes h) i in
    let l = in_bounds s (brick / bricks_of sizes) x (All-head IsSoundSize s sizes h) a.0 a.1 in
    share x l.0 l.1

none_by_first : (s : Size) (sizes : List Size) (p : Part) (parts : List Part) (brick : ℕ) → All IsSoundSize (s ∷ sizes)
    → AnswersAll (λ c. part_has p c) (coord_at s (brick / bricks_of sizes) 0) (coord_at s (brick / bricks_of sizes) (length_of s (brick / bricks_of sizes))) false
    → HasNone (s ∷ sizes) (p ∷ parts) brick
none_by_first s sizes p parts brick h share [] i = refl
none_by_first s sizes p parts brick h share (x ∷ coords) i = and_left (part_has p x) (parts_have parts coords) (first_answer s sizes p brick x coords false h share i)

none_by_others : (s : Size) (sizes : List Size) (p : Part) (parts : List Part) (brick : ℕ) → All IsSoundSize (s ∷ sizes)
    → HasNone sizes parts (brick % bricks_of sizes) → HasNone (s ∷ sizes) (p ∷ parts) brick
none_by_others s sizes p parts brick h none [] i = refl
none_by_others s sizes p parts brick h none (x ∷ coords) i =
    and_right (part_has p x) (parts_have parts coords) (none coords (lie_apart s sizes brick x coords (All-tail IsSoundSize s sizes h) i).2)

all_by_both : (s : Size) (sizes : List Size) (p : Part) (parts : List Part) (brick : ℕ) → All IsSoundSize (s ∷ sizes)
    → AnswersAll (λ c. part_has p c) (coord_at s (brick / bricks_of sizes) 0) (coord_at s (brick / bricks_of sizes) (length_of s (brick / bricks_of sizes))) true
    → HasAll sizes parts (brick % bricks_of sizes) → HasAll (s ∷ sizes) (p ∷ parts) brick
all_by_both s sizes p parts brick h share all [] i = absurd i.of_cube
all_by_both s sizes p parts brick h share all (x ∷ coords) i =
    and_from (part_has p x) (parts_have parts coords) (first_answer s sizes p brick x coords true h share i)
    (all coords (lie_apart s sizes brick x coords (All-tail IsSoundSize s sizes h) i).2)

before_later : (s : Size) (sizes : List Size) (p : Part) (parts : List Part) (brick dim : ℕ) → All IsSoundSize (s ∷ sizes)
    → AnswersAll (λ c. part_has p c) (coord_at s (brick / bricks_of sizes) 0) (coord_at s (brick / bricks_of sizes) (length_of s (brick / bricks_of sizes))) true
    → ((d : ℕ) → d < dim → HasAllAt sizes parts (brick % bricks_of sizes) d) → (d : ℕ) → d < suc dim → HasAllAt (s ∷ sizes) (p ∷ parts) brick d
before_later s sizes p parts brick dim h share before d l [] i = absurd i.of_cube
before_later s sizes p parts brick dim h share before zero l (x ∷ coords) i = first_answer s sizes p brick x coords true h share i
before_later s sizes p parts brick dim h share before (suc d) l (x ∷ coords) i =
    before d (omega arith) coords (lie_apart s sizes brick x coords (All-tail IsSoundSize s sizes h) i).2

cut_later : (s : Size) (sizes : List Size) (p : Part) (parts : List Part) (brick dim : ℕ) → All IsSoundSize (s ∷ sizes) → brick < bricks_of (s ∷ sizes)
    → AnswersAll (λ c. part_has p c) (coord_at s (brick / bricks_of sizes) 0) (coord_at s (brick / bricks_of sizes) (length_of s (brick / bricks_of sizes))) true
    → CutFirst sizes parts (brick % bricks_of sizes) dim → CutFirst (s ∷ sizes) (p ∷ parts) brick (suc dim)
cut_later s sizes p parts brick dim h b share c =
    let tail = All-tail IsSoundSize s sizes h in
    let q = brick / bricks_of sizes in
    let l = length_pos s q (All-head IsSoundSize s sizes h) (first_range_below s sizes brick tail b) in
    let x = coord_at s q 0 in
    let o = of_bounds s q x (omega arith) (omega arith) in
    record {
      some = λ none. c.some (λ coords i.
          let t = share x (omega arith) (omega arith) in
          ap (λ v. v && parts_have parts coords) (sym t) ∙ none (x ∷ coords) (lie_together s sizes brick x coords o.0 o.1 i));
      lacks = λ all. c.lacks (λ coords i. all (x ∷ coords) (lie_together s sizes brick x coords o.0 o.1 i));
      before = before_later s sizes p parts brick dim h share c.before;
    }

pub some_share : (s : Size) (sizes : List Size) (p : Part) (parts : List Part) (brick : ℕ) → All IsSoundSize (s ∷ sizes) → brick < bricks_of (s ∷ sizes)
    → IsShare (λ c. part_has p c) (coord_at s (brick / bricks_of sizes) 0) (coord_at s (brick / bricks_of sizes) (length_of s (brick / bricks_of sizes))) Partial
    → (HasNone sizes parts (brick % bricks_of sizes) → ⊥) → CutFirst (s ∷ sizes) (p ∷ parts) brick 0
some_share s sizes p parts brick h b share some =
    let tail = All-tail IsSoundSize s sizes h in
    let rest = some_coords sizes (brick % bricks_of sizes) tail (mod_below brick (bricks_of sizes) (bricks_pos sizes tail)) in
    record {
      some = λ none. share.1 (λ x l m. elim (cases_Bool (part_has p x)) [
        | inl t ↦ absurd (some (λ coords i.
            let o = of_bounds s (brick / bricks_of sizes) x l m in
            ap (λ v. v && parts_have parts coords) (sym t) ∙ none (x ∷ coords) (lie_together s sizes brick x coords o.0 o.1 i)))
        | inr f ↦ f
      ]);
      lacks = λ all. share.0 (λ x l m.
          let o = of_bounds s (brick / bricks_of sizes) x l m in
          all (x ∷ rest.0) (lie_together s sizes brick x rest.0 o.0 o.1 rest.1));
      before = λ d l. absurd (omega arith);
    }

pub joined_covers : (s : Size) (sizes : List Size) (p : Part) (parts : List Part) (brick : ℕ) (share : Share) (others : Cover)
    → All IsSoundSize (s ∷ sizes) → brick < bricks_of (s ∷ sizes)
    → IsShare (λ c. part_has p c) (coord_at s (brick / bricks_of sizes) 0) (coord_at s (brick / bricks_of sizes) (length_of s (brick / bricks_of sizes))) share
    → Covers sizes parts (brick % bricks_of sizes) others → Covers (s ∷ sizes) (p ∷ parts) brick (cover_with share others)
joined_covers s sizes p parts brick Empty others h b share c = none_by_first s sizes p parts brick h share
joined_covers s sizes p parts brick Whole Outside h b share c = none_by_others s sizes p parts brick h c
joined_covers s sizes p parts brick Partial Outside h b share c = none_by_others s sizes p parts brick h c
joined_covers s sizes p parts brick Whole Inside h b share c = all_by_both s sizes p parts brick h share c
joined_covers s sizes p parts brick Whole (Cut dim) h b share c = cut_later s sizes p parts brick dim h b share c
joined_covers s sizes p parts brick Partial Inside h b share c =
    let tail = All-tail IsSoundSize s sizes h in
    let rest = some_coords sizes (brick % bricks_of sizes) tail (mod_below brick (bricks_of sizes) (bricks_pos sizes tail)) in
    some_share s sizes p parts brick h b share (λ none. true≢false (sym (c rest.0 rest.1) ∙ none rest.0 rest.1))
joined_covers s sizes p parts brick Partial (Cut dim) h b share c = some_share s sizes p parts brick h b share c.some

-- coordinates and parts of different numbers
pub as_many : (sizes : List Size) (coords : List ℕ) → AreCoords sizes coords → length coords ≡ length sizes
as_many [] [] c = refl
as_many (s ∷ sizes) [] c = absurd c
as_many [] (x ∷ coords) c = absurd c
as_many (s ∷ sizes) (x ∷ coords) c = ap suc (as_many sizes coords c.1)

pub other_number : (parts : List Part) (coords : List ℕ) → (length parts ≡ length coords → ⊥) → parts_have parts coords ≡ false
other_number [] [] n = absurd (n refl)
other_number (p ∷ parts) [] n = refl
other_number [] (x ∷ coords) n = refl
other_number (p ∷ parts) (x ∷ coords) n = and_right (part_has p x) (parts_have parts coords) (other_number parts coords (λ e. n (ap suc e)))
