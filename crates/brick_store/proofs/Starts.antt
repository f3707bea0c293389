-- The coordinates of a brick from its first ones.
use Rattle.std.proofs.Common.{◌≡◌, ℕ, ◌+◌, ◌-◌, ◌/◌, ◌%◌, ◌<◌, ◌≤◌, List, [], ◌∷◌, All, length, map, replicate, get_or, zero, suc, refl, ap, ◌∙◌, arith, sym}
use Rattle.std.specs.List.{AllZip}
use Rattle.std.proofs.lemmas.List.{get_or-replicate}
use Rattle.std.proofs.lemmas.List.Elements.{All-head, All-tail}
use Rattle.std.proofs.lemmas.Nat.{mod_below}
use Rattle.cube_values.specs.declared.row.CodedRow.{CodedRow}
use Rattle.cube_values.specs.declared.shape.Size.{Size}
use Rattle.cube_values.specs.Shapes.{bricks_of, IsSoundSize}
use Rattle.brick_address.specs.Addresses.{size_at, range_in, length_of, coord_at, AreOffsets, LieIn}
use Rattle.brick_address.proofs.Bricks.{bricks_pos, first_range_below, each_coord}
use Rattle.brick_address.proofs.Dimensions.{length_pos, in_bounds, lie_apart}
use Rattle.packed_words.specs.Rows.{differences}
use Rattle.brick_columns.specs.Rows.{Layout, LiesFrom, offset_row}
use Rattle.brick_store.specs.Bricks.{Home, IsRowOf}
use Rattle.brick_store.specs.Whole.{starts_of, coords_at_offsets, row_with_coords}

-- a brick has a coordinate at offset 0 in each dimension
pub zeros_fit : (sizes : List Size) (number : ℕ) → All IsSoundSize sizes → number < bricks_of sizes → AreOffsets sizes number (replicate (length sizes) 0)
zeros_fit [] number h b = tt
zeros_fit (s ∷ sizes) number h b =
    let rest = All-tail IsSoundSize s sizes h in
    let first = first_range_below s sizes number rest b in (
      length_pos s (number / bricks_of sizes) (All-head IsSoundSize s sizes h) first,
      zeros_fit sizes (number % bricks_of sizes) rest (mod_below number (bricks_of sizes) (bricks_pos sizes rest)),
    )

pub start_at : (sizes : List Size) (number dim : ℕ) → All IsSoundSize sizes → number < bricks_of sizes → dim < length sizes → get_or (starts_of sizes number) dim 0 ≡ coord_at (size_at sizes dim) (range_in sizes number dim) 0
start_at sizes number dim h b l =
    each_coord sizes number (replicate (length sizes) 0) dim (zeros_fit sizes number h b) l
    ∙ ap (coord_at (size_at sizes dim) (range_in sizes number dim)) (get_or-replicate (length sizes) dim 0 0 l)

-- Coordinates of the brick are the starts and offsets that are below the ranges.
pub record LieFrom (sizes : List Size) (starts coords : List ℕ) : Type 0 where
  pub above : AllZip ◌≤◌ starts coords
  pub inside : AllZip ◌<◌ (differences coords starts) (map (λ size. size.range) sizes)
  pub back : coords_at_offsets starts (differences coords starts) ≡ coords

pub lie_from : (sizes : List Size) (number : ℕ) (coords : List ℕ) → All IsSoundSize sizes → LieIn sizes number coords → LieFrom sizes (starts_of sizes number) coords
lie_from [] number [] h i = record { above = tt; inside = tt; back = refl }
lie_from [] number (x ∷ coords) h i = absurd i.of_cube
lie_from (s ∷ sizes) number [] h i = absurd i.of_cube
lie_from (s ∷ sizes) number (x ∷ coords) h i =
    let rest = All-tail IsSoundSize s sizes h in
    let sound = All-head IsSoundSize s sizes h in
    let apart = lie_apart s sizes number x coords rest i in
    let bounds = in_bounds s (number / bricks_of sizes) x sound apart.0 apart.1 in
    let others = lie_from sizes (number % bricks_of sizes) coords rest apart.2 in
    let start : ℕ = coord_at s (number / bricks_of sizes) 0 in
    let first : start + (x - start) ≡ x = omega (arith, bounds.0) in
    record {
      above = (bounds.0, others.above);
      inside = (omega (arith, bounds.0, bounds.1), others.inside);
      back = λ t. first t ∷ others.back t;
    }

-- rows of the brick by their offsets, and back
pub row_lies : (home : Home) (layout : Layout) (row : CodedRow) → All IsSoundSize home.sizes → layout.ranges ≡ map (λ size. size.range) home.sizes → layout.metrics ≡ home.metrics → IsRowOf home row → LiesFrom layout (starts_of home.sizes home.number) row
row_lies home layout row h r m i =
    let by = lie_from home.sizes home.number row.coords h i.coords in
    record { above = by.above; inside = record { offsets = rw r by.inside; metrics = i.metrics ∙ sym m } }

pub row_back : (home : Home) (row : CodedRow) → All IsSoundSize home.sizes → IsRowOf home row → row_with_coords (starts_of home.sizes home.number) (offset_row (starts_of home.sizes home.number) row) ≡ row
row_back home row h i =
    let by = lie_from home.sizes home.number row.coords h i.coords in
    λ t. record { coords = by.back t; metrics = row.metrics }

pub rows_back : (home : Home) (rows : List CodedRow) → All IsSoundSize home.sizes → All (IsRowOf home) rows → map (row_with_coords (starts_of home.sizes home.number)) (map (offset_row (starts_of home.sizes home.number)) rows) ≡ rows
rows_back home [] h i = refl
rows_back home (row ∷ rows) h i =
    λ t. row_back home row h (All-head (IsRowOf home) row rows i) t ∷ rows_back home rows h (All-tail (IsRowOf home) row rows i) t

-- how many starts there are, and that each range has a coordinate
pub starts_long : (sizes : List Size) (number : ℕ) → length (starts_of sizes number) ≡ length sizes
starts_long [] number = refl
starts_long (s ∷ sizes) number = ap suc (starts_long sizes (number % bricks_of sizes))

pub length_there : (sizes : List Size) (number dim : ℕ) → All IsSoundSize sizes → number < bricks_of sizes → dim < length sizes → 0 < length_of (size_at sizes dim) (range_in sizes number dim)
length_there [] number dim h b l = absurd (omega arith)
length_there (s ∷ sizes) number zero h b l = (zeros_fit (s ∷ sizes) number h b).0
length_there (s ∷ sizes) number (suc dim) h b l =
    let rest = All-tail IsSoundSize s sizes h in
    length_there sizes (number % bricks_of sizes) dim rest (mod_below number (bricks_of sizes) (bricks_pos sizes rest)) (omega arith)
