-- Numbers of cells, and the offsets that they stand for.
use Rattle.std.proofs.Common.{◌≡◌, ℕ, zero, suc, ◌+◌, ◌*◌, ◌/◌, ◌%◌, ◌-◌, ◌<◌, ◌≤◌, List, [], ◌∷◌, length, take, drop, set, get_or, All, sym, ap, ◌∙◌, arith}
use Rattle.std.proofs.Math.Nat.{mul-le-mul_left}
use Rattle.std.proofs.lemmas.Nat.{div-mul-add, mod-mul-add}
use Rattle.std.proofs.lemmas.List.{drop_more, drop_all, get_or-map, length-map}
use Rattle.std.proofs.lemmas.List.Elements.{All-head, All-tail, All-drop, All-get_or, AllZip-get_or, length_all_zip}
use Rattle.agg_fold.specs.Coded.{coded_key}
use Rattle.brick_columns.specs.Rows.{BrickRow, Layout, IsBrickRow, offset_at}
use Rattle.brick_store.specs.Cells.{cell_count, cell_of, IsRowOfCell}
use Rattle.brick_store.specs.Whole.{coords_at_offsets}
use Rattle.brick_store.proofs.Coordinates.{coords_long, coord_here, written_more}

-- an offset lies below its range
pub offset_below : (layout : Layout) (row : BrickRow) (dim : ℕ) → IsBrickRow layout row → dim < length layout.ranges → offset_at dim row < get_or layout.ranges dim 0
offset_below layout row dim brick h =
    AllZip-get_or ◌<◌ row.offsets layout.ranges dim 0 0 brick.offsets (omega (arith, length_all_zip ◌<◌ row.offsets layout.ranges brick.offsets))

-- a cell is one of the cells
digit_below : (o r c n : ℕ) → o < r → c < n → o + r * c < r * n
digit_below o r c n p q =
    let h : c + 1 ≤ n = omega arith in
    omega (arith, mul-le-mul_left r h)

pub cell_below : (layout : Layout) (group : List ℕ) (row : BrickRow) → IsBrickRow layout row → All (λ dim. dim < length layout.ranges) group → cell_of layout.ranges group row < cell_count layout.ranges group
cell_below layout [] row brick dims = omega arith
cell_below layout (dim ∷ group) row brick dims =
    digit_below (offset_at dim row) (get_or layout.ranges dim 0) (cell_of layout.ranges group row) (cell_count layout.ranges group)
    (offset_below layout row dim brick (All-head (λ d. d < length layout.ranges) dim group dims))
    (cell_below layout group row brick (All-tail (λ d. d < length layout.ranges) dim group dims))

-- fewer dimensions have no more cells
grows : (r n : ℕ) → 0 < r → n ≤ r * n
grows r n h =
    let one : 1 ≤ r = omega arith in
    omega (arith, mul-le-mul_left n one)

pub count_left : (ranges group : List ℕ) (i : ℕ) → All (λ dim. 0 < get_or ranges dim 0) group → cell_count ranges (drop i group) ≤ cell_count ranges group
count_left ranges [] i some = by_place i where
  by_place : (i : ℕ) → cell_count ranges (drop i []) ≤ 1
  by_place zero = omega arith
  by_place (suc i) = omega arith
count_left ranges (dim ∷ group) zero some = omega arith
count_left ranges (dim ∷ group) (suc i) some =
    omega (arith, count_left ranges group i (All-tail (λ d. 0 < get_or ranges d 0) dim group some), grows (get_or ranges dim 0) (cell_count ranges group) (All-head (λ d. 0 < get_or ranges d 0) dim group some))

-- with one dimension more in front
pub cell_next : (ranges group : List ℕ) (row : BrickRow) (i : ℕ) → i < length group → cell_of ranges (drop i group) row ≡ offset_at (get_or group i 0) row + get_or ranges (get_or group i 0) 0 * cell_of ranges (drop (i + 1) group) row
cell_next ranges group row i h = ap (λ g. cell_of ranges g row) (drop_more group i 0 h)

pub cell_last : (ranges group : List ℕ) (row : BrickRow) (i : ℕ) → i + 1 ≡ length group → cell_of ranges (drop i group) row ≡ offset_at (get_or group i 0) row
cell_last ranges group row i h =
    let e : cell_of ranges (drop (i + 1) group) row ≡ 0 = ap (λ g. cell_of ranges g row) (drop_all (i + 1) group (omega arith)) in
    let zero_of : get_or ranges (get_or group i 0) 0 * cell_of ranges (drop (i + 1) group) row ≡ 0 = ap (λ n. get_or ranges (get_or group i 0) 0 * n) e ∙ omega arith in
    omega (arith, cell_next ranges group row i (omega arith), zero_of)

pub count_next : (ranges group : List ℕ) (i : ℕ) → i < length group → cell_count ranges (drop i group) ≡ get_or ranges (get_or group i 0) 0 * cell_count ranges (drop (i + 1) group)
count_next ranges group i h = ap (cell_count ranges) (drop_more group i 0 h)

-- with one dimension more, counted from the last one
pub cell_joined : (ranges group : List ℕ) (row : BrickRow) (done o r m : ℕ) → done < length group
    → o ≡ offset_at (get_or group (length group - 1 - done) 0) row
    → r ≡ get_or ranges (get_or group (length group - 1 - done) 0) 0
    → m ≡ cell_of ranges (drop (length group - done) group) row
    → o + r * m ≡ cell_of ranges (drop (length group - (done + 1)) group) row
cell_joined ranges group row done o r m h offset range rest =
    let j = length group - 1 - done in
    let front : length group - (done + 1) ≡ length group - 1 - done = omega arith in
    let back : length group - 1 - done + 1 ≡ length group - done = omega arith in
    (λ t. offset t + range t * rest t)
    ∙ ap (λ k. offset_at (get_or group j 0) row + get_or ranges (get_or group j 0) 0 * cell_of ranges (drop k group) row) (sym back)
    ∙ sym (cell_next ranges group row j (omega arith))
    ∙ ap (λ k. cell_of ranges (drop k group) row) (sym front)

pub count_joined : (ranges group : List ℕ) (done r m : ℕ) → done < length group
    → r ≡ get_or ranges (get_or group (length group - 1 - done) 0) 0
    → m ≡ cell_count ranges (drop (length group - done) group)
    → m * r ≡ cell_count ranges (drop (length group - (done + 1)) group)
count_joined ranges group done r m h range rest =
    let j = length group - 1 - done in
    let front : length group - (done + 1) ≡ length group - 1 - done = omega arith in
    let back : length group - 1 - done + 1 ≡ length group - done = omega arith in
    let turned : m * r ≡ r * m = omega arith in
    turned
    ∙ (λ t. range t * rest t)
    ∙ ap (λ k. get_or ranges (get_or group j 0) 0 * cell_count ranges (drop k group)) (sym back)
    ∙ sym (count_next ranges group j (omega arith))
    ∙ ap (λ k. cell_count ranges (drop k group)) (sym front)

pub cell_small : (layout : Layout) (group : List ℕ) (row : BrickRow) (i most : ℕ) → IsBrickRow layout row → All (λ dim. dim < length layout.ranges) group → All (λ dim. 0 < get_or layout.ranges dim 0) group → cell_count layout.ranges group < most
    → cell_of layout.ranges (drop i group) row < most
cell_small layout group row i most brick dims some few =
    omega (arith, cell_below layout (drop i group) row brick (All-drop (λ d. d < length layout.ranges) i group dims), count_left layout.ranges group i some, few)

-- the lowest digit of a number, and the others
low_digit : (o r m n : ℕ) → o < r → n ≡ o + r * m → n % r ≡ o
low_digit o r m n h e =
    let turned : n ≡ m * r + o = omega arith in
    ap (λ k. k % r) turned ∙ mod-mul-add m r o h

high_digits : (o r m n : ℕ) → o < r → n ≡ o + r * m → n / r ≡ m
high_digits o r m n h e =
    let turned : n ≡ m * r + o = omega arith in
    ap (λ k. k / r) turned ∙ div-mul-add m r o h

-- what is left of a cell's number before dimension i, and what the key has up to there
pub record IsKeySoFar (layout : Layout) (starts group : List ℕ) (cell left : ℕ) (key : List ℕ) (i : ℕ) (row : BrickRow) : Type 0 where
  pub rest : left ≡ cell_of layout.ranges (drop i group) row
  pub front : take i key ≡ take i (coded_key group (coords_at_offsets starts row.offsets))

module _ (layout : Layout) (starts group : List ℕ) (cell left : ℕ) (key : List ℕ) (i : ℕ) (row : BrickRow) (long : length starts ≡ length layout.ranges) (dims : All (λ dim. dim < length layout.ranges) group) (h : i < length group) (r : IsRowOfCell layout starts group cell row) (s : IsKeySoFar layout starts group cell left key i row) where
  there : get_or group i 0 < length layout.ranges
  there = All-get_or (λ d. d < length layout.ranges) group i 0 h dims

  wide : length row.offsets ≡ length layout.ranges
  wide = length_all_zip ◌<◌ row.offsets layout.ranges r.brick.offsets

  pub digit_below_range : offset_at (get_or group i 0) row < get_or layout.ranges (get_or group i 0) 0
  digit_below_range = offset_below layout row (get_or group i 0) r.brick there

  pub digit_here : left % get_or layout.ranges (get_or group i 0) 0 ≡ offset_at (get_or group i 0) row
  digit_here = low_digit _ _ (cell_of layout.ranges (drop (i + 1) group) row) left digit_below_range (s.rest ∙ cell_next layout.ranges group row i h)

  pub coord_small : get_or starts (get_or group i 0) 0 + left % get_or layout.ranges (get_or group i 0) 0 < 4294967296
  coord_small =
      let d = get_or group i 0 in
      let here = coord_here starts row.offsets d 0 0 (omega (arith, there, long)) (omega (arith, there, wide)) in
      let small = All-get_or (λ coord. coord < 4294967296) (coords_at_offsets starts row.offsets) d 0 (omega (arith, coords_long starts row.offsets, there, long, wide)) r.small in
      omega (arith, here, small, digit_here)

  pub key_more : i < length key → IsKeySoFar layout starts group cell (left / get_or layout.ranges (get_or group i 0) 0) (set key i (get_or starts (get_or group i 0) 0 + left % get_or layout.ranges (get_or group i 0) 0)) (i + 1) row
  key_more k =
      let d = get_or group i 0 in
      let coords = coords_at_offsets starts row.offsets in
      let here = coord_here starts row.offsets d 0 0 (omega (arith, there, long)) (omega (arith, there, wide)) in
      let value : get_or starts d 0 + left % get_or layout.ranges d 0 ≡ get_or (coded_key group coords) i 0 =
      ap (λ o. get_or starts d 0 + o) digit_here ∙ sym here ∙ sym (get_or-map (λ e. get_or coords e 0) group i 0 0 h) in
      record {
        rest = high_digits _ _ (cell_of layout.ranges (drop (i + 1) group) row) left digit_below_range (s.rest ∙ cell_next layout.ranges group row i h);
        front = written_more key (coded_key group coords) i 0 (get_or starts d 0 + left % get_or layout.ranges d 0) k (omega (arith, length-map group (λ e. get_or coords e 0))) s.front value;
      }
