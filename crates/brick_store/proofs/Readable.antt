-- The rows of a whole brick can be read by their coordinates.
use Rattle.std.proofs.Common.{◌≡◌, ℕ, ◌^◌, ◌<◌, List, [], ◌∷◌, All, length, map, refl, sym, subst, ap, ◌∙◌, arith}
use Rattle.std.proofs.lemmas.List.{length-map}
use Rattle.std.proofs.lemmas.List.Elements.{All-head, All-tail, All-nil, All-cons}
use Rattle.cube_values.specs.declared.shape.Size.{Size}
use Rattle.cube_values.specs.EpochsVector.{IsVector}
use Rattle.cube_values.specs.Shapes.{IsSoundSize}
use Rattle.brick_address.specs.Addresses.{AreCoords}
use Rattle.brick_columns.specs.Rows.{BrickRow, IsBrickRow, Layout}
use Rattle.brick_store.specs.Bricks.{Home, BrickState, IsRowOf}
use Rattle.brick_store.specs.Whole.{HasSmallCoords, HaveCoordsFrom, IsWhole, contract_view, coords_at_offsets, home_in, row_with_coords}
use Rattle.brick_store.specs.declared.brick.Brick.TheInside.{Inside}
use Rattle.brick_store.proofs.Changes.{seen_length}
use Rattle.brick_store.proofs.Starts.{starts_long}

small_coords : (sizes : List Size) (coords : List ℕ) → All IsSoundSize sizes → AreCoords sizes coords → All (λ coord. coord < 2 ^ 32) coords
small_coords [] [] h a = All-nil (λ coord. coord < 2 ^ 32)
small_coords [] (x ∷ coords) h a = absurd a
small_coords (s ∷ sizes) [] h a = absurd a
small_coords (s ∷ sizes) (x ∷ coords) h a =
    let size = All-head IsSoundSize s sizes h in
    All-cons (λ coord. coord < 2 ^ 32) x coords (omega (arith, a.0, size.small)) (small_coords sizes coords (All-tail IsSoundSize s sizes h) a.1)

all_small : (home : Home) (starts : List ℕ) (rows : List BrickRow) → All IsSoundSize home.sizes → All (IsRowOf home) (map (row_with_coords starts) rows) → All (HasSmallCoords starts) rows
all_small home starts [] h i = All-nil (HasSmallCoords starts)
all_small home starts (row ∷ rows) h i =
    let first = All-head (IsRowOf home) (row_with_coords starts row) (map (row_with_coords starts) rows) i in
    let rest = All-tail (IsRowOf home) (row_with_coords starts row) (map (row_with_coords starts) rows) i in
    All-cons (HasSmallCoords starts) row rows (small_coords home.sizes (coords_at_offsets starts row.offsets) h first.coords.of_cube) (all_small home starts rows h rest)

-- how many dimensions there are
pub dims_known : (b : Inside) → IsWhole b → length b.starts.items ≡ length b.shape.sizes
dims_known b w = ap length w.starts ∙ starts_long b.shape.sizes b.number

pub rows_readable : (b : Inside) → IsWhole b → All (IsBrickRow b.columns.layout) b.columns.rows → HaveCoordsFrom b.starts.items b.columns
rows_readable b w fits = record {
  long = dims_known b w ∙ sym (ap (λ (l : Layout). length l.ranges) w.layout ∙ length-map b.shape.sizes (λ size. size.range));
  dims = omega (arith, dims_known b w, w.shape.dims);
  metrics = w.wide;
  fits = fits;
  small = all_small (home_in b) b.starts.items b.columns.rows w.shape.sizes w.sound;
}

-- the entries are a vector over the rows that are seen
pub vector_seen : (b : Inside) (v : BrickState) → contract_view b ≡ v → IsWhole b → IsVector v.entries (length v.rows)
vector_seen b v e w =
    subst (λ (v : BrickState). IsVector v.entries (length v.rows)) e (subst (λ n. IsVector b.epochs.entries n) (sym (seen_length b (contract_view b) refl)) w.vector)
