-- Coordinates in the ranges that begin at the same starts.
use Rattle.std.proofs.Common.{◌≡◌, ℕ, ◌+◌, ◌-◌, ◌*◌, ◌/◌, ◌<◌, ◌≤◌, List, [], ◌∷◌, All, drop, get_or, refl, sym, ap, subst, ◌∙◌, arith}
use Rattle.std.proofs.lemmas.List.Elements.{All-head, All-tail}
use Rattle.std.proofs.lemmas.Nat.{div-mul-add}
use Rattle.cube_values.specs.declared.shape.Size.{Size}
use Rattle.cube_values.specs.Shapes.{bricks_of, IsSoundSize}
use Rattle.brick_address.specs.Addresses.{AreCoords, brick_of, coord_at}
use Rattle.brick_map.specs.Batches.{range_starts}

-- a start is of its own range
range_of_start : (s : Size) (x : ℕ) → IsSoundSize s → coord_at s (x / s.range) 0 / s.range ≡ x / s.range
range_of_start s x h = div-mul-add (x / s.range) s.range 0 h.range

pub starts_of_starts : (sizes : List Size) (coords : List ℕ) → All IsSoundSize sizes → range_starts sizes (range_starts sizes coords) ≡ range_starts sizes coords
starts_of_starts [] coords h = refl
starts_of_starts (s ∷ sizes) [] h = refl
starts_of_starts (s ∷ sizes) (x ∷ coords) h =
    let first = range_of_start s x (All-head IsSoundSize s sizes h) in
    let others = starts_of_starts sizes coords (All-tail IsSoundSize s sizes h) in
    (λ i. coord_at s (first i) 0 ∷ others i)

brick_of_starts : (sizes : List Size) (coords : List ℕ) → All IsSoundSize sizes → brick_of sizes (range_starts sizes coords) ≡ brick_of sizes coords
brick_of_starts [] coords h = refl
brick_of_starts (s ∷ sizes) [] h = refl
brick_of_starts (s ∷ sizes) (x ∷ coords) h =
    let first = range_of_start s x (All-head IsSoundSize s sizes h) in
    let others = brick_of_starts sizes coords (All-tail IsSoundSize s sizes h) in
    (λ i. first i * bricks_of sizes + others i)

pub one_brick : (sizes : List Size) (a b : List ℕ) → All IsSoundSize sizes → range_starts sizes a ≡ range_starts sizes b → brick_of sizes a ≡ brick_of sizes b
one_brick sizes a b h e = sym (brick_of_starts sizes a h) ∙ ap (brick_of sizes) e ∙ brick_of_starts sizes b h

-- one dimension more, whose coordinate lies in the range of its start
pub record OneRangeMore (sizes rest : List Size) (starts starts_rest coords coords_rest : List ℕ) : Type 0 where
  pub sound : All IsSoundSize rest
  pub are_starts : range_starts rest starts_rest ≡ starts_rest
  pub are_coords : AreCoords rest coords_rest
  pub on : range_starts rest coords_rest ≡ starts_rest → range_starts sizes coords ≡ starts
  pub back : range_starts sizes coords ≡ starts → range_starts rest coords_rest ≡ starts_rest

start_of_near : (s : Size) (start x : ℕ) → coord_at s (start / s.range) 0 ≡ start → start ≤ x → x - start < s.range → coord_at s (x / s.range) 0 ≡ start
start_of_near s start x e l m =
    let near : x ≡ start / s.range * s.range + (x - start) = omega arith in
    let range : x / s.range ≡ start / s.range = ap (λ n. n / s.range) near ∙ div-mul-add (start / s.range) s.range (x - start) m in
    ap (λ n. coord_at s n 0) range ∙ e

more_of_cons : (s : Size) (sizes : List Size) (start : ℕ) (starts : List ℕ) (x : ℕ) (coords : List ℕ) → All IsSoundSize (s ∷ sizes) → range_starts (s ∷ sizes) (start ∷ starts) ≡ start ∷ starts
    → AreCoords (s ∷ sizes) (x ∷ coords) → start ≤ x → x - start < s.range → OneRangeMore (s ∷ sizes) sizes (start ∷ starts) starts (x ∷ coords) coords
more_of_cons s sizes start starts x coords h e c l m =
    let first = start_of_near s start x (ap (λ l. get_or l 0 0) e) l m in
    record { sound = All-tail IsSoundSize s sizes h; are_starts = ap (drop 1) e; are_coords = c.1; on = λ k i. first i ∷ k i; back = λ k. ap (drop 1) k }

pub one_range_more : (sizes rest : List Size) (starts starts_rest coords coords_rest : List ℕ) (s : Size) (start x : ℕ) → sizes ≡ s ∷ rest → starts ≡ start ∷ starts_rest → coords ≡ x ∷ coords_rest
    → All IsSoundSize sizes → range_starts sizes starts ≡ starts → AreCoords sizes coords → start ≤ x → x - start < s.range → OneRangeMore sizes rest starts starts_rest coords coords_rest
one_range_more sizes rest starts starts_rest coords coords_rest s start x e f g h k c l m =
    let k2 : range_starts (s ∷ rest) (start ∷ starts_rest) ≡ start ∷ starts_rest = coe 0 1 (i. range_starts (e i) (f i) ≡ f i) k in
    coe 1 0 (i. OneRangeMore (e i) rest (f i) starts_rest (g i) coords_rest)
    (more_of_cons s rest start starts_rest x coords_rest (subst (λ (l : List Size). All IsSoundSize l) e h) k2 (coe 0 1 (i. AreCoords (e i) (g i)) c) l m)
