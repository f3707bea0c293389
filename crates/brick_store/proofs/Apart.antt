-- Bits that are set where others are not.
use Rattle.std.proofs.Common.{◌≡◌, ℕ, zero, suc, ◌<◌, ◌≤◌, ◌&&◌, not, Bool, true, false, List, [], ◌∷◌, length, map, get_or, refl, sym, ap, ◌∙◌, inl, inr, arith}
use Rattle.std.proofs.lemmas.Bool.{cases_lt}
use Rattle.std.proofs.lemmas.List.{ext_get_or}
use Rattle.cube_values.specs.BitRows.{filled_bits}
use Rattle.epochs_vector.proofs.VisibleRows.{long_filled, at_below, at_inside, at_above}
use Rattle.brick_store.specs.Deltas.{bits_apart}

-- up to a place the bits are those that are set where others are not, and from there on they are as they were
pub record AreClearedTo (at : ℕ) (old others new : List Bool) : Type 0 where
  pub long : length new ≡ length old
  pub below : (i : ℕ) → i < at → get_or new i false ≡ (get_or old i false && not (get_or others i false))
  pub above : (i : ℕ) → at ≤ i → get_or new i false ≡ get_or old i false

stays : (a b : Bool) → b ≡ false → a ≡ (a && not b)
stays true b e = rw e refl
stays false b e = refl

goes : (a b : Bool) → b ≡ true → false ≡ (a && not b)
goes true b e = rw e refl
goes false b e = refl

pub none_cleared : (old others : List Bool) → AreClearedTo 0 old others old
none_cleared old others = record { long = refl; below = λ i p. absurd (omega arith); above = λ i p. refl }

pub run_cleared : (at from to : ℕ) (old others now new : List Bool) → at ≤ from → from ≤ to → to ≤ length others → length others ≡ length old → ((i : ℕ) → at ≤ i → i < from → get_or others i false ≡ false) → ((i : ℕ) → from ≤ i → i < to → get_or others i false ≡ true) → new ≡ filled_bits now from to false → AreClearedTo at old others now → AreClearedTo to old others new
run_cleared at from to old others now new p q r long passed run e h =
    let within : to ≤ length now = omega (arith, h.long) in
    let each : (i : ℕ) → get_or new i false ≡ get_or (filled_bits now from to false) i false = λ i. ap (λ (l : List Bool). get_or l i false) e in
    record {
      long = ap length e ∙ long_filled now from to false q within ∙ h.long;
      below = λ i l. each i ∙ elim (cases_lt i from) [
        | inl a ↦ at_below now from to false q within i a ∙ elim (cases_lt i at) [
          | inl b ↦ h.below i b
          | inr b ↦ h.above i b ∙ stays (get_or old i false) (get_or others i false) (passed i b a)
        ]
        | inr a ↦ at_inside now from to false within i a l ∙ goes (get_or old i false) (get_or others i false) (run i a l)
      ];
      above = λ i l. each i ∙ at_above now from to false q within i l ∙ h.above i (omega arith);
    }

apart_long : (bits others : List Bool) → length others ≡ length bits → length (bits_apart bits others) ≡ length bits
apart_long [] others e = refl
apart_long (b ∷ bits) [] e = absurd (omega arith)
apart_long (b ∷ bits) (o ∷ others) e = ap suc (apart_long bits others (omega arith))

apart_at : (bits others : List Bool) (i : ℕ) → length others ≡ length bits → i < length bits → get_or (bits_apart bits others) i false ≡ (get_or bits i false && not (get_or others i false))
apart_at [] others i e l = absurd (omega arith)
apart_at (b ∷ bits) [] i e l = absurd (omega arith)
apart_at (b ∷ bits) (o ∷ others) zero e l = refl
apart_at (b ∷ bits) (o ∷ others) (suc i) e l = apart_at bits others i (omega arith) (omega arith)

pub all_cleared : (at : ℕ) (old others new : List Bool) → length others ≡ length old → length others ≤ at → AreClearedTo at old others new → new ≡ bits_apart old others
all_cleared at old others new long l h =
    ext_get_or false new (bits_apart old others) (h.long ∙ sym (apart_long old others long)) (λ i p.
    let q : i < length old = omega (arith, h.long) in
    h.below i (omega arith) ∙ sym (apart_at old others i long q))

-- the bits of two tests
pub tests_apart : (one other : ℕ → Bool) (places : List ℕ) → bits_apart (map one places) (map other places) ≡ map (λ i. one i && not (other i)) places
tests_apart one other [] = refl
tests_apart one other (i ∷ places) = ap (λ bits. (one i && not (other i)) ∷ bits) (tests_apart one other places)
