-- What is known of the coordinates and metrics that were read.
use Rattle.std.proofs.Common.{◌≡◌, ℕ, suc, ◌+◌, ◌<◌, ℤ, cond, List, [], ◌∷◌, ◌++◌, length, Ok, Err, refl, sym, ap, subst, ◌∙◌, append_assoc, arith}
use Rattle.std.specs.Prelude.{nat_lt}
use Rattle.std.specs.List.{AllZip}
use Rattle.std.proofs.lemmas.Bool.{ltb-true}
use Rattle.std.proofs.lemmas.List.{length-append, append-nil}
use Rattle.cube_values.specs.declared.shape.Size.{Size}
use Rattle.brick_address.specs.Addresses.{AreCoords}
use Rattle.round_reading.specs.Limits.{AreLimits}
use Rattle.round_fields.specs.Reading.{list_with, each_step, four_from, signed_from}
use Rattle.round_reading.specs.Payload.{coord_from, coord_step, coords_from, metric_step, metrics_from}
use Rattle.round_fields.proofs.FieldLaws.{passed, bind_ok, ok_is}

abbrev IsBelow : ℕ → ℕ → Type 0
IsBelow limit coord = coord < limit

record Coords (limits before after : List ℕ) : Type 0 where
  pub new : List ℕ
  pub are : after ≡ before ++ new
  pub below : AllZip IsBelow limits new

each_below : (limits before bytes after rest : List ℕ) → each_step coord_step limits before bytes ≡ Ok (after, rest) → Coords limits before after
unfolding each_step
each_below [] before bytes after rest e =
    record { new = []; are = sym (ap (λ (p : List ℕ × List ℕ). p.0) (ok_is ℕ (before, bytes) (after, rest) e)) ∙ sym (append-nil before); below = tt }
each_below (limit ∷ limits) before bytes after rest e =
    let a = bind_ok (coord_step limit before bytes) (λ x. each_step coord_step limits x.0 x.1) (after, rest) e in
    let b = bind_ok (coord_from limit bytes) (λ x. Ok (list_with before x.0, x.1)) a.0 a.1 in
    let c = bind_ok (four_from bytes) (λ x. cond (nat_lt x.0 limit) (Ok x) (Err (length bytes))) b.0 b.1 in
    let p = passed (nat_lt c.0.0 limit) (length bytes) c.0 b.0 c.2 in
    let same : list_with before b.0.0 ≡ a.0.0 = ap (λ (q : List ℕ × List ℕ). q.0) (ok_is ℕ (list_with before b.0.0, b.0.1) a.0 b.2) in
    let below : b.0.0 < limit = subst (λ (q : ℕ × List ℕ). q.0 < limit) p.1 (ltb-true c.0.0 limit p.0) in
    let others = each_below limits a.0.0 a.0.1 after rest a.2 in
    record {
      new = b.0.0 ∷ others.new;
      are = others.are ∙ ap (λ (s : List ℕ). s ++ others.new) (sym same) ∙ append_assoc before (b.0.0 ∷ []) others.new;
      below = (below, others.below);
    }

are_coords : (limits : List ℕ) (sizes : List Size) (coords : List ℕ) → AllZip IsBelow limits coords → AreLimits limits sizes → AreCoords sizes coords
are_coords [] [] [] below limits = tt
are_coords [] [] (coord ∷ coords) below limits = absurd below
are_coords [] (size ∷ sizes) coords below limits = absurd limits
are_coords (limit ∷ others) [] coords below limits = absurd limits
are_coords (limit ∷ others) (size ∷ sizes) [] below limits = absurd below
are_coords (limit ∷ others) (size ∷ sizes) (coord ∷ coords) below limits =
    (omega (arith, below.0, limits.0), are_coords others sizes coords below.1 limits.1)

-- Coordinates that were read are those of the cube.
pub coords_read : (limits : List ℕ) (sizes : List Size) (bytes coords rest : List ℕ) → coords_from limits bytes ≡ Ok (coords, rest) → AreLimits limits sizes → AreCoords sizes coords
unfolding coords_from
coords_read limits sizes bytes coords rest e within =
    let r = each_below limits [] bytes coords rest e in
    subst (AreCoords sizes) (sym r.are) (are_coords limits sizes r.new r.below within)

pub coords_long : (sizes : List Size) (coords : List ℕ) → AreCoords sizes coords → length coords ≡ length sizes
coords_long [] [] are = refl
coords_long [] (coord ∷ coords) are = absurd are
coords_long (size ∷ sizes) [] are = absurd are
coords_long (size ∷ sizes) (coord ∷ coords) are = ap suc (coords_long sizes coords are.1)

each_counted : (names : List (List ℕ)) (before : List ℤ) (bytes : List ℕ) (after : List ℤ) (rest : List ℕ) → each_step metric_step names before bytes ≡ Ok (after, rest) → length after ≡ length before + length names
unfolding each_step
each_counted [] before bytes after rest e = let same : before ≡ after = ap (λ (p : List ℤ × List ℕ). p.0) (ok_is ℕ (before, bytes) (after, rest) e) in omega (arith, ap length same)
each_counted (name ∷ names) before bytes after rest e =
    let a = bind_ok (metric_step name before bytes) (λ x. each_step metric_step names x.0 x.1) (after, rest) e in
    let b = bind_ok (signed_from bytes) (λ x. Ok (list_with before x.0, x.1)) a.0 a.1 in
    let same : list_with before b.0.0 ≡ a.0.0 = ap (λ (q : List ℤ × List ℕ). q.0) (ok_is ℕ (list_with before b.0.0, b.0.1) a.0 b.2) in
    let others = each_counted names a.0.0 a.0.1 after rest a.2 in
    omega (arith, others, ap length same, length-append before (b.0.0 ∷ []))

pub metrics_long : (names : List (List ℕ)) (bytes : List ℕ) (metrics : List ℤ) (rest : List ℕ) → metrics_from names bytes ≡ Ok (metrics, rest) → length metrics ≡ length names
unfolding metrics_from
metrics_long names bytes metrics rest e = omega (arith, each_counted names [] bytes metrics rest e)
