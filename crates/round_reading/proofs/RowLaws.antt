-- Rows are read as they are spelled.
use Rattle.std.proofs.Common.{◌≡◌, ℕ, ◌^◌, ◌<◌, ◌≤◌, ℤ, Bool, true, false, ltb, List, [], ◌∷◌, ◌++◌, length, take, drop, Ok, IsTrue, refl, sym, ap, subst, ◌∙◌, arith}
use Rattle.std.specs.Prelude.{FitsSigned, nat_lt, ◌==◌}
use Rattle.std.specs.Int.{w64, from_le_bytes, to_le_bytes, cast_signed, cast_unsigned}
use Rattle.std.specs.List.{flat_map, zip, AllZip}
use Rattle.std.proofs.Math.Facts.{sfits_to_z, Fits-of_z}
use Rattle.std.proofs.lemmas.Int.{of_z-to_z, to_z-of_z}
use Rattle.std.proofs.lemmas.Bool.{ltb-true, lt-ltb, ltb-false, le-ltb, eqb-true, eq-eqb}
use Rattle.std.proofs.lemmas.List.{take_at, drop_at, take-append-drop, length-append, length-take}
use Rattle.std.proofs.lemmas.Nat.{le_bytes_8, from_le_bytes-to_le_bytes_8}
use Rattle.cube_language.specs.declared.decl.Decl.{Decl}
use Rattle.cube_language.specs.Cubes.{sizes_of}
use Rattle.brick_address.specs.Addresses.{brick_of}
use Rattle.cube_rounds.specs.Bytes.{four_bytes, signed_bytes, row_bytes}
use Rattle.cube_rounds.specs.Demands.{IsCoordBelow, FitsRow}
use Rattle.round_fields.specs.Reading.{with_test, list_with, signed_from, four_from}
use Rattle.round_reading.specs.Payload.{coord_from, coord_step, coords_from, metric_step, metrics_from, row_of_parts, row_from}
use Rattle.round_fields.proofs.FieldLaws.{IsBytes, IsBytes-take, IsBytes-drop, not_failed, Takes, Reads, reads_four}
use Rattle.round_reading.proofs.Sequences.{reads_passing, reads_as, reads_both, reads_putting, each_take, each_again, ReadsStep, Anything, all_anything}

signed_read : (b rest : List ℕ) (n : ℕ) → length b ≡ 8 → from_le_bytes w64 b ≡ n → signed_from (b ++ rest) ≡ Ok (cast_signed w64 n, rest)
unfolding signed_from
signed_read b rest n len is =
    let long : ltb (length (b ++ rest)) 8 ≡ false = le-ltb _ _ (omega (arith, length-append b rest)) in
    rw (long, take_at b rest 8 len, drop_at b rest 8 len, is) refl

pub reads_signed : Reads signed_bytes (FitsSigned w64) signed_from
unfolding signed_bytes signed_from
reads_signed = record {
  takes = λ bytes z rest fits e.
      let n = from_le_bytes w64 (take 8 bytes) in
      let g = not_failed (ltb (length bytes) 8) (length bytes) (cast_signed w64 n, drop 8 bytes) (z, rest) e in
      let long : 8 ≤ length bytes = ltb-false _ _ g.0 in
      let z-is : cast_signed w64 n ≡ z = ap (λ (p : ℤ × List ℕ). p.0) g.1 in
      let rest-is : drop 8 bytes ≡ rest = ap (λ (p : ℤ × List ℕ). p.1) g.1 in
      let small = IsBytes-take 8 bytes fits in
      let below : n < 2 ^ 64 = omega (arith, small 0, small 1, small 2, small 3, small 4, small 5, small 6, small 7) in
      let front : to_le_bytes w64 n ≡ take 8 bytes = le_bytes_8 (take 8 bytes) n (omega (arith, length-take 8 bytes)) small refl in
      let bits : cast_unsigned w64 z ≡ n = ap (cast_unsigned w64) (sym z-is) ∙ of_z-to_z w64 n below in
      let spelled : take 8 bytes ≡ to_le_bytes w64 (cast_unsigned w64 z) = sym (ap (to_le_bytes w64) bits ∙ front) in (
        record { parts = sym (take-append-drop 8 bytes) ∙ (λ i. spelled i ++ rest-is i); rest_fits = subst IsBytes rest-is (IsBytes-drop 8 bytes fits) },
        subst (FitsSigned w64) z-is (sfits_to_z {w = w64} {n = n} (record { fits = below })),
      );
  again = λ z rest fit short.
      let n = cast_unsigned w64 z in
      signed_read (to_le_bytes w64 n) rest n refl (from_le_bytes-to_le_bytes_8 n (Fits-of_z {w = w64} {z = z} fit).fits) ∙ ap (λ (y : ℤ). Ok (y, rest)) (to_z-of_z w64 z fit);
}

-- ---- coordinates and metrics

pub is_true : (b : Bool) → IsTrue b → b ≡ true
is_true b t = t

pub as_true : (b : Bool) → b ≡ true → IsTrue b
as_true b e = e

reads_coord : (limit : ℕ) → Reads four_bytes (IsCoordBelow limit) (coord_from limit)
reads_coord limit =
    reads_as four_bytes (λ n. (n < 2 ^ 32) × IsTrue (nat_lt n limit)) (IsCoordBelow limit) (coord_from limit)
    (λ n h. record { below = ltb-true n limit (is_true (nat_lt n limit) h.1); small = h.0 })
    (λ n h. (h.small, as_true (nat_lt n limit) (lt-ltb n limit h.below)))
    (reads_passing four_bytes (λ n. n < 2 ^ 32) four_from (λ n. nat_lt n limit) reads_four)

coord_steps : (limit : ℕ) → ReadsStep list_with four_bytes (λ s. IsCoordBelow limit) (coord_step limit)
coord_steps limit = reads_putting list_with four_bytes (λ s. IsCoordBelow limit) (λ before. coord_from limit) (λ s. reads_coord limit)

-- The spelling of values that do not look at what each stands for.
pub zip_seconds : {P A : Type 0} (f : A → List ℕ) (Fits : P → A → Type 0) (ps : List P) (xs : List A) → AllZip Fits ps xs → flat_map (λ (q : P × A). f q.1) (zip ps xs) ≡ flat_map f xs
zip_seconds f Fits [] [] fit = refl
zip_seconds f Fits [] (x ∷ xs) fit = absurd fit
zip_seconds f Fits (p ∷ ps) [] fit = absurd fit
zip_seconds f Fits (p ∷ ps) (x ∷ xs) fit = ap (λ (r : List ℕ). f x ++ r) (zip_seconds f Fits ps xs fit.1)

reads_coords : (limits : List ℕ) → Reads (flat_map four_bytes) (AllZip IsCoordBelow limits) (coords_from limits)
unfolding coords_from
reads_coords limits = record {
  takes = λ bytes coords rest fits e.
      let t = each_take (λ limit. four_bytes) IsCoordBelow coord_step Anything (λ limit any. coord_steps limit) limits (all_anything limits) [] bytes coords rest fits e in
      let spelled = zip_seconds four_bytes IsCoordBelow limits t.items t.fit in
      (rw t.are (subst (λ (text : List ℕ). Takes bytes text rest) spelled t.taken), rw t.are t.fit);
  again = λ coords rest fit short.
      let spelled = zip_seconds four_bytes IsCoordBelow limits coords fit in
      rw (← spelled) (each_again (λ limit. four_bytes) IsCoordBelow coord_step Anything (λ limit any. coord_steps limit) limits (all_anything limits) coords [] rest fit (rw spelled short));
}

metric_steps : (name : List ℕ) → ReadsStep list_with signed_bytes (λ s. FitsSigned w64) (metric_step name)
metric_steps name = reads_putting list_with signed_bytes (λ s. FitsSigned w64) (λ before. signed_from) (λ s. reads_signed)

reads_metrics : (names : List (List ℕ)) → Reads (flat_map signed_bytes) (AllZip (λ name. FitsSigned w64) names) (metrics_from names)
unfolding metrics_from
reads_metrics names = record {
  takes = λ bytes metrics rest fits e.
      let t = each_take (λ name. signed_bytes) (λ name. FitsSigned w64) metric_step Anything (λ name any. metric_steps name) names (all_anything names) [] bytes metrics rest fits e in
      let spelled = zip_seconds signed_bytes (λ (name : List ℕ). FitsSigned w64) names t.items t.fit in
      (rw t.are (subst (λ (text : List ℕ). Takes bytes text rest) spelled t.taken), rw t.are t.fit);
  again = λ metrics rest fit short.
      let spelled = zip_seconds signed_bytes (λ (name : List ℕ). FitsSigned w64) names metrics fit in
      rw (← spelled) (each_again (λ name. signed_bytes) (λ name. FitsSigned w64) metric_step Anything (λ name any. metric_steps name) names (all_anything names) metrics [] rest fit (rw spelled short));
}

pub reads_row : (cube : Decl) (limits : List ℕ) (brick : ℕ) → Reads row_bytes (FitsRow cube limits brick) (row_from cube limits brick)
unfolding row_from
reads_row cube limits brick =
    let right : List ℕ → Type 0 = λ coords. AllZip IsCoordBelow limits coords × IsTrue (brick_of (sizes_of cube.dims) coords == brick) in
    reads_as row_bytes (λ row. right row.coords × AllZip (λ name. FitsSigned w64) cube.metrics row.metrics) (FitsRow cube limits brick) (row_from cube limits brick)
    (λ row h. record { coords = h.0.0; place = eqb-true _ _ (is_true (brick_of (sizes_of cube.dims) row.coords == brick) h.0.1); metrics = h.1 })
    (λ row h. ((h.coords, as_true (brick_of (sizes_of cube.dims) row.coords == brick) (eq-eqb (brick_of (sizes_of cube.dims) row.coords) brick h.place)), h.metrics))
    (reads_both (flat_map four_bytes) right (with_test (λ coords. brick_of (sizes_of cube.dims) coords == brick) (coords_from limits))
    (λ coords. flat_map signed_bytes) (λ coords. AllZip (λ name. FitsSigned w64) cube.metrics) (λ coords. metrics_from cube.metrics)
    row_of_parts (λ row. row.coords) (λ row. row.metrics) (λ row. refl) (λ a b. refl) (λ a b. refl)
    (reads_passing (flat_map four_bytes) (AllZip IsCoordBelow limits) (coords_from limits) (λ coords. brick_of (sizes_of cube.dims) coords == brick) (reads_coords limits))
    (λ coords h. reads_metrics cube.metrics))
