-- The rows of flat lists: how many they are, each one, and one more.
use Rattle.std.proofs.Common.{◌≡◌, ℕ, ◌+◌, ◌*◌, ◌<◌, ◌≤◌, ℤ, List, [], ◌∷◌, ◌++◌, length, map, take, drop, All, sym, ap, ◌∙◌, arith, get_or}
use Rattle.std.specs.List.{range_with_len}
use Rattle.std.proofs.Math.Nat.{mul-le-mul_right}
use Rattle.std.proofs.lemmas.List.{ext_get_or, take-append-le, drop-append-le, take_all, length-take-le, length-drop, length-append}
use Rattle.std.proofs.Math.Seq.{drop-append_seam}
use Rattle.std.proofs.lemmas.List.Elements.{All-from_get_or}
use Rattle.std.proofs.lemmas.List.FromFn.{length-map-range_with_len, get_or-map-range_with_len, map-range_with_len_more}
use Rattle.cube_values.specs.declared.row.CodedRow.{CodedRow}
use Rattle.cube_values.specs.Batches.{HasWidths, nth_part, flat_row, flat_rows}

-- part i ends within the list
pub part_within : (w n i : ℕ) → i < n → i * w + w ≤ n * w
part_within w n i h = omega (arith, mul-le-mul_right {m = i + 1} {n = n} w (omega arith))

pub length-part : {T : Type 0} (w : ℕ) (xs : List T) (n i : ℕ) → length xs ≡ n * w → i < n → length (nth_part w xs i) ≡ w
length-part w xs n i l h =
    length-take-le w (drop (i * w) xs) (omega (arith, length-drop (i * w) xs, part_within w n i h))

-- one part more
pub long_more : {T : Type 0} (w n : ℕ) (xs more : List T) → length xs ≡ n * w → length more ≡ w → length (xs ++ more) ≡ (n + 1) * w
long_more w n xs more l m = omega (arith, length-append xs more)

-- more items change no part before them, and are the next part
part_front : {T : Type 0} (w : ℕ) (xs more : List T) (n i : ℕ) → length xs ≡ n * w → i < n → nth_part w (xs ++ more) i ≡ nth_part w xs i
part_front w xs more n i l h =
    let p = part_within w n i h in
    ap (take w) (drop-append-le (i * w) xs more (omega arith)) ∙ take-append-le w (drop (i * w) xs) more (omega (arith, length-drop (i * w) xs))

part_last : {T : Type 0} (w : ℕ) (xs more : List T) (n : ℕ) → length xs ≡ n * w → length more ≡ w → nth_part w (xs ++ more) n ≡ more
part_last w xs more n l m =
    ap (λ k. take w (drop k (xs ++ more))) (sym l) ∙ ap (take w) (drop-append_seam xs more) ∙ take_all w more (omega arith)

abbrev none : CodedRow
none = record { coords = []; metrics = [] }

module _ (d w : ℕ) (cs : List ℕ) (ms : List ℤ) (n : ℕ) (lc : length cs ≡ n * d) (lm : length ms ≡ n * w) where
  same_front : (c : List ℕ) (m : List ℤ) → flat_rows d w (cs ++ c) (ms ++ m) n ≡ flat_rows d w cs ms n
  same_front c m =
      let f = flat_row d w (cs ++ c) (ms ++ m) in
      let g = flat_row d w cs ms in
      ext_get_or none (map f (range_with_len 0 n)) (map g (range_with_len 0 n)) (length-map-range_with_len f 0 n ∙ sym (length-map-range_with_len g 0 n)) (λ i p.
      let q : i < n = omega (arith, length-map-range_with_len f 0 n) in
      let e : f i ≡ g i = λ t. record { coords = part_front d cs c n i lc q t; metrics = part_front w ms m n i lm q t } in
      get_or-map-range_with_len f 0 n i i none q (omega arith) ∙ e ∙ sym (get_or-map-range_with_len g 0 n i i none q (omega arith)))

  pub rows_more : (c : List ℕ) (m : List ℤ) → length c ≡ d → length m ≡ w → flat_rows d w (cs ++ c) (ms ++ m) (n + 1) ≡ flat_rows d w cs ms n ++ record { coords = c; metrics = m } ∷ []
  rows_more c m k l =
      let e : flat_row d w (cs ++ c) (ms ++ m) n ≡ record { coords = c; metrics = m } = λ t. record { coords = part_last d cs c n lc k t; metrics = part_last w ms m n lm l t } in
      map-range_with_len_more (flat_row d w (cs ++ c) (ms ++ m)) 0 n n (omega arith) ∙ (λ t. same_front c m t ++ e t ∷ [])

pub length_flat : (d w : ℕ) (cs : List ℕ) (ms : List ℤ) (n : ℕ) → length (flat_rows d w cs ms n) ≡ n
length_flat d w cs ms n = length-map-range_with_len (flat_row d w cs ms) 0 n

pub row_of_flat : (d w : ℕ) (cs : List ℕ) (ms : List ℤ) (n i : ℕ) → i < n → get_or (flat_rows d w cs ms n) i none ≡ flat_row d w cs ms i
row_of_flat d w cs ms n i h = get_or-map-range_with_len (flat_row d w cs ms) 0 n i i none h (omega arith)

pub widths : (d w : ℕ) (cs : List ℕ) (ms : List ℤ) (n : ℕ) → length cs ≡ n * d → length ms ≡ n * w → All (HasWidths d w) (flat_rows d w cs ms n)
widths d w cs ms n lc lm =
    All-from_get_or (HasWidths d w) (flat_rows d w cs ms n) none (λ i p.
    let q : i < n = omega (arith, length_flat d w cs ms n) in
    let e = row_of_flat d w cs ms n i q in
    record {
      coords = ap (λ (r : CodedRow). length r.coords) e ∙ length-part d cs n i lc q;
      metrics = ap (λ (r : CodedRow). length r.metrics) e ∙ length-part w ms n i lm q;
    })
