-- Rows in bits: each is read where it was put.
use Rattle.std.proofs.Common.{◌≡◌, ℕ, ◌+◌, ◌-◌, ◌*◌, ◌^◌, ◌<◌, ◌≤◌, zero, suc, Bool, true, false, List, [], ◌∷◌, ◌++◌, length, take, drop, get_or, min, refl, sym, ap, ◌∙◌, arith, suc-mul, add-one, mul-le-mul_right, zero-mul, sum}
use Rattle.std.specs.List.{AllZip, zip, items_where_true}
use Rattle.std.proofs.lemmas.Slice.Zip.{length-zip}
use Rattle.std.proofs.lemmas.List.{length-map, take-append-le, drop-append-le, take_at, drop_at, take-append-drop, drop-drop, length-drop, length-append, length-take, length-take-le, nil_from_length, append-nil, append_assoc, drop_more, drop_all, get_or-take, get_or-drop}
use Rattle.std.proofs.lemmas.List.Sums.{sum_by-cons, sum_by_more_le}
use Rattle.packed_words.specs.Numbers.{number_of_bits, low_bits}
use Rattle.cube_values.specs.BitRows.{has_bit}
use Rattle.packed_words.specs.Rows.{HasWidth, differences, row_bits, row_of_bits, rows_of_bits}
use Rattle.packed_words.proofs.Numbers.{low_length, number_of_low, bit_of_number}

pub sum_cons : (n : ℕ) (ns : List ℕ) → sum (n ∷ ns) ≡ n + sum ns
sum_cons n ns = sum_by-cons (λ x. x) n ns

-- how many rows and bits there are
pub rows_long : (widths : List ℕ) (n : ℕ) (bits : List Bool) → length (rows_of_bits widths n bits) ≡ n
rows_long widths zero bits = refl
rows_long widths (suc n) bits = ap suc (rows_long widths n (drop (sum widths) bits))

pub row_length : (widths numbers : List ℕ) → length numbers ≡ length widths → length (row_bits widths numbers) ≡ sum widths
row_length [] [] h = refl
row_length [] (n ∷ numbers) h = refl
row_length (w ∷ widths) [] h = absurd (omega arith)
row_length (w ∷ widths) (n ∷ numbers) h = omega (arith, length-append (low_bits w n) (row_bits widths numbers), low_length w n, row_length widths numbers (omega arith), sum_cons w widths)

-- bits behind do not matter
pub row_front : (widths : List ℕ) (bits more : List Bool) → sum widths ≤ length bits → row_of_bits widths (bits ++ more) ≡ row_of_bits widths bits
row_front [] bits more h = refl
row_front (w ∷ widths) bits more h =
    let within : w ≤ length bits = omega (arith, sum_cons w widths) in
    let rest = row_front widths (drop w bits) more (omega (arith, sum_cons w widths, length-drop w bits)) in
    λ t. number_of_bits (take-append-le w bits more within t) ∷ (ap (row_of_bits widths) (drop-append-le w bits more within) ∙ rest) t

pub rows_front : (widths : List ℕ) (n : ℕ) (bits more : List Bool) → n * sum widths ≤ length bits → rows_of_bits widths n (bits ++ more) ≡ rows_of_bits widths n bits
rows_front widths zero bits more h = refl
rows_front widths (suc n) bits more h =
    let within : sum widths ≤ length bits = omega (arith, suc-mul n (sum widths)) in
    let rest = rows_front widths n (drop (sum widths) bits) more (omega (arith, suc-mul n (sum widths), length-drop (sum widths) bits)) in
    λ t. row_front widths bits more within t ∷ (ap (rows_of_bits widths n) (drop-append-le (sum widths) bits more within) ∙ rest) t

-- the rows in the first bits are those in all
pub rows_taken : (widths : List ℕ) (n m : ℕ) (bits : List Bool) → n * sum widths ≤ m → m ≤ length bits → rows_of_bits widths n (take m bits) ≡ rows_of_bits widths n bits
rows_taken widths n m bits h l =
    sym (rows_front widths n (take m bits) (drop m bits) (omega (arith, length-take-le m bits l))) ∙ ap (rows_of_bits widths n) (take-append-drop m bits)

-- a row is read as it was put
pub row_back : (widths numbers : List ℕ) (more : List Bool) → AllZip HasWidth numbers widths → row_of_bits widths (row_bits widths numbers ++ more) ≡ numbers
row_back [] [] more h = refl
row_back [] (n ∷ numbers) more h = absurd h
row_back (w ∷ widths) [] more h = absurd h
row_back (w ∷ widths) (n ∷ numbers) more h =
    let rest : List Bool = row_bits widths numbers ++ more in
    let split : (low_bits w n ++ row_bits widths numbers) ++ more ≡ low_bits w n ++ rest = append_assoc (low_bits w n) (row_bits widths numbers) more in
    let first = ap (λ b. number_of_bits (take w b)) split ∙ ap number_of_bits (take_at (low_bits w n) rest w (low_length w n)) ∙ number_of_low w n h.0 in
    let others = ap (λ b. row_of_bits widths (drop w b)) split ∙ ap (row_of_bits widths) (drop_at (low_bits w n) rest w (low_length w n)) ∙ row_back widths numbers more h.1 in
    λ t. first t ∷ others t

-- one row more
pub rows_more : (widths numbers : List ℕ) (n : ℕ) (bits : List Bool) → length bits ≡ n * sum widths → AllZip HasWidth numbers widths → rows_of_bits widths (suc n) (bits ++ row_bits widths numbers) ≡ rows_of_bits widths n bits ++ numbers ∷ []
rows_more widths numbers zero bits l h =
    let empty : length bits ≡ 0 = omega (arith, l, zero-mul (sum widths)) in
    let none : bits ≡ [] = nil_from_length bits empty in
    let alone = ap (λ b. row_of_bits widths (b ++ row_bits widths numbers)) none ∙ ap (row_of_bits widths) (sym (append-nil (row_bits widths numbers))) ∙ row_back widths numbers [] h in
    ap (λ row. row ∷ []) alone
rows_more widths numbers (suc n) bits l h =
    let within : sum widths ≤ length bits = omega (arith, suc-mul n (sum widths)) in
    let rest = rows_more widths numbers n (drop (sum widths) bits) (omega (arith, suc-mul n (sum widths), length-drop (sum widths) bits)) h in
    λ t. row_front widths bits (row_bits widths numbers) within t ∷ (ap (rows_of_bits widths (suc n)) (drop-append-le (sum widths) bits (row_bits widths numbers) within) ∙ rest) t

-- a row and a number of it by their places
pub row_at : (widths : List ℕ) (n t : ℕ) (bits : List Bool) → t < n → get_or (rows_of_bits widths n bits) t [] ≡ row_of_bits widths (drop (t * sum widths) bits)
row_at widths zero t bits h = absurd (omega arith)
row_at widths (suc n) zero bits h = ap (λ k. row_of_bits widths (drop k bits)) (sym (zero-mul (sum widths)))
row_at widths (suc n) (suc t) bits h =
    let next : sum widths + t * sum widths ≡ suc t * sum widths = omega (arith, suc-mul t (sum widths)) in
    row_at widths n t (drop (sum widths) bits) (omega arith) ∙ ap (row_of_bits widths) (drop-drop (t * sum widths) (sum widths) bits ∙ ap (λ k. drop k bits) next)

pub number_in_row : (widths : List ℕ) (i : ℕ) (bits : List Bool) → i < length widths → get_or (row_of_bits widths bits) i 0 ≡ number_of_bits (take (get_or widths i 0) (drop (sum (take i widths)) bits))
number_in_row [] i bits h = absurd (omega arith)
number_in_row (w ∷ widths) zero bits h = refl
number_in_row (w ∷ widths) (suc i) bits h =
    let start = sum_cons w (take i widths) in
    number_in_row widths i (drop w bits) (omega arith) ∙ ap (λ b. number_of_bits (take (get_or widths i 0) b)) (drop-drop (sum (take i widths)) w bits ∙ ap (λ k. drop k bits) (sym start))

-- the place of bit k of a number lies within its rows
pub number_within : (widths : List ℕ) (t i k n : ℕ) → t < n → i < length widths → k < get_or widths i 0 → t * sum widths + sum (take i widths) + k < n * sum widths
number_within widths t i k n ht hi hk =
    let end = sum_by_more_le (λ x. x) widths i 0 hi in
    omega (arith, end, suc-mul t (sum widths), mul-le-mul_right (sum widths) ht)

-- one number more of a row
pub row_bits_more : (widths numbers : List ℕ) (i : ℕ) → i < length widths → i < length numbers → row_bits (take (i + 1) widths) (take (i + 1) numbers) ≡ row_bits (take i widths) (take i numbers) ++ low_bits (get_or widths i 0) (get_or numbers i 0)
row_bits_more widths numbers i p q = ap (λ n. row_bits (take n widths) (take n numbers)) (add-one i) ∙ by_place widths numbers i p q where
  by_place : (widths numbers : List ℕ) (i : ℕ) → i < length widths → i < length numbers → row_bits (take (suc i) widths) (take (suc i) numbers) ≡ row_bits (take i widths) (take i numbers) ++ low_bits (get_or widths i 0) (get_or numbers i 0)
  by_place [] numbers i p q = absurd (omega arith)
  by_place (w ∷ widths) [] i p q = absurd (omega arith)
  by_place (w ∷ widths) (n ∷ numbers) zero p q = append-nil (low_bits w n)
  by_place (w ∷ widths) (n ∷ numbers) (suc i) p q =
      ap (λ bits. low_bits w n ++ bits) (by_place widths numbers i (omega arith) (omega arith))
      ∙ sym (append_assoc (low_bits w n) (row_bits (take i widths) (take i numbers)) (low_bits (get_or widths i 0) (get_or numbers i 0)))

-- how many bits the first numbers take
pub row_taken : (widths numbers : List ℕ) (i : ℕ) → length numbers ≡ length widths → length (row_bits (take i widths) (take i numbers)) ≡ sum (take i widths)
row_taken widths numbers i h =
    row_length (take i widths) (take i numbers) (omega (arith, length-take i numbers, length-take i widths))

pub fits_at : (numbers widths : List ℕ) (i : ℕ) → AllZip HasWidth numbers widths → i < length widths → get_or numbers i 0 < 2 ^ get_or widths i 0
fits_at [] [] i h l = absurd (omega arith)
fits_at [] (w ∷ widths) i h l = absurd h
fits_at (n ∷ numbers) [] i h l = absurd h
fits_at (n ∷ numbers) (w ∷ widths) zero h l = h.0
fits_at (n ∷ numbers) (w ∷ widths) (suc i) h l = fits_at numbers widths i h.1 (omega arith)

-- a number and the one that it is not below
pub above_at : (starts numbers : List ℕ) (i d e : ℕ) → AllZip ◌≤◌ starts numbers → i < length numbers → get_or starts i d ≤ get_or numbers i e
above_at [] [] i d e h l = absurd (omega arith)
above_at [] (n ∷ numbers) i d e h l = absurd h
above_at (s ∷ starts) [] i d e h l = absurd h
above_at (s ∷ starts) (n ∷ numbers) zero d e h l = h.0
above_at (s ∷ starts) (n ∷ numbers) (suc i) d e h l = above_at starts numbers i d e h.1 (omega arith)

pub difference_long : (numbers starts : List ℕ) → length (differences numbers starts) ≡ min (length numbers) (length starts)
difference_long numbers starts = length-map (zip numbers starts) (λ p. p.0 - p.1) ∙ length-zip numbers starts

pub difference_at : (numbers starts : List ℕ) (i d e : ℕ) → i < length numbers → i < length starts → get_or (differences numbers starts) i 0 ≡ get_or numbers i d - get_or starts i e
difference_at [] starts i d e p q = absurd (omega arith)
difference_at (n ∷ numbers) [] i d e p q = absurd (omega arith)
difference_at (n ∷ numbers) (s ∷ starts) zero d e p q = refl
difference_at (n ∷ numbers) (s ∷ starts) (suc i) d e p q = difference_at numbers starts i d e (omega arith) (omega arith)

-- bit k of a number of a row by its place
pub number_bit : (widths : List ℕ) (n t i k : ℕ) (bits : List Bool) → length bits ≡ n * sum widths → t < n → i < length widths → k < get_or widths i 0 → get_or bits (t * sum widths + sum (take i widths) + k) false ≡ has_bit (get_or (get_or (rows_of_bits widths n bits) t []) i 0) k
number_bit widths n t i k bits l ht hi hk =
    let w : ℕ = sum widths in
    let start : ℕ = sum (take i widths) in
    let width : ℕ = get_or widths i 0 in
    let place : ℕ = t * w + start in
    let end : start + width ≤ w = sum_by_more_le (λ x. x) widths i 0 hi in
    let rows : suc t * w ≤ n * w = mul-le-mul_right w ht in
    let part : List Bool = take width (drop place bits) in
    let long : length part ≡ width = length-take-le width (drop place bits) (omega (arith, suc-mul t w, length-drop place bits)) in
    let number = ap (λ row. get_or row i 0) (row_at widths n t bits ht) ∙ number_in_row widths i (drop (t * w) bits) hi ∙ ap (λ b. number_of_bits (take width b)) (drop-drop start (t * w) bits) in
    sym (get_or-drop place bits k false)
    ∙ sym (get_or-take width (drop place bits) k false hk)
    ∙ sym (bit_of_number part k (omega (arith, long)))
    ∙ ap (λ m. has_bit m k) (sym number)

-- the rows behind the first of n
rows_next : (widths : List ℕ) (n : ℕ) (bits : List Bool) → 0 < n → rows_of_bits widths n bits ≡ row_of_bits widths bits ∷ rows_of_bits widths (n - 1) (drop (sum widths) bits)
rows_next widths zero bits h = absurd (omega arith)
rows_next widths (suc n) bits h =
    let one : n ≡ suc n - 1 = omega arith in
    ap (λ m. row_of_bits widths bits ∷ rows_of_bits widths m (drop (sum widths) bits)) one

-- one row more, read from bits as they are
rows_last : (widths : List ℕ) (n : ℕ) (bits : List Bool) → suc n * sum widths ≤ length bits → rows_of_bits widths (suc n) bits ≡ rows_of_bits widths n bits ++ row_of_bits widths (drop (n * sum widths) bits) ∷ []
rows_last widths zero bits h = ap (λ k. row_of_bits widths (drop k bits) ∷ []) (sym (zero-mul (sum widths)))
rows_last widths (suc n) bits h =
    let w : ℕ = sum widths in
    let place : w + n * w ≡ suc n * w = omega (arith, suc-mul n w) in
    let rest = rows_last widths n (drop w bits) (omega (arith, suc-mul n w, suc-mul (suc n) w, length-drop w bits)) in
    ap (λ rows. row_of_bits widths bits ∷ rows) (rest ∙ ap (λ b. rows_of_bits widths n (drop w bits) ++ row_of_bits widths b ∷ []) (drop-drop (n * w) w bits ∙ ap (λ k. drop k bits) place))

-- Of the rows, those of the first i whose bit is set stand in the first k places, and the later ones are as they
-- were.
pub record Chosen (width : ℕ) (chosen : List Bool) (old now : List Bool) (n i k : ℕ) : Type 0 where
  pub whole :
      (widths : List ℕ) → sum widths ≡ width
      → rows_of_bits widths k now ++ items_where_true (drop i chosen) (rows_of_bits widths (n - i) (drop (i * width) now))
      ≡ items_where_true chosen (rows_of_bits widths n old)
  pub behind : k ≤ i
  pub long : length now ≡ length old

pub chosen_none : (width : ℕ) (chosen old : List Bool) (n : ℕ) → Chosen width chosen old old n 0 0
chosen_none width chosen old n =
    let all : n - 0 ≡ n = omega arith in
    record {
      whole = λ widths e. λ t. items_where_true chosen (rows_of_bits widths (all t) (drop (zero-mul width t) old));
      behind = omega arith;
      long = refl;
    }

pub chosen_all : (widths : List ℕ) (width : ℕ) (chosen old now : List Bool) (n i k : ℕ) → length chosen ≤ i → sum widths ≡ width → Chosen width chosen old now n i k → rows_of_bits widths k now ≡ items_where_true chosen (rows_of_bits widths n old)
chosen_all widths width chosen old now n i k h e c =
    sym (append-nil (rows_of_bits widths k now))
    ∙ ap (λ l. rows_of_bits widths k now ++ items_where_true l (rows_of_bits widths (n - i) (drop (i * width) now))) (sym (drop_all i chosen h))
    ∙ c.whole widths e

module _ (width : ℕ) (chosen old now : List Bool) (n i k : ℕ) (h : i < n) (l : length chosen ≡ n) (b : length old ≡ n * width) (c : Chosen width chosen old now n i k) where
  first_bit : (bit : Bool) → get_or chosen i false ≡ bit → drop i chosen ≡ bit ∷ drop (i + 1) chosen
  first_bit bit e = drop_more chosen i false (omega arith) ∙ ap (λ v. v ∷ drop (i + 1) chosen) e

  next_rows : (widths : List ℕ) (bits : List Bool) → sum widths ≡ width → rows_of_bits widths (n - i) (drop (i * width) bits) ≡ row_of_bits widths (drop (i * width) bits) ∷ rows_of_bits widths (n - (i + 1)) (drop ((i + 1) * width) bits)
  next_rows widths bits e =
      let one : n - i - 1 ≡ n - (i + 1) = omega arith in
      let place : i * width + sum widths ≡ (i + 1) * width = omega (arith, suc-mul i width) in
      rows_next widths (n - i) (drop (i * width) bits) (omega arith)
      ∙ (λ t. row_of_bits widths (drop (i * width) bits) ∷ rows_of_bits widths (one t) ((drop-drop (sum widths) (i * width) bits ∙ ap (λ k. drop k bits) place) t))

  -- a row whose bit is clear is passed over
  pub chosen_passed : get_or chosen i false ≡ false → Chosen width chosen old now n (i + 1) k
  chosen_passed e = record {
    whole = λ widths s.
        ap (λ rows. rows_of_bits widths k now ++ rows) (sym (λ t. items_where_true (first_bit false e t) (next_rows widths now s t))) ∙ c.whole widths s;
    behind = omega (arith, c.behind);
    long = c.long;
  }

  -- a row whose bit is set is copied behind those that were
  abbrev pub moved : List Bool
  moved = take (k * width) now ++ take width (drop (i * width) now) ++ drop (k * width + width) now

  down : k * width ≤ i * width
  down = mul-le-mul_right width c.behind

  inside : i * width + width ≤ length now
  inside = omega (arith, c.long, b, suc-mul i width, mul-le-mul_right width h)

  front : length (take (k * width) now) ≡ k * width
  front = length-take-le (k * width) now (omega (arith, down, inside))

  part : length (take width (drop (i * width) now)) ≡ width
  part = length-take-le width (drop (i * width) now) (omega (arith, inside, length-drop (i * width) now))

  both : length (take (k * width) now ++ take width (drop (i * width) now)) ≡ k * width + width
  both = omega (arith, front, part, length-append (take (k * width) now) (take width (drop (i * width) now)))

  moved_long : length moved ≡ length now
  moved_long =
      omega (arith, both, down, inside, length-append (take (k * width) now ++ take width (drop (i * width) now)) (drop (k * width + width) now), length-drop (k * width + width) now)

  apart : moved ≡ take (k * width) now ++ (take width (drop (i * width) now) ++ drop (k * width + width) now)
  apart = append_assoc (take (k * width) now) (take width (drop (i * width) now)) (drop (k * width + width) now)

  moved_row : (widths : List ℕ) → sum widths ≡ width → rows_of_bits widths (suc k) moved ≡ rows_of_bits widths k now ++ row_of_bits widths (drop (i * width) now) ∷ []
  moved_row widths s =
      let size : suc k * sum widths ≡ k * width + width = ap (λ w. suc k * w) s ∙ omega (arith, suc-mul k width) in
      let small : k * sum widths ≡ k * width = ap (λ w. k * w) s in
      let before = ap (rows_of_bits widths k) apart ∙ rows_front widths k (take (k * width) now) (take width (drop (i * width) now) ++ drop (k * width + width) now) (omega (arith, small, front)) ∙ rows_taken widths k (k * width) now (omega (arith, small)) (omega (arith, down, inside)) in
      let here = ap (λ m. drop m moved) small ∙ ap (drop (k * width)) apart ∙ drop_at (take (k * width) now) (take width (drop (i * width) now) ++ drop (k * width + width) now) (k * width) front in
      let row = ap (row_of_bits widths) here ∙ row_front widths (take width (drop (i * width) now)) (drop (k * width + width) now) (omega (arith, s, part)) ∙ sym (row_front widths (take width (drop (i * width) now)) (drop width (drop (i * width) now)) (omega (arith, s, part))) ∙ ap (row_of_bits widths) (take-append-drop width (drop (i * width) now)) in
      rows_last widths k moved (omega (arith, size, moved_long, down, inside)) ∙ (λ t. before t ++ row t ∷ [])

  moved_rest : drop ((i + 1) * width) moved ≡ drop ((i + 1) * width) now
  moved_rest =
      let first : List Bool = take (k * width) now ++ take width (drop (i * width) now) in
      let gap : ℕ = (i + 1) * width - (k * width + width) in
      let place : (k * width + width) + gap ≡ (i + 1) * width = omega (arith, down, suc-mul i width) in
      ap (λ m. drop m moved) (sym place)
      ∙ sym (drop-drop gap (k * width + width) moved)
      ∙ ap (drop gap) (drop_at first (drop (k * width + width) now) (k * width + width) both)
      ∙ drop-drop gap (k * width + width) now
      ∙ ap (λ m. drop m now) place

  pub chosen_copied : get_or chosen i false ≡ true → Chosen width chosen old moved n (i + 1) (k + 1)
  chosen_copied e = record {
    whole = λ widths s.
        let one : k + 1 ≡ suc k = add-one k in
        let row : List ℕ = row_of_bits widths (drop (i * width) now) in
        let rest : List (List ℕ) = items_where_true (drop (i + 1) chosen) (rows_of_bits widths (n - (i + 1)) (drop ((i + 1) * width) now)) in
        (λ t. (ap (λ m. rows_of_bits widths m moved) one ∙ moved_row widths s) t ++ items_where_true (drop (i + 1) chosen) (rows_of_bits widths (n - (i + 1)) (moved_rest t)))
        ∙ append_assoc (rows_of_bits widths k now) (row ∷ []) rest
        ∙ ap (λ rows. rows_of_bits widths k now ++ rows) (sym (λ t. items_where_true (first_bit true e t) (next_rows widths now s t)))
        ∙ c.whole widths s;
    behind = omega (arith, c.behind);
    long = moved_long ∙ c.long;
  }
