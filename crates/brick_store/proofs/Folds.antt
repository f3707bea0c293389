-- Rows that a partial gains one after another.
use Rattle.std.proofs.Common.{◌≡◌, ℕ, ◌+◌, ◌<◌, ◌≤◌, Bool, true, false, List, [], ◌∷◌, ◌++◌, All, length, map, take, filter, get_or, cond, zero, suc, add-one, refl, sym, ap, subst, ◌∙◌, arith}
use Rattle.std.specs.List.{items_where_true}
use Rattle.std.proofs.lemmas.Bool.{false≢true}
use Rattle.std.proofs.lemmas.List.{append-nil, append_assoc, length-append, length-take-le, length-map, get_or-map}
use Rattle.std.proofs.lemmas.List.Elements.{All-head, All-tail}
use Rattle.std.proofs.lemmas.List.Sums.{sum_by-cons}
use Rattle.cube_values.specs.BitRows.{set_bits}
use Rattle.cube_values.specs.declared.query.BoundQuery.{BoundQuery}
use Rattle.cube_values.specs.declared.row.CodedRow.{CodedRow}
use Rattle.agg_fold.specs.declared.groups.Groups.{Groups}
use Rattle.agg_fold.specs.Standing.{StandsFor, HasRoom, Gains}
use Rattle.brick_columns.specs.Rows.{BrickRow, row_at}
use Rattle.brick_store.specs.Whole.{row_with_coords}

-- no rows, and more rows after others
pub gains_none : (query : BoundQuery) (g : Groups) → Gains query [] g g
gains_none query g rows s = subst (λ (rs : List CodedRow). StandsFor query rs g) (sym (append-nil rows)) s

pub gains_more : (query : BoundQuery) (a b : List CodedRow) (g h k : Groups) → Gains query a g h → Gains query b h k → Gains query (a ++ b) g k
gains_more query a b g h k p q rows s =
    subst (λ (rs : List CodedRow). StandsFor query rs k) (append_assoc rows a b) (q (rows ++ a) (p rows s))

pub gains_same : (query : BoundQuery) (a b : List CodedRow) (g h : Groups) → a ≡ b → Gains query a g h → Gains query b g h
gains_same query a b g h e p = subst (λ (rs : List CodedRow). Gains query rs g h) e p

-- room for rows that are left to come
pub room_after : (query : BoundQuery) (n k : ℕ) (more : List CodedRow) (g h : Groups) → length more + k ≤ n → HasRoom query n g → Gains query more g h → HasRoom query k h
room_after query n k more g h l room gains =
    (room.0 ++ more, gains room.0 room.1, omega (arith, room.2, length-append room.0 more))

module _ {A : Type 0} (test : A → Bool) where
  pub filter_none : (xs : List A) → All (λ x. test x ≡ false) xs → filter test xs ≡ []
  filter_none [] h = refl
  filter_none (x ∷ xs) h =
      ap (λ b. cond b (x ∷ filter test xs) (filter test xs)) (All-head (λ x. test x ≡ false) x xs h) ∙ filter_none xs (All-tail (λ x. test x ≡ false) x xs h)

  pub filter_short : (xs : List A) → length (filter test xs) ≤ length xs
  filter_short [] = omega arith
  filter_short (x ∷ xs) = by_test (test x) (filter_short xs) where
    by_test : (b : Bool) → length (filter test xs) ≤ length xs → length (cond b (x ∷ filter test xs) (filter test xs)) ≤ suc (length xs)
    by_test true h = omega (arith, h)
    by_test false h = omega (arith, h)

-- of the first i items those whose bit is set, and one more
pub set_short : {A : Type 0} (bits : List Bool) (xs : List A) → length (items_where_true bits xs) ≤ length xs
set_short [] xs = omega arith
set_short (b ∷ bits) [] = omega arith
set_short (true ∷ bits) (x ∷ xs) = omega (arith, set_short bits xs)
set_short (false ∷ bits) (x ∷ xs) = omega (arith, set_short bits xs)

pub set_more : {A : Type 0} (bits : List Bool) (xs : List A) (i : ℕ) (d : A) → i < length bits → i < length xs → items_where_true (take (i + 1) bits) (take (i + 1) xs) ≡ items_where_true (take i bits) (take i xs) ++ cond (get_or bits i false) (get_or xs i d ∷ []) []
set_more {A = A} bits xs i d p q = ap (λ n. items_where_true (take n bits) (take n xs)) (add-one i) ∙ by_place bits xs i p q where
  by_place : (bits : List Bool) (xs : List A) (i : ℕ) → i < length bits → i < length xs → items_where_true (take (suc i) bits) (take (suc i) xs) ≡ items_where_true (take i bits) (take i xs) ++ cond (get_or bits i false) (get_or xs i d ∷ []) []
  by_place [] xs i p q = absurd (omega arith)
  by_place (b ∷ bits) [] i p q = absurd (omega arith)
  by_place (true ∷ bits) (x ∷ xs) zero p q = refl
  by_place (false ∷ bits) (x ∷ xs) zero p q = refl
  by_place (true ∷ bits) (x ∷ xs) (suc i) p q = ap (λ ys. x ∷ ys) (by_place bits xs i (omega arith) (omega arith))
  by_place (false ∷ bits) (x ∷ xs) (suc i) p q = by_place bits xs i (omega arith) (omega arith)

-- the fold has no more of the first i rows
pub chosen_short : {A : Type 0} (bits : List Bool) (xs : List A) (i : ℕ) → i ≤ length xs → length (items_where_true (take i bits) (take i xs)) ≤ i
chosen_short bits xs i h = omega (arith, set_short (take i bits) (take i xs), length-take-le i xs h)

-- what holds of all that are chosen holds of one whose bit is set
pub chosen_has : {A : Type 0} (P : A → Type 0) (bits : List Bool) (xs : List A) (i : ℕ) (d : A) → get_or bits i false ≡ true → i < length xs → All P (items_where_true bits xs) → P (get_or xs i d)
chosen_has P [] xs i d e l all = absurd (false≢true e)
chosen_has P (b ∷ bits) [] i d e l all = absurd (omega arith)
chosen_has P (true ∷ bits) (x ∷ xs) zero d e l all = All-head P x (items_where_true bits xs) all
chosen_has P (false ∷ bits) (x ∷ xs) zero d e l all = absurd (false≢true e)
chosen_has P (true ∷ bits) (x ∷ xs) (suc i) d e l all = chosen_has P bits xs i d e (omega arith) (All-tail P x (items_where_true bits xs) all)
chosen_has P (false ∷ bits) (x ∷ xs) (suc i) d e l all = chosen_has P bits xs i d e (omega arith) all

-- a row of columns by its coordinates
pub row_there : (starts : List ℕ) (rows : List BrickRow) (i : ℕ) (d : CodedRow) → i < length rows → get_or (map (row_with_coords starts) rows) i d ≡ row_with_coords starts (row_at rows i)
row_there starts rows i d l = get_or-map (row_with_coords starts) rows i (record { offsets = []; metrics = [] }) d l

-- one more row of the fold
pub gains_row : (query : BoundQuery) (starts : List ℕ) (bits : List Bool) (rows : List BrickRow) (i : ℕ) (seen : Bool) (g h k : Groups) → i < length bits → i < length rows → seen ≡ get_or bits i false → Gains query (items_where_true (take i bits) (take i (map (row_with_coords starts) rows))) g h → Gains query (cond seen (row_with_coords starts (row_at rows i) ∷ []) []) h k → Gains query (items_where_true (take (i + 1) bits) (take (i + 1) (map (row_with_coords starts) rows))) g k
gains_row query starts bits rows i seen g h k p q e before now =
    let all : List CodedRow = map (row_with_coords starts) rows in
    let d : CodedRow = record { coords = []; metrics = [] } in
    let same : cond seen (row_with_coords starts (row_at rows i) ∷ []) [] ≡ cond (get_or bits i false) (get_or all i d ∷ []) [] =
    λ t. cond (e t) (sym (row_there starts rows i d q) t ∷ []) [] in
    let more = set_more bits all i d p (omega (arith, length-map rows (row_with_coords starts))) in
    gains_same query _ _ g k (ap (λ l. items_where_true (take i bits) (take i all) ++ l) same ∙ sym more)
    (gains_more query (items_where_true (take i bits) (take i all)) (cond seen (row_with_coords starts (row_at rows i) ∷ []) []) g h k before now)

-- where no bit is set, there is nothing
pub none_set : {A : Type 0} (bits : List Bool) (xs : List A) → set_bits bits ≡ 0 → items_where_true bits xs ≡ []
none_set [] xs h = refl
none_set (b ∷ bits) [] h = refl
none_set (true ∷ bits) (x ∷ xs) h =
    let ones = sum_by-cons (λ b. cond b 1 0) true bits in
    absurd (omega (arith, h, ones))
none_set (false ∷ bits) (x ∷ xs) h =
    let ones = sum_by-cons (λ b. cond b 1 0) false bits in
    none_set bits xs (omega (arith, h, ones))
