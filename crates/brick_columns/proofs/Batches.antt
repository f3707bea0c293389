-- Rows of a batch from one place up to another, one after another.
use Rattle.std.proofs.Common.{◌≡◌, ℕ, ◌+◌, ◌-◌, ◌<◌, ◌≤◌, List, [], ◌∷◌, ◌++◌, All, length, take, drop, map, get_or, ap, subst, ◌∙◌, arith}
use Rattle.std.proofs.lemmas.List.{take_more, length-take-le, length-drop, get_or-take, get_or-drop, map-append}
use Rattle.std.proofs.lemmas.List.Elements.{All-get_or}
use Rattle.cube_values.specs.declared.row.CodedRow.{CodedRow}
use Rattle.cube_values.specs.Batches.{coded_row_at, rows_between}

-- the rows from a place that do not go past the end
pub between_long : (rows : List CodedRow) (from to : ℕ) → to ≤ length rows → length (rows_between from to rows) ≡ to - from
between_long rows from to h = length-take-le (to - from) (drop from rows) (omega (arith, length-drop from rows))

pub between_more : (rows : List CodedRow) (from i : ℕ) (d : CodedRow) → from ≤ i → i < length rows → rows_between from (i + 1) rows ≡ rows_between from i rows ++ get_or rows i d ∷ []
between_more rows from i d h l =
    let more : i + 1 - from ≡ (i - from) + 1 = omega arith in
    let place : from + (i - from) ≡ i = omega arith in
    ap (λ n. take n (drop from rows)) more
    ∙ take_more (drop from rows) (i - from) d (omega (arith, length-drop from rows))
    ∙ ap (λ row. take (i - from) (drop from rows) ++ row ∷ []) (get_or-drop from rows (i - from) d ∙ ap (λ k. get_or rows k d) place)

pub mapped_more : {A : Type 0} (f : CodedRow → A) (rows : List CodedRow) (from i : ℕ) → from ≤ i → i < length rows → map f (rows_between from (i + 1) rows) ≡ map f (rows_between from i rows) ++ f (coded_row_at rows i) ∷ []
mapped_more f rows from i h l =
    ap (map f) (between_more rows from i (record { coords = []; metrics = [] }) h l)
    ∙ map-append f (rows_between from i rows) (coded_row_at rows i ∷ [])

-- what holds of them holds of each
pub one_between : (P : CodedRow → Type 0) (rows : List CodedRow) (from to i : ℕ) → from ≤ i → i < to → to ≤ length rows → All P (rows_between from to rows) → P (coded_row_at rows i)
one_between P rows from to i f l h all =
    let place : from + (i - from) ≡ i = omega arith in
    let there = get_or-take (to - from) (drop from rows) (i - from) (record { coords = []; metrics = [] }) (omega arith) ∙ get_or-drop from rows (i - from) (record { coords = []; metrics = [] }) ∙ ap (λ k. coded_row_at rows k) place in
    subst P there (All-get_or P (rows_between from to rows) (i - from) (record { coords = []; metrics = [] }) (omega (arith, between_long rows from to h)) all)
