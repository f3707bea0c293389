-- What a round copies of a brick, put over the rows that were kept before, shows what a reader at its target sees.
use Rattle.std.proofs.Common.{◌≡◌, ◌∙◌, ℕ, ◌+◌, ◌<◌, ◌≤◌, Bool, true, false, not, ◌&&◌, ◌||◌, nat_lt, nat_le, List, [], ◌∷◌, ◌++◌, if◌then◌else◌, inl, inr, refl, sym, ap, arith, lt-ltb, le-ltb, le-leb, ltb-true}
use Rattle.std.specs.List.{count_by}
use Rattle.std.proofs.lemmas.Bool.{false≢true, lt-leb}
use Rattle.cube_values.specs.declared.row.CodedRow.{CodedRow}
use Rattle.cube_values.specs.Sees.{sees}
use Rattle.core_events.specs.Clients.{reader_up_to}
use Rattle.core_events.specs.ShardView.{BrickEntry, RowRun, RowMark, EpochSet, is_below_mark, epochs_above, epochs_before_mark, every_epoch, rows_shown_to, brick_rows_seen, is_within_round, entries_of_round, rows_over_kept}
use Rattle.core_events.proofs.Counts.{number_where, count-run, where-sum, where-zero, in-order}
use Rattle.core_events.proofs.SerialRows.{or-assoc, or-true, and-assoc, and-true, and-false, low-run, none-run, mark-none}

-- Which epochs a reader sees.

pub sees-low : (t e : ℕ) → e ≤ t → sees (reader_up_to t) e ≡ true
sees-low t e l = ap (λ (b : Bool). b && true) (le-leb e t l)

pub sees-not : (t e : ℕ) → t < e → sees (reader_up_to t) e ≡ false
sees-not t e l = ap (λ (b : Bool). b && true) (lt-leb e t l)

within-yes : (p t e : ℕ) → p < e → e ≤ t → is_within_round p t e ≡ true
within-yes p t e l h = λ i. lt-ltb p e l i && le-leb e t h i

within-low : (p t e : ℕ) → e ≤ p → is_within_round p t e ≡ false
within-low p t e l = ap (λ (b : Bool). b && nat_le e t) (le-ltb p e l)

within-high : (p t e : ℕ) → t < e → is_within_round p t e ≡ false
within-high p t e l = ap (λ (b : Bool). nat_lt p e && b) (lt-leb e t l) ∙ and-false (nat_lt p e)

-- What a round takes of a brick, one entry more.

round-run : (p t e : ℕ) (rows : List CodedRow) (older : List BrickEntry) (here : Bool) → is_within_round p t e ≡ here
    → entries_of_round p t (RowRun e rows ∷ older)
    ≡ (if here then RowRun e rows ∷ entries_of_round p t older else entries_of_round p t older)
round-run p t e rows older here is =
    ap (λ (b : Bool). if b then RowRun e rows ∷ entries_of_round p t older else entries_of_round p t older) is

round-mark : (p t e : ℕ) (older : List BrickEntry) (here : Bool) → is_within_round p t e ≡ here
    → entries_of_round p t (RowMark e ∷ older) ≡ (if here then RowMark e ∷ entries_of_round p t older else entries_of_round p t older)
round-mark p t e older here is =
    ap (λ (b : Bool). if b then RowMark e ∷ entries_of_round p t older else entries_of_round p t older) is

-- A mark of the round hides what was kept.
abbrev covers_kept : ℕ → ℕ → List BrickEntry → Bool
covers_kept p t xs = is_below_mark every_epoch p (entries_of_round p t xs)

-- Where an epoch stands: it was kept, it is of the round, or it comes after.
data Era (p t e : ℕ) : Type 0 where
  Kept : e ≤ p → Era p t e
  Copied : p < e → e ≤ t → Era p t e
  Later : t < e → Era p t e

era : (p t e : ℕ) → Era p t e
era p t e = elim (in-order e p) [
  | inl low ↦ Kept (omega (arith, low))
  | inr (inl same) ↦ Kept (omega (arith, same))
  | inr (inr high) ↦ elim (in-order e t) [
    | inl low ↦ Copied high (omega (arith, low))
    | inr (inl same) ↦ Copied high (omega (arith, same))
    | inr (inr later) ↦ Later later
  ]
]

-- What hides the rows of a kept epoch from the later reader hides them from the earlier, or is of the round.
below-kept-at : (p t e d : ℕ) (older : List BrickEntry) → p ≤ t → e ≤ p → Era p t d
    → is_below_mark (sees (reader_up_to t)) e older ≡ (is_below_mark (sees (reader_up_to p)) e older || covers_kept p t older)
    → is_below_mark (sees (reader_up_to t)) e (RowMark d ∷ older)
    ≡ (is_below_mark (sees (reader_up_to p)) e (RowMark d ∷ older) || covers_kept p t (RowMark d ∷ older))
below-kept-at p t e d older le kept (Kept l) rest =
    (λ i. (sees-low t d (omega (arith, l, le)) i && nat_lt e d) || rest i)
    ∙ sym (or-assoc (nat_lt e d) (is_below_mark (sees (reader_up_to p)) e older) (covers_kept p t older))
    ∙ (λ i. ((sym (sees-low p d l) i && nat_lt e d) || is_below_mark (sees (reader_up_to p)) e older)
    || is_below_mark every_epoch p (sym (round-mark p t d older false (within-low p t d l)) i))
below-kept-at p t e d older le kept (Copied l h) rest =
    (λ i. (sees-low t d h i && lt-ltb e d (omega (arith, l, kept)) i) || is_below_mark (sees (reader_up_to t)) e older)
    ∙ sym (or-true (is_below_mark (sees (reader_up_to p)) e (RowMark d ∷ older)))
    ∙ (λ i. is_below_mark (sees (reader_up_to p)) e (RowMark d ∷ older) || (sym (lt-ltb p d l) i || covers_kept p t older))
    ∙ (λ i. is_below_mark (sees (reader_up_to p)) e (RowMark d ∷ older)
    || is_below_mark every_epoch p (sym (round-mark p t d older true (within-yes p t d l h)) i))
below-kept-at p t e d older le kept (Later l) rest =
    (λ i. (sees-not t d l i && nat_lt e d) || rest i)
    ∙ (λ i. ((sym (sees-not p d (omega (arith, l, le))) i && nat_lt e d) || is_below_mark (sees (reader_up_to p)) e older)
    || is_below_mark every_epoch p (sym (round-mark p t d older false (within-high p t d l)) i))

run-covers : (p t e : ℕ) (rows : List CodedRow) (older : List BrickEntry) → covers_kept p t (RowRun e rows ∷ older) ≡ covers_kept p t older
run-covers p t e rows older = at-run (is_within_round p t e)
  where
    at-run : (here : Bool)
        → is_below_mark every_epoch p (if here then RowRun e rows ∷ entries_of_round p t older else entries_of_round p t older)
        ≡ covers_kept p t older
    at-run true = refl
    at-run false = refl

below-kept : (p t e : ℕ) (xs : List BrickEntry) → p ≤ t → e ≤ p
    → is_below_mark (sees (reader_up_to t)) e xs ≡ (is_below_mark (sees (reader_up_to p)) e xs || covers_kept p t xs)
below-kept p t e [] le kept = refl
below-kept p t e (RowRun j rows ∷ older) le kept =
    below-kept p t e older le kept
    ∙ ap (λ b. is_below_mark (sees (reader_up_to p)) e older || b) (sym (run-covers p t j rows older))
below-kept p t e (RowMark d ∷ older) le kept = below-kept-at p t e d older le kept (era p t d) (below-kept p t e older le kept)

-- What hides the rows of an epoch of the round is of the round.
below-copied : (p t e : ℕ) (xs : List BrickEntry) → p < e
    → is_below_mark (sees (reader_up_to t)) e xs ≡ is_below_mark every_epoch e (entries_of_round p t xs)
below-copied p t e [] l = refl
below-copied p t e (RowRun j rows ∷ older) l = below-copied p t e older l ∙ at-run (is_within_round p t j)
  where
    at-run : (here : Bool) → is_below_mark every_epoch e (entries_of_round p t older)
        ≡ is_below_mark every_epoch e (if here then RowRun j rows ∷ entries_of_round p t older else entries_of_round p t older)
    at-run true = refl
    at-run false = refl
below-copied p t e (RowMark d ∷ older) l = at-mark (era p t d) (below-copied p t e older l)
  where
    at-mark : Era p t d → is_below_mark (sees (reader_up_to t)) e older ≡ is_below_mark every_epoch e (entries_of_round p t older)
        → is_below_mark (sees (reader_up_to t)) e (RowMark d ∷ older) ≡ is_below_mark every_epoch e (entries_of_round p t (RowMark d ∷ older))
    at-mark (Kept k) rest =
        (λ i. (sees (reader_up_to t) d && le-ltb e d (omega (arith, l, k)) i) || rest i)
        ∙ ap (λ (b : Bool). b || is_below_mark every_epoch e (entries_of_round p t older)) (and-false (sees (reader_up_to t) d))
        ∙ ap (is_below_mark every_epoch e) (sym (round-mark p t d older false (within-low p t d k)))
    at-mark (Copied k h) rest =
        (λ i. (sees-low t d h i && nat_lt e d) || rest i)
        ∙ ap (is_below_mark every_epoch e) (sym (round-mark p t d older true (within-yes p t d k h)))
    at-mark (Later k) rest =
        (λ i. (sees-not t d k i && nat_lt e d) || rest i)
        ∙ ap (is_below_mark every_epoch e) (sym (round-mark p t d older false (within-high p t d k)))

-- Rows are looked for: kept ones where u, by one set, and those of the round, by another.
record CopyParts (p t : ℕ) (u : Bool) (all new old : EpochSet) : Type 0 where
  low : (e : ℕ) → e ≤ p → all e ≡ (u && old e)
  high : (e : ℕ) → p < e → e ≤ t → all e ≡ new e
  past : (e : ℕ) → t < e → all e ≡ false
  none : (e : ℕ) → p < e → old e ≡ false

copy-kept-mark : (p t d : ℕ) (u : Bool) (all new old : EpochSet) → d ≤ p → CopyParts p t u all new old
    → CopyParts p t u (epochs_above d all) new (epochs_above d old)
copy-kept-mark p t d u all new old l c = record {
  low = λ e k. ap (λ (b : Bool). b && nat_lt d e) (c.low e k) ∙ and-assoc u (old e) (nat_lt d e);
  high = λ e k h. (λ i. c.high e k h i && lt-ltb d e (omega (arith, l, k)) i) ∙ and-true (new e);
  past = λ e k. ap (λ (b : Bool). b && nat_lt d e) (c.past e k);
  none = λ e k. ap (λ (b : Bool). b && nat_lt d e) (c.none e k);
}

copy-round-mark : (p t d : ℕ) (u : Bool) (all new old : EpochSet) → p < d → CopyParts p t u all new old
    → CopyParts p t false (epochs_above d all) (epochs_above d new) old
copy-round-mark p t d u all new old l c = record {
  low = λ e k. ap (λ (b : Bool). all e && b) (le-ltb d e (omega (arith, l, k))) ∙ and-false (all e);
  high = λ e k h. ap (λ (b : Bool). b && nat_lt d e) (c.high e k h);
  past = λ e k. ap (λ (b : Bool). b && nat_lt d e) (c.past e k);
  none = c.none;
}

copy-run-at : (c : CodedRow → Bool) (p t e : ℕ) (u : Bool) (all new old : EpochSet) (rows : List CodedRow) (older : List BrickEntry)
    → p ≤ t → CopyParts p t u all new old → Era p t e
    → count_by c (rows_shown_to all (sees (reader_up_to t)) older)
    ≡ number_where (u && not (covers_kept p t older)) (count_by c (rows_shown_to old (sees (reader_up_to p)) older))
    + count_by c (rows_shown_to new every_epoch (entries_of_round p t older))
    → count_by c (rows_shown_to all (sees (reader_up_to t)) (RowRun e rows ∷ older))
    ≡ number_where (u && not (covers_kept p t older)) (count_by c (rows_shown_to old (sees (reader_up_to p)) (RowRun e rows ∷ older)))
    + count_by c (rows_shown_to new every_epoch (entries_of_round p t (RowRun e rows ∷ older)))
copy-run-at c p t e u all new old rows older le parts (Kept k) rest =
    let n = count_by c rows in
    let w = u && not (covers_kept p t older) in
    let x = all e && not (is_below_mark (sees (reader_up_to t)) e older) in
    let y = old e && not (is_below_mark (sees (reader_up_to p)) e older) in
    let left = count-run c (rows_shown_to all (sees (reader_up_to t)) older) x rows in
    let right =
    ap (number_where w) (count-run c (rows_shown_to old (sees (reader_up_to p)) older) y rows)
    ∙ where-sum w (count_by c (rows_shown_to old (sees (reader_up_to p)) older)) (number_where y n)
    in
    let add : number_where x n ≡ number_where w (number_where y n) =
    (λ i. number_where (parts.low e k i && not (below-kept p t e older le k i)) n)
    ∙ low-run u (old e) (is_below_mark (sees (reader_up_to p)) e older) (covers_kept p t older) n
    in
    let skip = ap (λ (es : List BrickEntry). count_by c (rows_shown_to new every_epoch es)) (round-run p t e rows older false (within-low p t e k)) in
    omega (arith, rest, left, right, add, skip)
copy-run-at c p t e u all new old rows older le parts (Copied k h) rest =
    let n = count_by c rows in
    let w = u && not (covers_kept p t older) in
    let x = all e && not (is_below_mark (sees (reader_up_to t)) e older) in
    let y = old e && not (is_below_mark (sees (reader_up_to p)) e older) in
    let z = new e && not (is_below_mark every_epoch e (entries_of_round p t older)) in
    let left = count-run c (rows_shown_to all (sees (reader_up_to t)) older) x rows in
    let right =
    ap (number_where w) (count-run c (rows_shown_to old (sees (reader_up_to p)) older) y rows)
    ∙ where-sum w (count_by c (rows_shown_to old (sees (reader_up_to p)) older)) (number_where y n)
    in
    let gone = ap (number_where w) (none-run (old e) (not (is_below_mark (sees (reader_up_to p)) e older)) n (parts.none e k)) ∙ where-zero w in
    let add : number_where x n ≡ number_where z n =
    λ i. number_where (parts.high e k h i && not (below-copied p t e older k i)) n
    in
    let take =
    ap (λ (es : List BrickEntry). count_by c (rows_shown_to new every_epoch es)) (round-run p t e rows older true (within-yes p t e k h))
    ∙ count-run c (rows_shown_to new every_epoch (entries_of_round p t older)) z rows
    in
    omega (arith, rest, left, right, gone, add, take)
copy-run-at c p t e u all new old rows older le parts (Later k) rest =
    let n = count_by c rows in
    let w = u && not (covers_kept p t older) in
    let x = all e && not (is_below_mark (sees (reader_up_to t)) e older) in
    let y = old e && not (is_below_mark (sees (reader_up_to p)) e older) in
    let left = count-run c (rows_shown_to all (sees (reader_up_to t)) older) x rows in
    let right =
    ap (number_where w) (count-run c (rows_shown_to old (sees (reader_up_to p)) older) y rows)
    ∙ where-sum w (count_by c (rows_shown_to old (sees (reader_up_to p)) older)) (number_where y n)
    in
    let gone = ap (number_where w) (none-run (old e) (not (is_below_mark (sees (reader_up_to p)) e older)) n (parts.none e (omega (arith, k, le)))) ∙ where-zero w in
    let add = none-run (all e) (not (is_below_mark (sees (reader_up_to t)) e older)) n (parts.past e k) in
    let skip = ap (λ (es : List BrickEntry). count_by c (rows_shown_to new every_epoch es)) (round-run p t e rows older false (within-high p t e k)) in
    omega (arith, rest, left, right, gone, add, skip)

copy-counts : (c : CodedRow → Bool) (p t : ℕ) (u : Bool) (all new old : EpochSet) (xs : List BrickEntry) → p ≤ t
    → CopyParts p t u all new old
    → count_by c (rows_shown_to all (sees (reader_up_to t)) xs)
    ≡ number_where (u && not (covers_kept p t xs)) (count_by c (rows_shown_to old (sees (reader_up_to p)) xs))
    + count_by c (rows_shown_to new every_epoch (entries_of_round p t xs))
copy-counts c p t u all new old [] le parts = let z = where-zero (u && not false) in omega (arith, z)
copy-counts c p t u all new old (RowRun e rows ∷ older) le parts =
    copy-run-at c p t e u all new old rows older le parts (era p t e) (copy-counts c p t u all new old older le parts)
    ∙ ap (λ (b : Bool). number_where (u && not b) (count_by c (rows_shown_to old (sees (reader_up_to p)) (RowRun e rows ∷ older)))
    + count_by c (rows_shown_to new every_epoch (entries_of_round p t (RowRun e rows ∷ older)))) (sym (run-covers p t e rows older))
copy-counts c p t u all new old (RowMark d ∷ older) le parts = at-mark (era p t d)
    (λ v l k o q. copy-counts c p t v l k o older le q)
  where
    at-mark : Era p t d
        → ((v : Bool) (l k o : EpochSet) → CopyParts p t v l k o
        → count_by c (rows_shown_to l (sees (reader_up_to t)) older)
        ≡ number_where (v && not (covers_kept p t older)) (count_by c (rows_shown_to o (sees (reader_up_to p)) older))
        + count_by c (rows_shown_to k every_epoch (entries_of_round p t older)))
        → count_by c (rows_shown_to all (sees (reader_up_to t)) (RowMark d ∷ older))
        ≡ number_where (u && not (covers_kept p t (RowMark d ∷ older))) (count_by c (rows_shown_to old (sees (reader_up_to p)) (RowMark d ∷ older)))
        + count_by c (rows_shown_to new every_epoch (entries_of_round p t (RowMark d ∷ older)))
    at-mark (Kept k) rest =
        let step = round-mark p t d older false (within-low p t d k) in
        ap (λ (b : Bool). count_by c (rows_shown_to (epochs_before_mark b d all) (sees (reader_up_to t)) older)) (sees-low t d (omega (arith, k, le)))
        ∙ rest u (epochs_above d all) new (epochs_above d old) (copy-kept-mark p t d u all new old k parts)
        ∙ (λ i. number_where (u && not (is_below_mark every_epoch p (sym step i)))
        (count_by c (rows_shown_to (epochs_before_mark (sym (sees-low p d k) i) d old) (sees (reader_up_to p)) older))
        + count_by c (rows_shown_to new every_epoch (sym step i)))
    at-mark (Copied k h) rest =
        let step = round-mark p t d older true (within-yes p t d k h) in
        let start =
        ap (λ (b : Bool). count_by c (rows_shown_to (epochs_before_mark b d all) (sees (reader_up_to t)) older)) (sees-low t d h)
        ∙ rest false (epochs_above d all) (epochs_above d new) old (copy-round-mark p t d u all new old k parts)
        in
        let covered : number_where (u && not (covers_kept p t (RowMark d ∷ older))) (count_by c (rows_shown_to old (sees (reader_up_to p)) (RowMark d ∷ older))) ≡ 0 =
        ap (λ (es : List BrickEntry). number_where (u && not (is_below_mark every_epoch p es)) (count_by c (rows_shown_to old (sees (reader_up_to p)) (RowMark d ∷ older)))) step
        ∙ ap (λ (b : Bool). number_where (u && not (b || covers_kept p t older)) (count_by c (rows_shown_to old (sees (reader_up_to p)) (RowMark d ∷ older)))) (lt-ltb p d k)
        ∙ ap (λ (b : Bool). number_where b (count_by c (rows_shown_to old (sees (reader_up_to p)) (RowMark d ∷ older)))) (and-false u)
        in
        let new-rows = ap (λ (es : List BrickEntry). count_by c (rows_shown_to new every_epoch es)) step in
        omega (arith, start, covered, new-rows)
    at-mark (Later k) rest =
        let step = round-mark p t d older false (within-high p t d k) in
        ap (count_by c) (mark-none (sees (reader_up_to t) d) d all (sees (reader_up_to t)) older (sees-not t d k))
        ∙ rest u all new old parts
        ∙ (λ i. number_where (u && not (is_below_mark every_epoch p (sym step i)))
        (count_by c (sym (mark-none (sees (reader_up_to p) d) d old (sees (reader_up_to p)) older (sees-not p d (omega (arith, k, le)))) i))
        + count_by c (rows_shown_to new every_epoch (sym step i)))

-- Kept rows below the copied runs and marks.

below-over : (p e : ℕ) (old : List CodedRow) (ys : List BrickEntry)
    → is_below_mark every_epoch e (ys ++ RowRun p old ∷ []) ≡ is_below_mark every_epoch e ys
below-over p e old [] = refl
below-over p e old (RowRun j rows ∷ ys) = below-over p e old ys
below-over p e old (RowMark d ∷ ys) = ap (λ b. nat_lt e d || b) (below-over p e old ys)

-- Each mark is above an epoch.
abbrev MarksAbove : ℕ → List BrickEntry → Type 0
MarksAbove p [] = Unit {0}
MarksAbove p (RowRun j rows ∷ ys) = MarksAbove p ys
MarksAbove p (RowMark d ∷ ys) = (p < d) × MarksAbove p ys

round-above : (p t : ℕ) (xs : List BrickEntry) → MarksAbove p (entries_of_round p t xs)
round-above p t [] = tt
round-above p t (RowRun j rows ∷ older) = at-run (is_within_round p t j) (round-above p t older)
  where
    at-run : (here : Bool) → MarksAbove p (entries_of_round p t older)
        → MarksAbove p (if here then RowRun j rows ∷ entries_of_round p t older else entries_of_round p t older)
    at-run true rest = rest
    at-run false rest = rest
round-above p t (RowMark d ∷ older) = at-mark (is_within_round p t d) refl (round-above p t older)
  where
    left-of : (a b : Bool) → (a && b) ≡ true → a ≡ true
    left-of true b e = refl
    left-of false b e = absurd (false≢true e)

    at-mark : (here : Bool) → is_within_round p t d ≡ here → MarksAbove p (entries_of_round p t older)
        → MarksAbove p (if here then RowMark d ∷ entries_of_round p t older else entries_of_round p t older)
    at-mark true is rest = (ltb-true p d (left-of (nat_lt p d) (nat_le d t) is), rest)
    at-mark false is rest = rest

over-counts : (c : CodedRow → Bool) (p : ℕ) (set : EpochSet) (old : List CodedRow) (ys : List BrickEntry) → MarksAbove p ys
    → count_by c (rows_shown_to set every_epoch (ys ++ RowRun p old ∷ []))
    ≡ count_by c (rows_shown_to set every_epoch ys) + number_where (set p && not (is_below_mark every_epoch p ys)) (count_by c old)
over-counts c p set old [] m = count-run c [] (set p && not false) old
over-counts c p set old (RowRun j rows ∷ ys) m =
    let rest = over-counts c p set old ys m in
    let x = set j && not (is_below_mark every_epoch j ys) in
    let left =
    count-run c (rows_shown_to set every_epoch (ys ++ RowRun p old ∷ [])) (set j && not (is_below_mark every_epoch j (ys ++ RowRun p old ∷ []))) rows
    ∙ ap (λ (b : Bool). count_by c (rows_shown_to set every_epoch (ys ++ RowRun p old ∷ [])) + number_where (set j && not b) (count_by c rows))
    (below-over p j old ys)
    in
    let right = count-run c (rows_shown_to set every_epoch ys) x rows in
    omega (arith, rest, left, right)
over-counts c p set old (RowMark d ∷ ys) m =
    over-counts c p (epochs_above d set) old ys m.1
    ∙ (λ i. count_by c (rows_shown_to (epochs_above d set) every_epoch ys)
    + number_where ((ap (λ (b : Bool). set p && b) (le-ltb d p (omega (arith, m.0))) ∙ and-false (set p)) i && not (is_below_mark every_epoch p ys)) (count_by c old))
    ∙ (λ i. count_by c (rows_shown_to (epochs_above d set) every_epoch ys)
    + number_where (sym (ap (λ (b : Bool). set p && not (b || is_below_mark every_epoch p ys)) (lt-ltb p d m.0) ∙ and-false (set p)) i) (count_by c old))

pub copies-restore : (c : CodedRow → Bool) (p t : ℕ) (xs : List BrickEntry) → p ≤ t
    → count_by c (rows_over_kept p (brick_rows_seen (reader_up_to p) xs) (entries_of_round p t xs))
    ≡ count_by c (brick_rows_seen (reader_up_to t) xs)
copies-restore c p t xs le =
    let old = brick_rows_seen (reader_up_to p) xs in
    let over = over-counts c p every_epoch old (entries_of_round p t xs) (round-above p t xs) in
    let all =
    copy-counts c p t true (sees (reader_up_to t)) every_epoch (sees (reader_up_to p)) xs le (record {
      low = λ e k. sees-low t e (omega (arith, k, le)) ∙ sym (sees-low p e k);
      high = λ e k h. sees-low t e h;
      past = λ e k. sees-not t e k;
      none = λ e k. sees-not p e k;
    })
    in
    omega (arith, over, all)
