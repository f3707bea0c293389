-- Bricks that show alike, and what runs and marks that become one show.
use Rattle.std.proofs.Common.{◌≡◌, ℕ, ◌+◌, ◌-◌, ◌≤◌, ◌==◌, ◌&&◌, ◌||◌, not, nat_lt, Bool, true, false, cond, List, [], ◌∷◌, ◌++◌, take, drop, refl, sym, ap, ◌∙◌, arith, append_assoc, append-nil}
use Rattle.std.proofs.Math.Seq.{take-add}
use Rattle.std.proofs.lemmas.Bool.Decides.{nat_tests}
use Rattle.std.proofs.lemmas.List.{drop-drop}
use Rattle.cube_values.specs.declared.entry.Entry.{Entry}
use Rattle.cube_values.specs.declared.entry.Entry.TheVariants.{Run, Mark}
use Rattle.cube_values.specs.declared.row.CodedRow.{CodedRow}
use Rattle.cube_values.specs.EpochsVector.{Leads, is_one_with, vector_with_entry}
use Rattle.cube_rounds.specs.Bricks.{EntryRows, entries_with_rows}
use Rattle.core_events.specs.Runs.{Sight, rows_shown_besides, shows_run, sight_before_mark}
use Rattle.core_events.specs.ShardView.{BrickEntry, RowRun, RowMark, EpochSet, ShowAlike, epochs_before_mark, is_below_mark, rows_shown_to, rows_where}
use Rattle.shard_views.specs.Views.{brick_entry, entries_newest_first}
use Rattle.shard_views.proofs.Tests.{and_true}

-- bricks that show alike whoever looks, also what one sight shows and another does not
pub record AreAlike (a b : List BrickEntry) : Type 0 where
  pub apart : (one other : Sight) → rows_shown_besides one other a ≡ rows_shown_besides one other b
  pub hidden : (marks : EpochSet) (epoch : ℕ) → is_below_mark marks epoch a ≡ is_below_mark marks epoch b

-- a sight to which nothing is shown: besides it all rows are shown
abbrev pub blind : Sight
blind = record { epochs = λ e. false; marks = λ e. false }

pub besides_blind : (one : Sight) (a : List BrickEntry) → rows_shown_besides one blind a ≡ rows_shown_to one.epochs one.marks a
besides_blind one [] = refl
besides_blind one (RowRun k rows ∷ older) = λ t. besides_blind one older t ++ rows_where (and_true (one.epochs k && not (is_below_mark one.marks k older)) t) rows
besides_blind one (RowMark k ∷ older) = besides_blind (sight_before_mark k one) older

pub alike_rows : (a b : List BrickEntry) → AreAlike a b → (epochs marks : EpochSet) → rows_shown_to epochs marks a ≡ rows_shown_to epochs marks b
alike_rows a b h epochs marks =
    let one : Sight = record { epochs = epochs; marks = marks } in
    sym (besides_blind one a) ∙ h.apart one blind ∙ besides_blind one b

pub show_alike : (a b : List BrickEntry) → AreAlike a b → ShowAlike a b
show_alike a b h = record { rows = alike_rows a b h; hidden = h.hidden }

pub alike_same : (a b : List BrickEntry) → a ≡ b → AreAlike a b
alike_same a b e = record {
  apart = λ one other. ap (rows_shown_besides one other) e;
  hidden = λ marks epoch. ap (is_below_mark marks epoch) e;
}

pub alike_then : (a b c : List BrickEntry) → AreAlike a b → AreAlike b c → AreAlike a c
alike_then a b c p q = record {
  apart = λ one other. p.apart one other ∙ q.apart one other;
  hidden = λ marks epoch. p.hidden marks epoch ∙ q.hidden marks epoch;
}

-- more entries behind
pub alike_run : (k : ℕ) (rows : List CodedRow) (a b : List BrickEntry) → AreAlike a b → AreAlike (RowRun k rows ∷ a) (RowRun k rows ∷ b)
alike_run k rows a b h = record {
  apart = λ one other t. h.apart one other t ++ rows_where ((one.epochs k && not (h.hidden one.marks k t)) && not (other.epochs k && not (h.hidden other.marks k t))) rows;
  hidden = λ marks epoch. h.hidden marks epoch;
}

pub alike_mark : (k : ℕ) (a b : List BrickEntry) → AreAlike a b → AreAlike (RowMark k ∷ a) (RowMark k ∷ b)
alike_mark k a b h = record {
  apart = λ one other. h.apart (sight_before_mark k one) (sight_before_mark k other);
  hidden = λ marks epoch t. (marks k && nat_lt epoch k) || h.hidden marks epoch t;
}

pub alike_newest : (entries : List EntryRows) (a b : List BrickEntry) → AreAlike a b → AreAlike (entries_newest_first a entries) (entries_newest_first b entries)
alike_newest [] a b h = h
alike_newest (e ∷ entries) a b h = alike_newest entries (brick_entry e.entry e.rows ∷ a) (brick_entry e.entry e.rows ∷ b) (alike_entry e.entry) where
  alike_entry : (entry : Entry) → AreAlike (brick_entry entry e.rows ∷ a) (brick_entry entry e.rows ∷ b)
  alike_entry (Run k end) = alike_run k e.rows a b h
  alike_entry (Mark k at) = alike_mark k a b h

-- an empty run
pub where_none : (b : Bool) → rows_where b [] ≡ []
where_none true = refl
where_none false = refl

pub alike_empty : (k : ℕ) (a : List BrickEntry) → AreAlike a (RowRun k [] ∷ a)
alike_empty k a = record {
  apart = λ one other. sym (ap (λ l. rows_shown_besides one other a ++ l) (where_none (shows_run one k a && not (shows_run other k a))) ∙ append-nil (rows_shown_besides one other a));
  hidden = λ marks epoch. refl;
}

-- two runs of one epoch
pub where_append : (b : Bool) (xs ys : List CodedRow) → rows_where b (xs ++ ys) ≡ rows_where b xs ++ rows_where b ys
where_append true xs ys = refl
where_append false xs ys = refl

alike_joined : (k : ℕ) (xs ys zs : List CodedRow) (a : List BrickEntry) → zs ≡ xs ++ ys → AreAlike (RowRun k zs ∷ a) (RowRun k ys ∷ RowRun k xs ∷ a)
alike_joined k xs ys zs a e = record {
  apart = λ one other.
      let b : Bool = shows_run one k a && not (shows_run other k a) in
      let older : List CodedRow = rows_shown_besides one other a in
      ap (λ l. older ++ l) (ap (rows_where b) e ∙ where_append b xs ys) ∙ sym (append_assoc older (rows_where b xs) (rows_where b ys));
  hidden = λ marks epoch. refl;
}

-- two marks of one epoch
and_twice : (a b : Bool) → (a && b) ≡ ((a && b) && b)
and_twice true true = refl
and_twice true false = refl
and_twice false b = refl

or_twice : (a b : Bool) → (a || b) ≡ (a || (a || b))
or_twice true b = refl
or_twice false b = refl

marked_twice : (t : Bool) (k : ℕ) (epochs : EpochSet) → epochs_before_mark t k epochs ≡ epochs_before_mark t k (epochs_before_mark t k epochs)
marked_twice true k epochs = λ i e. and_twice (epochs e) (nat_lt k e) i
marked_twice false k epochs = refl

sight_twice : (k : ℕ) (s : Sight) → sight_before_mark k s ≡ sight_before_mark k (sight_before_mark k s)
sight_twice k s = λ i. record { epochs = marked_twice (s.marks k) k s.epochs i; marks = s.marks }

pub alike_marks : (k : ℕ) (a : List BrickEntry) → AreAlike (RowMark k ∷ a) (RowMark k ∷ RowMark k ∷ a)
alike_marks k a = record {
  apart = λ one other i. rows_shown_besides (sight_twice k one i) (sight_twice k other i) a;
  hidden = λ marks epoch. or_twice (marks k && nat_lt epoch k) (is_below_mark marks epoch a);
}

-- the entries of a vector over rows, from so many rows on, behind older entries
abbrev pub view_from : List BrickEntry → ℕ → List CodedRow → List Entry → List BrickEntry
view_from older n rows entries = entries_newest_first older (entries_with_rows n rows entries)

pub equal : (a b : ℕ) → (a == b) ≡ true → a ≡ b
equal a b h = grind (arith, nat_tests)

pub both_true : (a b : Bool) → (a && b) ≡ true → (a ≡ true) × (b ≡ true)
both_true true b h = (refl, h)
both_true false b h = cc

pub rows_split : (n end more : ℕ) (rows : List CodedRow) → n ≤ end → end ≤ more → take (more - n) (drop n rows) ≡ take (end - n) (drop n rows) ++ take (more - end) (drop end rows)
rows_split n end more rows p q =
    ap (λ k. take k (drop n rows)) (let e : more - n ≡ (end - n) + (more - end) = omega arith in e)
    ∙ take-add (end - n) (more - end) (drop n rows)
    ∙ ap (λ l. take (end - n) (drop n rows) ++ take (more - end) l) (drop-drop (end - n) n rows ∙ ap (λ k. drop k rows) (let e : n + (end - n) ≡ end = omega arith in e))

-- neighbours that become one show alike
pub joined_alike : (xs : List Entry) (new : Entry) (rows : List CodedRow) (n to : ℕ) (older : List BrickEntry) → Leads n (xs ++ new ∷ []) to → AreAlike (view_from older n rows (vector_with_entry xs new)) (view_from older n rows (xs ++ new ∷ []))
joined_alike [] new rows n to older l = alike_same (view_from older n rows (new ∷ [])) (view_from older n rows (new ∷ [])) refl
joined_alike (last ∷ []) new rows n to older l = ends last new l (is_one_with last new) refl where
  ends : (last new : Entry) → Leads n (last ∷ new ∷ []) to → (t : Bool) → is_one_with last new ≡ t → AreAlike (view_from older n rows (cond t (new ∷ []) (last ∷ new ∷ []))) (view_from older n rows (last ∷ new ∷ []))
  ends last new l false e = alike_same (view_from older n rows (last ∷ new ∷ [])) (view_from older n rows (last ∷ new ∷ [])) refl
  ends (Run k end) (Run j more) l true e =
      let same : j ≡ k = sym (equal k j e) in
      let parts = rows_split n end more rows (omega (arith, l.0)) (omega (arith, l.1.0)) in
      alike_then (RowRun j (take (more - n) (drop n rows)) ∷ older) (RowRun j (take (more - end) (drop end rows)) ∷ RowRun j (take (end - n) (drop n rows)) ∷ older) (RowRun j (take (more - end) (drop end rows)) ∷ RowRun k (take (end - n) (drop n rows)) ∷ older)
      (alike_joined j (take (end - n) (drop n rows)) (take (more - end) (drop end rows)) (take (more - n) (drop n rows)) older parts)
      (alike_same (RowRun j (take (more - end) (drop end rows)) ∷ RowRun j (take (end - n) (drop n rows)) ∷ older) (RowRun j (take (more - end) (drop end rows)) ∷ RowRun k (take (end - n) (drop n rows)) ∷ older) (ap (λ i. RowRun j (take (more - end) (drop end rows)) ∷ RowRun i (take (end - n) (drop n rows)) ∷ older) same))
  ends (Mark k at) (Mark j more) l true e =
      let same : j ≡ k = sym (equal k j (both_true (k == j) (at == more) e).0) in
      alike_then (RowMark j ∷ older) (RowMark j ∷ RowMark j ∷ older) (RowMark j ∷ RowMark k ∷ older) (alike_marks j older)
      (alike_same (RowMark j ∷ RowMark j ∷ older) (RowMark j ∷ RowMark k ∷ older) (ap (λ i. RowMark j ∷ RowMark i ∷ older) same))
  ends (Run k end) (Mark j at) l true e = cc
  ends (Mark k at) (Run j end) l true e = cc
joined_alike (Run k end ∷ next ∷ xs) new rows n to older l = joined_alike (next ∷ xs) new rows end to (RowRun k (take (end - n) (drop n rows)) ∷ older) l.1
joined_alike (Mark k at ∷ next ∷ xs) new rows n to older l = joined_alike (next ∷ xs) new rows n to (RowMark k ∷ older) l.1

-- an entry more
pub view_push : (xs : List Entry) (new : Entry) (rows : List CodedRow) (n to : ℕ) (older : List BrickEntry) → Leads n xs to → view_from older n rows (xs ++ new ∷ []) ≡ entries_newest_first (view_from older n rows xs) (entries_with_rows to rows (new ∷ []))
view_push [] new rows n to older l = ap (λ k. view_from older k rows (new ∷ [])) l
view_push (Run k end ∷ xs) new rows n to older l = view_push xs new rows end to (RowRun k (take (end - n) (drop n rows)) ∷ older) l.1
view_push (Mark k at ∷ xs) new rows n to older l = view_push xs new rows n to (RowMark k ∷ older) l.1

pub leads_push : (xs : List Entry) (new : Entry) (n to more : ℕ) → Leads n xs to → Leads to (new ∷ []) more → Leads n (xs ++ new ∷ []) more
leads_push [] new n to more l m = rw l m
leads_push (Run k end ∷ xs) new n to more l m = (l.0, leads_push xs new end to more l.1 m)
leads_push (Mark k at ∷ xs) new n to more l m = (l.0, leads_push xs new n to more l.1 m)
