-- What a round has of a brick above the parts before it: what a reader at the round's target then sees.
use Rattle.std.proofs.Common.{◌≡◌, ◌∙◌, ℕ, ◌+◌, ◌<◌, ◌≤◌, nat_le, nat_lt, Bool, true, false, not, ◌&&◌, List, [], ◌∷◌, ◌++◌, length, Option, Some, None, IfSome, if◌then◌else◌, refl, sym, ap, arith, append-nil, le-ltb, ltb-true}
use Rattle.std.specs.List.{AllByRecursion, count_by}
use Rattle.std.specs.Option.{option_map_or}
use Rattle.std.proofs.lemmas.Bool.{and_parts, leb-true}
use Rattle.cube_values.specs.declared.entry.Entry.{Entry}
use Rattle.cube_values.specs.declared.entry.Entry.TheVariants.{Run, Mark}
use Rattle.cube_values.specs.declared.row.CodedRow.{CodedRow}
use Rattle.cube_values.specs.Batches.{rows_between}
use Rattle.cube_values.specs.EpochsVector.{Leads}
use Rattle.cube_values.specs.Sees.{sees}
use Rattle.cube_rounds.specs.Bricks.{BrickPart}
use Rattle.cube_rounds.specs.Demands.{IsOfEpochs}
use Rattle.cube_rounds.specs.KeptRows.{entries_behind, entries_joined, rows_joined, rows_seen}
use Rattle.core_events.specs.Clients.{reader_up_to}
use Rattle.core_events.specs.ShardView.{BrickEntry, RowRun, RowMark, EpochSet, brick_rows_seen, entries_of_round, epoch_of_entry, epochs_before_mark, is_below_mark, is_within_round, rows_over_kept, rows_shown_to, rows_where}
use Rattle.core_events.proofs.CopyRows.{copies-restore, sees-not}
use Rattle.core_events.proofs.RoundEntries.{IsOfRound}
use Rattle.shard_views.specs.Views.{part_view}
use Rattle.shard_views.proofs.Alike.{view_from}
use Rattle.rows_of_rounds.proofs.JoinedParts.{entries-more, leads-more, seen-of-parts, view-with-part, view_of_parts}

-- ---- epochs

of-round : (from to epoch : ℕ) → is_within_round from to epoch ≡ true → (from < epoch) × (epoch ≤ to)
of-round from to epoch within =
    let both = and_parts (nat_lt from epoch) (nat_le epoch to) within in
    (ltb-true from epoch both.0, leb-true epoch to both.1)

-- Runs and marks of epochs up to one.
abbrev AreUpTo : ℕ → List BrickEntry → Type 0
AreUpTo most entries = AllByRecursion (λ e. epoch_of_entry e ≤ most) entries

view-low : (most : ℕ) (older : List BrickEntry) (n : ℕ) (rows : List CodedRow) (entries : List Entry)
    → AllByRecursion (IsOfEpochs 0 most) entries → AreUpTo most older → AreUpTo most (view_from older n rows entries)
view-low most older n rows [] all low = low
view-low most older n rows (Run epoch end ∷ entries) all low =
    view-low most (RowRun epoch (rows_between n end rows) ∷ older) end rows entries all.1 (all.0.within, low)
view-low most older n rows (Mark epoch at ∷ entries) all low =
    view-low most (RowMark epoch ∷ older) n rows entries all.1 (all.0.within, low)

-- Those of a part are of epochs of the round where its runs and marks are.
record AreOfRound (from to : ℕ) (older : List BrickEntry) (entries : List Entry) : Type 0 where
  pub entries_are : AllByRecursion (IsOfEpochs from to) entries
  pub older_are : AllByRecursion (IsOfRound from to) older

entries-of : (from to : ℕ) (older : List BrickEntry) (n : ℕ) (rows : List CodedRow) (entries : List Entry)
    → AllByRecursion (IsOfRound from to) (view_from older n rows entries) → AreOfRound from to older entries
entries-of from to older n rows [] all = record { entries_are = tt; older_are = all }
entries-of from to older n rows (Run epoch end ∷ entries) all =
    let rest = entries-of from to (RowRun epoch (rows_between n end rows) ∷ older) end rows entries all in
    let both = of-round from to epoch rest.older_are.0 in
    record {
      entries_are = (record { above = both.0; within = both.1 }, rest.entries_are);
      older_are = rest.older_are.1;
    }
entries-of from to older n rows (Mark epoch at ∷ entries) all =
    let rest = entries-of from to (RowMark epoch ∷ older) n rows entries all in
    let both = of-round from to epoch rest.older_are.0 in
    record {
      entries_are = (record { above = both.0; within = both.1 }, rest.entries_are);
      older_are = rest.older_are.1;
    }

wider : (from low high : ℕ) (xs ys : List Entry) → from ≤ high → AllByRecursion (IsOfEpochs 0 from) xs
    → AllByRecursion (IsOfEpochs 0 high) ys → AllByRecursion (IsOfEpochs 0 high) (xs ++ ys)
wider from low high [] ys le first second = second
wider from low high (x ∷ xs) ys le first second =
    let above = first.0.above in
    let within = first.0.within in
    (record { above = above; within = omega (arith, within, le) }, wider from low high xs ys le first.1 second)

behind-of : (rows from to : ℕ) (entries : List Entry) → AllByRecursion (IsOfEpochs from to) entries
    → AllByRecursion (IsOfEpochs 0 to) (entries_behind rows entries)
behind-of rows from to [] all = tt
behind-of rows from to (Run epoch end ∷ entries) all =
    let above = all.0.above in
    (record { above = omega (arith, above); within = all.0.within }, behind-of rows from to entries all.1)
behind-of rows from to (Mark epoch at ∷ entries) all =
    let above = all.0.above in
    (record { above = omega (arith, above); within = all.0.within }, behind-of rows from to entries all.1)

-- ---- what a round takes, and what it does not see

not-within : (from to epoch : ℕ) → epoch ≤ from → is_within_round from to epoch ≡ false
not-within from to epoch low = ap (λ (b : Bool). b && nat_le epoch to) (le-ltb from epoch low)

none-of-round : (from to : ℕ) (xs : List BrickEntry) → AreUpTo from xs → entries_of_round from to xs ≡ []
none-of-round from to [] low = refl
none-of-round from to (RowRun epoch rows ∷ xs) low =
    ap (λ (b : Bool). if b then RowRun epoch rows ∷ entries_of_round from to xs else entries_of_round from to xs)
    (not-within from to epoch low.0)
    ∙ none-of-round from to xs low.1
none-of-round from to (RowMark epoch ∷ xs) low =
    ap (λ (b : Bool). if b then RowMark epoch ∷ entries_of_round from to xs else entries_of_round from to xs)
    (not-within from to epoch low.0)
    ∙ none-of-round from to xs low.1

all-of-round : (from to : ℕ) (xs ys : List BrickEntry) → AllByRecursion (IsOfRound from to) xs → AreUpTo from ys
    → entries_of_round from to (xs ++ ys) ≡ xs
all-of-round from to [] ys all low = none-of-round from to ys low
all-of-round from to (RowRun epoch rows ∷ xs) ys all low =
    ap (λ (b : Bool). if b then RowRun epoch rows ∷ entries_of_round from to (xs ++ ys)
    else entries_of_round from to (xs ++ ys)) all.0
    ∙ ap (λ (l : List BrickEntry). RowRun epoch rows ∷ l) (all-of-round from to xs ys all.1 low)
all-of-round from to (RowMark epoch ∷ xs) ys all low =
    ap (λ (b : Bool). if b then RowMark epoch ∷ entries_of_round from to (xs ++ ys)
    else entries_of_round from to (xs ++ ys)) all.0
    ∙ ap (λ (l : List BrickEntry). RowMark epoch ∷ l) (all-of-round from to xs ys all.1 low)

unseen : (from to : ℕ) (xs ys : List BrickEntry) → AllByRecursion (IsOfRound from to) xs
    → brick_rows_seen (reader_up_to from) (xs ++ ys) ≡ brick_rows_seen (reader_up_to from) ys
unseen from to [] ys all = refl
unseen from to (RowRun epoch rows ∷ xs) ys all =
    let later = (of-round from to epoch all.0).0 in
    let marks = sees (reader_up_to from) in
    (λ i. unseen from to xs ys all.1 i
    ++ rows_where (sees-not from epoch later i && not (is_below_mark marks epoch (xs ++ ys))) rows)
    ∙ append-nil (brick_rows_seen (reader_up_to from) ys)
unseen from to (RowMark epoch ∷ xs) ys all =
    let later = (of-round from to epoch all.0).0 in
    let marks = sees (reader_up_to from) in
    ap (λ (b : Bool). rows_shown_to (epochs_before_mark b epoch marks) marks (xs ++ ys)) (sees-not from epoch later)
    ∙ unseen from to xs ys all.1

-- ---- the parts with that of the round

abbrev pub part_of_round : Option BrickPart → List BrickPart
part_of_round None = []
part_of_round (Some p) = p ∷ []

module _ (from to : ℕ) (parts : List BrickPart)
    (leads : Leads 0 (entries_joined 0 parts) (length (rows_joined parts)))
    (low : AllByRecursion (IsOfEpochs 0 from) (entries_joined 0 parts)) (le : from ≤ to) where
  abbrev pub with_part : Option BrickPart → List BrickPart
  with_part part = parts ++ part_of_round part

  pub view-with-round : (part : Option BrickPart)
      → view_of_parts (with_part part) ≡ option_map_or part_view part [] ++ view_of_parts parts
  view-with-round None = ap view_of_parts (append-nil parts)
  view-with-round (Some p) = view-with-part parts p leads

  pub leads-with-round : (part : Option BrickPart) → IfSome part (λ p. Leads 0 p.entries (length p.rows))
      → Leads 0 (entries_joined 0 (with_part part)) (length (rows_joined (with_part part)))
  leads-with-round None whole =
      coe 1 0 (i. Leads 0 (entries_joined 0 (append-nil parts i)) (length (rows_joined (append-nil parts i)))) leads
  leads-with-round (Some p) whole = leads-more parts p leads whole

  pub epochs-with-round : (part : Option BrickPart)
      → AllByRecursion (IsOfRound from to) (option_map_or part_view part [])
      → AllByRecursion (IsOfEpochs 0 to) (entries_joined 0 (with_part part))
  epochs-with-round None all =
      coe 1 0 (i. AllByRecursion (IsOfEpochs 0 to) (entries_joined 0 (append-nil parts i)))
      (coe 0 1 (i. AllByRecursion (IsOfEpochs 0 to) (append-nil (entries_joined 0 parts) i))
      (wider from 0 to (entries_joined 0 parts) [] le low tt))
  epochs-with-round (Some p) all =
      let rows = 0 + length (rows_joined parts) in
      coe 1 0 (i. AllByRecursion (IsOfEpochs 0 to) (entries-more 0 parts p i))
      (wider from 0 to (entries_joined 0 parts) (entries_behind rows p.entries) le low
      (behind-of rows from to p.entries (entries-of from to [] 0 p.rows p.entries all).entries_are))

  pub counts-with-round : (c : CodedRow → Bool) (part : Option BrickPart)
      → IfSome part (λ p. Leads 0 p.entries (length p.rows))
      → AllByRecursion (IsOfRound from to) (option_map_or part_view part [])
      → count_by c (rows_seen (reader_up_to to) (entries_joined 0 (with_part part)) 0 (rows_joined (with_part part)))
      ≡ count_by c (rows_over_kept from
      (rows_seen (reader_up_to from) (entries_joined 0 parts) 0 (rows_joined parts)) (option_map_or part_view part []))
  counts-with-round c part whole all =
      let copy = option_map_or part_view part [] in
      let older = view_of_parts parts in
      ap (count_by c)
      (seen-of-parts (reader_up_to to) (with_part part) (leads-with-round part whole)
      ∙ ap (brick_rows_seen (reader_up_to to)) (view-with-round part))
      ∙ sym (copies-restore c from to (copy ++ older) le)
      ∙ (λ i. count_by c (rows_over_kept from (unseen from to copy older all i)
      (all-of-round from to copy older all
      (view-low from [] 0 (rows_joined parts) (entries_joined 0 parts) low tt) i)))
      ∙ ap (λ (kept : List CodedRow). count_by c (rows_over_kept from kept copy))
      (sym (seen-of-parts (reader_up_to from) parts leads))
