-- What a round has of a brick: entries of its epochs, and rows of the brick.
use Rattle.std.proofs.Common.{◌≡◌, ℕ, Bool, true, false, cond, List, [], ◌∷◌, ◌++◌, refl, All}
use Rattle.std.specs.List.{AllByRecursion, Contains}
use Rattle.std.proofs.lemmas.List.Elements.{recursion_from_All, All-append, All-contains_itself, All-from_recursion}
use Rattle.cube_values.specs.declared.row.CodedRow.{CodedRow}
use Rattle.core_events.specs.ShardView.{BrickEntry, RowRun, RowMark, entries_of_round, epoch_of_entry, is_within_round, rows_appended}

-- Facts on the rows of two lists.
pub append-first : (P : CodedRow → Type 0) (xs ys : List CodedRow) → AllByRecursion P (xs ++ ys) → AllByRecursion P xs
append-first P [] ys h = tt
append-first P (x ∷ xs) ys h = (h.0, append-first P xs ys h.1)

pub append-second : (P : CodedRow → Type 0) (xs ys : List CodedRow) → AllByRecursion P (xs ++ ys) → AllByRecursion P ys
append-second P [] ys h = h
append-second P (x ∷ xs) ys h = append-second P xs ys h.1

pub append-both : (P : CodedRow → Type 0) (xs ys : List CodedRow) → AllByRecursion P xs → AllByRecursion P ys → AllByRecursion P (xs ++ ys)
append-both P [] ys g h = h
append-both P (x ∷ xs) ys g h = (g.0, append-both P xs ys g.1 h)

-- An entry is of the epochs of a round.
abbrev pub IsOfRound : ℕ → ℕ → BrickEntry → Type 0
IsOfRound from to e = is_within_round from to (epoch_of_entry e) ≡ true

module _ (from to : ℕ) where
  pub epochs-of-round : (xs : List BrickEntry) → AllByRecursion (IsOfRound from to) (entries_of_round from to xs)
  epochs-of-round [] = tt
  epochs-of-round (RowRun epoch rows ∷ older) = at (epochs-of-round older) (is_within_round from to epoch) refl
    where
      at : AllByRecursion (IsOfRound from to) (entries_of_round from to older) → (here : Bool) → is_within_round from to epoch ≡ here
          → AllByRecursion (IsOfRound from to) (cond here (RowRun epoch rows ∷ entries_of_round from to older) (entries_of_round from to older))
      at rest true is = (is, rest)
      at rest false is = rest
  epochs-of-round (RowMark epoch ∷ older) = at (epochs-of-round older) (is_within_round from to epoch) refl
    where
      at : AllByRecursion (IsOfRound from to) (entries_of_round from to older) → (here : Bool) → is_within_round from to epoch ≡ here
          → AllByRecursion (IsOfRound from to) (cond here (RowMark epoch ∷ entries_of_round from to older) (entries_of_round from to older))
      at rest true is = (is, rest)
      at rest false is = rest

  rows-kept : (P : CodedRow → Type 0) (xs : List BrickEntry) → AllByRecursion P (rows_appended xs)
      → AllByRecursion P (rows_appended (entries_of_round from to xs))
  rows-kept P [] h = tt
  rows-kept P (RowRun epoch rows ∷ older) h =
      at (is_within_round from to epoch) (rows-kept P older (append-first P (rows_appended older) rows h))
    where
      at : (here : Bool) → AllByRecursion P (rows_appended (entries_of_round from to older)) → AllByRecursion P
          (rows_appended (cond here (RowRun epoch rows ∷ entries_of_round from to older) (entries_of_round from to older)))
      at true rest = append-both P (rows_appended (entries_of_round from to older)) rows rest (append-second P (rows_appended older) rows h)
      at false rest = rest
  rows-kept P (RowMark epoch ∷ older) h = at (is_within_round from to epoch) (rows-kept P older h)
    where
      at : (here : Bool) → AllByRecursion P (rows_appended (entries_of_round from to older)) → AllByRecursion P
          (rows_appended (cond here (RowMark epoch ∷ entries_of_round from to older) (entries_of_round from to older)))
      at true rest = rest
      at false rest = rest

  pub all-of-round : (xs : List BrickEntry) → All (IsOfRound from to) (entries_of_round from to xs)
  all-of-round xs = All-from_recursion (IsOfRound from to) (entries_of_round from to xs) (epochs-of-round xs)

  pub rows-of-round : (xs : List BrickEntry) → All (Contains (rows_appended xs)) (rows_appended (entries_of_round from to xs))
  rows-of-round xs =
      let P = Contains (rows_appended xs) in
      All-from_recursion P (rows_appended (entries_of_round from to xs))
      (rows-kept P xs (recursion_from_All P (rows_appended xs) (All-contains_itself (rows_appended xs))))
