-- The vector of epochs of a brick: which lists of entries are one, and what a snapshot sees by it.
-- Source: AOSI (ICDE 2018), the epochs vector and its deletion markers; that a mark hides by epoch also
-- rows that come later, and that neighbours become one, is this project's own.
use Rattle.std.specs.Prelude.{◌≡◌, ℕ, ◌<◌, Bool, false, not, ◌&&◌, ◌||◌, ◌==◌, nat_lt, List, [], ◌∷◌, Option, Some, None, if◌then◌else◌}
use Rattle.std.specs.List.{list_any}
use Rattle.std.specs.Option.{option_map_or}
use Rattle.cube_values.specs.declared.entry.Entry.{Entry}
use Rattle.cube_values.specs.declared.entry.Entry.TheVariants.{Run, Mark}
use Rattle.cube_values.specs.declared.snapshot.Snapshot.{Snapshot}
use Rattle.cube_values.specs.Sees.{sees}

-- The epoch that made an entry.
abbrev pub maker : Entry → ℕ
maker (Run epoch end) = epoch
maker (Mark epoch at) = epoch

-- How many rows the brick has after an entry.
abbrev pub rows_after : Entry → ℕ
rows_after (Run epoch end) = end
rows_after (Mark epoch at) = at

-- The entry with so many rows after it.
abbrev pub with_rows_after : Entry → ℕ → Entry
with_rows_after (Run epoch end) rows = Run epoch rows
with_rows_after (Mark epoch at) rows = Mark epoch rows

-- Two neighbours are one where they are runs of one epoch, or equal marks.
abbrev pub is_one_with : Entry → Entry → Bool
is_one_with (Run epoch end) (Run next more) = epoch == next
is_one_with (Mark epoch at) (Mark next more) = epoch == next && at == more
is_one_with a b = false

-- The entries with one more at the end, which takes the place of the last where the two are one.
abbrev pub vector_with_entry : List Entry → Entry → List Entry
vector_with_entry [] new = new ∷ []
vector_with_entry (last ∷ []) new = if is_one_with last new then new ∷ [] else last ∷ new ∷ []
vector_with_entry (first ∷ next ∷ entries) new = first ∷ vector_with_entry (next ∷ entries) new

-- How many rows there are behind entries that begin at so many: the end of the last run.
abbrev pub rows_from : ℕ → List Entry → ℕ
rows_from rows [] = rows
rows_from rows (Run epoch end ∷ entries) = rows_from end entries
rows_from rows (Mark epoch at ∷ entries) = rows_from rows entries

-- The rows of all entries.
abbrev pub rows_of : List Entry → ℕ
rows_of entries = rows_from 0 entries

-- From a brick of `from` rows the entries lead to one of `to` rows: each run appends rows, and each mark
-- stands at the number of rows that there are.
abbrev pub Leads : ℕ → List Entry → ℕ → Type 0
Leads from [] to = from ≡ to
Leads from (Run epoch end ∷ entries) to = (from < end) × Leads end entries to
Leads from (Mark epoch at ∷ entries) to = (at ≡ from) × Leads from entries to

-- No two neighbours are one.
abbrev pub NeighboursApart : List Entry → Type 0
NeighboursApart [] = Unit {0}
NeighboursApart (a ∷ []) = Unit {0}
NeighboursApart (a ∷ b ∷ entries) = (is_one_with a b ≡ false) × NeighboursApart (b ∷ entries)

-- The entries are an epochs vector over so many rows.
pub record IsVector (entries : List Entry) (rows : ℕ) : Type 0 where
  pub leads : Leads 0 entries rows
  pub apart : NeighboursApart entries

-- The epoch of row i is that of the run that holds it.
abbrev pub epoch_at : List Entry → ℕ → Option ℕ
epoch_at [] i = None
epoch_at (Run epoch end ∷ entries) i = if nat_lt i end then Some epoch else epoch_at entries i
epoch_at (Mark epoch at ∷ entries) i = epoch_at entries i

-- A mark of an epoch, made at so many rows, hides row i of epoch j where j is below the mark's epoch, or is
-- that epoch and the row stood before the mark.
abbrev pub mark_hides : ℕ → ℕ → ℕ → ℕ → Bool
mark_hides epoch at j i = nat_lt j epoch || (j == epoch && nat_lt i at)

-- An entry hides row i of epoch j from a snapshot where it is a mark that hides it and that is seen.
abbrev pub is_hidden_by : Snapshot → ℕ → ℕ → Entry → Bool
is_hidden_by s j i (Run epoch end) = false
is_hidden_by s j i (Mark epoch at) = sees s epoch && mark_hides epoch at j i

-- A snapshot sees row i of a brick with these entries.
abbrev pub sees_row : Snapshot → List Entry → ℕ → Bool
sees_row s entries i =
    option_map_or (λ j. sees s j && not (list_any (is_hidden_by s j i) entries)) (epoch_at entries i) false
