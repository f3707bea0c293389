-- Which lists of rows groups stand for.
-- Source: Cubrick (VLDB 2016), merging of partial results; taking rows out is this project's own.
use Rattle.std.specs.Prelude.{◌≡◌, ℕ, ◌^◌, ◌<◌, ◌+◌, true, ℤ, List, ◌++◌, length, map, All, slice_get, Some, if◌then◌else◌}
use Rattle.std.specs.List.{flat_map, IsDistinct}
use Rattle.std.specs.List.Sorted.{IsPermutation}
use Rattle.std.specs.Str.{bytes_eq}
use Rattle.cube_values.specs.Answer.{table_of}
use Rattle.cube_values.specs.declared.query.BoundItem.{BoundItem}
use Rattle.cube_values.specs.declared.query.BoundQuery.{BoundQuery}
use Rattle.cube_values.specs.declared.row.CodedRow.{CodedRow}
use Rattle.cube_values.specs.declared.table.Field.{Field}
use Rattle.agg_fold.specs.declared.groups.Groups.{Groups}
use Rattle.agg_fold.specs.Tallies.{tally_of}
use Rattle.agg_fold.specs.Coded.{IsQueryRow, coded_key, metrics_with, row_for}
use Rattle.agg_fold.specs.Places.{is_among}

-- Each group has the count of its key's metrics and their tally for each item.
pub record HoldTotals (items : List BoundItem) (metrics : List ℕ → List (List ℤ)) (groups : Groups) : Type 0 where
  pub counts : groups.counts.items ≡ map (λ key. length (metrics key)) groups.keys
  pub tallies : groups.tallies.items ≡ flat_map (λ key. map (tally_of (metrics key)) items) groups.keys

-- The metrics of each key, with others for one of the keys.
abbrev pub with_metrics : (List ℕ → List (List ℤ)) → List ℕ → List (List ℤ) → List ℕ → List (List ℤ)
with_metrics metrics key now other = if bytes_eq key other then now else metrics other

-- The key of a row is among keys.
abbrev pub HasGroup : List ℕ → List (List ℕ) → CodedRow → Type 0
HasGroup group keys row = is_among keys (coded_key group row.coords) ≡ true

-- Under a query groups stand for a list of rows where each row's key has its group, once, and each group
-- has the totals of the list's rows with its key. A group without rows may stand there too.
pub record StandsFor (query : BoundQuery) (rows : List CodedRow) (groups : Groups) : Type 0 where
  pub count : groups.rows ≡ length rows
  pub few : length rows < 2 ^ 63
  pub taken : All (IsQueryRow query) rows
  pub named : All (HasGroup query.group groups.keys) rows
  pub wide : All (λ key. length key ≡ length query.group) groups.keys
  pub once : IsDistinct bytes_eq groups.keys
  pub totals : HoldTotals query.items (metrics_with query.group rows) groups

-- They stand for some list, of so few rows that as many more may come.
abbrev pub HasRoom : BoundQuery → ℕ → Groups → Type 0
HasRoom query more groups = (rows : List CodedRow) × StandsFor query rows groups × (length rows + more < 2 ^ 63)

-- What groups stand for, others do too.
abbrev pub StandsAlike : BoundQuery → Groups → Groups → Type 0
StandsAlike query old new = (rows : List CodedRow) → StandsFor query rows old → StandsFor query rows new

-- The same under each query.
abbrev pub IsCopy : Groups → Groups → Type 0
IsCopy old new = (query : BoundQuery) → StandsAlike query old new

-- It is how many rows they stand for.
abbrev pub IsRowCount : Groups → ℕ → Type 0
IsRowCount groups n = (query : BoundQuery) (rows : List CodedRow) → StandsFor query rows groups → n ≡ length rows

-- Of each list that groups stand for, others stand for the list with more rows.
abbrev pub Gains : BoundQuery → List CodedRow → Groups → Groups → Type 0
Gains query more old new = (rows : List CodedRow) → StandsFor query rows old → StandsFor query (rows ++ more) new

-- The rows that come are those that others stand for.
abbrev pub Adds : BoundQuery → Groups → Groups → Groups → Type 0
Adds query other old new = (more : List CodedRow) → StandsFor query more other → Gains query more old new

-- A list has the rows of another, each as often, and these besides.
abbrev pub IsMade : List CodedRow → List CodedRow → List CodedRow → Type 0
IsMade rows more rest = IsPermutation rows (rest ++ more)

-- They stand for a list that has the rows that others stand for, each as often.
pub record HasRowsOf (query : BoundQuery) (other groups : Groups) : Type 0 where
  pub rows : List CodedRow
  pub more : List CodedRow
  pub rest : List CodedRow
  pub made : IsMade rows more rest
  pub whole : StandsFor query rows groups
  pub part : StandsFor query more other

-- Of each list that has the rows that others stand for, each as often, the list without them is left.
abbrev pub Removes : BoundQuery → Groups → Groups → Groups → Type 0
Removes query other old new =
    (rows more rest : List CodedRow) → IsMade rows more rest → StandsFor query more other
    → StandsFor query rows old → StandsFor query rest new

-- The table is the answer over each list that groups stand for.
abbrev pub IsTable : BoundQuery → List (List (List ℕ)) → Groups → List (List Field) → Type 0
IsTable query lists groups table =
    (rows : List CodedRow) → StandsFor query rows groups
    → table ≡ table_of query.group query.items (map (row_for lists) rows)

-- At these places of the keys stand those keys.
abbrev pub ArePlaces : List (List ℕ) → List ℕ → List (List ℕ) → Type 0
ArePlaces keys places wanted = map (slice_get keys) places ≡ map Some wanted
