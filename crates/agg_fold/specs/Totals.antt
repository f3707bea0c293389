-- Rows of one group that come or go by their totals.
use Rattle.std.specs.Prelude.{◌≡◌, ℕ, List, [], ◌++◌, length, map, All}
use Rattle.cube_values.specs.declared.query.BoundItem.{BoundItem}
use Rattle.cube_values.specs.declared.query.BoundQuery.{BoundQuery}
use Rattle.cube_values.specs.declared.row.CodedRow.{CodedRow}
use Rattle.agg_fold.specs.declared.groups.Groups.{Groups}
use Rattle.agg_fold.specs.declared.tally.Tally.{Tally}
use Rattle.agg_fold.specs.Tallies.{tally_of, told_tallies, GroupTotals}
use Rattle.agg_fold.specs.Coded.{IsQueryRow, HasKey, metrics_of, rows_with}
use Rattle.agg_fold.specs.Places.{group_key}
use Rattle.agg_fold.specs.Standing.{StandsFor, Gains}

-- Rows of one key, by their count and their tallies.
pub record AreTotals (query : BoundQuery) (key : List ℕ) (n : ℕ) (tallies : List Tally) (more : List CodedRow)
    : Type 0 where
  pub count : n ≡ length more
  pub taken : All (IsQueryRow query) more
  pub keyed : All (HasKey query.group key) more
  pub tallied : tallies ≡ map (tally_of (metrics_of more)) query.items

-- There are such rows.
abbrev pub HasTotals : BoundQuery → List ℕ → ℕ → List Tally → Type 0
HasTotals query key count tallies = (more : List CodedRow) × AreTotals query key count tallies more

-- Any rows with these totals come to the group at a place.
abbrev pub GainsTotals : BoundQuery → ℕ → ℕ → List Tally → Groups → Groups → Type 0
GainsTotals query place count tallies old new =
    (more : List CodedRow) → AreTotals query (group_key old.keys place) count tallies more → Gains query more old new

-- Groups stand for a list that ends in rows with these totals, of the group at a place.
pub record CanLoseTotals (query : BoundQuery) (place count : ℕ) (tallies : List Tally) (groups : Groups) : Type 0 where
  pub rest : List CodedRow
  pub less : List CodedRow
  pub totals : AreTotals query (group_key groups.keys place) count tallies less
  pub whole : StandsFor query (rest ++ less) groups

-- Of each such list the rest is left.
abbrev pub LosesTotals : BoundQuery → ℕ → ℕ → List Tally → Groups → Groups → Type 0
LosesTotals query place count tallies old new =
    (rest less : List CodedRow) → AreTotals query (group_key old.keys place) count tallies less
    → StandsFor query (rest ++ less) old → StandsFor query rest new

-- Of rows that others stand for, those with the key at a place of theirs.
abbrev pub group_rows : BoundQuery → Groups → ℕ → List CodedRow → List CodedRow
group_rows query other theirs more = rows_with query.group more (group_key other.keys theirs)

-- Groups stand for a list that ends in the rows of a group of others.
pub record CanLoseGroup (query : BoundQuery) (other : Groups) (theirs : ℕ) (groups : Groups) : Type 0 where
  pub rest : List CodedRow
  pub more : List CodedRow
  pub part : StandsFor query more other
  pub whole : StandsFor query (rest ++ group_rows query other theirs more) groups

-- Of each such list the rest is left.
abbrev pub LosesGroup : BoundQuery → Groups → ℕ → Groups → Groups → Type 0
LosesGroup query other theirs old new =
    (rest more : List CodedRow) → StandsFor query more other
    → StandsFor query (rest ++ group_rows query other theirs more) old → StandsFor query rest new

-- A group has come with the tallies of no rows.
abbrev pub HasEmptyTallies : List BoundItem → Groups → Groups → Type 0
HasEmptyTallies items old new = new.tallies.items ≡ old.tallies.items ++ map (tally_of []) items

-- The totals are those of rows of one key.
abbrev pub AreToldOf : BoundQuery → List ℕ → GroupTotals → List CodedRow → Type 0
AreToldOf query key told more =
    AreTotals query key told.rows (told_tallies query.items told.sums told.least told.greatest) more

-- They are those of some rows of this key.
abbrev pub AreSomeRows : BoundQuery → List ℕ → GroupTotals → Type 0
AreSomeRows query key told = (more : List CodedRow) × AreToldOf query key told more

-- Any rows of this key that have the totals come.
abbrev pub GainsGroup : BoundQuery → List ℕ → GroupTotals → Groups → Groups → Type 0
GainsGroup query key told old new = (more : List CodedRow) → AreToldOf query key told more → Gains query more old new
