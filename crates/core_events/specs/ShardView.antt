-- What contracts see of a shard: for each cube and each brick the runs of rows and the marks of deletions that the
-- brick has. A brick that is not there is seen as it would be born now, with the marks that wait for it.
-- Source: Cubrick (VLDB 2016), bricks; AOSI (ICDE 2018), the epochs vector and its deletion markers. That a mark hides
-- by epoch also rows that come later is this project's own.
use Rattle.std.specs.Prelude.{ℕ, ◌≡◌, Bool, true, false, not, ◌&&◌, ◌||◌, ◌==◌, nat_lt, nat_le, List, [], ◌∷◌, ◌++◌, if◌then◌else◌}
use Rattle.cube_values.specs.declared.row.CodedRow.{CodedRow}
use Rattle.cube_values.specs.declared.snapshot.Snapshot.{Snapshot}
use Rattle.cube_values.specs.Sees.{sees}

-- Rows that an epoch appended, or the mark of a deletion by an epoch.
pub data BrickEntry : Type 0 where
  RowRun : (epoch : ℕ) (rows : List CodedRow) → BrickEntry
  RowMark : (epoch : ℕ) → BrickEntry

-- The entries of each brick, by the place of the cube and the number of the brick, the newest first.
abbrev pub ShardView : Type 0
ShardView = ℕ → ℕ → List BrickEntry

-- A set of epochs, by a test.
abbrev pub EpochSet : Type 0
EpochSet = ℕ → Bool

-- Rows of an epoch that is below that of a mark are hidden by it, wherever the mark stands.
abbrev pub is_below_mark : EpochSet → ℕ → List BrickEntry → Bool
is_below_mark marks epoch [] = false
is_below_mark marks epoch (RowRun other rows ∷ older) = is_below_mark marks epoch older
is_below_mark marks epoch (RowMark other ∷ older) =
    (marks other && nat_lt epoch other) || is_below_mark marks epoch older

-- The epochs of a set that are above one.
abbrev pub epochs_above : ℕ → EpochSet → EpochSet
epochs_above epoch set e = set e && nat_lt epoch e

-- The epochs whose rows are still looked for before a mark: where it counts, those above it alone.
abbrev pub epochs_before_mark : Bool → ℕ → EpochSet → EpochSet
epochs_before_mark true epoch set = epochs_above epoch set
epochs_before_mark false epoch set = set

-- The rows of a run where they are looked for and not hidden.
abbrev pub rows_where : Bool → List CodedRow → List CodedRow
rows_where true rows = rows
rows_where false rows = []

-- The rows of a brick, in the order in which they were appended, for whoever looks for the rows of some epochs and
-- obeys the marks of some epochs. A mark hides the rows of lower epochs, and those of its own epoch that stood before it.
abbrev pub rows_shown_to : EpochSet → EpochSet → List BrickEntry → List CodedRow
rows_shown_to epochs marks [] = []
rows_shown_to epochs marks (RowRun epoch rows ∷ older) =
    rows_shown_to epochs marks older ++ rows_where (epochs epoch && not (is_below_mark marks epoch older)) rows
rows_shown_to epochs marks (RowMark epoch ∷ older) =
    rows_shown_to (epochs_before_mark (marks epoch) epoch epochs) marks older

-- A snapshot looks for the rows of the epochs that it sees and obeys their marks.
abbrev pub brick_rows_seen : Snapshot → List BrickEntry → List CodedRow
brick_rows_seen s entries = rows_shown_to (sees s) (sees s) entries

-- Two bricks show the same rows, and hide the same, whoever looks.
pub record ShowAlike (a b : List BrickEntry) : Type 0 where
  pub rows : (epochs marks : EpochSet) → rows_shown_to epochs marks a ≡ rows_shown_to epochs marks b
  pub hidden : (marks : EpochSet) (epoch : ℕ) → is_below_mark marks epoch a ≡ is_below_mark marks epoch b

-- A brick after a rollback of an epoch: without its runs and marks.
abbrev pub entries_without_epoch : ℕ → List BrickEntry → List BrickEntry
entries_without_epoch epoch [] = []
entries_without_epoch epoch (RowRun other rows ∷ older) =
    if other == epoch then entries_without_epoch epoch older
    else RowRun other rows ∷ entries_without_epoch epoch older
entries_without_epoch epoch (RowMark other ∷ older) =
    if other == epoch then entries_without_epoch epoch older
    else RowMark other ∷ entries_without_epoch epoch older

-- A purge at an epoch looks for all rows, and obeys the marks up to that epoch.
abbrev pub is_up_to : ℕ → EpochSet
is_up_to epoch e = nat_le e epoch

-- A brick after a purge at an epoch: without the marks up to it, and without the rows that these hide. Of the runs from
-- here on, those of some epochs are left; a mark that is taken out leaves only those above it.
abbrev pub entries_after_purge : EpochSet → ℕ → List BrickEntry → List BrickEntry
entries_after_purge epochs at [] = []
entries_after_purge epochs at (RowRun epoch rows ∷ older) =
    RowRun epoch (rows_where (epochs epoch && not (is_below_mark (is_up_to at) epoch older)) rows)
    ∷ entries_after_purge epochs at older
entries_after_purge epochs at (RowMark epoch ∷ older) =
    if nat_le epoch at then entries_after_purge (epochs_above epoch epochs) at older
    else RowMark epoch ∷ entries_after_purge epochs at older

-- Every epoch.
abbrev pub every_epoch : EpochSet
every_epoch e = true

-- What a round from one epoch up to another has of a brick: the runs and marks of the epochs between.
abbrev pub is_within_round : ℕ → ℕ → ℕ → Bool
is_within_round from to epoch = nat_lt from epoch && nat_le epoch to

abbrev pub entries_of_round : ℕ → ℕ → List BrickEntry → List BrickEntry
entries_of_round from to [] = []
entries_of_round from to (RowRun epoch rows ∷ older) =
    if is_within_round from to epoch then RowRun epoch rows ∷ entries_of_round from to older
    else entries_of_round from to older
entries_of_round from to (RowMark epoch ∷ older) =
    if is_within_round from to epoch then RowMark epoch ∷ entries_of_round from to older
    else entries_of_round from to older

-- The epoch that made an entry.
abbrev pub epoch_of_entry : BrickEntry → ℕ
epoch_of_entry (RowRun epoch rows) = epoch
epoch_of_entry (RowMark epoch) = epoch

-- All rows of entries, in the order in which they were appended.
abbrev pub rows_appended : List BrickEntry → List CodedRow
rows_appended [] = []
rows_appended (RowRun epoch rows ∷ older) = rows_appended older ++ rows
rows_appended (RowMark epoch ∷ older) = rows_appended older

-- The rows that a store shows of a brick: what it kept up to an epoch, below the runs and marks of later rounds.
abbrev pub rows_over_kept : ℕ → List CodedRow → List BrickEntry → List CodedRow
rows_over_kept epoch kept entries = rows_shown_to every_epoch every_epoch (entries ++ RowRun epoch kept ∷ [])

-- Epochs begin at 1: no run of epoch 0 has rows.
abbrev pub HasNoZeroRows : List BrickEntry → Type 0
HasNoZeroRows [] = Unit {0}
HasNoZeroRows (RowRun epoch rows ∷ older) = (epoch ≡ 0 → rows ≡ []) × HasNoZeroRows older
HasNoZeroRows (RowMark epoch ∷ older) = HasNoZeroRows older

-- The epochs of a set that are in no other.
abbrev pub epochs_without : EpochSet → EpochSet → EpochSet
epochs_without set gone e = set e && not (gone e)
