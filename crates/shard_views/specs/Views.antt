-- A brick in the core's words: its runs of rows and its marks of deletions, the newest first.
use Rattle.std.specs.Prelude.{◌≡◌, ℕ, ◌<◌, ◌≤◌, List, [], ◌∷◌, length, fold}
use Rattle.std.specs.List.{items_where_true}
use Rattle.cube_values.specs.declared.entry.Entry.{Entry}
use Rattle.cube_values.specs.declared.entry.Entry.TheVariants.{Run, Mark}
use Rattle.cube_values.specs.declared.row.CodedRow.{CodedRow}
use Rattle.cube_values.specs.declared.snapshot.Snapshot.{Snapshot}
use Rattle.cube_values.specs.EpochsVector.{IsVector}
use Rattle.cube_values.specs.Sees.{sees}
use Rattle.cube_rounds.specs.Bricks.{BrickPart, EntryRows, entries_with_rows}
use Rattle.epochs_vector.specs.Seen.{seen_rows}
use Rattle.brick_store.specs.Deltas.{seen_apart}
use Rattle.brick_map.specs.Births.{BrickContent, content_purged, content_with_mark, content_with_rows, content_without}
use Rattle.brick_map.specs.Copied.{round_part_with}
use Rattle.core_events.specs.Runs.{Sight, rows_shown_besides}
use Rattle.core_events.specs.ShardView.{BrickEntry, RowRun, RowMark, EpochSet, ShowAlike, brick_rows_seen, entries_of_round, entries_without_epoch, is_below_mark, rows_shown_to}

-- A run with its rows, or a mark.
abbrev pub brick_entry : Entry → List CodedRow → BrickEntry
brick_entry (Run epoch end) rows = RowRun epoch rows
brick_entry (Mark epoch at) rows = RowMark epoch

abbrev pub entries_newest_first : List BrickEntry → List EntryRows → List BrickEntry
entries_newest_first older entries = fold (λ older e. brick_entry e.entry e.rows ∷ older) older entries

-- What a brick has, in the core's words.
abbrev pub brick_view : BrickContent → List BrickEntry
brick_view c = entries_newest_first [] (entries_with_rows 0 c.rows c.entries)

-- A set of epochs does not tell those up to one apart.
abbrev pub IsUniform : ℕ → EpochSet → Type 0
IsUniform low epochs = (a b : ℕ) → a ≤ low → b ≤ low → epochs a ≡ epochs b

-- Two bricks show the same rows to whoever does not tell the epochs up to one apart, the same rows to one such sight and
-- not to another, and hide the same from that one on: a purge may have made their runs one.
pub record ShowAlikeAbove (low : ℕ) (a b : List BrickEntry) : Type 0 where
  pub rows : (epochs marks : EpochSet) → IsUniform low epochs
      → rows_shown_to epochs marks a ≡ rows_shown_to epochs marks b
  pub apart : (one other : Sight) → IsUniform low one.epochs → IsUniform low other.epochs
      → rows_shown_besides one other a ≡ rows_shown_besides one other b
  pub hidden : (marks : EpochSet) (epoch : ℕ) → low ≤ epoch → is_below_mark marks epoch a ≡ is_below_mark marks epoch b

-- What a snapshot sees by a vector of epochs is what it sees in the core's words.
abbrev pub SnapshotsSeeTheSame : Type 0
SnapshotsSeeTheSame = (c : BrickContent) → IsVector c.entries (length c.rows) → (snapshot : Snapshot)
    → items_where_true (seen_rows snapshot c.entries) c.rows ≡ brick_rows_seen snapshot (brick_view c)

-- The sight of a snapshot.
abbrev pub sight_of : Snapshot → Sight
sight_of snapshot = record { epochs = sees snapshot; marks = sees snapshot }

-- And so what one snapshot sees and another does not.
abbrev pub SeesApartTheSame : Type 0
SeesApartTheSame = (c : BrickContent) → IsVector c.entries (length c.rows) → (one other : Snapshot)
    → items_where_true (seen_apart one other c.entries) c.rows
    ≡ rows_shown_besides (sight_of one) (sight_of other) (brick_view c)

-- The entries of a brick are a vector over its rows.
abbrev pub IsWholeContent : BrickContent → Type 0
IsWholeContent c = IsVector c.entries (length c.rows)

-- What calls make of a brick that is whole is whole.
pub record StaysWhole (c : BrickContent) : Type 0 where
  pub appended : (epoch : ℕ) (rows : List CodedRow) → IsWholeContent (content_with_rows epoch rows c)
  pub marked : (epoch : ℕ) → IsWholeContent (content_with_mark epoch c)
  pub rolled_back : (epoch : ℕ) → IsWholeContent (content_without epoch c)
  pub purged : (epoch : ℕ) → IsWholeContent (content_purged epoch c)

-- A brick of which nothing came is whole, and whatever calls make of it.
pub record ContentsAreWhole : Type 0 where
  pub first : IsWholeContent (record { rows = []; entries = [] })
  pub later : (c : BrickContent) → IsWholeContent c → StaysWhole c

-- Rows that an epoch appends are a run more, and a deletion is a mark more.
pub record GrowsTheSame (low : ℕ) (c : BrickContent) (view : List BrickEntry) : Type 0 where
  pub appended : (epoch : ℕ) (rows : List CodedRow) → low < epoch
      → ShowAlikeAbove low (brick_view (content_with_rows epoch rows c)) (RowRun epoch rows ∷ view)
  pub marked : (epoch : ℕ) → low < epoch
      → ShowAlikeAbove low (brick_view (content_with_mark epoch c)) (RowMark epoch ∷ view)

abbrev pub CallsGrowTheSame : Type 0
CallsGrowTheSame = (low : ℕ) (c : BrickContent) (view : List BrickEntry)
    → IsWholeContent c → ShowAlikeAbove low (brick_view c) view → GrowsTheSame low c view

-- A rollback takes the runs and marks of its epoch out.
abbrev pub RollsBackTheSame : Type 0
RollsBackTheSame = (epoch : ℕ) (c : BrickContent) → IsWholeContent c
    → ShowAlike (brick_view (content_without epoch c)) (entries_without_epoch epoch (brick_view c))

-- What a round has of a brick, in the core's words.
abbrev pub part_view : BrickPart → List BrickEntry
part_view part = brick_view (record { rows = part.rows; entries = part.entries })

-- It is the runs and marks of the round's epochs.
abbrev pub CopiesTheSame : Type 0
CopiesTheSame = (from to number : ℕ) (c : BrickContent) → IsWholeContent c
    → ShowAlike (part_view (round_part_with from to number c)) (entries_of_round from to (brick_view c))
