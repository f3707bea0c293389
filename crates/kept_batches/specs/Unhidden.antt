-- The rows of a part that no mark hides, by the greatest mark of its brick.
use Rattle.std.specs.Prelude.{◌≡◌, ℕ, suc, ◌%◌, Bool, not, ◌==◌, ◌||◌, List, [], ◌∷◌, ◌++◌, filter, if◌then◌else◌}
use Rattle.std.specs.BTreeMap.{BTreeMap, get}
use Rattle.std.specs.List.{flat_map, list_any, AllByRecursion}
use Rattle.std.specs.Option.{unwrap_or}
use Rattle.std.specs.Ordering.{nat_cmp}
use Rattle.cube_values.specs.declared.entry.Entry.{Entry}
use Rattle.cube_values.specs.declared.entry.Entry.TheVariants.{Run, Mark}
use Rattle.cube_values.specs.declared.row.CodedRow.{CodedRow}
use Rattle.cube_values.specs.declared.snapshot.Snapshot.{Snapshot}
use Rattle.cube_values.specs.Batches.{HasWidths, rows_between}
use Rattle.cube_values.specs.EpochsVector.{is_hidden_by}
use Rattle.cube_values.specs.Sees.{sees}
use Rattle.cube_rounds.specs.Bricks.{BrickPart}
use Rattle.epochs_vector.specs.declared.limit.Limit.{Limit}
use Rattle.epochs_vector.specs.Limits.{is_below}
use Rattle.kept_batches.specs.declared.brick_set.BrickSet.{BrickSet}

-- The limit of a brick. Where there is none, no row is below it.
abbrev pub limit_in : BTreeMap ℕ Limit → ℕ → Limit
limit_in limits number = unwrap_or (get nat_cmp limits number) (record { epoch = 0; row = 0 })

-- The entries of the parts of a brick, in order.
abbrev pub entries_of_brick : ℕ → List BrickPart → List Entry
entries_of_brick number parts = flat_map (λ part. part.entries) (filter (λ part. part.brick == number) parts)

-- The limits of the bricks come to hide besides what entries of parts hide from the snapshot.
pub record HideMore (s : Snapshot) (bricks : BrickSet) (parts : List BrickPart) (old new : BTreeMap ℕ Limit)
    : Type 0 where
  pub each : (number j i : ℕ) → number % bricks.shards ≡ bricks.shard
      → is_below (limit_in new number) j i
      ≡ (is_below (limit_in old number) j i || list_any (is_hidden_by s j i) (entries_of_brick number parts))

-- Of the rows from place i on, those of places that pass a test.
abbrev pub rows_at_places : (ℕ → Bool) → ℕ → List CodedRow → List CodedRow
rows_at_places test i [] = []
rows_at_places test i (row ∷ rows) =
    if test i then row ∷ rows_at_places test (suc i) rows else rows_at_places test (suc i) rows

-- Of the rows of an epoch from one place up to another, those that the snapshot sees and that are not below a limit.
abbrev pub rows_of_run : Snapshot → Limit → ℕ → ℕ → ℕ → List CodedRow → List CodedRow
rows_of_run s limit epoch from end rows =
    if sees s epoch then rows_at_places (λ i. not (is_below limit epoch i)) from (rows_between from end rows) else []

-- So of the runs of entries behind so many of the rows.
abbrev pub rows_of_runs : Snapshot → Limit → List CodedRow → ℕ → List Entry → List CodedRow
rows_of_runs s limit rows from [] = []
rows_of_runs s limit rows from (Run epoch end ∷ entries) =
    rows_of_run s limit epoch from end rows ++ rows_of_runs s limit rows end entries
rows_of_runs s limit rows from (Mark epoch at ∷ entries) = rows_of_runs s limit rows from entries

-- So of a part.
abbrev pub unhidden_rows : Snapshot → Limit → BrickPart → List CodedRow
unhidden_rows s limit part = rows_of_runs s limit part.rows 0 part.entries

-- So of a part of one of the bricks; of another part none.
abbrev pub rows_for_bricks : Snapshot → BrickSet → BTreeMap ℕ Limit → BrickPart → List CodedRow
rows_for_bricks s bricks limits part =
    if part.brick % bricks.shards == bricks.shard then unhidden_rows s (limit_in limits part.brick) part else []

-- The rows of parts have so many coordinates and metrics.
abbrev pub HaveWidths : ℕ → ℕ → List BrickPart → Type 0
HaveWidths dims width parts = AllByRecursion (λ part. AllByRecursion (HasWidths dims width) part.rows) parts
