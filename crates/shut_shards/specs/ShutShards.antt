-- What the shards in the cells of a core hold at the end of a run.
-- Source: AOSI (ICDE 2018), the epochs vector and its deletion markers; Cubrick (VLDB 2016), shards of bricks.
use Rattle.std.specs.Prelude.{◌≡◌, ℕ, ◌%◌, ◌<◌, List, []}
use Rattle.std.specs.List.{AllByRecursion}
use Rattle.std.specs.List.Sorted.{IsPermutation}
use lib.ListN.{get_elem?}
use mathlib.Core.Option.{some}
use Rattle.cube_values.specs.declared.entry.Entry.{Entry}
use Rattle.cube_values.specs.declared.entry.Entry.TheVariants.{Run, Mark}
use Rattle.cube_values.specs.declared.row.CodedRow.{CodedRow}
use Rattle.cube_values.specs.declared.row.StoredRow.{StoredRow}
use Rattle.cube_language.specs.declared.decl.Decl.{Decl}
use Rattle.core_events.specs.Cells.{rows_of_brick}
use Rattle.core_events.specs.Events.{Opening, CoreEvent}
use Rattle.cube_core.specs.BoardCells.{StandsInCell, cell_of_shard}
use Rattle.cube_core.specs.declared.cell.CoreCell.{CoreCell}
use Rattle.cube_core.specs.declared.cell.CoreCell.TheVariants as cell
use Rattle.linked_shards.specs.CellShards.{CoreShardStands}
use Rattle.linked_shards.specs.declared.cell.CoreShard.{CoreShard}
use Rattle.shard_cell.specs.Shards.{ShardState, shard_brick}
use Rattle.shard_events.specs.ShardsInRuns.{FitsShard, ShardAnswerSays}
use Rattle.shard_events.specs.ViewedShards.{shard_view}
use Rattle.core_agreements.specs.PostsForOperations.{StandForAll}
use Rattle.final_shards.specs.PurgedBricks.{rows_held_up_to}

-- An entry is no mark of an epoch up to one.
abbrev pub IsNoMarkUpTo : ℕ → Entry → Type 0
IsNoMarkUpTo epoch (Run e end) = Unit {0}
IsNoMarkUpTo epoch (Mark e at) = epoch < e

-- No brick of a shard has one, there or not: no such deletion waits for it either.
abbrev pub HasNoMarksUpTo : ℕ → ShardState → Type 0
HasNoMarksUpTo epoch shard =
    (cube brick : ℕ) → AllByRecursion (IsNoMarkUpTo epoch) (shard_brick shard cube brick).entries

-- An entry is no mark.
abbrev pub IsRunEntry : Entry → Type 0
IsRunEntry (Run e end) = Unit {0}
IsRunEntry (Mark e at) = ⊥

-- The shard in a cell has no mark of an epoch up to one.
abbrev pub CellHasNoMarksUpTo : ℕ → CoreCell CoreShard → Type 0
CellHasNoMarksUpTo epoch (cell.Shard s) = HasNoMarksUpTo epoch s.shard
CellHasNoMarksUpTo epoch x = Unit {0}

-- The rows of the epochs up to one that a shard holds in a brick, and all of them.
abbrev pub rows_in_shard_up_to : ℕ → ShardState → ℕ → ℕ → List CodedRow
rows_in_shard_up_to epoch shard cube brick = rows_held_up_to epoch (shard_view shard cube brick)

abbrev pub rows_in_shard : ShardState → ℕ → ℕ → List CodedRow
rows_in_shard shard cube brick = (shard_brick shard cube brick).rows

-- The cells are what the events of a run made of them.
abbrev pub CellsStand : Opening → List (CoreCell CoreShard) → List CoreEvent → Type 0
CellsStand o cells es = (k : ℕ) (x : CoreCell CoreShard) → get_elem? cells k ≡ some x
    → StandsInCell FitsShard CoreShardStands ShardAnswerSays o k x es

-- The shard of a number is in its cell.
abbrev pub IsShardIn : List (CoreCell CoreShard) → ℕ → CoreShard → Type 0
IsShardIn cells number s = get_elem? cells (cell_of_shard number) ≡ some (cell.Shard s)

-- Of a cube the shards in the cells hold rows that stand for these rows of values, each as often: each shard those of
-- its bricks, in the brick of their coordinates, and none of other bricks. What counts as held is a parameter.
pub record ShardsHoldRowsFor (holds : ShardState → ℕ → ℕ → List CodedRow) (o : Opening)
    (cells : List (CoreCell CoreShard)) (d : Decl) (lists : List (List (List ℕ))) (cube : ℕ) (stored : List StoredRow)
    : Type 0 where
  pub rows : List CodedRow
  pub stand : StandForAll d lists rows stored
  pub own : (number brick : ℕ) (s : CoreShard) → IsShardIn cells number s → brick % o.shards ≡ number
      → IsPermutation (holds s.shard cube brick) (rows_of_brick o cube brick rows)
  pub others : (number brick : ℕ) (s : CoreShard) → IsShardIn cells number s → (brick % o.shards ≡ number → ⊥)
      → holds s.shard cube brick ≡ []
