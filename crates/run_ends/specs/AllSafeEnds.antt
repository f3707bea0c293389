-- A run that ends with all safe, in words of its record: the counters, the journal, and what the shards then hold.
-- Source: AOSI (ICDE 2018), LCE, LSE and purge; Cubrick (VLDB 2016), shards of bricks; that main has the shards purge
-- at the end is this project's own.
use Rattle.std.specs.Prelude.{◌≡◌, ℕ, ◌+◌, ◌%◌, ◌≤◌, List, [], length, slice_get, Some}
use Rattle.std.specs.List.{AllByRecursion}
use Rattle.std.specs.List.Sorted.{IsPermutation}
use Rattle.aosi_desk.specs.Desks.{DeskState}
use Rattle.brick_map.specs.Births.{rows_of_brick}
use Rattle.condition_spans.specs.Codes.{lists_at}
use Rattle.core_agreements.specs.PostsForOperations.{StandForAll}
use Rattle.core_events.specs.Clients.{reader_up_to}
use Rattle.cube_journal.specs.Counters.{counters}
use Rattle.cube_journal.specs.declared.counters.Counters.{Counters}
use Rattle.cube_language.specs.Cubes.{sizes_of}
use Rattle.cube_language.specs.declared.decl.Decl.{Decl}
use Rattle.cube_run.specs.RunRecords.{RunRecord, catalog_of}
use Rattle.cube_run.specs.RunTransactions.{run_transactions}
use Rattle.cube_values.specs.Visible.{visible_rows}
use Rattle.cube_values.specs.declared.row.CodedRow.{CodedRow}
use Rattle.cube_values.specs.declared.row.StoredRow.{StoredRow}
use Rattle.last_rounds.specs.SavedEpochs.{last_saved}
use Rattle.linked_shards.specs.declared.cell.CoreShard.{CoreShard}
use Rattle.one_session.specs.Changes.{rows_in_cube}
use Rattle.shard_cell.specs.Shards.{shard_brick}
use Rattle.shut_shards.specs.ShutShards.{HasNoMarksUpTo, IsRunEntry, rows_in_shard}

-- Nothing is pending, and each epoch that was given out is committed and safe.
pub record AreAllSafe (c : Counters) : Type 0 where
  pub none_pending : c.pending ≡ []
  pub committed : c.ec ≡ c.lce + 1
  pub safe : c.lse ≡ c.lce

-- The rows of a cube, by its name, that a reader at an epoch sees of what is on record.
abbrev pub rows_on_record : RunRecord → ℕ → List ℕ → List StoredRow
rows_on_record run epoch name = rows_in_cube name (visible_rows (reader_up_to epoch) (run_transactions run))

module _ (shards : List CoreShard) where
  -- A shard stands among these by its number, from 0 on. Its own bricks, of each cube, are those whose number modulo
  -- the number of shards is its own.

  abbrev pub IsShardAt : ℕ → CoreShard → Type 0
  IsShardAt number s = slice_get shards number ≡ Some s

  abbrev pub IsOwnBrick : ℕ → ℕ → Type 0
  IsOwnBrick number brick = brick % length shards ≡ number

  -- No brick of its own has a mark of a deletion, and of the epochs up to one there is no mark for any brick, there or
  -- not.
  pub record HaveNoMarks (epoch : ℕ) : Type 0 where
    pub own : (number cube brick : ℕ) (s : CoreShard) → IsShardAt number s → IsOwnBrick number brick
        → AllByRecursion IsRunEntry (shard_brick s.shard cube brick).entries
    pub waiting : (number : ℕ) (s : CoreShard) → IsShardAt number s → HasNoMarksUpTo epoch s.shard

  -- Of a cube they hold rows that stand for these rows of values, each as often: each shard those of its own bricks,
  -- in the brick of their coordinates, and none in other bricks.
  pub record HoldRowsOfCube (cube : ℕ) (d : Decl) (lists : List (List (List ℕ))) (stored : List StoredRow)
      : Type 0 where
    pub rows : List CodedRow
    pub stand : StandForAll d lists rows stored
    pub own : (number brick : ℕ) (s : CoreShard) → IsShardAt number s → IsOwnBrick number brick
        → IsPermutation (rows_in_shard s.shard cube brick) (rows_of_brick (sizes_of d.dims) brick rows)
    pub others : (number brick : ℕ) (s : CoreShard) → IsShardAt number s → (IsOwnBrick number brick → ⊥)
        → rows_in_shard s.shard cube brick ≡ []

-- The journal on record is the desk's, and these are its counters. Its last Safe or Idle is of LCE, and all is safe.
-- The shards have no marks, and hold of each cube just the rows that a reader at LSE sees of what is on record.
pub record EndsWithAllSafe (run : RunRecord) (final : Counters) (desk : DeskState) (shards : List CoreShard)
    : Type 0 where
  pub journal_is : desk.register.journal ≡ run.journal
  pub counters_are : final ≡ counters run.safe run.journal
  pub last_round : last_saved run.journal ≡ Some final.lce
  pub all_safe : AreAllSafe final
  pub some_shards : 1 ≤ length shards
  pub no_marks : HaveNoMarks shards final.lse
  pub rows : (cube : ℕ) (d : Decl) → slice_get (catalog_of run).cubes cube ≡ Some d
      → HoldRowsOfCube shards cube d (lists_at run.names cube) (rows_on_record run final.lse d.name)
