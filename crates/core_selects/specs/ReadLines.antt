-- The lines that a session has read for a SELECT, by a snapshot that it holds.
-- Source: Cubrick (VLDB 2016), one request that goes to all shards, and the merging of partial results; AOSI (ICDE 2018),
-- snapshots of readers and of writers.
use Rattle.std.specs.Prelude.{◌≡◌, ℕ, List, []}
use Rattle.agg_fold.specs.Standing.{IsTable}
use Rattle.agg_fold.specs.declared.groups.Groups.{Groups}
use Rattle.condition_spans.specs.Codes.{lists_at}
use Rattle.copied_names.specs.CopiedNames.{AreCopiedBetween}
use Rattle.core_program.specs.CoreFits.{CoreEntry}
use Rattle.cube_core.specs.declared.cell.CoreCell.{CoreCell}
use Rattle.cube_language.specs.Misfits.{FitsCube}
use Rattle.cube_language.specs.ResolvedNames.{resolved_plan}
use Rattle.cube_language.specs.declared.decl.Decl.{Decl}
use Rattle.cube_language.specs.declared.statement.Statement.{Statement}
use Rattle.cube_values.specs.First.{first_rows}
use Rattle.cube_values.specs.declared.query.BoundQuery.{BoundQuery}
use Rattle.cube_values.specs.declared.snapshot.Snapshot.{Snapshot}
use Rattle.cube_values.specs.declared.table.Field.{Field}
use Rattle.session_snapshots.specs.KnownHolds.{HoldsTheSame}
use Rattle.linked_shards.specs.CellShards.{CoreShardStands}
use Rattle.shard_events.specs.ShardsInRuns.{FitsShard, ShardAnswerSays}
use Rattle.linked_shards.specs.declared.cell.CoreShard.{CoreShard}
use Rattle.query_plan.specs.Bindings.{IsQueryOn}
use Rattle.query_plan.specs.Ties.{AreDistinct}
use Rattle.session_groups.specs.ShardGroups.{HasFoundRows, KnowsOfShards}
use Rattle.shard_statements.specs.OverShards.{LeavesOverShards}

-- A statement that fits its cube, which stands at this place, is bound by names of which no dimension has one twice.
pub record IsBoundBy (place : ℕ) (d : Decl) (s : Statement) (names : List (List (List (List ℕ)))) (query : BoundQuery)
    : Type 0 where
  pub place_is : query.cube ≡ place
  pub fits : FitsCube d s
  pub distinct : AreDistinct (lists_at names query.cube)
  pub asks : IsQueryOn d names s query

-- Lines are the first, as the statement asks for them, of the table of groups by the texts of each dimension.
pub record AreFirstOfTable (s : Statement) (lists : List (List (List ℕ))) (query : BoundQuery) (groups : Groups)
    (lines : List (List Field)) : Type 0 where
  pub table : List (List Field)
  pub makes : IsTable query lists groups table
  pub first : lines ≡ first_rows (resolved_plan s) table

module _ (cells : List (CoreCell CoreShard)) (caller session : ℕ) where
  -- Its calls went on, left nothing, and what the session held it holds.
  pub record GoesOnHolding (own now : List CoreEntry) : Type 0 where
    pub left : LeavesOverShards cells caller session own now []
    pub same : HoldsTheSame FitsShard CoreShardStands ShardAnswerSays session cells caller own cells caller now

  -- Behind calls by which it came to hold a snapshot it first copied the names of the cube, by which the statement is
  -- bound; then all shards gave the rows of the query that the snapshot sees, and these are the lines of their groups.
  pub record HasReadLines (place : ℕ) (d : Decl) (s : Statement) (snapshot : Snapshot) (own now : List CoreEntry)
      (lines : List (List Field)) : Type 0 where
    pub copied : List CoreEntry
    pub scanned : List CoreEntry
    pub names : List (List (List (List ℕ)))
    pub query : BoundQuery
    pub groups : Groups
    pub copying : GoesOnHolding own copied
    pub scanning : GoesOnHolding copied scanned
    pub making : GoesOnHolding scanned now
    pub are_copied : AreCopiedBetween FitsShard CoreShardStands ShardAnswerSays cells caller own copied place d names
    pub bound : IsBoundBy place d s names query
    pub found : KnowsOfShards cells caller session scanned (HasFoundRows session query snapshot groups)
    pub are : AreFirstOfTable s (lists_at names query.cube) query groups lines
