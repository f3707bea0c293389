-- A round of what the flusher copied, behind what a store keeps of the run.
-- Source: Cubrick (VLDB 2016), bricks and dictionaries; AOSI (ICDE 2018), flush rounds. What is known by own calls is
-- this project's own.
use Rattle.std.specs.Prelude.{◌≡◌, ℕ, List, [], length, map, get_or, slice_get, Some}
use Rattle.std.specs.Option.{option_map_or}
use Rattle.brick_map.specs.Copied.{part_numbered}
use Rattle.cube_values.specs.declared.shape.CubeShape.{CubeShape}
use Rattle.cube_language.specs.declared.decl.Decl.{Decl}
use Rattle.cube_schema.specs.Schemas.{cube_of}
use Rattle.cube_rounds.specs.Bricks.{BrickPart}
use Rattle.cube_rounds.specs.Demands.{DimNames}
use Rattle.cube_rounds.specs.declared.round.Round.{Round}
use Rattle.cube_rounds.specs.declared.round.RoundCube.{RoundCube}
use Rattle.core_program.specs.Knowing.{IsLaterRun}
use Rattle.core_events.specs.Cells.{desk_of}
use Rattle.core_events.specs.Clients.{client_state}
use Rattle.core_events.specs.Events.{Opening, CoreEvent}
use Rattle.core_events.specs.ShardView.{ShardView}
use Rattle.core_serial.specs.Copies.{copies_by}
use Rattle.core_program.specs.CoreFits.{CoreEntry}
use Rattle.cube_core.specs.declared.cell.CoreCell.{CoreCell}
use Rattle.following_rounds.specs.FollowingRounds.{IsKeptAfter, IsRoundOfRun, OpensForRounds}
use Rattle.linked_shards.specs.CellShards.{CoreShardStands}
use Rattle.linked_shards.specs.declared.cell.CoreShard.{CoreShard}
use Rattle.round_copies.specs.RoundCopies.{AreSoundBricks, count_at}
use Rattle.shard_events.specs.ShardsInRuns.{FitsShard, ShardAnswerSays}
use Rattle.shard_views.specs.Views.{part_view}

-- The names of a dimension, and none where there is none.
abbrev pub names_of_dim : List DimNames → ℕ → ℕ → List (List ℕ)
names_of_dim names cube dim = get_or (get_or names cube []) dim []

-- Cubes that a store keeps have these shapes, and so many names in each dimension.
pub record HaveShapesAndCounts (cubes : List Decl) (names : List DimNames) (shapes : List CubeShape)
    (counts : List (List ℕ)) : Type 0 where
  pub shapes_are : shapes ≡ map cube_of cubes
  pub counts_are : (cube dim : ℕ) → count_at counts cube dim ≡ length (names_of_dim names cube dim)

module _ (cells : List (CoreCell CoreShard)) (o : Opening) (caller : ℕ) (own : List CoreEntry) where
  -- So a store keeps them of each run in which the caller's own calls begin so.
  abbrev pub AreKeptInRuns : List Decl → List DimNames → Type 0
  AreKeptInRuns cubes names = (log : List CoreEntry) (run : List CoreEvent)
      → IsLaterRun FitsShard CoreShardStands ShardAnswerSays cells o caller own log run
      → IsKeptAfter o run cubes names

  -- So each such run opens for rounds.
  abbrev pub OpenForRounds : Type 0
  OpenForRounds = (log : List CoreEntry) (run : List CoreEvent)
      → IsLaterRun FitsShard CoreShardStands ShardAnswerSays cells o caller own log run
      → OpensForRounds o (desk_of o run).cubes

-- A round has of a cube all that was copied of its bricks: sound parts, and of each brick what was copied, which is
-- nothing where there is no part of it.
pub record HasAllCopies (copies : ShardView) (cube : ℕ) (bricks : List BrickPart) : Type 0 where
  pub sound : AreSoundBricks bricks
  pub same : (brick : ℕ) → option_map_or part_view (part_numbered brick bricks) [] ≡ copies cube brick

-- A round of a run behind what a store keeps of it: this was there at the moment at which all shards had copied, and the
-- round has all that they copied of its cubes.
pub record IsRoundBehindKept (o : Opening) (run : List CoreEvent) (client : ℕ) (cubes : List Decl)
    (names : List DimNames) (round : Round) : Type 0 where
  pub copied : List CoreEvent
  pub kept : IsKeptAfter o copied cubes names
  pub taken : IsRoundOfRun o copied run client cubes names round
  pub all : (cube : ℕ) (part : RoundCube) → slice_get round.cubes cube ≡ Some part
      → HasAllCopies (copies_by o (client_state o client copied).group.answers) cube part.bricks
