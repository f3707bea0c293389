-- The calls by which the records of a LOAD come to their shards, and the batches that these post.
-- Source: AOSI (ICDE 2018), appends of a transaction; Cubrick (VLDB 2016), dictionary encoding of text dimensions.
use Rattle.std.specs.Prelude.{◌≡◌, ℕ, List}
use mathlib.Core.List.{IsPrefix}
use Rattle.core_agreements.specs.PostsForOperations.{StandForAll, batches_posted, rows_of_batches}
use Rattle.core_events.specs.Events.{OnNames, Post, Fetch, NoChange, ClientCall}
use Rattle.core_events.specs.Jobs.{Append}
use Rattle.core_program.specs.CoreFits.{CoreEntry}
use Rattle.core_states.specs.LeftBehind.{GoOnByCalls}
use Rattle.cube_core.specs.declared.cell.CoreCell.{CoreCell}
use Rattle.cube_language.specs.declared.decl.Decl.{Decl}
use Rattle.cube_values.specs.declared.row.CodedRow.{CodedRow}
use Rattle.cube_values.specs.declared.row.StoredRow.{StoredRow}
use Rattle.linked_shards.specs.CellShards.{CoreShardStands}
use Rattle.shard_events.specs.ShardsInRuns.{FitsShard, ShardAnswerSays}
use Rattle.linked_shards.specs.declared.cell.CoreShard.{CoreShard}
use Rattle.one_session.specs.Changes.{ComeFor}
use Rattle.posted_pasts.specs.PostsAdded.{AddsOperations, LearnsThat}

-- A call on the names, a post of rows of a cube at an epoch, or a fetch.
abbrev pub IsLoadCall : ℕ → ℕ → ClientCall → Type 0
IsLoadCall cube epoch (OnNames c) = Unit {0}
IsLoadCall cube epoch (Post mail (Append other at rows)) = (other ≡ cube) × (at ≡ epoch)
IsLoadCall cube epoch (Fetch mail outcome) = Unit {0}
IsLoadCall cube epoch NoChange = Unit {0}
IsLoadCall cube epoch call = ⊥

-- Where rows by coordinates stand for rows of values, so do those of batches.
abbrev pub StandAlike : List CodedRow → List (List CodedRow) → Type 0
StandAlike rows batches =
    (d : Decl) (lists : List (List (List ℕ))) (stored : List StoredRow) → ComeFor d lists rows stored
    → StandForAll d lists (rows_of_batches batches) stored

module _ (cells : List (CoreCell CoreShard)) (caller session cube epoch : ℕ) where
  -- From these calls of the session to those there are none but such of the cube at the epoch.
  pub record GoesOnLoading (own now : List CoreEntry) : Type 0 where
    pub more : IsPrefix own now
    pub calls : GoOnByCalls FitsShard CoreShardStands ShardAnswerSays cells caller session (IsLoadCall cube epoch) own now

  -- They post rows in these batches, and nothing else.
  pub record ArePosted (rows : List CodedRow) (own now : List CoreEntry) : Type 0 where
    pub batches : List (List CodedRow)
    pub alike : StandAlike rows batches
    pub posted : LearnsThat FitsShard CoreShardStands ShardAnswerSays
        (AddsOperations cube epoch (batches_posted batches)) cells caller session own now
