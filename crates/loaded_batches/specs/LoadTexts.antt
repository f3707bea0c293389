-- For which texts the calls of a LOAD ask the names.
-- Source: Cubrick (VLDB 2016), dictionary encoding of text dimensions; the rest is this project's own.
use Rattle.std.specs.Prelude.{◌≡◌, ◌⊎◌, ℕ, List}
use Rattle.core_names.specs.AskedNames.{HasAskedFor}
use Rattle.core_names.specs.NamesInTheEnd.{MayLeaveNames}
use Rattle.core_program.specs.CoreFits.{CoreEntry}
use Rattle.csv_load.specs.Loads.{LoadState}
use Rattle.cube_core.specs.declared.cell.CoreCell.{CoreCell}
use Rattle.cube_language.specs.declared.decl.Decl.{Decl}
use Rattle.scripted_pasts.specs.AskedTexts.{AsksOnly}
use Rattle.linked_shards.specs.CellShards.{CoreShardStands}
use Rattle.linked_shards.specs.declared.cell.CoreShard.{CoreShard}
use Rattle.posted_pasts.specs.PostsAdded.{LearnsThat}
use Rattle.row_encoding.specs.CodedLoads.{HaveTextLookedAt}
use Rattle.shard_events.specs.ShardsInRuns.{FitsShard, ShardAnswerSays}

module _ (cells : List (CoreCell CoreShard)) (caller place : ℕ) (d : Decl) where
  -- A text for a dimension of its cube, in one of the records that a load has left, at which a LOAD looks that allows
  -- so
  -- many bad ones more, in whatever run goes on.
  pub record IsLoadText (now : List CoreEntry) (allowed : ℕ) (load : LoadState) (cube dim : ℕ) (text : List ℕ) : Type 0
    where
      pub here : cube ≡ place
      pub looked : HaveTextLookedAt (MayLeaveNames FitsShard CoreShardStands ShardAnswerSays cells caller now) place d
          allowed load dim text

  -- By its own calls from these to those it has asked only for such,
  abbrev pub HasAskedForSuch : ℕ → LoadState → List CoreEntry → List CoreEntry → Type 0
  HasAskedForSuch allowed load own now = (cube dim : ℕ) (text : List ℕ) → HasAskedFor now cube dim text
      → HasAskedFor own cube dim text ⊎ IsLoadText now allowed load cube dim text

  -- and so it is by those of the session in each run that goes on.
  abbrev pub AsksForSuch : ℕ → ℕ → LoadState → List CoreEntry → List CoreEntry → Type 0
  AsksForSuch session allowed load own now =
      LearnsThat FitsShard CoreShardStands ShardAnswerSays (AsksOnly (IsLoadText now allowed load)) cells caller session
      own now
