-- A shard of a core is linked to it as the shard in it is.
use Rattle.std.specs.Prelude.{ℕ}
use Rattle.cube_core.specs.BoardCells.{IsShardLinked}
use Rattle.core_events.specs.Events.{Opening}
use Rattle.core_events.specs.ShardView.{ShardView}
use Rattle.cube_core.specs.declared.shard.ShardAnswer.{ShardAnswer}
use Rattle.cube_core.specs.declared.shard.ShardCall.{ShardCall}
use Rattle.linked_shards.specs.declared.cell.CoreShard.{CoreShard}
use Rattle.shard_events.specs.ShardCalls.{CanCallShard, ShardStep}
use Rattle.shard_events.specs.ShardsInRuns.{FitsShard, ShardAnswerSays, StandsInRun}
use Rattle.shard_events.proofs.LinkedCalls.{shards_are_linked}

-- The shard in the cell can take the call, makes the step, and stands in a run.
abbrev pub CanCallCoreShard : CoreShard → ShardCall → Type 0
CanCallCoreShard s c = CanCallShard s.shard c

abbrev pub CoreShardStep : CoreShard → ShardCall → ShardAnswer → CoreShard → Type 0
CoreShardStep old c a new = ShardStep old.shard c a new.shard

abbrev pub CoreShardStands : Opening → ℕ → ℕ → CoreShard → ShardView → Type 0
CoreShardStands o number lse s view = StandsInRun o number lse s.shard view

pub linked-shards : IsShardLinked CanCallCoreShard CoreShardStep FitsShard CoreShardStands ShardAnswerSays
linked-shards = record {
  takes = λ o number low s view c h f. shards_are_linked.takes o number low s.shard view c h f;
  steps = λ o number low s new view c a h f r step.
      let next = shards_are_linked.steps o number low s.shard new.shard view c a h f r step in
      record { outcome = next.outcome; said = next.said; answers = next.answers; after = next.after };
  alike = λ o number low later s view other le same h. shards_are_linked.alike o number low later s.shard view other le same h;
}
