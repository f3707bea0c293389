-- A flusher that has made no call has no FLUSH in hand and no round.
use Rattle.std.proofs.Common.{◌≡◌, ℕ, false, List, [], refl, subst}
use Rattle.cube_core.specs.Links.{AreEventsOf}
use Rattle.cube_core.specs.BoardCells.{IsEntryEvent, flusher_part}
use Rattle.core_program.specs.Knowing.{IsLaterRun}
use Rattle.core_events.specs.Events.{CoreEvent, Opening}
use Rattle.core_program.specs.Flushing.{KnowsPart}
use Rattle.core_program.specs.CoreFits.{CoreEntry}
use Rattle.cube_core.specs.declared.cell.CoreCell.{CoreCell}
use Rattle.flusher_mail.specs.FlusherMail.{HasNoFlush}
use Rattle.flusher_rounds.proofs.Rounds.{begins}
use Rattle.linked_shards.specs.CellShards.{CoreShardStands}
use Rattle.linked_shards.specs.declared.cell.CoreShard.{CoreShard}
use Rattle.shard_events.specs.ShardsInRuns.{FitsShard, ShardAnswerSays}

pub has-no-flush : (cells : List (CoreCell CoreShard)) (caller : ℕ) (own : List CoreEntry) → own ≡ []
    → KnowsPart FitsShard CoreShardStands ShardAnswerSays cells caller own (HasNoFlush false)
has-no-flush cells caller own none o log run es later are =
    let now : AreEventsOf (IsEntryEvent FitsShard CoreShardStands ShardAnswerSays o) [] es =
    subst (λ (l : List CoreEntry). AreEventsOf (IsEntryEvent FitsShard CoreShardStands ShardAnswerSays o) l es) none are
    in
    subst (λ (l : List CoreEvent). HasNoFlush false o (flusher_part o l)) now
    (record { has = refl; between = begins o })
