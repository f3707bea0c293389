use Rattle.core_selects.proofs.ReadingKinds.{plain-reads}
use Rattle.core_selects.specs.ReadingCalls.{IsReadingCall}
use Rattle.core_cubes.proofs.CallsGoOn.{go-on-as, go-on-then}
use Rattle.core_states.specs.LeftBehind.{IsPlainCall}
use Rattle.linked_shards.specs.CellShards.{CoreShardStands}
use Rattle.shard_events.specs.ShardsInRuns.{FitsShard, ShardAnswerSays}
use Rattle.core_selects.proofs.law.reading_calls_go_on.Goals as goal

pub returns-clause-plain : goal.returns-clause-plain
returns-clause-plain c = λ cells caller session own now goes.
    go-on-as FitsShard CoreShardStands ShardAnswerSays cells caller session IsPlainCall (IsReadingCall session) own now
    (plain-reads session) goes

pub returns-clause-more : goal.returns-clause-more
returns-clause-more c = λ cells caller session own mid now more one two.
    go-on-then FitsShard CoreShardStands ShardAnswerSays cells caller session (IsReadingCall session) own mid now more one
    two
