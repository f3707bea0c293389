use Rattle.core_selects.proofs.ReadingKinds.{calls-under-own, reads-under-own}
use Rattle.core_selects.specs.ReadingCalls.{IsReadingCall}
use Rattle.core_cubes.proofs.CallsGoOn.{go-on-as}
use Rattle.core_cubes.specs.StatementCalls.{IsCallFor}
use Rattle.linked_shards.specs.CellShards.{CoreShardStands}
use Rattle.shard_events.specs.ShardsInRuns.{FitsShard, ShardAnswerSays}
use Rattle.cube_core.specs.HoldStates.{IsUnderOwnNumber}
use Rattle.core_selects.proofs.law.calls_leave_the_watch.Goals as goal

pub returns-clause-reading : goal.returns-clause-reading
returns-clause-reading c = λ cells caller session own now goes.
    go-on-as FitsShard CoreShardStands ShardAnswerSays cells caller session (IsReadingCall session)
    (IsUnderOwnNumber session) own now (reads-under-own session) goes

pub returns-clause-statement : goal.returns-clause-statement
returns-clause-statement c = λ cells caller session number s own now goes.
    go-on-as FitsShard CoreShardStands ShardAnswerSays cells caller session (IsCallFor number s) (IsUnderOwnNumber session)
    own now (calls-under-own session number s) goes
