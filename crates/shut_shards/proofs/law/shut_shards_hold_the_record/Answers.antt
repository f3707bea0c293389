use Rattle.shut_shards.proofs.RecordedShards.{all-for-record, safe-for-record}
use Rattle.shut_shards.proofs.law.shut_shards_hold_the_record.Goals as goal

pub returns-clause-safe : goal.returns-clause-safe
returns-clause-safe c =
    λ o given es client cube d cells r stand h is. safe-for-record o given es client cube d cells r stand h is

pub returns-clause-all : goal.returns-clause-all
returns-clause-all c =
    λ o given es client cube d cells r stand h is all. all-for-record o given es client cube d cells r stand h is all
