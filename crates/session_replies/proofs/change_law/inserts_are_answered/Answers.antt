use Rattle.session_replies.proofs.Inserting.{insert_too_many_alone, insert_too_many_inside, inserted_alone, inserted_inside, without_place}
use Rattle.session_replies.proofs.change_law.inserts_are_answered.Goals as goal

pub returns-clause-alone : goal.returns-clause-alone
returns-clause-alone c = inserted_alone

pub returns-clause-inside : goal.returns-clause-inside
returns-clause-inside c = inserted_inside

pub returns-clause-full : goal.returns-clause-full
returns-clause-full c = without_place

pub returns-clause-shard_alone : goal.returns-clause-shard_alone
returns-clause-shard_alone c = insert_too_many_alone

pub returns-clause-shard_inside : goal.returns-clause-shard_inside
returns-clause-shard_inside c = insert_too_many_inside
