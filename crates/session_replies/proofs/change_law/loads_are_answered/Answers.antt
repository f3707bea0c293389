use Rattle.session_replies.proofs.Loading.{load_too_many_alone, load_too_many_inside, loaded_alone, loaded_inside}
use Rattle.session_replies.proofs.change_law.loads_are_answered.Goals as goal

pub returns-clause-alone : goal.returns-clause-alone
returns-clause-alone c = loaded_alone

pub returns-clause-inside : goal.returns-clause-inside
returns-clause-inside c = loaded_inside

pub returns-clause-shard_alone : goal.returns-clause-shard_alone
returns-clause-shard_alone c = load_too_many_alone

pub returns-clause-shard_inside : goal.returns-clause-shard_inside
returns-clause-shard_inside c = load_too_many_inside
