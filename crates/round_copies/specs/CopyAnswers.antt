-- How a shard answers that it has copied.
-- Source: this project's own.
use Rattle.cube_core.specs.declared.jobs.JobAnswer.{JobAnswer}
use Rattle.cube_core.specs.declared.jobs.JobAnswer.TheVariants as reply
use Rattle.cube_core.specs.declared.shard.ShardAnswer.TheVariants as answer
use Rattle.joined_copies.specs.JoinedCopies.{ShardCopy}

abbrev pub copy_answer : ShardCopy → JobAnswer
copy_answer copy = reply.Shard (answer.Copied copy)
