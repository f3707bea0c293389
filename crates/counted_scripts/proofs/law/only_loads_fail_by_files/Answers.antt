use Rattle.counted_scripts.proofs.OtherReplies.{only_loads}
use Rattle.counted_scripts.proofs.law.only_loads_fail_by_files.Goals as goal
use Rattle.cube_journal.specs.declared.refusal.Refusal.TheVariants as refusal
use Rattle.cube_journal.specs.declared.reply.Reply.TheVariants as reply

pub returns-clause-fault : goal.returns-clause-fault
returns-clause-fault c = λ run step r. only_loads run step (reply.Refused refusal.ReadFault) (λ none. none) r

pub returns-clause-absence : goal.returns-clause-absence
returns-clause-absence c = λ run step r. only_loads run step (reply.Refused refusal.NoSuchFile) (λ none. none) r
