-- What the worker of a shard knows by its own calls: the job that it has in hand.
-- Source: this project's own.
use Rattle.std.specs.Prelude.{◌≡◌, ℕ, ◌<◌, List, fold}
use Rattle.mail_cell.specs.declared.answer.Taken.TheVariants.{Job as SomeJob}
use Rattle.cube_core.specs.BoardCells.{server_of, cell_of_shard, cell_of_mail}
use Rattle.core_cells.specs.declared.mail.MailAnswer.TheVariants as got
use Rattle.core_cells.specs.declared.mail.MailCall.TheVariants as mail
use Rattle.core_events.specs.Events.{Opening}
use Rattle.core_events.specs.Jobs.{CoreJob, JobOutcome}
use Rattle.core_events.specs.ShardView.{ShardView}
use Rattle.core_program.specs.CoreFits.{CoreEntry, OpensCells, AreOpeningCells, FitsOwnCalls}
use Rattle.cube_core.specs.declared.cell.CoreAnswer.{CoreAnswer}
use Rattle.cube_core.specs.declared.cell.CoreAnswer.TheVariants as answer
use Rattle.cube_core.specs.declared.cell.CoreCall.{CoreCall}
use Rattle.cube_core.specs.declared.cell.CoreCall.TheVariants as call
use Rattle.cube_core.specs.declared.cell.CoreCell.{CoreCell}
use Rattle.cube_core.specs.declared.jobs.Job.{Job}
use Rattle.cube_core.specs.declared.jobs.JobAnswer.TheVariants as reply
use Rattle.cube_core.specs.declared.jobs.Work.{Work as JobWork}
use Rattle.cube_core.specs.declared.jobs.Work.TheVariants as work
use Rattle.cube_core.specs.declared.shard.ShardAnswer.{ShardAnswer}
use Rattle.cube_core.specs.declared.shard.ShardCall.{ShardCall}

-- What a worker has in hand: no job, one that it took, or one that it did on its shard, with the answer.
pub data JobInHand : Type 0 where
  NoneInHand : JobInHand
  JobTaken : (client : ℕ) (job : Job) → JobInHand
  JobDone : (client : ℕ) (job : Job) (answer : ShardAnswer) → JobInHand

abbrev pub with_answer : ShardAnswer → JobInHand → JobInHand
with_answer a NoneInHand = NoneInHand
with_answer a (JobTaken client job) = JobDone client job a
with_answer a (JobDone client job first) = JobDone client job first

-- After one more call: taking gives it a job, a call on its shard does the job, and a reply ends it.
abbrev pub in_hand_after : CoreCall → CoreAnswer → JobInHand → JobInHand
in_hand_after (call.Mail mail.Take) (answer.Mail (got.Taken (SomeJob client job))) hand = JobTaken client job
in_hand_after (call.Mail (mail.Reply client said)) (answer.Mail got.Done) hand = NoneInHand
in_hand_after (call.Shard c) (answer.Shard a) hand = with_answer a hand
in_hand_after c a hand = hand

-- After its own calls, the oldest first.
abbrev pub in_hand : List CoreEntry → JobInHand
in_hand own = fold (λ hand e. in_hand_after e.call e.answer hand) NoneInHand own

-- A shard does it, and not the flusher.
abbrev pub IsShardWork : JobWork → Type 0
IsShardWork work.Flush = ⊥
IsShardWork (work.Shard c) = Unit {0}

module _ {S : Type 0} (fits : Opening → ℕ → ShardCall → Type 0) (stands : Opening → ℕ → ℕ → S → ShardView → Type 0)
    (says : CoreJob → ShardAnswer → JobOutcome → Type 0) (cells : List (CoreCell S)) (caller number cell : ℕ) where
  -- The caller is the worker of a shard of this number, and the cell is its mail, in whatever way a run opens with the
  -- cells.
  pub record IsWorkerOf : Type 0 where
    pub opening : AreOpeningCells fits stands says cells
    pub there : (o : Opening) (log : List CoreEntry) → OpensCells fits stands says o cells log → number < o.shards
    pub own : (o : Opening) (log : List CoreEntry) → OpensCells fits stands says o cells log
        → caller ≡ server_of o number
    pub mail : (o : Opening) (log : List CoreEntry) → OpensCells fits stands says o cells log
        → cell ≡ cell_of_mail o number

  -- The calls that such a worker may make after its own: it takes where it has no job in hand, it does on its shard what
  -- it took, and it replies what it did to whoever posted the job.
  pub record MayServe (own : List CoreEntry) : Type 0 where
    pub take : in_hand own ≡ NoneInHand → FitsOwnCalls fits stands says cells caller own cell (call.Mail mail.Take)
    pub serve : (client : ℕ) (job : Job) (c : ShardCall) → in_hand own ≡ JobTaken client job
        → job.work ≡ work.Shard c
        → FitsOwnCalls fits stands says cells caller own (cell_of_shard number) (call.Shard c)
    pub reply : (client : ℕ) (job : Job) (a : ShardAnswer) → in_hand own ≡ JobDone client job a
        → FitsOwnCalls fits stands says cells caller own cell (call.Mail (mail.Reply client (reply.Shard a)))
