-- What the worker of a shard does: one turn after the other, until its mail is closed.
-- Source: this project's own.
use Rattle.std.specs.Prelude.{◌≡◌, ◌⊎◌, ℕ, List, [], ◌∷◌, ◌++◌, length, flat_map}
use Rattle.mail_cell.specs.declared.answer.Taken.{Taken}
use Rattle.mail_cell.specs.declared.answer.Taken.TheVariants.{Job as SomeJob, Empty, Closed}
use Rattle.turn_board.specs.History.{event}
use Rattle.cube_core.specs.BoardCells.{cell_of_shard}
use Rattle.core_cells.specs.declared.mail.MailAnswer.TheVariants as got
use Rattle.core_cells.specs.declared.mail.MailCall.TheVariants as mail
use Rattle.core_program.specs.CoreFits.{CoreEntry}
use Rattle.core_program.specs.Workers.{NoneInHand, in_hand, IsShardWork}
use Rattle.cube_core.specs.declared.cell.CoreAnswer.TheVariants as answer
use Rattle.cube_core.specs.declared.cell.CoreCall.TheVariants as call
use Rattle.cube_core.specs.declared.jobs.Job.{Job}
use Rattle.cube_core.specs.declared.jobs.JobAnswer.TheVariants as reply
use Rattle.cube_core.specs.declared.jobs.Work.TheVariants as work
use Rattle.cube_core.specs.declared.shard.ShardAnswer.{ShardAnswer}
use Rattle.cube_core.specs.declared.shard.ShardCall.{ShardCall}

-- In a turn the worker finds no job, or it takes one, does its call, and replies the answer to whoever posted it.
pub data Turn : Type 0 where
  FoundNone : Turn
  DidJob : (client : ℕ) (job : Job) (c : ShardCall) (a : ShardAnswer) (asks : job.work ≡ work.Shard c) → Turn

-- In each of these it does a job.
abbrev pub AreJobs : List Turn → Type 0
AreJobs [] = Unit {0}
AreJobs (FoundNone ∷ turns) = ⊥
AreJobs (DidJob client job c a asks ∷ turns) = AreJobs turns

-- The calls of a worker, by its own number, that of its shard, and the cell of its mail.

abbrev pub take_entry : ℕ → ℕ → Taken Job → CoreEntry
take_entry caller cell taken = event caller cell (call.Mail mail.Take) (answer.Mail (got.Taken taken))

abbrev pub call_entry : ℕ → ℕ → ShardCall → ShardAnswer → CoreEntry
call_entry caller number c a = event caller (cell_of_shard number) (call.Shard c) (answer.Shard a)

abbrev pub reply_entry : ℕ → ℕ → ℕ → ShardAnswer → CoreEntry
reply_entry caller cell client a =
    event caller cell (call.Mail (mail.Reply client (reply.Shard a))) (answer.Mail got.Done)

abbrev pub turn_entries : ℕ → ℕ → ℕ → Turn → List CoreEntry
turn_entries caller number cell FoundNone = take_entry caller cell Empty ∷ []
turn_entries caller number cell (DidJob client job c a asks) =
    take_entry caller cell (SomeJob client job) ∷ call_entry caller number c a ∷ reply_entry caller cell client a ∷ []

-- A job that is taken is one for a shard.
abbrev pub IsForShard : Taken Job → Type 0
IsForShard (SomeJob client job) = IsShardWork job.work
IsForShard taken = Unit {0}

module _ (caller number cell : ℕ) where
  -- The call of the job was done, and its answer replied.
  pub record HasDoneJob (client : ℕ) (job : Job) (own now : List CoreEntry) : Type 0 where
    pub asked : ShardCall
    pub said : ShardAnswer
    pub asks : job.work ≡ work.Shard asked
    pub whole : now ≡ (own ++ call_entry caller number asked said ∷ []) ++ reply_entry caller cell client said ∷ []

  -- The worker's further calls are those of whole turns, and it has no job in hand.
  pub record HasServed (own now : List CoreEntry) : Type 0 where
    pub turns : List Turn
    pub whole : now ≡ own ++ flat_map (turn_entries caller number cell) turns
    pub idle : in_hand now ≡ NoneInHand

  -- It served until it found the mail closed.
  pub record HasServedAll (own now : List CoreEntry) : Type 0 where
    pub before : List CoreEntry
    pub served : HasServed own before
    pub last : now ≡ before ++ take_entry caller cell Closed ∷ []

  -- It did one job after the other until it found none, or had done so many.
  pub record HasServedWaiting (most : ℕ) (own now : List CoreEntry) : Type 0 where
    pub served : HasServed own now
    pub jobs : List Turn
    pub are_jobs : AreJobs jobs
    pub ends : (served.turns ≡ jobs ++ FoundNone ∷ []) ⊎ ((served.turns ≡ jobs) × (length jobs ≡ most))
