-- What the flusher does at its mail between two rounds, and what it then knows: it has no FLUSH in hand, or that of a
-- client.
-- Source: this project's own.
use Rattle.std.specs.Prelude.{◌≡◌, ℕ, Bool, true, false, List, Some}
use Rattle.mail_cell.specs.declared.answer.Taken.{Taken}
use Rattle.mail_cell.specs.declared.answer.Taken.TheVariants.{Job as SomeJob, Empty, Closed}
use Rattle.turn_board.specs.History.{event}
use Rattle.cube_core.specs.Links.{AreEventsOf}
use Rattle.cube_core.specs.BoardCells.{FlusherPart, IsEntryEvent}
use Rattle.core_cells.specs.declared.mail.MailAnswer.TheVariants as got
use Rattle.core_cells.specs.declared.mail.MailCall.TheVariants as mail
use Rattle.core_program.specs.Knowing.{IsLaterRun}
use Rattle.core_events.specs.Cells.{Free, Took, WorkerState, worker_of}
use Rattle.core_events.specs.Clients.{state_from_calls}
use Rattle.core_events.specs.Events.{Opening, flusher, NoJob, Reply, Take, WorkerMove, CoreEvent, At}
use Rattle.core_events.specs.Jobs.{CoreJob, Flush, JobOutcome}
use Rattle.core_events.specs.ShardView.{ShardView}
use Rattle.core_program.specs.Flushing.{GoOnByAnswer, GoOnByEvent, PartClaim}
use Rattle.core_events.specs.Histories.{job_served}
use Rattle.core_program.specs.CoreFits.{CoreEntry}
use Rattle.cube_core.specs.declared.cell.CoreAnswer.TheVariants as answer
use Rattle.cube_core.specs.declared.cell.CoreCall.TheVariants as call
use Rattle.cube_core.specs.declared.cell.CoreCell.{CoreCell}
use Rattle.cube_core.specs.declared.jobs.FlushAnswer.{FlushAnswer}
use Rattle.cube_core.specs.declared.jobs.Job.{Job}
use Rattle.cube_core.specs.declared.jobs.JobAnswer.TheVariants as reply
use Rattle.cube_core.specs.declared.shard.ShardAnswer.{ShardAnswer}
use Rattle.cube_core.specs.declared.shard.ShardCall.{ShardCall}
use Rattle.flusher_rounds.specs.RoundStates.{IsBetweenRounds}

-- The calls on the mail, by the flusher's number and the cell of its mail.

abbrev pub take_entry : ℕ → ℕ → Taken Job → CoreEntry
take_entry caller cell taken = event caller cell (call.Mail mail.Take) (answer.Mail (got.Taken taken))

abbrev pub reply_entry : ℕ → ℕ → ℕ → FlushAnswer → CoreEntry
reply_entry caller cell client said =
    event caller cell (call.Mail (mail.Reply client (reply.Flush said))) (answer.Mail got.Done)

-- What was taken, as a move: each job is a FLUSH.
abbrev pub move_of_take : Taken Job → WorkerMove
move_of_take (SomeJob client job) = Take client Flush
move_of_take Empty = NoJob false
move_of_take Closed = NoJob true

-- Between two rounds, the store lost or not, it is at its mail as the state says.
pub record IsAtMail (worker : WorkerState) (lost : Bool) (o : Opening) (part : FlusherPart) : Type 0 where
  pub has : part.worker ≡ worker
  pub between : IsBetweenRounds o lost (state_from_calls o (flusher o) part.calls)

-- It has no FLUSH in hand, or this client's.

abbrev pub HasNoFlush : Bool → PartClaim
HasNoFlush lost = IsAtMail Free lost

abbrev pub HasFlush : ℕ → Bool → PartClaim
HasFlush client lost = IsAtMail (Took client Flush) lost

-- So it is after a take.
abbrev pub IsAtMailAfter : Taken Job → Bool → PartClaim
IsAtMailAfter (SomeJob client job) lost = HasFlush client lost
IsAtMailAfter taken lost = HasNoFlush lost

module _ {S : Type 0} (fits : Opening → ℕ → ShardCall → Type 0) (stands : Opening → ℕ → ℕ → S → ShardView → Type 0)
    (says : CoreJob → ShardAnswer → JobOutcome → Type 0) (cells : List (CoreCell S)) (caller shards : ℕ) where
  -- In each run in which its own calls begin with these, the newest takes what was taken.
  abbrev pub LearnsOfTake : Taken Job → List CoreEntry → List CoreEntry → Type 0
  LearnsOfTake taken own now =
      (o : Opening) (log : List CoreEntry) (run es : List CoreEvent)
      → IsLaterRun fits stands says cells o caller now log run → AreEventsOf (IsEntryEvent fits stands says o) now es
      → GoOnByEvent fits stands says cells o own es (λ before. At shards (move_of_take taken))

  -- The newest replies to the client, by an outcome of its job for which the answer stands.
  abbrev pub LearnsOfReply : ℕ → FlushAnswer → List CoreEntry → List CoreEntry → Type 0
  LearnsOfReply client said own now =
      (o : Opening) (log : List CoreEntry) (run es : List CoreEvent)
      → IsLaterRun fits stands says cells o caller now log run → AreEventsOf (IsEntryEvent fits stands says o) now es
      → GoOnByAnswer fits stands says cells o own es (reply.Flush said)
      (λ before job. job_served (worker_of shards before) ≡ Some job) (λ outcome. At shards (Reply client outcome))
