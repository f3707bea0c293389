-- What the flusher knows by its own calls as the worker of its own mail, and the calls that then fit. It is a client
-- besides.
-- Source: this project's own.
use Rattle.std.specs.Prelude.{◌≡◌, ℕ, List, [], ◌∷◌, Some}
use Rattle.cube_core.specs.Links.{AreEventsOf}
use Rattle.cube_core.specs.BoardCells.{AnswerSays, FlusherPart, IsEntryEvent, flusher_part, server_of}
use Rattle.core_program.specs.Knowing.{IsLaterRun}
use Rattle.core_events.specs.Cells.{Free}
use Rattle.core_events.specs.Clients.{state_from_calls}
use Rattle.core_events.specs.Events.{Opening, flusher, flush_mail, ClientCall, Reply, CoreEvent}
use Rattle.core_events.specs.Fitting.{FitsWork, progress_after_call}
use Rattle.core_events.specs.Jobs.{CoreJob, JobOutcome}
use Rattle.core_events.specs.ShardView.{ShardView}
use Rattle.core_events.specs.Histories.{job_served}
use Rattle.core_program.specs.CoreFits.{AreOpeningCells, CoreEntry, OpensCells}
use Rattle.cube_core.specs.declared.cell.CoreCell.{CoreCell}
use Rattle.cube_core.specs.declared.jobs.JobAnswer.{JobAnswer}
use Rattle.cube_core.specs.declared.shard.ShardAnswer.{ShardAnswer}
use Rattle.cube_core.specs.declared.shard.ShardCall.{ShardCall}

-- A claim on what the flusher's own calls tell in a run that opens so.
abbrev pub PartClaim : Type 1
PartClaim = Opening → FlusherPart → Type 0

-- It takes a job where it has none.
abbrev pub MayTakeJob : PartClaim
MayTakeJob o part = part.worker ≡ Free

-- It replies to the job that it has, by an outcome that its rounds came to.
pub record MayReplyTo (says : CoreJob → ShardAnswer → JobOutcome → Type 0) (client : ℕ) (said : JobAnswer)
    (o : Opening) (part : FlusherPart) : Type 0 where
  pub job : CoreJob
  pub outcome : JobOutcome
  pub serves : job_served part.worker ≡ Some job
  pub stands : AnswerSays says job said outcome
  pub fits : FitsWork part.progress (state_from_calls o (flusher o) part.calls).store_lost part.worker
      (Reply client outcome)

-- What its own calls tell after one more as a client, and after some, the newest first: they leave its job.
abbrev pub part_with_call : ClientCall → FlusherPart → FlusherPart
part_with_call c part = record part { calls = c ∷ part.calls; progress = progress_after_call c part.progress }

abbrev pub part_with_calls : List ClientCall → FlusherPart → FlusherPart
part_with_calls [] part = part
part_with_calls (c ∷ calls) part = part_with_call c (part_with_calls calls part)

module _ {S : Type 0} (fits : Opening → ℕ → ShardCall → Type 0) (stands : Opening → ℕ → ℕ → S → ShardView → Type 0)
    (says : CoreJob → ShardAnswer → JobOutcome → Type 0) (cells : List (CoreCell S)) where
  -- The caller is the flusher, in whatever way a run opens with the cells: as a client it has this number, and its mail
  -- has that of the shards.
  pub record IsFlusherOf (caller client shards : ℕ) : Type 0 where
    pub opening : AreOpeningCells fits stands says cells
    pub own : (o : Opening) (log : List CoreEntry) → OpensCells fits stands says o cells log
        → caller ≡ server_of o (flush_mail o)
    pub client_is : (o : Opening) (log : List CoreEntry) → OpensCells fits stands says o cells log → client ≡ flusher o
    pub mail_is : (o : Opening) (log : List CoreEntry) → OpensCells fits stands says o cells log
        → shards ≡ flush_mail o

  -- The flusher knows a claim by its own calls: it holds in each run in which they begin with these, whatever events
  -- these are.
  abbrev pub KnowsPart : ℕ → List CoreEntry → PartClaim → Type 0
  KnowsPart caller own P =
      (o : Opening) (log : List CoreEntry) (run es : List CoreEvent)
      → IsLaterRun fits stands says cells o caller own log run → AreEventsOf (IsEntryEvent fits stands says o) own es
      → P o (flusher_part o es)

  -- A history is that of such a run, which tells of the flusher what its own entries tell.
  pub record HasRunOfFlusher (o : Opening) (caller : ℕ) (own log : List CoreEntry) : Type 0 where
    pub run : List CoreEvent
    pub is_later : IsLaterRun fits stands says cells o caller own log run
    pub es : List CoreEvent
    pub events : AreEventsOf (IsEntryEvent fits stands says o) own es
    pub part : flusher_part o run ≡ flusher_part o es

  -- Its own calls are events of which this is the newest.
  pub record GoOnByEvent (o : Opening) (own : List CoreEntry) (es : List CoreEvent)
      (last : List CoreEvent → CoreEvent) : Type 0 where
    pub before : List CoreEvent
    pub events : AreEventsOf (IsEntryEvent fits stands says o) own before
    pub whole : es ≡ last before ∷ before

  -- The newest hands on an outcome of this job, for which the answer stands.
  pub record GoOnByAnswer (o : Opening) (own : List CoreEntry) (es : List CoreEvent) (said : JobAnswer)
      (asked : List CoreEvent → CoreJob → Type 0) (last : JobOutcome → CoreEvent) : Type 0 where
    pub before : List CoreEvent
    pub events : AreEventsOf (IsEntryEvent fits stands says o) own before
    pub job : CoreJob
    pub outcome : JobOutcome
    pub is_asked : asked before job
    pub stands_for : AnswerSays says job said outcome
    pub whole : es ≡ last outcome ∷ before
