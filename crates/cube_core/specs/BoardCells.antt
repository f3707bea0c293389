-- The cells of a board as the core's: their numbers, whose calls they take, which event an entry is, and when a cell is
-- what events have made of it. What shards ask, answer and become is a parameter.
-- Source: this project's own.
use Rattle.std.specs.Prelude.{◌≡◌, ℕ, ◌+◌, ◌%◌, ◌<◌, ◌≤◌, ◌==◌, true, List, if◌then◌else◌, ◌⊎◌, nat_le}
use Rattle.std.specs.List.{AllByRecursion}
use Rattle.mail_cell.specs.declared.answer.Taken.{Taken}
use Rattle.mail_cell.specs.declared.answer.Taken.TheVariants.{Job as SomeJob}
use Rattle.mail_cell.specs.declared.place.Post.{Post}
use Rattle.cube_values.specs.declared.snapshot.Snapshot.{Snapshot}
use Rattle.cube_values.specs.Sees.{sees}
use Rattle.cube_core.specs.declared.cell.CoreAnswer.{CoreAnswer}
use Rattle.cube_core.specs.declared.cell.CoreAnswer.TheVariants as answer
use Rattle.cube_core.specs.declared.cell.CoreCall.{CoreCall}
use Rattle.cube_core.specs.declared.cell.CoreCall.TheVariants as call
use Rattle.cube_core.specs.declared.cell.CoreCell.{CoreCell}
use Rattle.cube_core.specs.declared.cell.CoreCell.TheVariants as cell
use Rattle.cube_core.specs.declared.jobs.FlushAnswer.TheVariants as flush
use Rattle.cube_core.specs.declared.jobs.Job.{Job}
use Rattle.cube_core.specs.declared.jobs.JobAnswer.{JobAnswer}
use Rattle.cube_core.specs.declared.jobs.JobAnswer.TheVariants as reply
use Rattle.cube_core.specs.declared.jobs.Work.{Work as JobWork}
use Rattle.cube_core.specs.declared.jobs.Work.TheVariants as work
use Rattle.cube_core.specs.declared.shard.ShardAnswer.{ShardAnswer}
use Rattle.cube_core.specs.declared.shard.ShardCall.{ShardCall}
use Rattle.cube_core.specs.declared.shard.ShardCall.TheVariants as shard
use Rattle.core_cells.specs.declared.desk.DeskCall.{DeskCall}
use Rattle.core_cells.specs.declared.desk.DeskCall.TheVariants as desk
use Rattle.core_cells.specs.declared.mail.MailAnswer.{MailAnswer}
use Rattle.core_cells.specs.declared.mail.MailAnswer.TheVariants as got
use Rattle.core_cells.specs.declared.mail.MailCall.{MailCall}
use Rattle.core_cells.specs.declared.mail.MailCall.TheVariants as mail
use Rattle.turn_board.specs.declared.history.Event.{Event}
use Rattle.core_events.specs.Cells.{counters_of_run, desk_of, shard_view_of, brick_after_move, WorkerState, worker_of}
use Rattle.core_events.specs.Clients.{client_state, calls_of, reader_up_to}
use Rattle.core_events.specs.Events.{Opening, flusher, flush_mail, Work, CoreEvent, By, At, ClientCall}
use Rattle.core_events.specs.Fitting.{FitsMove, RoundProgress, round_progress}
use Rattle.core_events.specs.Jobs.{CoreJob, Append, DropBox, Scan, Delta, Rollback, Purge, CopyRound, Flush, JobOutcome, Done, StoreLost, OutOfMemory}
use Rattle.core_events.specs.Runs.{ShardSays}
use Rattle.core_events.specs.ShardView.{ShardView, HasNoZeroRows}
use Rattle.cube_core.specs.DeskEvents.{desk_event, FitsDeskCall}
use Rattle.cube_core.specs.MailEvents.{IsMailEvent, FitsMailCall, IsMailCellOf}
use Rattle.cube_core.specs.NamesEvents.{names_event, FitsNamesCall, AreNamesOf}

-- Callers: main is 0, the sessions follow, then the workers of the shards, and then the flusher, which is a client and
-- the worker of its own mail.
abbrev pub client_of : Opening → ℕ → ℕ
client_of o caller = if nat_le caller o.sessions then caller else flusher o

-- The caller that is the worker of a mail.
abbrev pub server_of : Opening → ℕ → ℕ
server_of o number = o.sessions + 1 + number

-- The caller acts as a client: it is main, a session or the flusher.
abbrev pub IsClientCaller : Opening → ℕ → Type 0
IsClientCaller o caller = (caller ≤ o.sessions) ⊎ (caller ≡ server_of o (flush_mail o))

-- Rounds are opened and closed by the flusher.
abbrev pub IsRoundsOwn : Opening → ℕ → DeskCall → Type 0
IsRoundsOwn o caller desk.RoundOpen = caller ≡ server_of o (flush_mail o)
IsRoundsOwn o caller (desk.RoundClose epoch end) = caller ≡ server_of o (flush_mail o)
IsRoundsOwn o caller c = Unit {0}

-- What the flusher's own entries tell: its calls as a client, what it does at its mail, and how far its rounds have come.
pub record FlusherPart : Type 0 where
  pub calls : List ClientCall
  pub worker : WorkerState
  pub progress : RoundProgress

abbrev pub flusher_part : Opening → List CoreEvent → FlusherPart
flusher_part o es = record {
  calls = calls_of (flusher o) es;
  worker = worker_of (flush_mail o) es;
  progress = round_progress o es;
}

-- The job that a call on a shard does, and that a job of a mail asks for.
abbrev pub call_job : ShardCall → CoreJob
call_job (shard.Append cube shape epoch rows) = Append cube epoch rows.rows
call_job (shard.DropBox cube shape epoch span) = DropBox cube epoch span
call_job (shard.Scan shape query snapshot) = Scan query snapshot
call_job (shard.Delta shape query from to) = Delta query from to
call_job (shard.Rollback epoch) = Rollback epoch
call_job (shard.Purge epoch) = Purge epoch
call_job (shard.CopyRound from to) = CopyRound from to

abbrev pub work_job : JobWork → CoreJob
work_job work.Flush = Flush
work_job (work.Shard c) = call_job c

abbrev pub job_asked : Job → CoreJob
job_asked job = work_job job.work

module _ (fits : Opening → ℕ → ShardCall → Type 0) (o : Opening) (number : ℕ) where
  -- What a job asks for suits the server of a mail: a round that of the flusher's, and a call that of a shard's which it
  -- fits.
  abbrev pub WorkSuits : JobWork → Type 0
  WorkSuits work.Flush = number ≡ flush_mail o
  WorkSuits (work.Shard c) = (number < o.shards) × fits o number c

  -- So does a job that is posted.
  abbrev pub PostSuits : MailCall Job JobAnswer → Type 0
  PostSuits (mail.Post client job) = WorkSuits job.work
  PostSuits c = Unit {0}

  -- So do all that wait.
  abbrev pub JobsSuit : List (Post Job) → Type 0
  JobsSuit posted = AllByRecursion (λ p. WorkSuits p.job.work) posted

  -- So does one that is taken.
  abbrev pub TakenSuits : Taken Job → Type 0
  TakenSuits (SomeJob client job) = WorkSuits job.work
  TakenSuits answer = Unit {0}

  abbrev pub TakeSuits : MailAnswer Job JobAnswer → Type 0
  TakeSuits (got.Taken answer) = TakenSuits answer
  TakeSuits a = Unit {0}

module _ (says : CoreJob → ShardAnswer → JobOutcome → Type 0) where
  -- The outcomes for which an answer to a job stands.
  abbrev pub AnswerSays : CoreJob → JobAnswer → JobOutcome → Type 0
  AnswerSays job (reply.Flush flush.Done) outcome = outcome ≡ Done
  AnswerSays job (reply.Flush flush.StoreFailed) outcome = outcome ≡ StoreLost
  AnswerSays job (reply.Flush flush.NoMemory) outcome = outcome ≡ OutOfMemory
  AnswerSays job (reply.Shard a) outcome = says job a outcome

-- What a shard's bricks are after it did a job.
abbrev pub view_after_work : Opening → ℕ → CoreJob → JobOutcome → ShardView → ShardView
view_after_work o number job outcome view cube brick =
    brick_after_move o (number == brick % o.shards) cube brick (Work job outcome) (view cube brick)

module _ {S : Type 0} (stands : Opening → ℕ → ℕ → S → ShardView → Type 0)
    (says : CoreJob → ShardAnswer → JobOutcome → Type 0) where
  -- A shard's answer stands for an outcome that its bricks have, and it is then what the job makes of them.
  pub record IsShardStep (o : Opening) (number low : ℕ) (c : ShardCall) (a : ShardAnswer) (view : ShardView) (new : S)
      : Type 0 where
    pub outcome : JobOutcome
    pub said : says (call_job c) a outcome
    pub answers : ShardSays o number view (call_job c) outcome
    pub after : stands o number low new (view_after_work o number (call_job c) outcome view)

-- A snapshot sees every epoch up to one.
abbrev pub SeesAllUpTo : ℕ → Snapshot → Type 0
SeesAllUpTo low s = (epoch : ℕ) → epoch ≤ low → sees s epoch ≡ true

-- A job fits LSE: it writes above it, looks by snapshots that see all up to it, purges up to it, and copies from it on,
-- or all.
abbrev pub FitsLse : ℕ → CoreJob → Type 0
FitsLse low (Append cube epoch rows) = low < epoch
FitsLse low (DropBox cube epoch box) = low < epoch
FitsLse low (Scan query snapshot) = SeesAllUpTo low snapshot
FitsLse low (Delta query from to) = SeesAllUpTo low (reader_up_to from) × SeesAllUpTo low (reader_up_to to)
FitsLse low (Rollback epoch) = low < epoch
FitsLse low (Purge epoch) = epoch ≤ low
FitsLse low (CopyRound from to) = ((from ≡ low) ⊎ (from ≡ 0)) × (low < to)
FitsLse low Flush = Unit {0}

-- What a run tells of a call on a shard: it fits LSE, and no brick has rows of epoch 0.
pub record IsCallInRun (low : ℕ) (c : ShardCall) (view : ShardView) : Type 0 where
  pub safe : FitsLse low (call_job c)
  pub later : (cube brick : ℕ) → HasNoZeroRows (view cube brick)

-- Shards are linked to the core: one that is what a view shows can take a call that fits, its step is one of that view,
-- it stands for its own bricks alone, and it still does when LSE rises.
pub record IsShardLinked {S : Type 0} (can : S → ShardCall → Type 0) (step : S → ShardCall → ShardAnswer → S → Type 0)
    (fits : Opening → ℕ → ShardCall → Type 0) (stands : Opening → ℕ → ℕ → S → ShardView → Type 0)
    (says : CoreJob → ShardAnswer → JobOutcome → Type 0) : Type 0 where
  pub takes : (o : Opening) (number low : ℕ) (s : S) (view : ShardView) (c : ShardCall) → stands o number low s view
      → fits o number c → can s c
  pub steps : (o : Opening) (number low : ℕ) (s new : S) (view : ShardView) (c : ShardCall) (a : ShardAnswer)
      → stands o number low s view → fits o number c → IsCallInRun low c view → step s c a new
      → IsShardStep stands says o number low c a view new
  pub alike : (o : Opening) (number low later : ℕ) (s : S) (view other : ShardView) → low ≤ later
      → ((cube brick : ℕ) → brick % o.shards ≡ number → other cube brick ≡ view cube brick)
      → stands o number low s view → stands o number later s other

-- Whoever makes a call on a mail makes it as itself.
abbrev pub IsByItself : Opening → ℕ → ℕ → MailCall Job JobAnswer → Type 0
IsByItself o caller number (mail.Post client job) = IsClientCaller o caller × (client ≡ client_of o caller)
IsByItself o caller number mail.Take = caller ≡ server_of o number
IsByItself o caller number (mail.Reply client said) = caller ≡ server_of o number
IsByItself o caller number (mail.Fetch client) = IsClientCaller o caller × (client ≡ client_of o caller)
IsByItself o caller number mail.Close = caller ≡ 0

-- The desk is cell 0, the names are cell 1, the shards follow, and then their mails and that of the flusher.
abbrev pub cell_of_shard : ℕ → ℕ
cell_of_shard number = 2 + number

abbrev pub cell_of_mail : Opening → ℕ → ℕ
cell_of_mail o number = 2 + o.shards + number

module _ {S : Type 0} (fits : Opening → ℕ → ShardCall → Type 0) (stands : Opening → ℕ → ℕ → S → ShardView → Type 0)
    (says : CoreJob → ShardAnswer → JobOutcome → Type 0) where
  -- A worker does the job that it took, on its shard.
  pub record MayWork (o : Opening) (es : List CoreEvent) (caller k : ℕ) (c : ShardCall) : Type 0 where
    pub number : ℕ
    pub cell : k ≡ cell_of_shard number
    pub there : number < o.shards
    pub own : caller ≡ server_of o number
    pub takes : fits o number c
    pub move : (outcome : JobOutcome) → FitsMove o es number (Work (call_job c) outcome)

  pub record MayCallMail (o : Opening) (es : List CoreEvent) (caller k : ℕ) (c : MailCall Job JobAnswer) : Type 0 where
    pub number : ℕ
    pub cell : k ≡ cell_of_mail o number
    pub there : number ≤ o.shards
    pub own : IsByItself o caller number c
    pub suits : PostSuits fits o number c
    pub fits_mail : FitsMailCall job_asked (AnswerSays says) o es number c

  -- A call by a caller on a cell fits.
  abbrev pub FitsBoardEntry : Opening → List CoreEvent → ℕ → ℕ → CoreCall → Type 0
  FitsBoardEntry o es caller k (call.Desk c) =
      (k ≡ 0) × IsClientCaller o caller
      × FitsDeskCall o (client_of o caller) c (client_state o (client_of o caller) es)
  FitsBoardEntry o es caller k (call.Names c) =
      (k ≡ 1) × IsClientCaller o caller
      × FitsNamesCall o (client_of o caller) c (client_state o (client_of o caller) es)
  FitsBoardEntry o es caller k (call.Shard c) = MayWork o es caller k c
  FitsBoardEntry o es caller k (call.Mail c) = MayCallMail o es caller k c

  pub record IsWorkEvent (o : Opening) (caller k : ℕ) (c : ShardCall) (a : ShardAnswer) (event : CoreEvent)
      : Type 0 where
    pub number : ℕ
    pub cell : k ≡ cell_of_shard number
    pub own : caller ≡ server_of o number
    pub outcome : JobOutcome
    pub said : says (call_job c) a outcome
    pub is : event ≡ At number (Work (call_job c) outcome)

  -- The event of an entry.
  abbrev pub IsEventOf : Opening → List CoreEvent → ℕ → ℕ → CoreCall → CoreAnswer → CoreEvent → Type 0
  IsEventOf o es caller k (call.Desk c) (answer.Desk a) event =
      IsClientCaller o caller × IsRoundsOwn o caller c
      × (event ≡ By (client_of o caller) (desk_event (client_of o caller) (client_state o (client_of o caller) es) c a))
  IsEventOf o es caller k (call.Names c) (answer.Names a) event =
      IsClientCaller o caller × (event ≡ By (client_of o caller) (names_event c a))
  IsEventOf o es caller k (call.Shard c) (answer.Shard a) event = IsWorkEvent o caller k c a event
  IsEventOf o es caller k (call.Mail c) (answer.Mail a) event =
      (number : ℕ) × (k ≡ cell_of_mail o number) × IsByItself o caller number c
      × IsMailEvent job_asked (AnswerSays says) es number c a event × TakeSuits fits o number a
  IsEventOf o es caller k c a event = ⊥

  abbrev pub IsEntryEvent : Opening → List CoreEvent → Event CoreCall CoreAnswer → CoreEvent → Type 0
  IsEntryEvent o es e event = IsEventOf o es e.caller e.cell e.call e.answer event

  -- A cell, by its number and its value, is what events have made of it.
  abbrev pub StandsInCell : Opening → ℕ → CoreCell S → List CoreEvent → Type 0
  StandsInCell o k (cell.Desk desk alloc) es = (k ≡ 0) × (desk ≡ desk_of o es)
  StandsInCell o k (cell.Names names) es = (k ≡ 1) × AreNamesOf o es names
  StandsInCell o k (cell.Shard s) es =
      (number : ℕ) × (k ≡ cell_of_shard number) × (number < o.shards)
      × stands o number (counters_of_run o es).lse s (shard_view_of o es)
  StandsInCell o k (cell.Mail m) es =
      (number : ℕ) × (k ≡ cell_of_mail o number) × IsMailCellOf job_asked (AnswerSays says) o number es m
      × JobsSuit fits o number m.posted
