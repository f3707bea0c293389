-- What a client of the core knows by its own calls, and the calls that then fit. Main, the sessions and the flusher are
-- clients.
-- Source: this project's own.
use Rattle.std.specs.Prelude.{◌≡◌, ℕ, ◌<◌, ◌≤◌, ◌==◌, true, List, [], ◌∷◌, ◌++◌, Option, Some, None, if◌then◌else◌}
use mathlib.Core.List.{IsPrefix}
use Rattle.turn_board.specs.History.{of_caller}
use Rattle.cube_core.specs.Links.{AreEventsOf}
use Rattle.cube_core.specs.BoardCells.{AnswerSays, IsClientCaller, IsEntryEvent, PostSuits, cell_of_mail, client_of, job_asked}
use Rattle.core_cells.specs.declared.desk.DeskCall.{DeskCall}
use Rattle.core_cells.specs.declared.mail.MailCall.TheVariants as mail
use Rattle.core_cells.specs.declared.names.NamesCall.{NamesCall}
use Rattle.core_events.specs.Clients.{calls_of, state_from_calls}
use Rattle.core_events.specs.Events.{Opening, IsSession, Post, Fetch, ClientCall, CoreEvent, By}
use Rattle.core_events.specs.Fitting.{FitsCall}
use Rattle.core_events.specs.Groups.{has_number}
use Rattle.core_events.specs.Jobs.{CoreJob, JobOutcome}
use Rattle.core_events.specs.Runs.{IsCoreRun}
use Rattle.core_events.specs.ShardView.{ShardView}
use Rattle.cube_core.specs.DeskEvents.{FitsDeskCall}
use Rattle.cube_core.specs.MailEvents.{clients_of}
use Rattle.cube_core.specs.NamesEvents.{FitsNamesCall}
use Rattle.core_program.specs.CoreFits.{AreOpeningCells, CoreEntry, OpensCells}
use Rattle.cube_core.specs.declared.cell.CoreCell.{CoreCell}
use Rattle.cube_core.specs.declared.jobs.Job.{Job}
use Rattle.cube_core.specs.declared.jobs.JobAnswer.{JobAnswer}
use Rattle.cube_core.specs.declared.shard.ShardAnswer.{ShardAnswer}
use Rattle.cube_core.specs.declared.shard.ShardCall.{ShardCall}

-- A claim on the calls of a client in a run that opens so, the newest first.
abbrev pub Claim : Type 1
Claim = Opening → List ClientCall → Type 0

-- The job that a client posted last to a mail.
abbrev pub last_posted : ℕ → List ClientCall → Option CoreJob
last_posted number [] = None
last_posted number (Post other job ∷ calls) = if other == number then Some job else last_posted number calls
last_posted number (call ∷ calls) = last_posted number calls

-- Calls that a client may make, as claims on its calls so far.

abbrev pub MayCallDesk : ℕ → DeskCall → Claim
MayCallDesk client c o calls = FitsDeskCall o client c (state_from_calls o client calls)

abbrev pub MayCallNames : ℕ → NamesCall → Claim
MayCallNames client c o calls = FitsNamesCall o client c (state_from_calls o client calls)

module _ (fits : Opening → ℕ → ShardCall → Type 0) where
  -- The job suits the server of the mail, and the client may post it.
  pub record MayPostJob (client number : ℕ) (job : Job) (o : Opening) (calls : List ClientCall) : Type 0 where
    pub suits : PostSuits fits o number (mail.Post client job)
    pub may : FitsCall o client (Post number (job_asked job)) (state_from_calls o client calls)

-- The client waits for an answer of the mail.
abbrev pub MayFetchFrom : ℕ → ℕ → Claim
MayFetchFrom client number o calls = has_number (state_from_calls o client calls).group.waits number ≡ true

module _ {S : Type 0} (fits : Opening → ℕ → ShardCall → Type 0) (stands : Opening → ℕ → ℕ → S → ShardView → Type 0)
    (says : CoreJob → ShardAnswer → JobOutcome → Type 0) (cells : List (CoreCell S)) where
  -- Whoever makes calls on the board by the number of the caller is the client, in whatever way a run opens with the
  -- cells.
  pub record IsClientOf (caller client : ℕ) : Type 0 where
    pub opening : AreOpeningCells fits stands says cells
    pub acts : (o : Opening) (log : List CoreEntry) → OpensCells fits stands says o cells log → IsClientCaller o caller
    pub client_is : (o : Opening) (log : List CoreEntry) → OpensCells fits stands says o cells log
        → client ≡ client_of o caller

  -- The client is a session, in whatever way a run opens with the cells.
  abbrev pub IsSessionOf : ℕ → Type 0
  IsSessionOf client = (o : Opening) (log : List CoreEntry) → OpensCells fits stands says o cells log
      → IsSession o client

  -- So the cell is the mail of a number.
  pub record IsMailAt (number cell : ℕ) : Type 0 where
    pub there : (o : Opening) (log : List CoreEntry) → OpensCells fits stands says o cells log → number ≤ o.shards
    pub cell_is : (o : Opening) (log : List CoreEntry) → OpensCells fits stands says o cells log
        → cell ≡ cell_of_mail o number

  -- So the client is one of the clients of the mail of a number. The flusher is none of its own mail's.
  abbrev pub ServesClient : ℕ → ℕ → Type 0
  ServesClient client number = (o : Opening) (log : List CoreEntry) → OpensCells fits stands says o cells log
      → client < clients_of o number

  -- A run with a history in which the caller's own calls begin with these: at the moment after them, or later.
  pub record IsLaterRun (o : Opening) (caller : ℕ) (own log : List CoreEntry) (run : List CoreEvent) : Type 0 where
    pub opens : OpensCells fits stands says o cells log
    pub begins : IsPrefix own (of_caller caller log)
    pub events : AreEventsOf (IsEntryEvent fits stands says o) log run
    pub is_run : IsCoreRun o run

  -- A client knows a claim by its own calls: it holds in each such run, whatever events its own calls are.
  abbrev pub Knows : ℕ → ℕ → List CoreEntry → Claim → Type 0
  Knows caller client own P =
      (o : Opening) (log : List CoreEntry) (run es : List CoreEvent) → IsLaterRun o caller own log run
      → AreEventsOf (IsEntryEvent fits stands says o) own es → P o (calls_of client es)

  -- A history is that of such a run, in which the client's calls are those that its own entries are.
  pub record HasRunOfClient (o : Opening) (caller client : ℕ) (own log : List CoreEntry) : Type 0 where
    pub run : List CoreEvent
    pub is_later : IsLaterRun o caller own log run
    pub es : List CoreEvent
    pub events : AreEventsOf (IsEntryEvent fits stands says o) own es
    pub calls : calls_of client run ≡ calls_of client es

  -- Newer events come after those of the own calls.
  pub record GoOnFrom (o : Opening) (own : List CoreEntry) (es : List CoreEvent) : Type 0 where
    pub before : List CoreEvent
    pub events : AreEventsOf (IsEntryEvent fits stands says o) own before
    pub newer : List CoreEvent
    pub whole : es ≡ newer ++ before

  -- The own calls are events of which the newest is one call more.
  pub record GoOnBy (o : Opening) (client : ℕ) (own : List CoreEntry) (es : List CoreEvent)
      (last : List ClientCall → ClientCall) : Type 0 where
    pub before : List CoreEvent
    pub events : AreEventsOf (IsEntryEvent fits stands says o) own before
    pub whole : es ≡ By client (last (calls_of client before)) ∷ before
    pub calls : calls_of client es ≡ last (calls_of client before) ∷ calls_of client before

  -- The newest fetches an outcome of the job that was posted last, for which the answer stands.
  pub record GoOnByFetch (o : Opening) (client number : ℕ) (own : List CoreEntry) (es : List CoreEvent)
      (said : JobAnswer) : Type 0 where
    pub before : List CoreEvent
    pub events : AreEventsOf (IsEntryEvent fits stands says o) own before
    pub job : CoreJob
    pub outcome : JobOutcome
    pub asked : last_posted number (calls_of client before) ≡ Some job
    pub stands_for : AnswerSays says job said outcome
    pub whole : es ≡ By client (Fetch number outcome) ∷ before
    pub calls : calls_of client es ≡ Fetch number outcome ∷ calls_of client before
