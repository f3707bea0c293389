-- The calls of a client on the cells of the core, as entries of its own calls. It has one number as a caller of the
-- board and one as a client.
-- Source: this project's own.
use Rattle.std.specs.Prelude.{◌≡◌, ℕ, List, [], ◌∷◌, ◌++◌, replicate, Some}
use Rattle.mail_cell.specs.declared.answer.Fetched.{Fetched}
use Rattle.mail_cell.specs.declared.answer.Fetched.TheVariants.{Got, NotYet}
use Rattle.turn_board.specs.History.{event}
use Rattle.core_cells.specs.declared.desk.DeskAnswer.{DeskAnswer}
use Rattle.core_cells.specs.declared.desk.DeskCall.{DeskCall}
use Rattle.core_cells.specs.declared.mail.MailAnswer.TheVariants as got
use Rattle.core_cells.specs.declared.mail.MailCall.TheVariants as mail
use Rattle.core_cells.specs.declared.names.NamesAnswer.{NamesAnswer}
use Rattle.core_cells.specs.declared.names.NamesCall.{NamesCall}
use Rattle.cube_core.specs.Links.{AreEventsOf}
use Rattle.cube_core.specs.BoardCells.{AnswerSays, IsEntryEvent}
use Rattle.core_program.specs.Knowing.{last_posted}
use Rattle.core_events.specs.Clients.{calls_of}
use Rattle.core_events.specs.Events.{Opening, Fetch, NoChange, CoreEvent, By}
use Rattle.core_events.specs.Jobs.{CoreJob, JobOutcome}
use Rattle.core_events.specs.ShardView.{ShardView}
use Rattle.core_program.specs.CoreFits.{CoreEntry, OpensCells}
use Rattle.cube_core.specs.declared.cell.CoreAnswer.TheVariants as answer
use Rattle.cube_core.specs.declared.cell.CoreCall.TheVariants as call
use Rattle.cube_core.specs.declared.jobs.Job.{Job}
use Rattle.cube_core.specs.declared.cell.CoreCell.{CoreCell}
use Rattle.cube_core.specs.declared.jobs.JobAnswer.{JobAnswer}
use Rattle.cube_core.specs.declared.shard.ShardAnswer.{ShardAnswer}
use Rattle.cube_core.specs.declared.shard.ShardCall.{ShardCall}

abbrev pub desk_entry : ℕ → DeskCall → DeskAnswer → CoreEntry
desk_entry caller c a = event caller 0 (call.Desk c) (answer.Desk a)

abbrev pub names_entry : ℕ → NamesCall → NamesAnswer → CoreEntry
names_entry caller c a = event caller 1 (call.Names c) (answer.Names a)

abbrev pub post_entry : ℕ → ℕ → ℕ → Job → CoreEntry
post_entry caller client cell job = event caller cell (call.Mail (mail.Post client job)) (answer.Mail got.Done)

abbrev pub close_entry : ℕ → ℕ → CoreEntry
close_entry caller cell = event caller cell (call.Mail mail.Close) (answer.Mail got.Done)

-- A fetch, with what it gave: an answer, or none yet.
abbrev pub ask_entry : ℕ → ℕ → ℕ → Fetched JobAnswer → CoreEntry
ask_entry caller client cell fetched =
    event caller cell (call.Mail (mail.Fetch client)) (answer.Mail (got.Fetched fetched))

-- It asked for an answer some times before there was one.
pub record HasFetched (caller client cell : ℕ) (said : JobAnswer) (own now : List CoreEntry) : Type 0 where
  pub waits : ℕ
  pub whole : now
      ≡ (own ++ replicate waits (ask_entry caller client cell NotYet)) ++ ask_entry caller client cell (Got said) ∷ []

module _ {S : Type 0} (fits : Opening → ℕ → ShardCall → Type 0) (stands : Opening → ℕ → ℕ → S → ShardView → Type 0)
    (says : CoreJob → ShardAnswer → JobOutcome → Type 0) where
  -- In a run the client's calls go on by a fetch of an outcome of the job that it posted last, for which the answer
  -- stands, after some calls that found none.
  pub record GoOnToFetch (o : Opening) (client number : ℕ) (own : List CoreEntry) (es : List CoreEvent)
      (said : JobAnswer) : Type 0 where
    pub before : List CoreEvent
    pub events : AreEventsOf (IsEntryEvent fits stands says o) own before
    pub waits : ℕ
    pub job : CoreJob
    pub outcome : JobOutcome
    pub asked : last_posted number (calls_of client before) ≡ Some job
    pub stands_for : AnswerSays says job said outcome
    pub whole : es ≡ By client (Fetch number outcome) ∷ replicate waits (By client NoChange) ++ before
    pub calls : calls_of client es ≡ Fetch number outcome ∷ replicate waits NoChange ++ calls_of client before

  -- So it is in each run with its own calls.
  abbrev pub LearnsByFetch : List (CoreCell S) → ℕ → ℕ → JobAnswer → List CoreEntry → List CoreEntry → Type 0
  LearnsByFetch cells client number said own now =
      (o : Opening) (log : List CoreEntry) (es : List CoreEvent) → OpensCells fits stands says o cells log
      → AreEventsOf (IsEntryEvent fits stands says o) now es → GoOnToFetch o client number own es said
