-- A group of jobs for some of the shards in two parts: first its calls are posted, and later its answers are fetched.
-- Between the two the client may make other calls, as one does that reads the next rows meanwhile.
-- Source: AOSI (ICDE 2018), where a transaction waits for no other; groups in two parts are this project's own.
use Rattle.std.specs.Prelude.{◌≡◌, ◌≢◌, ℕ, List, [], ◌∷◌, ◌++◌, length, map, slice_get, Some}
use Rattle.std.specs.List.{AllByRecursion}
use Rattle.cube_core.specs.Links.{AreEventsOf}
use Rattle.cube_core.specs.BoardCells.{AnswerSays, IsEntryEvent, call_job}
use Rattle.core_program.specs.Knowing.{IsLaterRun, last_posted}
use Rattle.core_events.specs.Clients.{calls_of, state_from_calls}
use Rattle.core_events.specs.Events.{Opening, Fetch, NoChange, ClientCall, CoreEvent, By}
use Rattle.core_events.specs.Groups.{Flushes, JobGroup}
use Rattle.core_events.specs.Jobs.{CoreJob, JobOutcome}
use Rattle.core_events.specs.ShardView.{ShardView}
use Rattle.core_program.specs.CoreFits.{CoreEntry}
use Rattle.cube_core.specs.declared.cell.CoreCell.{CoreCell}
use Rattle.cube_core.specs.declared.jobs.JobAnswer.{JobAnswer}
use Rattle.cube_core.specs.declared.shard.ShardAnswer.{ShardAnswer}
use Rattle.cube_core.specs.declared.shard.ShardCall.{ShardCall}
use Rattle.job_groups.specs.AskedEach.{IsGroupCall, kind_of_calls, with_group}
use Rattle.job_groups.specs.AskedSome.{posts_among, posts_to, received_from}

-- The mails of numbers, the newest first.
abbrev pub waits_of : List ℕ → List ℕ
waits_of [] = []
waits_of (number ∷ numbers) = waits_of numbers ++ number ∷ []

-- The group of calls of which no answer was fetched yet.
abbrev pub group_out : List ℕ → List ShardCall → JobGroup
group_out numbers calls = record { kind = kind_of_calls calls; waits = waits_of numbers; answers = [] }

-- A group that has received these outcomes besides those that it had, and waits for no more.
abbrev pub group_with : List ℕ → List JobOutcome → JobGroup → JobGroup
group_with numbers outcomes g = record { kind = g.kind; waits = []; answers = received_from numbers outcomes g.answers }

-- A fetch, or a call that changes nothing.
abbrev pub IsFetchCall : ClientCall → Type 0
IsFetchCall (Fetch number outcome) = Unit {0}
IsFetchCall NoChange = Unit {0}
IsFetchCall call = ⊥

-- The client's group waits for the answers of these shards, and of no others. It asks for no FLUSH.
pub record AwaitsSome (client : ℕ) (numbers : List ℕ) (o : Opening) (past : List ClientCall) : Type 0 where
  pub waits : (state_from_calls o client past).group.waits ≡ waits_of numbers
  pub jobs : (state_from_calls o client past).group.kind ≢ Flushes

module _ {S : Type 0} (fits : Opening → ℕ → ShardCall → Type 0) (stands : Opening → ℕ → ℕ → S → ShardView → Type 0)
    (says : CoreJob → ShardAnswer → JobOutcome → Type 0) where
  -- In a run the client's calls go on by posts of just these calls, its group is theirs, and what it posted last to each
  -- of these shards is the job of its call.
  pub record HasPostedSome (numbers : List ℕ) (calls : List ShardCall) (o : Opening) (client : ℕ)
      (own : List CoreEntry) (es : List CoreEvent) : Type 0 where
    pub before : List CoreEvent
    pub events : AreEventsOf (IsEntryEvent fits stands says o) own before
    pub added : List ClientCall
    pub whole : es ≡ map (λ c. By client c) added ++ before
    pub past : calls_of client es ≡ added ++ calls_of client before
    pub only : AllByRecursion IsGroupCall added
    pub posts : posts_among added ≡ posts_to numbers calls
    pub group : state_from_calls o client (calls_of client es)
        ≡ with_group (group_out numbers calls) (state_from_calls o client (calls_of client before))
    pub last : (place number : ℕ) (c : ShardCall) → slice_get numbers place ≡ Some number
        → slice_get calls place ≡ Some c → last_posted number (calls_of client es) ≡ Some (call_job c)

  -- So it is in each run in which its own calls begin with these.
  abbrev pub LearnsOfPosts : List (CoreCell S) → ℕ → ℕ → List ℕ → List ShardCall → List CoreEntry → List CoreEntry
      → Type 0
  LearnsOfPosts cells caller client numbers calls own now =
      (o : Opening) (log : List CoreEntry) (run es : List CoreEvent)
      → IsLaterRun fits stands says cells o caller now log run → AreEventsOf (IsEntryEvent fits stands says o) now es
      → HasPostedSome numbers calls o client own es

  -- In a run the client's calls go on by fetches alone. Each answer stands for an outcome of the job that it had posted
  -- last to that shard, and its group has received these.
  pub record HasFetchedSome (numbers : List ℕ) (o : Opening) (client : ℕ) (answers : List JobAnswer)
      (own : List CoreEntry) (es : List CoreEvent) : Type 0 where
    pub before : List CoreEvent
    pub events : AreEventsOf (IsEntryEvent fits stands says o) own before
    pub added : List ClientCall
    pub whole : es ≡ map (λ c. By client c) added ++ before
    pub past : calls_of client es ≡ added ++ calls_of client before
    pub only : AllByRecursion IsFetchCall added
    pub outcomes : List JobOutcome
    pub each : length outcomes ≡ length numbers
    pub stand : (place number : ℕ) (job : CoreJob) (said : JobAnswer) (outcome : JobOutcome)
        → slice_get numbers place ≡ Some number → last_posted number (calls_of client before) ≡ Some job
        → slice_get answers place ≡ Some said → slice_get outcomes place ≡ Some outcome
        → AnswerSays says job said outcome
    pub group : state_from_calls o client (calls_of client es)
        ≡ with_group (group_with numbers outcomes (state_from_calls o client (calls_of client before)).group)
        (state_from_calls o client (calls_of client before))

  -- So it is in each run in which its own calls begin with these.
  abbrev pub LearnsOfFetches : List (CoreCell S) → ℕ → ℕ → List ℕ → List JobAnswer → List CoreEntry → List CoreEntry
      → Type 0
  LearnsOfFetches cells caller client numbers answers own now =
      (o : Opening) (log : List CoreEntry) (run es : List CoreEvent)
      → IsLaterRun fits stands says cells o caller now log run → AreEventsOf (IsEntryEvent fits stands says o) now es
      → HasFetchedSome numbers o client answers own es
