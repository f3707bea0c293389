-- A group of jobs for some of the shards, as a batch of rows is: what a client has to know before it, and what it then
-- knows.
-- Source: Cubrick (VLDB 2016), where the rows of a batch go to the shards of their bricks; the rest is this project's
-- own.
use Rattle.std.specs.Prelude.{◌≡◌, ℕ, ◌<◌, true, List, [], ◌∷◌, ◌++◌, slice_get, Some}
use Rattle.cube_core.specs.Links.{AreEventsOf}
use Rattle.cube_core.specs.BoardCells.{IsEntryEvent, call_job}
use Rattle.core_program.specs.Knowing.{IsLaterRun}
use Rattle.core_events.specs.Clients.{state_from_calls}
use Rattle.core_events.specs.Events.{Opening, Post, ClientCall, CoreEvent}
use Rattle.core_events.specs.Groups.{JobGroup, Received, has_ended}
use Rattle.core_events.specs.Jobs.{CoreJob, JobOutcome}
use Rattle.core_events.specs.ShardView.{ShardView}
use Rattle.core_program.specs.CoreFits.{CoreEntry}
use Rattle.cube_core.specs.declared.cell.CoreCell.{CoreCell}
use Rattle.cube_core.specs.declared.jobs.JobAnswer.{JobAnswer}
use Rattle.cube_core.specs.declared.shard.ShardAnswer.{ShardAnswer}
use Rattle.cube_core.specs.declared.shard.ShardCall.{ShardCall}
use Rattle.job_groups.specs.AskedEach.{HasAskedShards, MayAskShard, kind_of_calls}

module _ (fits : Opening → ℕ → ShardCall → Type 0) (client : ℕ) where
  -- There is a shard of the number, and the client may ask it by the call.
  pub record MayAskNumbered (o : Opening) (past : List ClientCall) (number : ℕ) (c : ShardCall) : Type 0 where
    pub there : number < o.shards
    pub ask : MayAskShard fits client o (state_from_calls o client past) number c

  -- The client's last group has ended, and it may ask the shards of these numbers, each by its call.
  pub record MayAskSome (numbers : List ℕ) (calls : List ShardCall) (o : Opening) (past : List ClientCall)
      : Type 0 where
    pub ended : has_ended o.shards (state_from_calls o client past).group ≡ true
    pub each : (place number : ℕ) (c : ShardCall) → slice_get numbers place ≡ Some number
        → slice_get calls place ≡ Some c → MayAskNumbered o past number c

-- Outcomes as they were received of the shards of these numbers, one after the other, the newest first.
abbrev pub received_from : List ℕ → List JobOutcome → List Received → List Received
received_from numbers [] older = older
received_from [] (outcome ∷ outcomes) older = older
received_from (number ∷ numbers) (outcome ∷ outcomes) older =
    received_from numbers outcomes (record { mail = number; answer = outcome } ∷ older)

-- The group of calls with all its answers.
abbrev pub group_of_some : List ℕ → List ShardCall → List JobOutcome → JobGroup
group_of_some numbers calls outcomes =
    record { kind = kind_of_calls calls; waits = []; answers = received_from numbers outcomes [] }

-- The posts among calls.
abbrev pub posts_among : List ClientCall → List ClientCall
posts_among [] = []
posts_among (Post number job ∷ calls) = Post number job ∷ posts_among calls
posts_among (call ∷ calls) = posts_among calls

-- A post of each call's job to the shard of its number, the newest first.
abbrev pub posts_to : List ℕ → List ShardCall → List ClientCall
posts_to (number ∷ numbers) (c ∷ calls) = posts_to numbers calls ++ Post number (call_job c) ∷ []
posts_to numbers calls = []

module _ {S : Type 0} (fits : Opening → ℕ → ShardCall → Type 0) (stands : Opening → ℕ → ℕ → S → ShardView → Type 0)
    (says : CoreJob → ShardAnswer → JobOutcome → Type 0) where
  -- In a run the client's calls go on by those of a group alone. It has posted just these calls, and has an answer to
  -- each.
  pub record HasAskedSome (numbers : List ℕ) (calls : List ShardCall) (o : Opening) (client : ℕ)
      (answers : List JobAnswer) (own : List CoreEntry) (es : List CoreEvent) : Type 0 where
    pub asked : HasAskedShards fits stands says (group_of_some numbers calls) o client calls answers own es
    pub posts : posts_among asked.added ≡ posts_to numbers calls

  -- So it is in each run in which its own calls begin with these.
  abbrev pub LearnsOfSome : List (CoreCell S) → ℕ → ℕ → List ℕ → List ShardCall → List JobAnswer → List CoreEntry
      → List CoreEntry → Type 0
  LearnsOfSome cells caller client numbers calls answers own now =
      (o : Opening) (log : List CoreEntry) (run es : List CoreEvent)
      → IsLaterRun fits stands says cells o caller now log run → AreEventsOf (IsEntryEvent fits stands says o) now es
      → HasAskedSome numbers calls o client answers own es
