-- A group of jobs, one for each shard: what a client has to know before it, and what it then knows.
-- Source: Cubrick (VLDB 2016), one request that goes to all shards; the rest is this project's own.
use Rattle.std.specs.Prelude.{◌≡◌, ℕ, ◌+◌, ◌<◌, true, List, [], ◌∷◌, ◌++◌, length, map, slice_get, Some}
use Rattle.std.specs.List.{AllByRecursion}
use Rattle.cube_core.specs.Links.{AreEventsOf}
use Rattle.cube_core.specs.BoardCells.{AnswerSays, IsEntryEvent, call_job}
use Rattle.core_program.specs.Knowing.{IsMailAt, ServesClient}
use Rattle.core_events.specs.Clients.{ClientState, calls_of, state_from_calls}
use Rattle.core_events.specs.Events.{Opening, Post, Fetch, NoChange, ClientCall, CoreEvent, By}
use Rattle.core_events.specs.Fitting.{Bears}
use Rattle.core_events.specs.Groups.{GroupKind, NoGroup, JobGroup, Received, has_ended, kind_of, may_begin}
use Rattle.core_events.specs.Jobs.{CoreJob, JobOutcome}
use Rattle.core_events.specs.ShardView.{ShardView}
use Rattle.core_program.specs.CoreFits.{CoreEntry}
use Rattle.cube_core.specs.declared.cell.CoreCell.{CoreCell}
use Rattle.cube_core.specs.declared.jobs.JobAnswer.{JobAnswer}
use Rattle.cube_core.specs.declared.shard.ShardAnswer.{ShardAnswer}
use Rattle.cube_core.specs.declared.shard.ShardCall.{ShardCall}

-- The kind of the group that calls make, each on its shard, and that they are of one kind.
abbrev pub kind_of_calls : List ShardCall → GroupKind
kind_of_calls [] = NoGroup
kind_of_calls (c ∷ calls) = kind_of (call_job c)

abbrev pub AreOfOneKind : List ShardCall → Type 0
AreOfOneKind calls = (number : ℕ) (c : ShardCall) → slice_get calls number ≡ Some c
    → kind_of (call_job c) ≡ kind_of_calls calls

-- A client that is in another group.
abbrev pub with_group : JobGroup → ClientState → ClientState
with_group g k = record k { group = g }

module _ (fits : Opening → ℕ → ShardCall → Type 0) (client : ℕ) where
  -- The call fits the shard of the number, its job bears what the client holds, in whatever group that is, and may begin
  -- one.
  pub record MayAskShard (o : Opening) (k : ClientState) (number : ℕ) (c : ShardCall) : Type 0 where
    pub suits : fits o number c
    pub bears : (g : JobGroup) → Bears o client number (call_job c) (with_group g k)
    pub begins : may_begin o.shards (call_job c) k.group ≡ true

  -- The client's last group has ended, and it may ask each shard by one of the calls.
  pub record MayAskEach (calls : List ShardCall) (o : Opening) (past : List ClientCall) : Type 0 where
    pub shards : length calls ≡ o.shards
    pub ended : has_ended o.shards (state_from_calls o client past).group ≡ true
    pub each : (number : ℕ) (c : ShardCall) → slice_get calls number ≡ Some c
        → MayAskShard o (state_from_calls o client past) number c

-- A post, a fetch, or a call that changes nothing.
abbrev pub IsGroupCall : ClientCall → Type 0
IsGroupCall (Post number job) = Unit {0}
IsGroupCall (Fetch number outcome) = Unit {0}
IsGroupCall NoChange = Unit {0}
IsGroupCall call = ⊥

-- Outcomes as they were received of shards one after the other, the newest first.
abbrev pub received : ℕ → List JobOutcome → List Received → List Received
received number [] older = older
received number (outcome ∷ outcomes) older =
    received (number + 1) outcomes (record { mail = number; answer = outcome } ∷ older)

-- The group of calls with all its answers.
abbrev pub whole_group : List ShardCall → List JobOutcome → JobGroup
whole_group calls outcomes = record { kind = kind_of_calls calls; waits = []; answers = received 0 outcomes [] }

-- There are more calls.
pub record HasMore (own now : List CoreEntry) : Type 0 where
  pub more : List CoreEntry
  pub whole : now ≡ own ++ more

module _ {S : Type 0} (fits : Opening → ℕ → ShardCall → Type 0) (stands : Opening → ℕ → ℕ → S → ShardView → Type 0)
    (says : CoreJob → ShardAnswer → JobOutcome → Type 0) where
  -- The cells from one on are the mails of the shards, and the client is one of their clients.
  pub record AreShardMails (cells : List (CoreCell S)) (client shards first : ℕ) : Type 0 where
    pub each : (number : ℕ) → number < shards → IsMailAt fits stands says cells number (first + number)
    pub serve : (number : ℕ) → number < shards → ServesClient fits stands says cells client number

  -- Each answer stands for an outcome of the call of its shard.
  abbrev pub StandForEach : List ShardCall → List JobAnswer → List JobOutcome → Type 0
  StandForEach calls answers outcomes = (number : ℕ) (c : ShardCall) (said : JobAnswer) (outcome : JobOutcome)
      → slice_get calls number ≡ Some c → slice_get answers number ≡ Some said
      → slice_get outcomes number ≡ Some outcome → AnswerSays says (call_job c) said outcome

  -- In a run the client's calls go on by those of a group alone, and it then has an answer to each call.
  pub record HasAskedShards (group_of : List JobOutcome → JobGroup) (o : Opening) (client : ℕ) (calls : List ShardCall)
      (answers : List JobAnswer) (own : List CoreEntry) (es : List CoreEvent) : Type 0 where
    pub before : List CoreEvent
    pub events : AreEventsOf (IsEntryEvent fits stands says o) own before
    pub added : List ClientCall
    pub whole : es ≡ map (λ c. By client c) added ++ before
    pub past : calls_of client es ≡ added ++ calls_of client before
    pub only : AllByRecursion IsGroupCall added
    pub outcomes : List JobOutcome
    pub each : length outcomes ≡ length calls
    pub stand : StandForEach calls answers outcomes
    pub group : state_from_calls o client (calls_of client es)
        ≡ with_group (group_of outcomes) (state_from_calls o client (calls_of client before))

  -- One of each shard.
  abbrev pub HasAskedEach : Opening → ℕ → List ShardCall → List JobAnswer → List CoreEntry → List CoreEvent → Type 0
  HasAskedEach o client calls answers own es = HasAskedShards (whole_group calls) o client calls answers own es
