-- Rows that a session has posted to their shards and whose answers it has not fetched: they are out. Meanwhile it may ask
-- for names, as it does that reads the next rows.
-- Source: AOSI (ICDE 2018) for what a transaction may do; that rows are out is this project's own.
use Rattle.std.specs.Prelude.{◌≡◌, ℕ, ◌<◌, ◌≤◌, List, [], ◌∷◌, ◌++◌, length, map, nat_eq, slice_get, All, Some, vec_capacity}
use Rattle.std.specs.List.{AllByRecursion, IsDistinct}
use Rattle.cube_values.specs.declared.row.CodedRow.{CodedRow}
use Rattle.cube_values.specs.declared.shape.CubeShape.{CubeShape}
use Rattle.cube_values.specs.declared.snapshot.Snapshot.{Snapshot}
use Rattle.cube_core.specs.Links.{AreEventsOf}
use Rattle.cube_core.specs.BoardCells.{IsEntryEvent}
use Rattle.cube_core.specs.HoldStates.{IsWriting}
use Rattle.core_program.specs.Knowing.{IsLaterRun, Knows, last_posted}
use Rattle.core_events.specs.Clients.{ClientState, calls_of, state_from_calls}
use Rattle.core_events.specs.Events.{Opening, ClientCall, CoreEvent, By}
use Rattle.core_events.specs.Groups.{JobGroup, Puts}
use Rattle.core_events.specs.Jobs.{Append, JobOutcome}
use Rattle.core_program.specs.CoreFits.{CoreEntry}
use Rattle.cube_core.specs.declared.cell.CoreCell.{CoreCell}
use Rattle.job_groups.specs.AskedEach.{IsGroupCall, with_group}
use Rattle.job_groups.specs.AskedSome.{posts_among}
use Rattle.job_groups.specs.PostedSome.{IsFetchCall, waits_of}
use Rattle.linked_shards.specs.CellShards.{CoreShardStands}
use Rattle.linked_shards.specs.declared.cell.CoreShard.{CoreShard}
use Rattle.shard_events.specs.ShardsInRuns.{FitsShard, ShardAnswerSays}
use Rattle.session_batches.specs.PutRows.{with_answers}
use Rattle.session_batches.specs.Refusals.{first_refusal, put_by_outcome}
use Rattle.session_batches.specs.RowPosts.{row_posts, shards_with_rows}
use Rattle.session_batches.specs.declared.answers.PutEnd.{PutEnd}
use Rattle.session_batches.specs.declared.rows_out.RowsOut.{RowsOut}

-- The shards of rows that are out are some of so many, no one twice, and there is room for their answers.
pub record MayBeFetched (shards : ℕ) (out : RowsOut) : Type 0 where
  pub below : All (λ shard. shard < shards) out.shards.items
  pub once : IsDistinct nat_eq out.shards.items
  pub empty : out.answers.items ≡ []
  pub room : length out.shards.items ≤ vec_capacity out.answers

-- The group of rows that are out at these shards.
abbrev pub rows_group : List ℕ → JobGroup
rows_group shards = record { kind = Puts; waits = waits_of shards; answers = [] }

-- It is the session's last group then. Without shards there is none.
abbrev pub with_rows_out : List ℕ → ClientState → ClientState
with_rows_out [] k = k
with_rows_out (shard ∷ shards) k = with_group (rows_group (shard ∷ shards)) k

-- What was posted last to a shard appends rows.
pub record HasAppendLast (shard : ℕ) (calls : List ClientCall) : Type 0 where
  pub cube : ℕ
  pub epoch : ℕ
  pub rows : List CodedRow
  pub is : last_posted shard calls ≡ Some (Append cube epoch rows)

abbrev pub HaveAppendsLast : List ℕ → List ClientCall → Type 0
HaveAppendsLast shards calls = (place shard : ℕ) → slice_get shards place ≡ Some shard → HasAppendLast shard calls

-- A session holds this writer and would be ready, but its last group is that of rows that are out at these shards.
pub record HasRowsOut (session : ℕ) (writer : Snapshot) (shards : List ℕ) (o : Opening) (calls : List ClientCall)
    : Type 0 where
  pub before : ClientState
  pub writes : IsWriting o session writer before
  pub state : state_from_calls o session calls ≡ with_rows_out shards before
  pub appends : HaveAppendsLast shards calls

abbrev pub HoldsRowsOut : List (CoreCell CoreShard) → ℕ → ℕ → List CoreEntry → Snapshot → List ℕ → Type 0
HoldsRowsOut cells caller session own writer shards =
    Knows FitsShard CoreShardStands ShardAnswerSays cells caller session own (HasRowsOut session writer shards)

-- So it is for some writer.
pub record HoldsSomeRowsOut (cells : List (CoreCell CoreShard)) (caller session : ℕ) (own : List CoreEntry)
    (shards : List ℕ) : Type 0 where
  pub writer : Snapshot
  pub holds : HoldsRowsOut cells caller session own writer shards

-- In a run the session's calls go on by posts of just these jobs, and the rows are out at these shards.
pub record HasPostedRows (shards : List ℕ) (posts : List ClientCall) (o : Opening) (session : ℕ)
    (own : List CoreEntry) (es : List CoreEvent) : Type 0 where
  pub before : List CoreEvent
  pub events : AreEventsOf (IsEntryEvent FitsShard CoreShardStands ShardAnswerSays o) own before
  pub added : List ClientCall
  pub whole : es ≡ map (λ c. By session c) added ++ before
  pub past : calls_of session es ≡ added ++ calls_of session before
  pub only : AllByRecursion IsGroupCall added
  pub posted : posts_among added ≡ posts
  pub group : state_from_calls o session (calls_of session es)
      ≡ with_rows_out shards (state_from_calls o session (calls_of session before))
  pub appends : HaveAppendsLast shards (calls_of session es)

-- So it is in each run in which its own calls begin with these.
abbrev pub LearnsOfAppends : List (CoreCell CoreShard) → ℕ → ℕ → List ℕ → List ClientCall → List CoreEntry
    → List CoreEntry → Type 0
LearnsOfAppends cells caller session shards posts own now =
    (o : Opening) (log : List CoreEntry) (run es : List CoreEvent)
    → IsLaterRun FitsShard CoreShardStands ShardAnswerSays cells o caller now log run
    → AreEventsOf (IsEntryEvent FitsShard CoreShardStands ShardAnswerSays o) now es
    → HasPostedRows shards posts o session own es

-- Of rows: these are posted to the shards that have some.
abbrev pub LearnsOfPostedRows : List (CoreCell CoreShard) → ℕ → ℕ → ℕ → ℕ → CubeShape → ℕ → List CodedRow
    → List CoreEntry → List CoreEntry → Type 0
LearnsOfPostedRows cells caller session shards cube shape epoch rows own now =
    LearnsOfAppends cells caller session (shards_with_rows shape.shape.sizes shards rows)
    (row_posts shape.shape.sizes shards cube epoch rows) own now

-- In a run the session's calls go on by fetches alone: each of these shards has done its append or refused it, and the
-- session was told of the first refusal.
pub record HasFetchedRows (shards : List ℕ) (told : PutEnd) (o : Opening) (session : ℕ) (own : List CoreEntry)
    (es : List CoreEvent) : Type 0 where
  pub before : List CoreEvent
  pub events : AreEventsOf (IsEntryEvent FitsShard CoreShardStands ShardAnswerSays o) own before
  pub added : List ClientCall
  pub whole : es ≡ map (λ c. By session c) added ++ before
  pub past : calls_of session es ≡ added ++ calls_of session before
  pub only : AllByRecursion IsFetchCall added
  pub outcomes : List JobOutcome
  pub each : length outcomes ≡ length shards
  pub tells : told ≡ first_refusal put_by_outcome shards outcomes
  pub group : state_from_calls o session (calls_of session es)
      ≡ with_answers shards outcomes (state_from_calls o session (calls_of session before))

-- So it is in each run in which its own calls begin with these.
abbrev pub LearnsOfFetchedRows : List (CoreCell CoreShard) → ℕ → ℕ → List ℕ → PutEnd → List CoreEntry → List CoreEntry
    → Type 0
LearnsOfFetchedRows cells caller session shards told own now =
    (o : Opening) (log : List CoreEntry) (run es : List CoreEvent)
    → IsLaterRun FitsShard CoreShardStands ShardAnswerSays cells o caller now log run
    → AreEventsOf (IsEntryEvent FitsShard CoreShardStands ShardAnswerSays o) now es
    → HasFetchedRows shards told o session own es
