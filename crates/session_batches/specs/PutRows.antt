-- What a session has to know before it puts rows, and what it then knows.
-- Source: AOSI (ICDE 2018) for what a transaction may do; groups of jobs and refusals are this project's own.
use Rattle.std.specs.Prelude.{◌≡◌, ℕ, ◌<◌, List, [], ◌∷◌, ◌++◌, length, map, All}
use Rattle.std.specs.List.{AllByRecursion}
use Rattle.cube_values.specs.declared.row.CodedRow.{CodedRow}
use Rattle.cube_values.specs.declared.shape.CubeShape.{CubeShape}
use Rattle.cube_values.specs.declared.snapshot.Snapshot.{Snapshot}
use Rattle.cube_core.specs.Links.{AreEventsOf}
use Rattle.cube_core.specs.BoardCells.{IsEntryEvent}
use Rattle.core_program.specs.Knowing.{IsLaterRun}
use Rattle.core_events.specs.Clients.{ClientState, calls_of, state_from_calls}
use Rattle.core_events.specs.Events.{Opening, ClientCall, CoreEvent, By}
use Rattle.core_events.specs.Fitting.{AreToldNames}
use Rattle.core_events.specs.Groups.{Puts}
use Rattle.core_events.specs.Jobs.{JobOutcome}
use Rattle.core_program.specs.CoreFits.{CoreEntry}
use Rattle.cube_core.specs.declared.cell.CoreCell.{CoreCell}
use Rattle.job_groups.specs.AskedEach.{IsGroupCall, with_group}
use Rattle.job_groups.specs.AskedSome.{posts_among, received_from}
use Rattle.session_snapshots.specs.KnownHolds.{HoldsSpoiledWriter, HoldsWriter}
use Rattle.linked_shards.specs.CellShards.{CoreShardStands}
use Rattle.linked_shards.specs.declared.cell.CoreShard.{CoreShard}
use Rattle.shard_events.specs.ShardsInRuns.{FitsShard, IsShapeInRun, ShardAnswerSays}
use Rattle.session_batches.specs.Refusals.{first_refusal, put_by_outcome}
use Rattle.session_batches.specs.RowPosts.{row_posts, shards_with_rows}
use Rattle.session_batches.specs.declared.answers.PutEnd.{PutEnd}
use Rattle.session_batches.specs.declared.answers.PutEnd.TheVariants as put

-- The session knows the cube and its shape, and was told of the names of the rows.
pub record MayPutRows (session shards cube : ℕ) (shape : CubeShape) (rows : List CodedRow)
    (o : Opening) (calls : List ClientCall) : Type 0 where
  pub of_core : shards ≡ o.shards
  pub there : cube < (state_from_calls o session calls).cubes
  pub of_run : IsShapeInRun o cube shape
  pub names : All (λ row. AreToldNames o cube (state_from_calls o session calls) row.coords) rows

-- It holds the writer still where no shard refused its rows, and else has spoiled its write.
abbrev pub HoldsAfterPut : List (CoreCell CoreShard) → ℕ → ℕ → List CoreEntry → Snapshot → PutEnd → Type 0
HoldsAfterPut cells caller session own writer put.Done =
    HoldsWriter FitsShard CoreShardStands ShardAnswerSays cells caller session own writer
HoldsAfterPut cells caller session own writer p =
    HoldsSpoiledWriter FitsShard CoreShardStands ShardAnswerSays cells caller session own writer

-- The answers of these shards are then those of its last group. Without shards there is none.
abbrev pub with_answers : List ℕ → List JobOutcome → ClientState → ClientState
with_answers [] outcomes k = k
with_answers (shard ∷ shards) outcomes k =
    with_group (record { kind = Puts; waits = []; answers = received_from (shard ∷ shards) outcomes [] }) k

-- In a run the session's calls go on by those of a group alone: it has posted just these jobs, and each of these shards
-- has done its own or refused it. It was told of the first refusal.
pub record HasPut (shards : List ℕ) (posts : List ClientCall) (told : PutEnd) (o : Opening) (session : ℕ)
    (own : List CoreEntry) (es : List CoreEvent) : Type 0 where
  pub before : List CoreEvent
  pub events : AreEventsOf (IsEntryEvent FitsShard CoreShardStands ShardAnswerSays o) own before
  pub added : List ClientCall
  pub whole : es ≡ map (λ c. By session c) added ++ before
  pub past : calls_of session es ≡ added ++ calls_of session before
  pub only : AllByRecursion IsGroupCall added
  pub posted : posts_among added ≡ posts
  pub outcomes : List JobOutcome
  pub each : length outcomes ≡ length shards
  pub tells : told ≡ first_refusal put_by_outcome shards outcomes
  pub group : state_from_calls o session (calls_of session es)
      ≡ with_answers shards outcomes (state_from_calls o session (calls_of session before))

-- So it is in each run in which its own calls begin with these.
abbrev pub LearnsOfPut : List (CoreCell CoreShard) → ℕ → ℕ → List ℕ → List ClientCall → PutEnd → List CoreEntry
    → List CoreEntry → Type 0
LearnsOfPut cells caller session shards posts told own now =
    (o : Opening) (log : List CoreEntry) (run es : List CoreEvent)
    → IsLaterRun FitsShard CoreShardStands ShardAnswerSays cells o caller now log run
    → AreEventsOf (IsEntryEvent FitsShard CoreShardStands ShardAnswerSays o) now es
    → HasPut shards posts told o session own es

-- Of rows: these are posted to the shards that have some.
abbrev pub LearnsOfRows : List (CoreCell CoreShard) → ℕ → ℕ → ℕ → ℕ → CubeShape → ℕ → List CodedRow → PutEnd
    → List CoreEntry → List CoreEntry → Type 0
LearnsOfRows cells caller session shards cube shape epoch rows told own now =
    LearnsOfPut cells caller session (shards_with_rows shape.shape.sizes shards rows)
    (row_posts shape.shape.sizes shards cube epoch rows) told own now
