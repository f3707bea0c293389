-- What a client has of a query, once it has fetched the answers of all shards.
-- Source: Cubrick (VLDB 2016), partial answers of shards; that they are of one snapshot is AOSI's (ICDE 2018).
use Rattle.std.specs.Prelude.{◌≡◌, ℕ, List, [], ◌∷◌, ◌++◌}
use Rattle.cube_values.specs.declared.query.BoundQuery.{BoundQuery}
use Rattle.cube_values.specs.declared.row.CodedRow.{CodedRow}
use Rattle.cube_values.specs.declared.snapshot.Snapshot.{Snapshot}
use Rattle.core_events.specs.ShardView.{brick_rows_seen}
use Rattle.core_events.specs.Jobs.{JobOutcome, Found}
use Rattle.core_events.specs.Events.{Opening, CoreEvent}
use Rattle.core_events.specs.Groups.{Asks, Received, JobGroup}
use Rattle.core_events.specs.Cells.{shard_view_of}
use Rattle.core_events.specs.Fitting.{HasAllDone}
use Rattle.core_events.specs.Runs.{rows_in_span}

-- The rows that answers have.
abbrev pub rows_of_answer : JobOutcome → List CodedRow
rows_of_answer (Found rows) = rows
rows_of_answer answer = []

abbrev pub rows_fetched : List Received → List CodedRow
rows_fetched [] = []
rows_fetched (r ∷ answers) = rows_fetched answers ++ rows_of_answer r.answer

-- The group asks this query, and the client has the answers of all shards, none of them a refusal.
pub record HasAnswered (shards : ℕ) (query : BoundQuery) (snapshot : Snapshot) (g : JobGroup) : Type 0 where
  pub asks : g.kind ≡ Asks query snapshot
  pub done : HasAllDone shards g

-- The rows of a brick that the query's snapshot sees of the bricks as they are now.
abbrev pub rows_asked : Opening → List CoreEvent → BoundQuery → Snapshot → ℕ → List CodedRow
rows_asked o es query snapshot brick =
    rows_in_span query.span (brick_rows_seen snapshot (shard_view_of o es query.cube brick))
