-- The totals that a query finds: how many rows there are, and the sum of their first metric.
-- Source: Cubrick (VLDB 2016), aggregates; AOSI (ICDE 2018), readers and writers.
use Rattle.std.specs.Prelude.{◌≡◌, ℕ, ℤ, List, [], ◌∷◌, map, Option, Some, None}
use Rattle.agg_fold.specs.Coded.{row_for, texts_for}
use Rattle.agg_fold.specs.Standing.{IsTable}
use Rattle.agg_fold.specs.declared.groups.Groups.{Groups}
use Rattle.core_events.specs.Clients.{state_from_calls}
use Rattle.core_events.specs.Events.{Opening, ClientCall}
use Rattle.core_program.specs.CoreFits.{CoreEntry}
use Rattle.core_serial.specs.Queries.{HasAnswered, rows_fetched}
use Rattle.cube_core.specs.declared.cell.CoreCell.{CoreCell}
use Rattle.cube_values.specs.Answer.{table_of}
use Rattle.cube_values.specs.declared.query.BoundItem.TheVariants.{Count, Sum}
use Rattle.cube_values.specs.declared.query.BoundQuery.{BoundQuery}
use Rattle.cube_values.specs.declared.snapshot.Snapshot.{Snapshot}
use Rattle.cube_values.specs.declared.span.Part.TheVariants.{Between}
use Rattle.cube_values.specs.declared.table.Field.{Field}
use Rattle.cube_values.specs.declared.table.Field.TheVariants as field
use Rattle.job_groups.specs.AskedEach.{HasMore}
use Rattle.linked_shards.specs.declared.cell.CoreShard.{CoreShard}
use Rattle.session_groups.specs.ShardGroups.{KnowsOfShards}
use Rattle.core_steps.specs.declared.queries.TotalsRead.{TotalsRead}
use Rattle.core_steps.specs.declared.totals.Totals.{Totals}

-- The query is of the rows between two coordinates of a cube of one dimension.
pub record AsksTotals (low high : ℕ) (query : BoundQuery) : Type 0 where
  pub span : query.span.parts ≡ Between low high ∷ []
  pub group : query.group ≡ []
  pub items : query.items ≡ Count ∷ Sum 0 ∷ []

abbrev pub sum_field : Option ℤ → Field
sum_field (Some sum) = field.Whole sum
sum_field None = field.Null

abbrev pub line_of : Totals → List Field
line_of totals = field.Whole totals.rows ∷ sum_field totals.sum ∷ []

-- The answer to the query over each list for which groups stand is these totals.
abbrev pub HasTotals : BoundQuery → Groups → Totals → Type 0
HasTotals query groups totals = IsTable query (texts_for query []) groups (line_of totals ∷ [])

-- So it is over the rows that the shards found for a session.
pub record HasFoundTotals (session : ℕ) (query : BoundQuery) (snapshot : Snapshot) (totals : Totals) (o : Opening)
    (calls : List ClientCall) : Type 0 where
  pub answered : HasAnswered o.shards query snapshot (state_from_calls o session calls).group
  pub table : line_of totals ∷ []
      ≡ table_of query.group query.items (map (row_for (texts_for query []))
      (rows_fetched (state_from_calls o session calls).group.answers))

module _ (cells : List (CoreCell CoreShard)) (caller session : ℕ) where
  -- What the session knows of a query by a snapshot, once it has the answers of all shards.
  pub record KnowsTotals (low high : ℕ) (own : List CoreEntry) (snapshot : Snapshot) (totals : Totals) : Type 0 where
    pub query : BoundQuery
    pub asks : AsksTotals low high query
    pub found : KnowsOfShards cells caller session own (HasFoundTotals session query snapshot totals)

  -- It knew them by a reader of this epoch, before it closed that.
  pub record HasReadTotals (low high : ℕ) (now : List CoreEntry) (read : TotalsRead) : Type 0 where
    pub reader : Snapshot
    pub epoch : reader.epoch ≡ read.epoch
    pub own : List CoreEntry
    pub more : HasMore own now
    pub knows : KnowsTotals low high own reader read.totals
