-- What a client has of a delta, once it has fetched the answers of all shards.
-- Source: materialized views kept by their changes (Gupta, Mumick, Subrahmanian, SIGMOD 1993).
use Rattle.std.specs.Prelude.{◌≡◌, ℕ, List, [], ◌∷◌, ◌++◌}
use Rattle.cube_values.specs.declared.query.BoundQuery.{BoundQuery}
use Rattle.cube_values.specs.declared.row.CodedRow.{CodedRow}
use Rattle.agg_fold.specs.Standing.{IsMade}
use Rattle.core_events.specs.Jobs.{JobOutcome, Compared}
use Rattle.core_events.specs.Groups.{Compares, Received, JobGroup}
use Rattle.core_events.specs.Fitting.{HasAllDone}

-- The rows that came by an answer, and those that went.
abbrev pub rows_that_came : JobOutcome → List CodedRow
rows_that_came (Compared came went) = came
rows_that_came answer = []

abbrev pub rows_that_went : JobOutcome → List CodedRow
rows_that_went (Compared came went) = went
rows_that_went answer = []

abbrev pub came_by : List Received → List CodedRow
came_by [] = []
came_by (r ∷ answers) = came_by answers ++ rows_that_came r.answer

abbrev pub went_by : List Received → List CodedRow
went_by [] = []
went_by (r ∷ answers) = went_by answers ++ rows_that_went r.answer

-- The group compares two readers by this query, and the client has the answers of all shards, none of them a refusal.
pub record HasCompared (shards : ℕ) (query : BoundQuery) (from to : ℕ) (g : JobGroup) : Type 0 where
  pub compares : g.kind ≡ Compares query from to
  pub done : HasAllDone shards g

-- One list becomes another: these rows, which it has, went, and those came.
pub record IsDifference (old came went new : List CodedRow) : Type 0 where
  pub rest : List CodedRow
  pub had : IsMade old went rest
  pub has : IsMade new came rest
