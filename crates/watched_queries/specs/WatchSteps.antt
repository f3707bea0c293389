-- How a watch begins by a first answer, and how it follows a change.
-- Source: materialized views kept by their changes (Gupta, Mumick, Subrahmanian, SIGMOD 1993).
use Rattle.std.specs.Prelude.{◌≡◌, ℕ, ◌*◌, ◌^◌, ◌≤◌, List, length}
use Rattle.cube_values.specs.declared.query.BoundQuery.{BoundQuery}
use Rattle.cube_values.specs.declared.row.CodedRow.{CodedRow}
use Rattle.agg_fold.specs.Standing.{HasRoom, IsMade, StandsAlike, StandsFor}
use Rattle.agg_fold.specs.declared.groups.Groups.{Groups}
use Rattle.standing_query.specs.Watches.{IsChanged}
use Rattle.standing_query.specs.declared.change.Change.{Change}
use Rattle.watched_queries.specs.declared.watch.SessionWatch.{SessionWatch}

-- A watch of the query, under this number and up to this epoch, has groups that stand for each list of rows that those
-- of a first answer stand for.
pub record BeginsSessionWatch (query : BoundQuery) (holder epoch : ℕ) (first : Groups) (w : SessionWatch) : Type 0 where
  pub holder_is : w.holder ≡ holder
  pub epoch_is : w.epoch ≡ epoch
  pub query_is : w.query ≡ query
  pub alike : StandsAlike query first w.kept.groups
  pub room : HasRoom query 0 w.kept.groups

-- Groups stand for a list that has the rows that went, each as often, and there are not too many that came.
pub record CanFollow (query : BoundQuery) (kept : Groups) (change : Change) : Type 0 where
  pub rows : List CodedRow
  pub more : List CodedRow
  pub less : List CodedRow
  pub rest : List CodedRow
  pub shown : StandsFor query rows kept
  pub comes : StandsFor query more change.came.groups
  pub goes : StandsFor query less change.went.groups
  pub had : IsMade rows less rest
  pub few : length more ≤ 64 * 2 ^ 40

-- A watch of the query, under this number and up to this epoch, has groups that stand for what the change makes of each
-- list that others stand for.
pub record FollowsSessionWatch (query : BoundQuery) (kept : Groups) (holder epoch : ℕ) (change : Change)
    (new : SessionWatch) : Type 0 where
  pub holder_is : new.holder ≡ holder
  pub epoch_is : new.epoch ≡ epoch
  pub query_is : new.query ≡ query
  pub follows : (rows more less now : List CodedRow) → StandsFor query rows kept
      → StandsFor query more change.came.groups → StandsFor query less change.went.groups
      → IsChanged rows more less now → StandsFor query now new.kept.groups
  pub room : HasRoom query 0 new.kept.groups
