-- What contracts see of a watch, and what changes make of it.
-- Source: materialized views kept by their changes (Gupta, Mumick, Subrahmanian, SIGMOD 1993): rows that came are
-- added, rows that went are taken out, and a count beside each group tells when it is gone.
use Rattle.std.specs.Prelude.{◌≡◌, ◌^◌, ◌<◌, ◌+◌, List, ◌++◌, length}
use Rattle.cube_values.specs.declared.query.BoundQuery.{BoundQuery}
use Rattle.cube_values.specs.declared.row.CodedRow.{CodedRow}
use Rattle.agg_fold.specs.declared.groups.Groups.{Groups}
use Rattle.agg_fold.specs.Standing.{StandsFor, StandsAlike, IsMade}

-- A query, and the groups of the rows that it shows.
pub record WatchState : Type 0 where
  pub query : BoundQuery
  pub groups : Groups

-- A watch shows a list of rows.
abbrev pub Shows : WatchState → List CodedRow → Type 0
Shows watch rows = StandsFor watch.query rows watch.groups

-- A watch of a query shows each list that groups stand for.
pub record BeginsWatch (query : BoundQuery) (first : Groups) (watch : WatchState) : Type 0 where
  pub query_is : watch.query ≡ query
  pub shows : StandsAlike query first watch.groups

-- A watch has the query of another, and shows each list that this one shows.
pub record ShowsAlike (old new : WatchState) : Type 0 where
  pub query_is : new.query ≡ old.query
  pub shows : StandsAlike old.query old.groups new.groups

-- A list is another without the rows that went, and then with those that came.
pub record IsChanged (old came went new : List CodedRow) : Type 0 where
  pub rest : List CodedRow
  pub had : IsMade old went rest
  pub has : new ≡ rest ++ came

-- A watch shows a list that has the rows that went, each as often, and has place for those that came.
pub record CanChange (watch : WatchState) (came went : Groups) : Type 0 where
  pub rows : List CodedRow
  pub more : List CodedRow
  pub less : List CodedRow
  pub rest : List CodedRow
  pub shown : Shows watch rows
  pub comes : StandsFor watch.query more came
  pub goes : StandsFor watch.query less went
  pub had : IsMade rows less rest
  pub few : length rows + length more < 2 ^ 63

-- Of each list that a watch shows, it then shows what is made of it by the rows that came and those that went.
abbrev pub FollowsChange : WatchState → Groups → Groups → WatchState → Type 0
FollowsChange old came went new =
    (rows more less now : List CodedRow) → Shows old rows → StandsFor old.query more came
    → StandsFor old.query less went → IsChanged rows more less now → Shows new now

-- The same, and the query stays.
pub record Follows (came went : Groups) (old new : WatchState) : Type 0 where
  pub query_is : new.query ≡ old.query
  pub change : FollowsChange old came went new
