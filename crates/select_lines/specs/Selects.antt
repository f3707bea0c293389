-- What a SELECT is answered with, from groups over rows by coordinates.
-- Source: Cubrick (VLDB 2016), merging of partial results; HAVING, ORDER BY and LIMIT are SQL's.
use Rattle.std.specs.Prelude.{◌≡◌, List, map, filter, All, ℕ}
use Rattle.cube_values.specs.Answer.{answer}
use Rattle.cube_values.specs.First.{first_rows}
use Rattle.cube_values.specs.Spans.{span_has}
use Rattle.cube_values.specs.declared.query.BoundQuery.{BoundQuery}
use Rattle.cube_values.specs.declared.row.CodedRow.{CodedRow}
use Rattle.cube_values.specs.declared.table.Field.{Field}
use Rattle.cube_values.specs.declared.top_plan.TopPlan.{TopPlan}
use Rattle.cube_language.specs.Misfits.{FitsCube}
use Rattle.cube_language.specs.ResolvedNames.{resolved_plan, resolved_query}
use Rattle.cube_language.specs.declared.decl.Decl.{Decl}
use Rattle.cube_language.specs.declared.statement.Statement.{Statement}
use Rattle.agg_fold.specs.Standing.{StandsFor}
use Rattle.agg_fold.specs.declared.groups.Groups.{Groups}
use Rattle.condition_spans.specs.Codes.{lists_at}
use Rattle.query_plan.specs.Bindings.{IsQueryOn}
use Rattle.query_plan.specs.Ties.{AreDistinct, StandForValues, stored_for}

-- A SELECT is bound to a cube that it fits: this is its query by these names, and this its plan.
pub record IsBoundSelect (d : Decl) (names : List (List (List (List ℕ)))) (s : Statement) (query : BoundQuery)
    (plan : TopPlan) : Type 0 where
  pub fits : FitsCube d s
  pub asks : IsQueryOn d names s query
  pub first : plan ≡ resolved_plan s

-- Rows by coordinates of a cube, each of which has its value by the names, which stand once each; groups stand for
-- those of them that the query takes.
pub record AreFolded (d : Decl) (names : List (List (List (List ℕ)))) (query : BoundQuery) (rows : List CodedRow)
    (groups : Groups) : Type 0 where
  pub distinct : AreDistinct (lists_at names query.cube)
  pub named : All (λ row. StandForValues d (lists_at names query.cube) row.coords) rows
  pub taken : StandsFor query (filter (λ row. span_has query.span row.coords) rows) groups

-- A SELECT and rows that a query, a plan and groups come from.
pub record HasSelect (names : List (List (List (List ℕ)))) (query : BoundQuery) (plan : TopPlan) (groups : Groups)
    : Type 0 where
  pub decl : Decl
  pub statement : Statement
  pub rows : List CodedRow
  pub bound : IsBoundSelect decl names statement query plan
  pub folded : AreFolded decl names query rows groups

-- The lines are the first, by the plan of a SELECT, of the answer to it over what the rows stand for.
abbrev pub AreSelectLines : List (List (List (List ℕ))) → BoundQuery → TopPlan → Groups → List (List Field) → Type 0
AreSelectLines names query plan groups lines =
    (d : Decl) (s : Statement) (rows : List CodedRow) → IsBoundSelect d names s query plan
    → AreFolded d names query rows groups
    → lines ≡ first_rows (resolved_plan s)
    (answer (resolved_query d s) (map (stored_for d.name (lists_at names query.cube)) rows))
