-- Queries that were bound by names copied in a run.
-- Source: Cubrick (VLDB 2016), dictionary encoding of text dimensions; that names only come is this project's own.
use Rattle.std.specs.Prelude.{◌≡◌, ℕ, ◌<◌, List, length, get_or, slice_get, Some}
use Rattle.cube_values.specs.declared.query.BoundQuery.{BoundQuery}
use Rattle.cube_language.specs.Misfits.{FitsCube}
use Rattle.cube_language.specs.declared.decl.Decl.{Decl}
use Rattle.cube_language.specs.declared.decl.DimDecl.{DimDecl}
use Rattle.cube_language.specs.declared.statement.Statement.{Statement}
use Rattle.condition_spans.specs.Codes.{lists_at, texts_at}
use Rattle.query_plan.specs.Bindings.{IsQueryOn}
use Rattle.query_plan.specs.Ties.{AreDistinct}
use Rattle.one_session.specs.Pasts.{EndsAs}
use Rattle.core_events.specs.Cells.{desk_of}
use Rattle.core_events.specs.Events.{Opening, CoreEvent}
use Rattle.core_records.specs.CoreRecords.{names_left}

-- The dictionaries of a cube end as others, dimension by dimension: with more names behind those that they had.
abbrev pub EndAs : Decl → List (List (List ℕ)) → List (List (List ℕ)) → Type 0
EndAs d before after =
    (k : ℕ) (e : DimDecl) → k < length d.dims → EndsAs (get_or d.dims k e) (texts_at before k) (texts_at after k)

-- A statement's query is bound to its cube by names of which each dimension's were copied at some moment between two.
pub record IsBoundBetween (o : Opening) (before after : List CoreEvent) (names : List (List (List (List ℕ)))) (d : Decl)
    (s : Statement) (query : BoundQuery) : Type 0 where
  pub cube_is : slice_get (desk_of o before).cubes query.cube ≡ Some d
  pub fits : FitsCube d s
  pub distinct : AreDistinct (lists_at names query.cube)
  pub bound : IsQueryOn d names s query
  pub since : EndAs d (lists_at (names_left o before) query.cube) (lists_at names query.cube)
  pub until : EndAs d (lists_at names query.cube) (lists_at (names_left o after) query.cube)
