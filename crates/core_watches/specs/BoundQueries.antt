-- A query that is bound by names of its cube, and a watch with its table.
-- Source: Cubrick (VLDB 2016), dictionary encoding of text dimensions.
use Rattle.std.specs.Prelude.{◌≡◌, ℕ, List}
use Rattle.agg_fold.specs.Standing.{IsTable}
use Rattle.condition_spans.specs.Codes.{lists_at}
use Rattle.core_watches.specs.declared.binding.BoundByNames.{BoundByNames}
use Rattle.core_watches.specs.declared.kept.ShownWatch.{ShownWatch}
use Rattle.cube_language.specs.Misfits.{HasMisfit}
use Rattle.cube_language.specs.declared.decl.Decl.{Decl}
use Rattle.cube_language.specs.declared.misfit.Misfit.{Misfit}
use Rattle.cube_language.specs.declared.statement.Statement.{Statement}
use Rattle.cube_values.specs.declared.call_error.CallError.{CallError}
use Rattle.cube_values.specs.declared.call_error.CallError.TheVariants.{Fault, NoMemory}
use Rattle.query_plan.specs.Bindings.{IsQueryOn}
use Rattle.watched_queries.specs.declared.watch.SessionWatch.{SessionWatch}

-- A statement's query on the cube at a place is bound by these names, of which those of the cube are kept.
pub record IsBoundByNames (place : ℕ) (d : Decl) (s : Statement) (names : List (List (List (List ℕ))))
    (bound : BoundByNames) : Type 0 where
  pub place_is : bound.query.cube ≡ place
  pub query : IsQueryOn d names s bound.query
  pub names_are : lists_at bound.names 0 ≡ lists_at names place

-- A watch has this table by the texts of its cube.
pub record IsWithTable (watch : SessionWatch) (lists : List (List (List ℕ))) (shown : ShownWatch) : Type 0 where
  pub watch_is : shown.watch ≡ watch
  pub makes : IsTable watch.query lists watch.kept.groups shown.table

-- Why a statement is not known to fit its cube: the first test that it fails, or want of memory.
abbrev pub IsWhyUnfit : Decl → Statement → CallError Misfit → Type 0
IsWhyUnfit d s (Fault misfit) = HasMisfit d s misfit
IsWhyUnfit d s NoMemory = Unit {0}
