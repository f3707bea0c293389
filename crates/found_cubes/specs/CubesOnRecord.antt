-- The cube of a statement on record of a run.
-- Source: this project's own.
use Rattle.std.specs.Prelude.{◌≡◌, ℕ, Some, slice_get}
use Rattle.condition_spans.specs.Codes.{lists_at}
use Rattle.cube_language.specs.declared.decl.Decl.{Decl}
use Rattle.cube_language.specs.declared.statement.Statement.{Statement}
use Rattle.cube_run.specs.RunRecords.{RunRecord, catalog_of}
use Rattle.cube_run.specs.SessionSteps.{SessionStep}
use Rattle.session_replies.specs.RowSteps.{IsOnCube, final_names}

-- A statement is about the cube at a place, which it needs by its name and finds before its step. In the end the cube is
-- there, so declared, and its dictionaries are those at the place.
pub record HasCubeAt (run : RunRecord) (step : SessionStep) (s : Statement) (place : ℕ) (d : Decl) : Type 0 where
  pub on : IsOnCube run step s d
  pub place_is : slice_get (catalog_of run).cubes place ≡ Some d
  pub names : final_names run d ≡ lists_at run.names place
