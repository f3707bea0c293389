-- What a statement on rows meets: the cube that it needs, and for a LOAD the records of its file.
-- Source: this project's own.
use Rattle.std.specs.Prelude.{◌≡◌, ℕ, List, Some, Result, map}
use Rattle.cube_values.specs.declared.row.Row.{Row}
use Rattle.cube_language.specs.Misfits.{FitsCube}
use Rattle.cube_language.specs.declared.bad_row.BadRow.{BadRow}
use Rattle.cube_language.specs.declared.decl.Decl.{Decl}
use Rattle.cube_language.specs.declared.statement.Statement.{Statement}
use Rattle.cube_run.specs.LoadedRows.{judged_record, records_looked_at}
use Rattle.cube_run.specs.Merge.{HasCube}
use Rattle.cube_run.specs.RunRecords.{RunRecord, Records, catalog_of, cube_needed, declaration_of, names_of_cube}
use Rattle.cube_run.specs.SessionSteps.{SessionStep}

-- The dictionaries of a cube in the end.
abbrev pub final_names : RunRecord → Decl → List (List (List ℕ))
final_names run d = names_of_cube (catalog_of run) d.name

-- A statement is about this cube: it needs it by its name, it finds it before its step, and it is so declared in the
-- end.
pub record IsOnCube (run : RunRecord) (step : SessionStep) (s : Statement) (d : Decl) : Type 0 where
  pub needed : cube_needed s ≡ Some d.name
  pub stands : HasCube run step (Some d.name)
  pub declared : declaration_of (catalog_of run) d.name ≡ d

-- It fits this cube.
pub record FitsItsCube (run : RunRecord) (step : SessionStep) (s : Statement) (d : Decl) : Type 0 where
  pub on : IsOnCube run step s d
  pub fits : FitsCube d s

-- The file of a LOAD gives records. Those at which it looks that allows so many bad ones are these, by the dictionaries
-- in the end.
pub record GivesRecords (run : RunRecord) (step : SessionStep) (d : Decl) (reject : ℕ)
    (looked : List (Result Row BadRow)) : Type 0 where
  pub records : Decl → List (Result Row BadRow)
  pub file : step.file ≡ Records records
  pub looked_at : records_looked_at reject (map (judged_record d (final_names run d)) (records d)) ≡ looked
