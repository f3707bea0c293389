-- The texts that a statement has for the dimensions of its cube.
-- Source: Cubrick (VLDB 2016), dictionaries of dimensions; who offers a text is this project's own.
use Rattle.std.specs.Prelude.{◌≡◌, ℕ, List, Some, slice_get}
use Rattle.cube_language.specs.ResolvedNames.{resolved_region}
use Rattle.cube_language.specs.declared.decl.Decl.{Decl}
use Rattle.cube_language.specs.declared.statement.Statement.{Statement}
use Rattle.cube_language.specs.declared.statement.Statement.TheVariants.{Insert, Load, Delete}
use Rattle.cube_run.specs.FinalNames.{LooksAt}
use Rattle.cube_run.specs.RunRecords.{RunRecord}
use Rattle.cube_run.specs.SessionSteps.{SessionStep}
use Rattle.cube_values.specs.declared.row.Row.{Row}
use Rattle.cube_values.specs.declared.value.Value.TheVariants.{Text}
use Rattle.row_encoding.specs.CodedInserts.{HaveTextIn}
use Rattle.row_encoding.specs.CodedTexts.{ComparesWith}

-- The step of a LOAD looks at a row that has this text in a dimension.
pub record LooksAtRowWith (run : RunRecord) (step : SessionStep) (d : Decl) (reject place : ℕ) (text : List ℕ) : Type 0
  where
    pub row : Row
    pub looks : LooksAt run step d reject row
    pub here : slice_get row.dims place ≡ Some (Text text)

-- The step of a statement on a cube has this text for a dimension: in a row of an INSERT, in a record at which a LOAD
-- looks, or in a condition of a DELETE.
abbrev pub HasTextFor : RunRecord → SessionStep → Decl → ℕ → List ℕ → Statement → Type 0
HasTextFor run step d place text (Insert cube rows) = HaveTextIn rows place text
HasTextFor run step d place text (Load cube path reject) = LooksAtRowWith run step d reject place text
HasTextFor run step d place text (Delete cube conds) = ComparesWith (resolved_region d conds).conditions place text
HasTextFor run step d place text s = ⊥
