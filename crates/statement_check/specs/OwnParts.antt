-- The parts that one kind of statement has alone.
use Rattle.std.specs.Prelude.{List, []}
use Rattle.cube_values.specs.declared.value.Value.{Value}
use Rattle.cube_language.specs.declared.statement.Cond.{Cond}
use Rattle.cube_language.specs.declared.statement.Statement.{Statement}
use Rattle.cube_language.specs.declared.statement.Statement.TheVariants.{Insert, Delete}

-- The conditions of a deletion.
abbrev pub deleted_conds : Statement → List Cond
deleted_conds (Delete cube conds) = conds
deleted_conds statement = []

-- The rows of an INSERT.
abbrev pub inserted_rows : Statement → List (List Value)
inserted_rows (Insert cube rows) = rows
inserted_rows statement = []
