-- The cubes that the lines of a text begin, with their columns, up to the first bad line.
use Rattle.std.specs.Prelude.{ℕ, ◌+◌, List, [], ◌∷◌, ◌++◌, Option, Some, None, Result, Ok, Err}
use Rattle.std.specs.Option.{option_to_list}
use Rattle.cube_language.specs.declared.decl.DimDecl.{DimDecl}
use Rattle.cube_language.specs.CubesText.{Line, Skipped, Cube, Dim, Metric, word_lines}
use Rattle.cube_language.specs.declared.cubes_fault.CubesFault.{CubesFault}
use Rattle.cube_language.specs.declared.cubes_fault.CubesFault.TheVariants.{BadLine}
use Rattle.cube_schema.specs.declared.gather.Begun.{Begun}
use Rattle.cube_schema.specs.declared.gather.Progress.{Progress}
use Rattle.cube_schema.specs.Reading.{line_in}

-- A cube that the line of this number begins, with no column yet.
abbrev pub begun_at : ℕ → List ℕ → Begun
begun_at number name = record { line = number; decl = record { name = name; dims = []; metrics = [] } }

-- A cube with one dimension more.
abbrev pub with_dim : Begun → DimDecl → Begun
with_dim cube dim = record cube { decl = record cube.decl { dims = cube.decl.dims ++ dim ∷ [] } }

-- A cube with one metric more.
abbrev pub with_metric : Begun → List ℕ → Begun
with_metric cube name = record cube { decl = record cube.decl { metrics = cube.decl.metrics ++ name ∷ [] } }

-- What a line does, by its number and the cube that is being read, or None where it has no form or may not
-- stand there.
abbrev pub progress_at : Option Begun → ℕ → Option Line → Option Progress
progress_at current number None = None
progress_at current number (Some Skipped) = Some (record { completed = None; current = current })
progress_at current number (Some (Cube name)) =
    Some (record { completed = current; current = Some (begun_at number name) })
progress_at None number (Some (Dim dim)) = None
progress_at (Some cube) number (Some (Dim dim)) =
    Some (record { completed = None; current = Some (with_dim cube dim) })
progress_at None number (Some (Metric name)) = None
progress_at (Some cube) number (Some (Metric name)) =
    Some (record { completed = None; current = Some (with_metric cube name) })

-- Cubes stand before others, unless these were not read.
abbrev pub cubes_then : List Begun → Result (List Begun) CubesFault → Result (List Begun) CubesFault
cubes_then front (Ok cubes) = Ok (front ++ cubes)
cubes_then front (Err fault) = Err fault

-- What follows such a progress, or the fault of the line that allows none.
abbrev pub cubes_read_from
    : ℕ → Option Progress → (Option Begun → Result (List Begun) CubesFault) → Result (List Begun) CubesFault
cubes_read_from number None rest = Err (BadLine number)
cubes_read_from number (Some s) rest = cubes_then (option_to_list s.completed) (rest s.current)

-- The cubes of lines, of which the first has this number, behind a cube that is being read, or the first bad line.
abbrev pub cubes_from : Option Begun → ℕ → List (List (List ℕ)) → Result (List Begun) CubesFault
cubes_from current number [] = Ok (option_to_list current)
cubes_from current number (words ∷ lines) =
    cubes_read_from number (progress_at current number (line_in words)) (λ next. cubes_from next (number + 1) lines)

-- The cubes of a text, or its first bad line.
abbrev pub gathered : List ℕ → Result (List Begun) CubesFault
gathered text = cubes_from None 1 (word_lines text)
