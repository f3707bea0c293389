-- What a line says, as the code keeps it.
use Rattle.cube_language.specs.CubesText.{Line}
use Rattle.cube_language.specs.CubesText as text
use Rattle.cube_language.specs.declared.decl.DimDecl.{DimDecl}
use Rattle.cube_schema.specs.declared.line.DimWords.{DimWords}
use Rattle.cube_schema.specs.declared.line.Form.{Form}
use Rattle.cube_schema.specs.declared.line.Form.TheVariants.{Skipped, Cube, Dim, Metric}

-- The line of a form.
abbrev pub said_by : Form → Line
said_by Skipped = text.Skipped
said_by (Cube name) = text.Cube name
said_by (Dim dim) = text.Dim dim
said_by (Metric name) = text.Metric name

-- The dimension of its words.
abbrev pub dim_of : DimWords → DimDecl
dim_of d = record { name = d.name.now; text = d.text; cardinality = d.cardinality; range = d.range }
