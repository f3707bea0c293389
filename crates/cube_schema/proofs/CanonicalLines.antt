-- The lines of a canonical text.
use Rattle.std.proofs.Common.{◌≡◌, ℕ, ◌<◌, ◌^◌, Bool, true, false, List, [], ◌∷◌, ◌++◌, map, codes, decimal, refl, sym, ap, ◌∙◌, append_assoc, arith, IsUtf8}
use Rattle.std.specs.Prelude.{IsTrue}
use Rattle.std.specs.List.{flat_map, AllByRecursion}
use Rattle.std.specs.Str.{IsAscii}
use Rattle.std.proofs.lemmas.List.Folds.{flat_map-map}
use Rattle.std.proofs.lemmas.Grind.{flat_map-append}
use Rattle.std.proofs.lemmas.Str.{IsAscii-append, IsUtf8-from_ascii}
use Rattle.std.proofs.lemmas.Str.Ascii.{IsAscii-nil, IsAscii-cons}
use Rattle.cube_language.specs.Names.{is_name}
use Rattle.cube_language.specs.declared.decl.DimDecl.{DimDecl}
use Rattle.cube_language.specs.declared.decl.Decl.{Decl}
use Rattle.cube_language.specs.Cubes.{kind_text, dim_text, metric_text, cube_text, cubes_text}
use Rattle.cube_language.specs.CubesText.{Line, Skipped, Cube, Dim, Metric, IsLine, AreLines, word_lines}
use Rattle.cube_schema.proofs.SolidWords.{IsSolid, joined, solid_text, name_is_solid, decimal_is_solid, decimal_is_number, words_then, joined_printed, printed_is_ascii}

-- What the line of a dimension can say.
pub record Fits (d : DimDecl) : Type 0 where
  pub name : IsTrue (is_name d.name)
  pub cardinality : d.cardinality < 2 ^ 32
  pub range : d.range < 2 ^ 32

-- What a line can say.
abbrev pub CanSay : Line → Type 0
CanSay Skipped = Unit {0}
CanSay (Cube name) = IsTrue (is_name name)
CanSay (Dim d) = Fits d
CanSay (Metric name) = IsTrue (is_name name)

-- The words of a canonical line.
abbrev pub words_for : Line → List (List ℕ)
words_for Skipped = []
words_for (Cube name) = codes "cube" ∷ name ∷ []
words_for (Dim d) = codes "dim" ∷ d.name ∷ kind_text d.text ∷ decimal d.cardinality ∷ decimal d.range ∷ []
words_for (Metric name) = codes "metric" ∷ name ∷ []

-- A canonical line.
abbrev pub line_text : Line → List ℕ
line_text Skipped = codes "\n"
line_text (Cube name) = codes "cube " ++ (name ++ codes "\n")
line_text (Dim d) = dim_text d
line_text (Metric name) = metric_text name

cube_solid : IsSolid (codes "cube")
cube_solid = solid_text (codes "cube") refl (omega arith)

dim_solid : IsSolid (codes "dim")
dim_solid = solid_text (codes "dim") refl (omega arith)

metric_solid : IsSolid (codes "metric")
metric_solid = solid_text (codes "metric") refl (omega arith)

kind_solid : (text : Bool) → IsSolid (kind_text text)
kind_solid true = solid_text (codes "text") refl (omega arith)
kind_solid false = solid_text (codes "int") refl (omega arith)

words_solid : (line : Line) → CanSay line → AllByRecursion IsSolid (words_for line)
words_solid Skipped can = tt
words_solid (Cube name) can = (cube_solid, (name_is_solid name can, tt))
words_solid (Dim d) can =
    (dim_solid, (name_is_solid d.name can.name, (kind_solid d.text, (decimal_is_solid d.cardinality can.cardinality, (decimal_is_solid d.range can.range, tt)))))
words_solid (Metric name) can = (metric_solid, (name_is_solid name can, tt))

line_joined : (line : Line) (rest : List ℕ) → line_text line ++ rest ≡ joined (words_for line) ++ 10 ∷ rest
line_joined Skipped rest = refl
line_joined (Cube name) rest = simp append_assoc
line_joined (Dim d) rest = simp append_assoc
line_joined (Metric name) rest = simp append_assoc

says : (line : Line) → CanSay line → IsLine (words_for line) line
says Skipped can = tt
says (Cube name) can = (refl, can)
says (Dim d) can = (decimal d.cardinality, decimal d.range, refl, can.name, decimal_is_number d.cardinality can.cardinality, decimal_is_number d.range can.range)
says (Metric name) can = (refl, can)

line_then : (line : Line) (rest : List ℕ) → CanSay line → word_lines (line_text line ++ rest) ≡ words_for line ∷ word_lines rest
line_then line rest can = ap word_lines (line_joined line rest) ∙ words_then (words_for line) rest (words_solid line can)

-- Canonical lines, and the end of the text behind them, have their forms.
pub lines_said : (lines : List Line) → AllByRecursion CanSay lines → AreLines (word_lines (flat_map line_text lines)) (lines ++ Skipped ∷ [])
lines_said [] can = (tt, tt)
lines_said (line ∷ lines) can = rw (line_then line (flat_map line_text lines) can.0) (says line can.0, lines_said lines can.1)

line_is_ascii : (line : Line) (rest : List ℕ) → CanSay line → IsAscii rest → IsAscii (line_text line ++ rest)
line_is_ascii line rest can ascii =
    let words = words_for line in
    let end : IsAscii (10 ∷ rest) = IsAscii-cons 10 rest (omega arith) ascii in
    rw (line_joined line rest) (IsAscii-append (joined words) (10 ∷ rest) (printed_is_ascii (joined words) (joined_printed words (words_solid line can))) end)

lines_are_ascii : (lines : List Line) → AllByRecursion CanSay lines → IsAscii (flat_map line_text lines)
lines_are_ascii [] can = IsAscii-nil
lines_are_ascii (line ∷ lines) can = line_is_ascii line (flat_map line_text lines) can.0 (lines_are_ascii lines can.1)

pub lines_are_utf8 : (lines : List Line) → AllByRecursion CanSay lines → IsUtf8 (flat_map line_text lines)
lines_are_utf8 lines can = IsUtf8-from_ascii (flat_map line_text lines) (lines_are_ascii lines can)

-- The lines of a cube's columns, and of the cube.
abbrev pub column_lines : Decl → List Line
column_lines d = map Dim d.dims ++ map Metric d.metrics

abbrev pub cube_lines : Decl → List Line
cube_lines d = Cube d.name ∷ column_lines d

cube_text_lines : (d : Decl) → cube_text d ≡ flat_map line_text (cube_lines d)
cube_text_lines d =
    let columns = flat_map line_text (column_lines d) in
    let apart = flat_map-append line_text (map Dim d.dims) (map Metric d.metrics) ∙ (λ i. flat_map-map line_text Dim d.dims i ++ flat_map-map line_text Metric d.metrics i) in
    ap (λ rest. codes "cube " ++ (d.name ++ (codes "\n" ++ rest))) (sym apart) ∙ ap (λ rest. codes "cube " ++ rest) (sym (append_assoc d.name (codes "\n") columns))

-- The canonical text of cubes is that of their lines.
pub text_lines : (cubes : List Decl) → cubes_text cubes ≡ flat_map line_text (flat_map cube_lines cubes)
text_lines [] = refl
text_lines (d ∷ cubes) =
    (λ i. cube_text_lines d i ++ text_lines cubes i) ∙ sym (flat_map-append line_text (cube_lines d) (flat_map cube_lines cubes))
