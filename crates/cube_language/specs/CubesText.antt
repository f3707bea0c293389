-- Which cubes a text declares, and what is wrong with a text that declares none.
-- Source: this project's own.
use Rattle.std.specs.Prelude.{◌≡◌, ℕ, ◌+◌, ◌<◌, ◌≤◌, ◌^◌, Bool, true, false, not, ◌==◌, ◌||◌, nat_eq, List, [], ◌∷◌, ◌++◌, length, map, filter, filter_map, take_while, codes, IsTrue, IsUtf8, Option, Some, None, All, if◌then◌else◌}
use Rattle.std.specs.List.{list_any, slice_split, starts_with}
use Rattle.std.specs.Str.{bytes_eq, IsValidUpTo}
use Rattle.std.specs.Str.Parse.{digits_value}
use Rattle.cube_language.specs.Names.{is_name}
use Rattle.cube_language.specs.declared.cubes_fault.CubesFault.{CubesFault}
use Rattle.cube_language.specs.declared.cubes_fault.CubesFault.TheVariants.{NotUtf8, BadLine, DuplicateCube, TooManyCubes, Schema}
use Rattle.cube_language.specs.declared.cubes_fault.SchemaFault.{SchemaFault}
use Rattle.cube_language.specs.declared.decl.TheConstants.{MOST_CUBES}
use Rattle.cube_language.specs.declared.decl.DimDecl.{DimDecl}
use Rattle.cube_language.specs.declared.decl.Decl.{Decl}
use Rattle.cube_language.specs.Cubes.{kind_text, first_repeated, schema_fault, IsStorable}
use Rattle.cube_language.specs.Tokens.{is_digits}

-- A line without one CR at its end.
abbrev pub without_return : List ℕ → List ℕ
without_return [] = []
without_return (byte ∷ []) = if byte == 13 then [] else byte ∷ []
without_return (byte ∷ next ∷ bytes) = byte ∷ without_return (next ∷ bytes)

-- LF ends a line, and so does the end of the text.
abbrev pub lines_of : List ℕ → List (List ℕ)
lines_of text = map without_return (slice_split (λ byte. byte == 10) text)

-- A space or a tab parts words.
abbrev pub parts_words : ℕ → Bool
parts_words byte = byte == 32 || byte == 9

-- The words of a line, parted by spaces and tabs.
abbrev pub words_of : List ℕ → List (List ℕ)
words_of line = filter (λ word. not (length word == 0)) (slice_split parts_words line)

-- The lines of a text, each by its words.
abbrev pub word_lines : List ℕ → List (List (List ℕ))
word_lines text = map words_of (lines_of text)

-- What a line says.
pub data Line : Type 0 where
  Skipped : Line
  Cube : List ℕ → Line
  Dim : DimDecl → Line
  Metric : List ℕ → Line

-- A word of digits is this number of 32 bits.
abbrev pub IsNumberWord : List ℕ → ℕ → Type 0
IsNumberWord word n = IsTrue (is_digits word) × (digits_value 10 word ≡ n) × (n < 2 ^ 32)

-- Words say nothing: there are none, or the first begins with `#`.
abbrev pub IsSkipped : List (List ℕ) → Type 0
IsSkipped [] = Unit {0}
IsSkipped (word ∷ words) = IsTrue (starts_with nat_eq word (codes "#"))

-- Words have the form of a line.
abbrev pub IsLine : List (List ℕ) → Line → Type 0
IsLine words Skipped = IsSkipped words
IsLine words (Cube name) = (words ≡ codes "cube" ∷ name ∷ []) × IsTrue (is_name name)
IsLine words (Dim d) =
    (cardinality range : List ℕ) × (words ≡ codes "dim" ∷ d.name ∷ kind_text d.text ∷ cardinality ∷ range ∷ [])
    × IsTrue (is_name d.name) × IsNumberWord cardinality d.cardinality × IsNumberWord range d.range
IsLine words (Metric name) = (words ≡ codes "metric" ∷ name ∷ []) × IsTrue (is_name name)

-- Each line has the form of the one in its place.
abbrev pub AreLines : List (List (List ℕ)) → List Line → Type 0
AreLines [] [] = Unit {0}
AreLines (words ∷ others) (line ∷ lines) = IsLine words line × AreLines others lines
AreLines others lines = ⊥

abbrev pub is_cube : Line → Bool
is_cube (Cube name) = true
is_cube _ = false

abbrev pub cube_name : Line → Option (List ℕ)
cube_name (Cube name) = Some name
cube_name _ = None

abbrev pub dim_in : Line → Option DimDecl
dim_in (Dim d) = Some d
dim_in _ = None

abbrev pub metric_in : Line → Option (List ℕ)
metric_in (Metric name) = Some name
metric_in _ = None

-- The names of the cubes that lines begin.
abbrev pub cube_names : List Line → List (List ℕ)
cube_names lines = filter_map cube_name lines

-- The lines up to the next that begins a cube.
abbrev pub columns_in : List Line → List Line
columns_in lines = take_while (λ line. not (is_cube line)) lines

-- A cube lasts from its line to the next such line. Its dimensions and metrics keep their order.
abbrev pub cubes_in : List Line → List Decl
cubes_in [] = []
cubes_in (Cube name ∷ lines) =
    record {
      name = name;
      dims = filter_map dim_in (columns_in lines);
      metrics = filter_map metric_in (columns_in lines);
    } ∷ cubes_in lines
cubes_in (_ ∷ lines) = cubes_in lines

-- A line that declares a column stands behind one that begins a cube.
abbrev pub MayFollow : List Line → Line → Type 0
MayFollow before Skipped = Unit {0}
MayFollow before (Cube name) = Unit {0}
MayFollow before (Dim d) = IsTrue (list_any is_cube before)
MayFollow before (Metric name) = IsTrue (list_any is_cube before)

-- Each of the lines may follow those before it.
abbrev pub AllFollow : List Line → List Line → Type 0
AllFollow before [] = Unit {0}
AllFollow before (line ∷ lines) = MayFollow before line × AllFollow (before ++ line ∷ []) lines

-- Each line of the text has its form and may stand where it does.
pub record HasLines (text : List ℕ) (lines : List Line) : Type 0 where
  pub utf8 : IsUtf8 text
  pub forms : AreLines (word_lines text) lines
  pub order : AllFollow [] lines

-- The most cubes of a text.
abbrev pub cubes_limit : ℕ
cubes_limit = MOST_CUBES

-- The text declares these cubes.
pub record Declares (text : List ℕ) (cubes : List Decl) : Type 0 where
  pub lines : List Line
  pub formed : HasLines text lines
  pub names : first_repeated (cube_names lines) ≡ None
  pub few : length (cube_names lines) ≤ cubes_limit
  pub are : cubes ≡ cubes_in lines
  pub storable : All IsStorable cubes

-- The line of this number is the first that has no form or may not stand there.
pub record HasBadLine (text : List ℕ) (number : ℕ) : Type 0 where
  pub utf8 : IsUtf8 text
  pub before : List (List (List ℕ))
  pub words : List (List ℕ)
  pub behind : List (List (List ℕ))
  pub whole : word_lines text ≡ before ++ words ∷ behind
  pub lines : List Line
  pub forms : AreLines before lines
  pub order : AllFollow [] lines
  pub bad : (line : Line) → IsLine words line → MayFollow lines line → ⊥
  pub place : number ≡ length before + 1

-- The line of this number begins a cube, behind these lines.
pub record BeginsCube (lines before : List Line) (name : List ℕ) (number : ℕ) : Type 0 where
  pub behind : List Line
  pub whole : lines ≡ before ++ Cube name ∷ behind
  pub place : number ≡ length before + 1

-- The line of this number is the first to begin a cube of a name that a cube before it has.
pub record RepeatsCube (text : List ℕ) (number : ℕ) : Type 0 where
  pub lines : List Line
  pub before : List Line
  pub name : List ℕ
  pub formed : HasLines text lines
  pub begins : BeginsCube lines before name number
  pub apart : first_repeated (cube_names before) ≡ None
  pub again : IsTrue (list_any (bytes_eq name) (cube_names before))

-- Each name stands once, and the line of this number begins the cube that is one too many.
pub record ExceedsCubes (text : List ℕ) (number : ℕ) : Type 0 where
  pub lines : List Line
  pub before : List Line
  pub name : List ℕ
  pub formed : HasLines text lines
  pub apart : first_repeated (cube_names lines) ≡ None
  pub begins : BeginsCube lines before name number
  pub full : length (cube_names before) ≡ cubes_limit

-- Each name stands once, the cubes are not too many, and the first that cannot be stored has this name and fault.
pub record HasUnstorable (text name : List ℕ) (fault : SchemaFault) : Type 0 where
  pub lines : List Line
  pub before : List Decl
  pub cube : Decl
  pub behind : List Decl
  pub formed : HasLines text lines
  pub apart : first_repeated (cube_names lines) ≡ None
  pub few : length (cube_names lines) ≤ cubes_limit
  pub whole : cubes_in lines ≡ before ++ cube ∷ behind
  pub storable : All IsStorable before
  pub named : name ≡ cube.name
  pub bad : schema_fault cube ≡ Some fault

-- The text has this fault, the first that applies.
abbrev pub HasCubesFault : List ℕ → CubesFault → Type 0
HasCubesFault text (NotUtf8 at) = IsValidUpTo text at
HasCubesFault text (BadLine number) = HasBadLine text number
HasCubesFault text (DuplicateCube number) = RepeatsCube text number
HasCubesFault text (TooManyCubes number) = ExceedsCubes text number
HasCubesFault text (Schema name fault) = HasUnstorable text name fault
