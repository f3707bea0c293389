-- The canonical text of cubes that can be made declares them.
use Rattle.std.proofs.Common.{◌≡◌, ℕ, ◌≤◌, true, ◌||◌, List, [], ◌∷◌, ◌++◌, length, map, filter_map, None, All, refl, sym, ap, ◌∙◌, append_assoc}
use Rattle.std.specs.Prelude.{IsTrue}
use Rattle.std.specs.List.{list_any, flat_map, AllByRecursion}
use Rattle.std.proofs.lemmas.List.{length-map}
use Rattle.std.proofs.lemmas.List.Elements.{recursion_from_All}
use Rattle.std.proofs.lemmas.List.Folds.{list_any-append}
use Rattle.cube_language.specs.Columns.{columns_of}
use Rattle.cube_language.specs.Cubes.{cubes_text, first_repeated, IsStorable}
use Rattle.cube_language.specs.CubesText.{Line, Skipped, Cube, Dim, Metric, MayFollow, AllFollow, Declares, is_cube, dim_in, metric_in, columns_in, cube_names, cubes_in, cubes_limit}
use Rattle.cube_language.specs.Grammar.{IsProper, IsProperColumn}
use Rattle.cube_language.specs.Names.{is_name}
use Rattle.cube_language.specs.declared.decl.Column.TheVariants as column_kind
use Rattle.cube_language.specs.declared.decl.Decl.{Decl}
use Rattle.cube_language.specs.declared.decl.DimDecl.{DimDecl}
use Rattle.cube_language.specs.declared.statement.Statement.TheVariants as asked
use Rattle.cube_schema.proofs.BegunDecls.{column, no_columns}
use Rattle.cube_schema.proofs.CanonicalLines.{Fits, CanSay, column_lines, cube_lines, lines_said, lines_are_utf8, text_lines}

-- What a statement can declare.

abbrev IsNameOf : List ℕ → Type 0
IsNameOf name = IsTrue (is_name name)

record CanBeWritten (d : Decl) : Type 0 where
  pub name : IsTrue (is_name d.name)
  pub dims : AllByRecursion Fits d.dims
  pub metrics : AllByRecursion IsNameOf d.metrics

metrics-proper : (metrics : List (List ℕ)) → AllByRecursion IsProperColumn (map column_kind.Metric metrics)
    → AllByRecursion IsNameOf metrics
metrics-proper [] h = tt
metrics-proper (name ∷ metrics) h = (h.0, metrics-proper metrics h.1)

-- The columns behind the dimensions, and the dimensions.
record AreWritten (dims : List DimDecl) (metrics : List (List ℕ)) : Type 0 where
  pub dims_fit : AllByRecursion Fits dims
  pub metrics_fit : AllByRecursion IsNameOf metrics

columns-proper : (dims : List DimDecl) (metrics : List (List ℕ))
    → AllByRecursion IsProperColumn (map column_kind.Dim dims ++ map column_kind.Metric metrics)
    → AreWritten dims metrics
columns-proper [] metrics h = record { dims_fit = tt; metrics_fit = metrics-proper metrics h }
columns-proper (d ∷ dims) metrics h =
    let rest = columns-proper dims metrics h.1 in
    record {
      dims_fit = (record { name = h.0.name; cardinality = h.0.cardinality; range = h.0.range }, rest.dims_fit);
      metrics_fit = rest.metrics_fit;
    }

written : (d : Decl) → IsProper (asked.CreateCube d) → CanBeWritten d
written d proper =
    let columns = columns-proper d.dims d.metrics (recursion_from_All IsProperColumn (columns_of d) proper.1.1) in
    record { name = proper.0; dims = columns.dims_fit; metrics = columns.metrics_fit }

-- The lines of the canonical text, with the empty one at its end.

dims-say : (dims : List DimDecl) (rest : List Line) → AllByRecursion Fits dims → AllByRecursion CanSay rest
    → AllByRecursion CanSay (map Dim dims ++ rest)
dims-say [] rest fit say = say
dims-say (d ∷ dims) rest fit say = (fit.0, dims-say dims rest fit.1 say)

metrics-say : (metrics : List (List ℕ)) (rest : List Line) → AllByRecursion IsNameOf metrics
    → AllByRecursion CanSay rest → AllByRecursion CanSay (map Metric metrics ++ rest)
metrics-say [] rest fit say = say
metrics-say (name ∷ metrics) rest fit say = (fit.0, metrics-say metrics rest fit.1 say)

-- Columns before other lines.
abbrev columns : List DimDecl → List (List ℕ) → List Line → List Line
columns dims metrics rest = map Dim dims ++ (map Metric metrics ++ rest)

lines-of-cube : (d : Decl) (rest : List Line) → column_lines d ++ rest ≡ columns d.dims d.metrics rest
lines-of-cube d rest = append_assoc (map Dim d.dims) (map Metric d.metrics) rest

cubes-say : (cubes : List Decl) → AllByRecursion CanBeWritten cubes → AllByRecursion CanSay (flat_map cube_lines cubes)
cubes-say [] can = tt
cubes-say (d ∷ cubes) can =
    let rest = flat_map cube_lines cubes in (
      can.0.name,
      rw (lines-of-cube d rest)
          (dims-say d.dims (map Metric d.metrics ++ rest) can.0.dims
          (metrics-say d.metrics rest can.0.metrics (cubes-say cubes can.1))),
    )

abbrev canonical : List Decl → List Line
canonical cubes = flat_map cube_lines cubes ++ Skipped ∷ []

canonical-cons : (d : Decl) (cubes : List Decl) → canonical (d ∷ cubes) ≡ cube_lines d ++ canonical cubes
canonical-cons d cubes = append_assoc (cube_lines d) (flat_map cube_lines cubes) (Skipped ∷ [])

-- Behind a cube each line may stand.
all-follow : (before lines : List Line) → list_any is_cube before ≡ true → AllFollow before lines
all-follow before [] behind = tt
all-follow before (line ∷ lines) behind =
    let more : list_any is_cube (before ++ line ∷ []) ≡ true =
    list_any-append is_cube before (line ∷ []) ∙ ap (λ b. b || list_any is_cube (line ∷ [])) behind
    in
    (may-follow line, all-follow (before ++ line ∷ []) lines more)
  where
    may-follow : (line : Line) → MayFollow before line
    may-follow Skipped = tt
    may-follow (Cube name) = tt
    may-follow (Dim d) = behind
    may-follow (Metric name) = behind

canonical-follows : (cubes : List Decl) → AllFollow [] (canonical cubes)
canonical-follows [] = (tt, tt)
canonical-follows (d ∷ cubes) =
    (tt, all-follow (Cube d.name ∷ []) ((column_lines d ++ flat_map cube_lines cubes) ++ Skipped ∷ []) refl)

-- They begin the cubes.

columns-up : (dims : List DimDecl) (metrics : List (List ℕ)) (rest : List Line)
    → columns_in (columns dims metrics rest) ≡ columns dims metrics (columns_in rest)
columns-up [] [] rest = refl
columns-up [] (name ∷ metrics) rest =
    column (Metric name) (columns [] metrics rest) refl ∙ ap (λ lines. Metric name ∷ lines) (columns-up [] metrics rest)
columns-up (d ∷ dims) metrics rest =
    column (Dim d) (columns dims metrics rest) refl ∙ ap (λ lines. Dim d ∷ lines) (columns-up dims metrics rest)

dims-in : (dims : List DimDecl) (metrics : List (List ℕ)) (rest : List Line)
    → filter_map dim_in (columns dims metrics rest) ≡ dims ++ filter_map dim_in rest
dims-in [] [] rest = refl
dims-in [] (name ∷ metrics) rest = dims-in [] metrics rest
dims-in (d ∷ dims) metrics rest = ap (λ ds. d ∷ ds) (dims-in dims metrics rest)

metrics-in : (dims : List DimDecl) (metrics : List (List ℕ)) (rest : List Line)
    → filter_map metric_in (columns dims metrics rest) ≡ metrics ++ filter_map metric_in rest
metrics-in [] [] rest = refl
metrics-in [] (name ∷ metrics) rest = ap (λ ms. name ∷ ms) (metrics-in [] metrics rest)
metrics-in (d ∷ dims) metrics rest = metrics-in dims metrics rest

cubes-behind : (dims : List DimDecl) (metrics : List (List ℕ)) (rest : List Line)
    → cubes_in (columns dims metrics rest) ≡ cubes_in rest
cubes-behind [] [] rest = refl
cubes-behind [] (name ∷ metrics) rest = cubes-behind [] metrics rest
cubes-behind (d ∷ dims) metrics rest = cubes-behind dims metrics rest

no-dims : (cubes : List Decl) → filter_map dim_in (columns_in (canonical cubes)) ≡ []
no-dims [] = refl
no-dims (d ∷ cubes) = refl

no-metrics : (cubes : List Decl) → filter_map metric_in (columns_in (canonical cubes)) ≡ []
no-metrics [] = refl
no-metrics (d ∷ cubes) = refl

first-cube : (d : Decl) (cubes : List Decl)
    → cubes_in (cube_lines d ++ canonical cubes) ≡ d ∷ cubes_in (canonical cubes)
first-cube d cubes =
    let rest = canonical cubes in
    let up = ap columns_in (lines-of-cube d rest) ∙ columns-up d.dims d.metrics rest in
    let dims =
    ap (filter_map dim_in) up ∙ dims-in d.dims d.metrics (columns_in rest) ∙ ap (λ ds. d.dims ++ ds) (no-dims cubes)
    in
    let metrics =
    ap (filter_map metric_in) up ∙ metrics-in d.dims d.metrics (columns_in rest)
    ∙ ap (λ ms. d.metrics ++ ms) (no-metrics cubes)
    in
    let behind = ap cubes_in (lines-of-cube d rest) ∙ cubes-behind d.dims d.metrics rest in
    (λ i. record { name = d.name; dims = dims i; metrics = metrics i } ∷ behind i)
    ∙ ap (λ decl. decl ∷ cubes_in rest) (sym (no_columns d))

canonical-cubes : (cubes : List Decl) → cubes_in (canonical cubes) ≡ cubes
canonical-cubes [] = refl
canonical-cubes (d ∷ cubes) =
    ap cubes_in (canonical-cons d cubes) ∙ first-cube d cubes ∙ ap (λ ds. d ∷ ds) (canonical-cubes cubes)

names-in : (lines : List Line) → cube_names lines ≡ map (λ d. d.name) (cubes_in lines)
names-in [] = refl
names-in (Skipped ∷ lines) = names-in lines
names-in (Cube name ∷ lines) = ap (λ names. name ∷ names) (names-in lines)
names-in (Dim d ∷ lines) = names-in lines
names-in (Metric name ∷ lines) = names-in lines

-- A statement can declare each of these cubes.
abbrev pub AreProperCubes : List Decl → Type 0
AreProperCubes cubes = AllByRecursion (λ (d : Decl). IsProper (asked.CreateCube d)) cubes

all-written : (cubes : List Decl) → AreProperCubes cubes → AllByRecursion CanBeWritten cubes
all-written [] proper = tt
all-written (d ∷ cubes) proper = (written d proper.0, all-written cubes proper.1)

pub declared-by-text : (cubes : List Decl) → AreProperCubes cubes → All IsStorable cubes
    → first_repeated (map (λ (d : Decl). d.name) cubes) ≡ None → length cubes ≤ cubes_limit
    → Declares (cubes_text cubes) cubes
declared-by-text cubes proper storable apart few =
    let say = cubes-say cubes (all-written cubes proper) in
    let names : cube_names (canonical cubes) ≡ map (λ (d : Decl). d.name) cubes =
    names-in (canonical cubes) ∙ ap (map (λ (d : Decl). d.name)) (canonical-cubes cubes)
    in
    let lines = flat_map cube_lines cubes in
    let long : length (cube_names (canonical cubes)) ≡ length cubes =
    ap length names ∙ length-map cubes (λ (d : Decl). d.name)
    in
    record {
      lines = canonical cubes;
      formed = rw (text_lines cubes)
          (record { utf8 = lines_are_utf8 lines say; forms = lines_said lines say; order = canonical-follows cubes });
      names = ap first_repeated names ∙ apart;
      few = rw long few;
      are = sym (canonical-cubes cubes);
      storable = storable;
    }
