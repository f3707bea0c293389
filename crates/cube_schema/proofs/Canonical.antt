-- The canonical text of the cubes of a text declares them too.
use Rattle.std.proofs.Common.{◌≡◌, ℕ, true, ◌||◌, List, [], ◌∷◌, ◌++◌, map, filter_map, refl, sym, ap, ◌∙◌, append_assoc}
use Rattle.std.specs.Prelude.{IsTrue}
use Rattle.std.specs.List.{list_any, flat_map, AllByRecursion}
use Rattle.std.proofs.lemmas.List.Folds.{list_any-append}
use Rattle.cube_language.specs.Names.{is_name}
use Rattle.cube_language.specs.declared.decl.DimDecl.{DimDecl}
use Rattle.cube_language.specs.declared.decl.Decl.{Decl}
use Rattle.cube_language.specs.Cubes.{first_repeated}
use Rattle.cube_language.specs.CubesText.{Line, Skipped, Cube, Dim, Metric, IsLine, AreLines, MayFollow, AllFollow, is_cube, dim_in, metric_in, columns_in, cube_names, cubes_in, word_lines}
use Rattle.cube_schema.specs.Texts.{CanonicalTextsDeclare}
use Rattle.cube_schema.proofs.BegunDecls.{column, no_columns}
use Rattle.cube_schema.proofs.CanonicalLines.{Fits, CanSay, column_lines, cube_lines, lines_said, lines_are_utf8, text_lines}

can_say : (words : List (List ℕ)) (line : Line) → IsLine words line → CanSay line
can_say words Skipped is = tt
can_say words (Cube name) is = is.1
can_say words (Dim d) is = record { name = is.3; cardinality = is.4.2; range = is.5.2 }
can_say words (Metric name) is = is.1

all_say : (words : List (List (List ℕ))) (lines : List Line) → AreLines words lines → AllByRecursion CanSay lines
all_say [] [] are = tt
all_say [] (line ∷ lines) are = absurd are
all_say (first ∷ words) [] are = absurd are
all_say (first ∷ words) (line ∷ lines) are = (can_say first line are.0, all_say words lines are.1)

-- What the lines of a cube can say.
record IsWritten (d : Decl) : Type 0 where
  pub name : IsTrue (is_name d.name)
  pub dims : AllByRecursion Fits d.dims
  pub metrics : AllByRecursion (λ name. IsTrue (is_name name)) d.metrics

dims_fit : (lines : List Line) → AllByRecursion CanSay lines → AllByRecursion Fits (filter_map dim_in (columns_in lines))
dims_fit [] say = tt
dims_fit (Skipped ∷ lines) say = rw (column Skipped lines refl) (dims_fit lines say.1)
dims_fit (Cube name ∷ lines) say = tt
dims_fit (Dim d ∷ lines) say = rw (column (Dim d) lines refl) (say.0, dims_fit lines say.1)
dims_fit (Metric name ∷ lines) say = rw (column (Metric name) lines refl) (dims_fit lines say.1)

metrics_fit : (lines : List Line) → AllByRecursion CanSay lines → AllByRecursion (λ name. IsTrue (is_name name)) (filter_map metric_in (columns_in lines))
metrics_fit [] say = tt
metrics_fit (Skipped ∷ lines) say = rw (column Skipped lines refl) (metrics_fit lines say.1)
metrics_fit (Cube name ∷ lines) say = tt
metrics_fit (Dim d ∷ lines) say = rw (column (Dim d) lines refl) (metrics_fit lines say.1)
metrics_fit (Metric name ∷ lines) say = rw (column (Metric name) lines refl) (say.0, metrics_fit lines say.1)

all_written : (lines : List Line) → AllByRecursion CanSay lines → AllByRecursion IsWritten (cubes_in lines)
all_written [] say = tt
all_written (Skipped ∷ lines) say = all_written lines say.1
all_written (Cube name ∷ lines) say = (record { name = say.0; dims = dims_fit lines say.1; metrics = metrics_fit lines say.1 }, all_written lines say.1)
all_written (Dim d ∷ lines) say = all_written lines say.1
all_written (Metric name ∷ lines) say = all_written lines say.1

dims_then : (dims : List DimDecl) (rest : List Line) → AllByRecursion Fits dims → AllByRecursion CanSay rest → AllByRecursion CanSay (map Dim dims ++ rest)
dims_then [] rest fit say = say
dims_then (d ∷ dims) rest fit say = (fit.0, dims_then dims rest fit.1 say)

metrics_then : (metrics : List (List ℕ)) (rest : List Line) → AllByRecursion (λ name. IsTrue (is_name name)) metrics → AllByRecursion CanSay rest → AllByRecursion CanSay (map Metric metrics ++ rest)
metrics_then [] rest fit say = say
metrics_then (name ∷ metrics) rest fit say = (fit.0, metrics_then metrics rest fit.1 say)

lines_of_cube : (d : Decl) (rest : List Line) → column_lines d ++ rest ≡ map Dim d.dims ++ (map Metric d.metrics ++ rest)
lines_of_cube d rest = append_assoc (map Dim d.dims) (map Metric d.metrics) rest

cubes_say : (cubes : List Decl) → AllByRecursion IsWritten cubes → AllByRecursion CanSay (flat_map cube_lines cubes)
cubes_say [] written = tt
cubes_say (d ∷ cubes) written =
    let rest = flat_map cube_lines cubes in
    (written.0.name, rw (lines_of_cube d rest) (dims_then d.dims (map Metric d.metrics ++ rest) written.0.dims (metrics_then d.metrics rest written.0.metrics (cubes_say cubes written.1))))

-- The lines of the canonical text, with the empty one at its end.
abbrev canonical : List Decl → List Line
canonical cubes = flat_map cube_lines cubes ++ Skipped ∷ []

canonical-cons : (d : Decl) (cubes : List Decl) → canonical (d ∷ cubes) ≡ cube_lines d ++ canonical cubes
canonical-cons d cubes = append_assoc (cube_lines d) (flat_map cube_lines cubes) (Skipped ∷ [])

-- Behind a cube each line may stand.
all_follow : (before lines : List Line) → list_any is_cube before ≡ true → AllFollow before lines
all_follow before [] behind = tt
all_follow before (line ∷ lines) behind =
    let more : list_any is_cube (before ++ line ∷ []) ≡ true = list_any-append is_cube before (line ∷ []) ∙ ap (λ b. b || list_any is_cube (line ∷ [])) behind in
    (may_follow line, all_follow (before ++ line ∷ []) lines more)
  where
    may_follow : (line : Line) → MayFollow before line
    may_follow Skipped = tt
    may_follow (Cube name) = tt
    may_follow (Dim d) = behind
    may_follow (Metric name) = behind

canonical_follows : (cubes : List Decl) → AllFollow [] (canonical cubes)
canonical_follows [] = (tt, tt)
canonical_follows (d ∷ cubes) = (tt, all_follow (Cube d.name ∷ []) ((column_lines d ++ flat_map cube_lines cubes) ++ Skipped ∷ []) refl)

-- Columns before other lines.
abbrev columns : List DimDecl → List (List ℕ) → List Line → List Line
columns dims metrics rest = map Dim dims ++ (map Metric metrics ++ rest)

columns_up : (dims : List DimDecl) (metrics : List (List ℕ)) (rest : List Line) → columns_in (columns dims metrics rest) ≡ columns dims metrics (columns_in rest)
columns_up [] [] rest = refl
columns_up [] (name ∷ metrics) rest = column (Metric name) (columns [] metrics rest) refl ∙ ap (λ lines. Metric name ∷ lines) (columns_up [] metrics rest)
columns_up (d ∷ dims) metrics rest = column (Dim d) (columns dims metrics rest) refl ∙ ap (λ lines. Dim d ∷ lines) (columns_up dims metrics rest)

dims_in : (dims : List DimDecl) (metrics : List (List ℕ)) (rest : List Line) → filter_map dim_in (columns dims metrics rest) ≡ dims ++ filter_map dim_in rest
dims_in [] [] rest = refl
dims_in [] (name ∷ metrics) rest = dims_in [] metrics rest
dims_in (d ∷ dims) metrics rest = ap (λ ds. d ∷ ds) (dims_in dims metrics rest)

metrics_in : (dims : List DimDecl) (metrics : List (List ℕ)) (rest : List Line) → filter_map metric_in (columns dims metrics rest) ≡ metrics ++ filter_map metric_in rest
metrics_in [] [] rest = refl
metrics_in [] (name ∷ metrics) rest = ap (λ ms. name ∷ ms) (metrics_in [] metrics rest)
metrics_in (d ∷ dims) metrics rest = metrics_in dims metrics rest

cubes_behind : (dims : List DimDecl) (metrics : List (List ℕ)) (rest : List Line) → cubes_in (columns dims metrics rest) ≡ cubes_in rest
cubes_behind [] [] rest = refl
cubes_behind [] (name ∷ metrics) rest = cubes_behind [] metrics rest
cubes_behind (d ∷ dims) metrics rest = cubes_behind dims metrics rest

no_dims : (cubes : List Decl) → filter_map dim_in (columns_in (canonical cubes)) ≡ []
no_dims [] = refl
no_dims (d ∷ cubes) = refl

no_metrics : (cubes : List Decl) → filter_map metric_in (columns_in (canonical cubes)) ≡ []
no_metrics [] = refl
no_metrics (d ∷ cubes) = refl

first_cube : (d : Decl) (cubes : List Decl) → cubes_in (cube_lines d ++ canonical cubes) ≡ d ∷ cubes_in (canonical cubes)
first_cube d cubes =
    let rest = canonical cubes in
    let up = ap columns_in (lines_of_cube d rest) ∙ columns_up d.dims d.metrics rest in
    let dims = ap (filter_map dim_in) up ∙ dims_in d.dims d.metrics (columns_in rest) ∙ ap (λ ds. d.dims ++ ds) (no_dims cubes) in
    let metrics = ap (filter_map metric_in) up ∙ metrics_in d.dims d.metrics (columns_in rest) ∙ ap (λ ms. d.metrics ++ ms) (no_metrics cubes) in
    let behind = ap cubes_in (lines_of_cube d rest) ∙ cubes_behind d.dims d.metrics rest in
    (λ i. record { name = d.name; dims = dims i; metrics = metrics i } ∷ behind i) ∙ ap (λ decl. decl ∷ cubes_in rest) (sym (no_columns d))

canonical_cubes : (cubes : List Decl) → cubes_in (canonical cubes) ≡ cubes
canonical_cubes [] = refl
canonical_cubes (d ∷ cubes) = ap cubes_in (canonical-cons d cubes) ∙ first_cube d cubes ∙ ap (λ ds. d ∷ ds) (canonical_cubes cubes)

-- The names of lines are those of their cubes.
names_in : (lines : List Line) → cube_names lines ≡ map (λ d. d.name) (cubes_in lines)
names_in [] = refl
names_in (Skipped ∷ lines) = names_in lines
names_in (Cube name ∷ lines) = ap (λ names. name ∷ names) (names_in lines)
names_in (Dim d ∷ lines) = names_in lines
names_in (Metric name ∷ lines) = names_in lines

pub canonical_declares : CanonicalTextsDeclare
canonical_declares text cubes declares =
    let say = cubes_say cubes (rw declares.are (all_written declares.lines (all_say (word_lines text) declares.lines declares.formed.forms))) in
    let names : cube_names (canonical cubes) ≡ cube_names declares.lines =
    names_in (canonical cubes) ∙ ap (map (λ (d : Decl). d.name)) (canonical_cubes cubes ∙ declares.are) ∙ sym (names_in declares.lines) in
    let lines = flat_map cube_lines cubes in
    record {
      lines = canonical cubes;
      formed = rw (text_lines cubes) (record { utf8 = lines_are_utf8 lines say; forms = lines_said lines say; order = canonical_follows cubes });
      names = ap first_repeated names ∙ declares.names;
      few = rw names declares.few;
      are = sym (canonical_cubes cubes);
      storable = declares.storable;
    }
