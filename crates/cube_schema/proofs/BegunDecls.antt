-- The declarations and the names of the cubes that lines begin.
use Rattle.std.proofs.Common.{◌≡◌, ℕ, suc, ◌+◌, false, List, [], ◌∷◌, ◌++◌, length, filter_map, Option, Some, None, refl, sym, ap, ◌∙◌, append_assoc, arith}
use Rattle.std.specs.Prelude.{not}
use Rattle.std.specs.List.{prefix_len}
use Rattle.std.specs.Option.{option_to_list}
use Rattle.std.proofs.lemmas.List.{append-nil, map-append}
use Rattle.cube_language.specs.declared.decl.Decl.{Decl}
use Rattle.cube_language.specs.CubesText.{Line, Skipped, Cube, Dim, Metric, is_cube, dim_in, metric_in, columns_in, cube_names, cubes_in}
use Rattle.cube_schema.specs.declared.gather.Begun.{Begun}
use Rattle.cube_schema.specs.Gathering.{begun_at, with_dim, with_metric}
use Rattle.cube_schema.specs.Outcomes.{begun_names, begun_decls}
use Rattle.cube_schema.proofs.BegunCubes.{next_of, begun_from}

-- A declaration with the columns of the lines up to the next cube.
with_columns : Decl → List Line → Decl
with_columns d lines = record { name = d.name; dims = d.dims ++ filter_map dim_in (columns_in lines); metrics = d.metrics ++ filter_map metric_in (columns_in lines) }

pub no_columns : (d : Decl) → d ≡ record { name = d.name; dims = d.dims ++ []; metrics = d.metrics ++ [] }
no_columns d = λ i. record { name = d.name; dims = sym (append-nil d.dims) i; metrics = sym (append-nil d.metrics) i }

pub column : (line : Line) (lines : List Line) → is_cube line ≡ false → columns_in (line ∷ lines) ≡ line ∷ columns_in lines
column line lines other =
    let more : 1 + prefix_len (λ l. not (is_cube l)) lines ≡ suc (prefix_len (λ l. not (is_cube l)) lines) = omega arith in
    rw (other, more) refl

dims_then : (d : Decl) (line : Line) (lines : List Line) → is_cube line ≡ false → with_columns d (line ∷ lines) ≡ record { name = d.name; dims = d.dims ++ filter_map dim_in (line ∷ columns_in lines); metrics = d.metrics ++ filter_map metric_in (line ∷ columns_in lines) }
unfolding with_columns
dims_then d line lines other = ap (λ columns. record { name = d.name; dims = d.dims ++ filter_map dim_in columns; metrics = d.metrics ++ filter_map metric_in columns }) (column line lines other)

-- Behind a cube that is being read, it comes first with the columns up to the next, and then come the cubes of the lines.
decls_behind : (cube : Begun) (number : ℕ) (lines : List Line) → begun_decls (begun_from (Some cube) number lines) ≡ with_columns cube.decl lines ∷ cubes_in lines
unfolding with_columns
decls_behind cube number [] = ap (λ d. d ∷ []) (no_columns cube.decl)
decls_behind cube number (Skipped ∷ lines) = decls_behind cube (number + 1) lines ∙ ap (λ d. d ∷ cubes_in lines) (sym (dims_then cube.decl Skipped lines refl))
decls_behind cube number (Cube name ∷ lines) = λ i. no_columns cube.decl i ∷ decls_behind (begun_at number name) (number + 1) lines i
decls_behind cube number (Dim d ∷ lines) =
    decls_behind (with_dim cube d) (number + 1) lines
    ∙ ap (λ dims. record { name = cube.decl.name; dims = dims; metrics = cube.decl.metrics ++ filter_map metric_in (columns_in lines) } ∷ cubes_in lines) (append_assoc cube.decl.dims (d ∷ []) (filter_map dim_in (columns_in lines)))
    ∙ ap (λ decl. decl ∷ cubes_in lines) (sym (dims_then cube.decl (Dim d) lines refl))
decls_behind cube number (Metric name ∷ lines) =
    decls_behind (with_metric cube name) (number + 1) lines
    ∙ ap (λ metrics. record { name = cube.decl.name; dims = cube.decl.dims ++ filter_map dim_in (columns_in lines); metrics = metrics } ∷ cubes_in lines) (append_assoc cube.decl.metrics (name ∷ []) (filter_map metric_in (columns_in lines)))
    ∙ ap (λ decl. decl ∷ cubes_in lines) (sym (dims_then cube.decl (Metric name) lines refl))

-- The declarations are the cubes of the lines.
pub decls_are : (number : ℕ) (lines : List Line) → begun_decls (begun_from None number lines) ≡ cubes_in lines
unfolding with_columns
decls_are number [] = refl
decls_are number (Skipped ∷ lines) = decls_are (number + 1) lines
decls_are number (Cube name ∷ lines) = decls_behind (begun_at number name) (number + 1) lines
decls_are number (Dim d ∷ lines) = decls_are (number + 1) lines
decls_are number (Metric name ∷ lines) = decls_are (number + 1) lines

names_behind : (cube : Begun) (number : ℕ) (lines : List Line) → begun_names (begun_from (Some cube) number lines) ≡ cube.decl.name ∷ cube_names lines
names_behind cube number [] = refl
names_behind cube number (Skipped ∷ lines) = names_behind cube (number + 1) lines
names_behind cube number (Cube name ∷ lines) = ap (λ names. cube.decl.name ∷ names) (names_behind (begun_at number name) (number + 1) lines)
names_behind cube number (Dim d ∷ lines) = names_behind (with_dim cube d) (number + 1) lines
names_behind cube number (Metric name ∷ lines) = names_behind (with_metric cube name) (number + 1) lines

-- Their names are those of the lines that begin cubes.
pub names_are : (number : ℕ) (lines : List Line) → begun_names (begun_from None number lines) ≡ cube_names lines
names_are number [] = refl
names_are number (Skipped ∷ lines) = names_are (number + 1) lines
names_are number (Cube name ∷ lines) = names_behind (begun_at number name) (number + 1) lines
names_are number (Dim d ∷ lines) = names_are (number + 1) lines
names_are number (Metric name ∷ lines) = names_are (number + 1) lines

-- A cube that is being read comes first, with its line and its name.
record ComesFirst (cube : Begun) (cubes : List Begun) : Type 0 where
  pub first : Begun
  pub rest : List Begun
  pub whole : cubes ≡ first ∷ rest
  pub same_line : first.line ≡ cube.line
  pub same_name : first.decl.name ≡ cube.decl.name

comes_first : (cube : Begun) (number : ℕ) (lines : List Line) → ComesFirst cube (begun_from (Some cube) number lines)
comes_first cube number [] = record { first = cube; rest = []; whole = refl; same_line = refl; same_name = refl }
comes_first cube number (Skipped ∷ lines) = comes_first cube (number + 1) lines
comes_first cube number (Cube name ∷ lines) = record { first = cube; rest = begun_from (Some (begun_at number name)) (number + 1) lines; whole = refl; same_line = refl; same_name = refl }
comes_first cube number (Dim d ∷ lines) =
    let c = comes_first (with_dim cube d) (number + 1) lines in
    record { first = c.first; rest = c.rest; whole = c.whole; same_line = c.same_line; same_name = c.same_name }
comes_first cube number (Metric name ∷ lines) =
    let c = comes_first (with_metric cube name) (number + 1) lines in
    record { first = c.first; rest = c.rest; whole = c.whole; same_line = c.same_line; same_name = c.same_name }

-- The cube that one line begins stands behind those of the lines before it.
pub record StandsBehind (current : Option Begun) (number : ℕ) (before : List Line) (name : List ℕ) (cubes : List Begun) : Type 0 where
  pub front : List Begun
  pub cube : Begun
  pub rest : List Begun
  pub whole : cubes ≡ front ++ cube ∷ rest
  pub names : begun_names front ≡ begun_names (option_to_list current) ++ cube_names before
  pub line_is : cube.line ≡ number + length before
  pub name_is : cube.decl.name ≡ name

further : (current : Option Begun) (number : ℕ) (line : Line) → begun_names (option_to_list (next_of current number line).completed) ++ begun_names (option_to_list (next_of current number line).current) ≡ begun_names (option_to_list current) ++ cube_names (line ∷ [])
further current number Skipped = sym (append-nil (begun_names (option_to_list current)))
further current number (Cube name) = refl
further None number (Dim d) = refl
further (Some cube) number (Dim d) = refl
further None number (Metric name) = refl
further (Some cube) number (Metric name) = refl

names-cons : (line : Line) (lines : List Line) → cube_names (line ∷ lines) ≡ cube_names (line ∷ []) ++ cube_names lines
names-cons Skipped lines = refl
names-cons (Cube name) lines = refl
names-cons (Dim d) lines = refl
names-cons (Metric name) lines = refl

pub stands_behind : (current : Option Begun) (number : ℕ) (before : List Line) (name : List ℕ) (lines : List Line) → StandsBehind current number before name (begun_from current number (before ++ Cube name ∷ lines))
stands_behind current number [] name lines =
    let c = comes_first (begun_at number name) (number + 1) lines in
    record {
      front = option_to_list current;
      cube = c.first;
      rest = c.rest;
      whole = ap (λ cubes. option_to_list current ++ cubes) c.whole;
      names = sym (append-nil (begun_names (option_to_list current)));
      line_is = omega (arith, c.same_line);
      name_is = c.same_name;
    }
stands_behind current number (line ∷ before) name lines =
    let next = next_of current number line in
    let c = stands_behind next.current (number + 1) before name lines in
    let name_of_word : Begun → List ℕ = λ cube. cube.decl.name in
    let completed = option_to_list next.completed in
    record {
      front = completed ++ c.front;
      cube = c.cube;
      rest = c.rest;
      whole = ap (λ cubes. completed ++ cubes) c.whole ∙ sym (append_assoc completed c.front (c.cube ∷ c.rest));
      names = map-append name_of_word completed c.front ∙ ap (λ names. begun_names completed ++ names) c.names
          ∙ sym (append_assoc (begun_names completed) (begun_names (option_to_list next.current)) (cube_names before))
          ∙ ap (λ names. names ++ cube_names before) (further current number line)
          ∙ append_assoc (begun_names (option_to_list current)) (cube_names (line ∷ [])) (cube_names before)
          ∙ ap (λ names. begun_names (option_to_list current) ++ names) (sym (names-cons line before));
      line_is = omega (arith, c.line_is);
      name_is = c.name_is;
    }
