-- How long the canonical text of cubes is.
use Rattle.std.proofs.Common.{◌≡◌, ℕ, ◌*◌, ◌^◌, ◌<◌, ◌≤◌, Bool, true, false, nat_le, List, [], ◌∷◌, length, decimal, filter_map, refl, ap, subst, ◌∙◌, inl, inr, arith}
use Rattle.std.specs.Prelude.{IsTrue, All}
use Rattle.std.specs.List.{flat_map, AllByRecursion}
use Rattle.std.proofs.lemmas.Bool.{cases_Bool, leb-true}
use Rattle.std.proofs.lemmas.List.{length-append}
use Rattle.std.proofs.lemmas.List.Elements.{All-head, All-tail}
use Rattle.std.proofs.lemmas.Fmt.{length-decimal-le}
use Rattle.cube_language.specs.Names.{is_name, is_word}
use Rattle.cube_language.specs.declared.decl.DimDecl.{DimDecl}
use Rattle.cube_language.specs.declared.decl.Decl.{Decl}
use Rattle.cube_language.specs.Cubes.{kind_text, dim_text, metric_text, cube_text, cubes_text, IsStorable}
use Rattle.cube_language.specs.CubesText.{Line, Skipped, Cube, Dim, Metric, IsLine, AreLines, dim_in, metric_in, columns_in, cube_names, cubes_in}
use Rattle.cube_schema.proofs.BegunDecls.{column}
use Rattle.cube_schema.proofs.CanonicalLines.{Fits, CanSay}
use Rattle.cube_schema.proofs.Sound.{StorableParts, parts_of}
use Rattle.round_text.specs.TextLengths.{CanonicalTextsAreShort}

-- ---- pieces of no more than so many bytes

abbrev Most : {X : Type 0} → (X → List ℕ) → ℕ → List X → Type 0
Most piece most xs = AllByRecursion (λ x. length (piece x) ≤ most) xs

pieces_short : {X : Type 0} (piece : X → List ℕ) (most : ℕ) (xs : List X) → Most piece most xs
    → length (flat_map piece xs) ≤ length xs * most
pieces_short piece most [] short = omega arith
pieces_short piece most (x ∷ xs) short =
    omega (arith, length-append (piece x) (flat_map piece xs), short.0, pieces_short piece most xs short.1)

-- ---- lines

name_short : (name : List ℕ) → IsTrue (is_name name) → length name ≤ 64
name_short name is =
    elim (cases_Bool (nat_le (length name) 64)) [
      | inl short ↦ leb-true (length name) 64 short
      | inr long ↦ elim (cases_Bool (is_word name)) [
        | inl word ↦ let no : false ≡ true = rw (word, long) at is in absurd cc
        | inr other ↦ let no : false ≡ true = rw other at is in absurd cc
      ]
    ]

number_short : (n : ℕ) → n < 2 ^ 32 → length (decimal n) ≤ 10
number_short n below = length-decimal-le 10 n (omega arith) (omega arith) (omega arith)

kind_short : (text : Bool) → length (kind_text text) ≤ 4
kind_short true = omega arith
kind_short false = omega arith

dim_short : (d : DimDecl) → Fits d → length (dim_text d) ≤ 96
dim_short d fits =
    let name : length d.name ≤ 64 = name_short d.name fits.name in
    let kind : length (kind_text d.text) ≤ 4 = kind_short d.text in
    let cardinality : length (decimal d.cardinality) ≤ 10 = number_short d.cardinality fits.cardinality in
    let range : length (decimal d.range) ≤ 10 = number_short d.range fits.range in
    simp length-append (omega arith)

metric_short : (name : List ℕ) → IsTrue (is_name name) → length (metric_text name) ≤ 72
metric_short name is =
    let few : length name ≤ 64 = name_short name is in
    simp length-append (omega arith)

-- ---- cubes

-- What the lines of a text can say.
can_say : (words : List (List ℕ)) (line : Line) → IsLine words line → CanSay line
can_say words Skipped is = tt
can_say words (Cube name) is = is.1
can_say words (Dim d) is = record { name = is.3; cardinality = is.4.2; range = is.5.2 }
can_say words (Metric name) is = is.1

all_say : (words : List (List (List ℕ))) (lines : List Line) → AreLines words lines → AllByRecursion CanSay lines
all_say [] [] are = tt
all_say [] (line ∷ lines) are = absurd are
all_say (first ∷ words) [] are = absurd are
all_say (first ∷ words) (line ∷ lines) are = (can_say first line are.0, all_say words lines are.1)

dims_most : (lines : List Line) → AllByRecursion CanSay lines → Most dim_text 96 (filter_map dim_in (columns_in lines))
dims_most [] say = tt
dims_most (Skipped ∷ lines) say = rw (column Skipped lines refl) (dims_most lines say.1)
dims_most (Cube name ∷ lines) say = tt
dims_most (Dim d ∷ lines) say = rw (column (Dim d) lines refl) (dim_short d say.0, dims_most lines say.1)
dims_most (Metric name ∷ lines) say = rw (column (Metric name) lines refl) (dims_most lines say.1)

metrics_most : (lines : List Line) → AllByRecursion CanSay lines → Most metric_text 72 (filter_map metric_in (columns_in lines))
metrics_most [] say = tt
metrics_most (Skipped ∷ lines) say = rw (column Skipped lines refl) (metrics_most lines say.1)
metrics_most (Cube name ∷ lines) say = tt
metrics_most (Dim d ∷ lines) say = rw (column (Dim d) lines refl) (metrics_most lines say.1)
metrics_most (Metric name ∷ lines) say =
    rw (column (Metric name) lines refl) (metric_short name say.0, metrics_most lines say.1)

cube_short : (d : Decl) → IsTrue (is_name d.name) → Most dim_text 96 d.dims → Most metric_text 72 d.metrics
    → StorableParts d → length (cube_text d) ≤ 2_758
cube_short d named dims metrics few =
    let name : length d.name ≤ 64 = name_short d.name named in
    let dim_lines : length (flat_map dim_text d.dims) ≤ length d.dims * 96 = pieces_short dim_text 96 d.dims dims in
    let metric_lines : length (flat_map metric_text d.metrics) ≤ length d.metrics * 72 =
    pieces_short metric_text 72 d.metrics metrics in
    simp length-append (omega (arith, name, dim_lines, metric_lines, few.dims, few.metrics))

cubes_most : (lines : List Line) → AllByRecursion CanSay lines → All IsStorable (cubes_in lines)
    → Most cube_text 2_758 (cubes_in lines)
cubes_most [] say are = tt
cubes_most (Skipped ∷ lines) say are = cubes_most lines say.1 are
cubes_most (Cube name ∷ lines) say are =
    let cube : Decl = record { name = name; dims = filter_map dim_in (columns_in lines); metrics = filter_map metric_in (columns_in lines) } in (
      cube_short cube say.0 (dims_most lines say.1) (metrics_most lines say.1)
          (parts_of cube (All-head IsStorable cube (cubes_in lines) are)),
      cubes_most lines say.1 (All-tail IsStorable cube (cubes_in lines) are),
    )
cubes_most (Dim d ∷ lines) say are = cubes_most lines say.1 are
cubes_most (Metric name ∷ lines) say are = cubes_most lines say.1 are

count_named : (lines : List Line) → length (cubes_in lines) ≡ length (cube_names lines)
count_named [] = refl
count_named (Skipped ∷ lines) = count_named lines
count_named (Cube name ∷ lines) = omega (arith, count_named lines)
count_named (Dim d ∷ lines) = count_named lines
count_named (Metric name ∷ lines) = count_named lines

pub canonical_short : CanonicalTextsAreShort
canonical_short text cubes is =
    let d = is.declares in
    let say = all_say _ d.lines d.formed.forms in
    let most = cubes_most d.lines say (subst (λ (c : List Decl). All IsStorable c) d.are d.storable) in
    let short : length (flat_map cube_text (cubes_in d.lines)) ≤ length (cubes_in d.lines) * 2_758 =
    pieces_short cube_text 2_758 (cubes_in d.lines) most in
    let few : length (cubes_in d.lines) ≤ 16 = omega (arith, count_named d.lines, d.few) in
    let long : length text ≡ length (flat_map cube_text (cubes_in d.lines)) =
    ap length is.canonical ∙ ap (λ (c : List Decl). length (cubes_text c)) d.are in
    omega (arith, short, few, long)
