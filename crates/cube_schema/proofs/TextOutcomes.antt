-- What a text gives that declares cubes or has a fault.
use Rattle.std.proofs.Common.{◌≡◌, ℕ, ◌+◌, ◌≤◌, List, [], ◌∷◌, ◌++◌, length, Some, None, Ok, Err, refl, sym, ap, ◌∙◌, arith}
use Rattle.std.specs.Prelude.{All, slice_get}
use Rattle.std.specs.List.{list_any}
use Rattle.std.specs.Str.{bytes_eq}
use Rattle.std.proofs.lemmas.List.{length-map}
use Rattle.std.proofs.lemmas.List.Elements.{All-head, All-tail}
use Rattle.std.proofs.lemmas.Option.{slice_get_past}
use Rattle.cube_language.specs.declared.cubes_fault.CubesFault.TheVariants.{BadLine, DuplicateCube, TooManyCubes, Schema}
use Rattle.cube_language.specs.declared.cubes_fault.SchemaFault.{SchemaFault}
use Rattle.cube_language.specs.declared.decl.Decl.{Decl}
use Rattle.cube_language.specs.Cubes.{IsStorable, schema_fault, first_repeated}
use Rattle.cube_language.specs.CubesText.{Line, HasLines, Declares, HasBadLine, BeginsCube, RepeatsCube, ExceedsCubes, HasUnstorable, cube_names, cubes_limit, word_lines}
use Rattle.cube_schema.specs.declared.gather.Begun.{Begun}
use Rattle.cube_schema.specs.Gathering.{gathered, cubes_from}
use Rattle.cube_schema.specs.Outcomes.{begun_names, begun_decls, repeated_in, excess_in, unstorable_in, begun_fault, cubes_unless, outcome_of, outcome}
use Rattle.cube_schema.proofs.BegunCubes.{begun_from, lines_read, bad_line_read}
use Rattle.cube_schema.proofs.BegunDecls.{StandsBehind, decls_are, names_are, stands_behind}
use Rattle.cube_schema.proofs.RepeatedCubes.{none-repeated, repeated-seam}

gathered_lines : (text : List ℕ) (lines : List Line) → HasLines text lines → gathered text ≡ Ok (begun_from None 1 lines)
gathered_lines text lines has = lines_read [] None 1 (word_lines text) lines refl has.forms has.order

by_lines : (text : List ℕ) (lines : List Line) → HasLines text lines → outcome text ≡ cubes_unless (begun_fault (begun_from None 1 lines)) (begun_decls (begun_from None 1 lines))
by_lines text lines has = ap outcome_of (gathered_lines text lines has)

none_repeated : (lines : List Line) → first_repeated (cube_names lines) ≡ None → repeated_in [] (begun_from None 1 lines) ≡ None
none_repeated lines apart = none-repeated (begun_from None 1 lines) (ap first_repeated (names_are 1 lines) ∙ apart)

none_in_excess : (lines : List Line) → length (cube_names lines) ≤ cubes_limit → excess_in (begun_from None 1 lines) ≡ None
none_in_excess lines few =
    let name : Begun → List ℕ = λ cube. cube.decl.name in
    let cubes = begun_from None 1 lines in
    let count : length cubes ≤ cubes_limit = omega (arith, few, sym (length-map cubes name) ∙ ap length (names_are 1 lines)) in
    rw (slice_get_past cubes cubes_limit count) refl

all_storable : (decls : List Decl) → All IsStorable decls → unstorable_in decls ≡ None
all_storable [] all = refl
all_storable (d ∷ decls) all = rw (All-head IsStorable d decls all) (all_storable decls (All-tail IsStorable d decls all))

first_unstorable : (before : List Decl) (d : Decl) (behind : List Decl) (fault : SchemaFault) → All IsStorable before → schema_fault d ≡ Some fault → unstorable_in (before ++ d ∷ behind) ≡ Some (Schema d.name fault)
first_unstorable [] d behind fault all is = rw is refl
first_unstorable (first ∷ before) d behind fault all is = rw (All-head IsStorable first before all) (first_unstorable before d behind fault (All-tail IsStorable first before all) is)

pub declared_outcome : (text : List ℕ) (cubes : List Decl) → Declares text cubes → outcome text ≡ Ok cubes
declared_outcome text cubes d =
    let decls : begun_decls (begun_from None 1 d.lines) ≡ cubes = decls_are 1 d.lines ∙ sym d.are in
    by_lines text d.lines d.formed
    ∙ rw (none_repeated d.lines d.names, none_in_excess d.lines d.few, decls, all_storable cubes d.storable) refl

pub bad_outcome : (text : List ℕ) (number : ℕ) → HasBadLine text number → outcome text ≡ Err (BadLine number)
bad_outcome text number b =
    let read = bad_line_read [] None 1 b.before b.lines b.words b.behind refl b.forms b.order b.bad in
    let at : 1 + length b.before ≡ number = omega (arith, b.place) in
    ap outcome_of (ap (cubes_from None 1) b.whole ∙ read) ∙ ap (λ n. Err (BadLine n)) at

slice_get-seam : {A : Type 0} (front : List A) (x : A) (rest : List A) → slice_get (front ++ x ∷ rest) (length front) ≡ Some x
slice_get-seam [] x rest = refl
slice_get-seam (y ∷ front) x rest = slice_get-seam front x rest

-- The cube that a line begins.
begun_at_line : (lines before : List Line) (name : List ℕ) (number : ℕ) → BeginsCube lines before name number → StandsBehind None 1 before name (begun_from None 1 lines)
begun_at_line lines before name number begins = rw begins.whole (stands_behind None 1 before name begins.behind)

pub duplicate_outcome : (text : List ℕ) (number : ℕ) → RepeatsCube text number → outcome text ≡ Err (DuplicateCube number)
duplicate_outcome text number f =
    let s = begun_at_line f.lines f.before f.name number f.begins in
    let at : s.cube.line ≡ number = omega (arith, s.line_is, f.begins.place) in
    let apart_begun : first_repeated (begun_names s.front) ≡ None = rw s.names f.apart in
    let again_begun : list_any (bytes_eq s.cube.decl.name) (begun_names s.front) ≡ _ = rw (s.name_is, s.names) f.again in
    let found : repeated_in [] (begun_from None 1 f.lines) ≡ Some (DuplicateCube number) =
    ap (repeated_in []) s.whole ∙ repeated-seam s.front s.cube s.rest apart_begun again_begun ∙ ap (λ n. Some (DuplicateCube n)) at in
    by_lines text f.lines f.formed ∙ rw found refl

pub excess_outcome : (text : List ℕ) (number : ℕ) → ExceedsCubes text number → outcome text ≡ Err (TooManyCubes number)
excess_outcome text number f =
    let s = begun_at_line f.lines f.before f.name number f.begins in
    let at : s.cube.line ≡ number = omega (arith, s.line_is, f.begins.place) in
    let name_of_word : Begun → List ℕ = λ cube. cube.decl.name in
    let count : length s.front ≡ cubes_limit = sym (length-map s.front name_of_word) ∙ ap length s.names ∙ f.full in
    let got : slice_get (begun_from None 1 f.lines) cubes_limit ≡ Some s.cube = (λ i. slice_get (s.whole i) (sym count i)) ∙ slice_get-seam s.front s.cube s.rest in
    by_lines text f.lines f.formed ∙ rw (none_repeated f.lines f.apart, got) (ap (λ n. Err (TooManyCubes n)) at)

pub schema_outcome : (text name : List ℕ) (fault : SchemaFault) → (f : HasUnstorable text name fault) → outcome text ≡ Err (Schema f.cube.name fault)
schema_outcome text name fault f =
    by_lines text f.lines f.formed
    ∙ rw (none_repeated f.lines f.apart, none_in_excess f.lines f.few, decls_are 1 f.lines ∙ f.whole, first_unstorable f.before f.cube f.behind fault f.storable f.bad) refl
