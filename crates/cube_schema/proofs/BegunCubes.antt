-- The cubes that lines begin, with their columns, as reading leaves them.
use Rattle.std.proofs.Common.{◌≡◌, ℕ, suc, ◌+◌, Bool, true, false, ◌||◌, List, [], ◌∷◌, ◌++◌, length, Option, Some, None, Ok, Err, refl, sym, ap, ◌∙◌, append_assoc, arith}
use Rattle.std.specs.Prelude.{is_some}
use Rattle.std.specs.List.{list_any}
use Rattle.std.specs.Option.{option_to_list}
use Rattle.std.proofs.lemmas.List.{append-nil}
use Rattle.std.proofs.lemmas.List.Folds.{list_any-append}
use Rattle.cube_language.specs.declared.cubes_fault.CubesFault.TheVariants.{BadLine}
use Rattle.cube_language.specs.CubesText.{Line, Skipped, Cube, Dim, Metric, IsLine, AreLines, MayFollow, AllFollow, is_cube}
use Rattle.cube_schema.specs.declared.gather.Begun.{Begun}
use Rattle.cube_schema.specs.declared.gather.Progress.{Progress}
use Rattle.cube_schema.specs.Gathering.{begun_at, with_dim, with_metric, progress_at, cubes_from}
use Rattle.cube_schema.specs.Reading.{line_in}
use Rattle.cube_schema.proofs.LineForms.{line_found, line_read}
use Rattle.cube_schema.proofs.Repeated.{or_false}

-- What a line does, which may stand there.
abbrev pub next_of : Option Begun → ℕ → Line → Progress
next_of current number Skipped = record { completed = None; current = current }
next_of current number (Cube name) = record { completed = current; current = Some (begun_at number name) }
next_of None number (Dim d) = record { completed = None; current = None }
next_of (Some cube) number (Dim d) = record { completed = None; current = Some (with_dim cube d) }
next_of None number (Metric name) = record { completed = None; current = None }
next_of (Some cube) number (Metric name) = record { completed = None; current = Some (with_metric cube name) }

-- The cubes of lines, of which the first has this number.
abbrev pub begun_from : Option Begun → ℕ → List Line → List Begun
begun_from current number [] = option_to_list current
begun_from current number (line ∷ lines) = option_to_list (next_of current number line).completed ++ begun_from (next_of current number line).current (number + 1) lines

-- A cube is being read where a line before began one.
abbrev pub IsBehind : List Line → Option Begun → Type 0
IsBehind before current = is_some current ≡ list_any is_cube before

allowed : (before : List Line) (current : Option Begun) (number : ℕ) (line : Line) → IsBehind before current → MayFollow before line → progress_at current number (Some line) ≡ Some (next_of current number line)
allowed before current number Skipped is may = refl
allowed before current number (Cube name) is may = refl
allowed before None number (Dim d) is may = absurd cc
allowed before (Some cube) number (Dim d) is may = refl
allowed before None number (Metric name) is may = absurd cc
allowed before (Some cube) number (Metric name) is may = refl

refused : (before : List Line) (current : Option Begun) (number : ℕ) (line : Line) → IsBehind before current → (MayFollow before line → ⊥) → progress_at current number (Some line) ≡ None
refused before current number Skipped is bars = absurd (bars tt)
refused before current number (Cube name) is bars = absurd (bars tt)
refused before None number (Dim d) is bars = refl
refused before (Some cube) number (Dim d) is bars = absurd (bars (sym is))
refused before None number (Metric name) is bars = refl
refused before (Some cube) number (Metric name) is bars = absurd (bars (sym is))

or_true : (b : Bool) → (b || true) ≡ true
or_true true = refl
or_true false = refl

stays : (before : List Line) (current : Option Begun) (number : ℕ) (line : Line) → IsBehind before current → is_some (next_of current number line).current ≡ (list_any is_cube before || is_cube line)
stays before current number Skipped is = is ∙ sym (or_false (list_any is_cube before))
stays before current number (Cube name) is = sym (or_true (list_any is_cube before))
stays before None number (Dim d) is = is ∙ sym (or_false (list_any is_cube before))
stays before (Some cube) number (Dim d) is = is ∙ sym (or_false (list_any is_cube before))
stays before None number (Metric name) is = is ∙ sym (or_false (list_any is_cube before))
stays before (Some cube) number (Metric name) is = is ∙ sym (or_false (list_any is_cube before))

is_behind : (before : List Line) (current : Option Begun) (number : ℕ) (line : Line) → IsBehind before current → IsBehind (before ++ line ∷ []) (next_of current number line).current
is_behind before current number line is =
    stays before current number line is ∙ ap (λ b. list_any is_cube before || b) (sym (or_false (is_cube line))) ∙ sym (list_any-append is_cube before (line ∷ []))

-- Lines that have their forms and may stand where they do are read as their cubes.
pub lines_read : (before : List Line) (current : Option Begun) (number : ℕ) (words : List (List (List ℕ))) (lines : List Line) → IsBehind before current → AreLines words lines → AllFollow before lines
    → cubes_from current number words ≡ Ok (begun_from current number lines)
lines_read before current number [] [] is are follow = refl
lines_read before current number [] (line ∷ lines) is are follow = absurd are
lines_read before current number (first ∷ words) [] is are follow = absurd are
lines_read before current number (first ∷ words) (line ∷ lines) is are follow =
    let next = next_of current number line in
    rw (line_read first line are.0, allowed before current number line is follow.0, lines_read (before ++ line ∷ []) next.current (number + 1) words lines (is_behind before current number line is) are.1 follow.1) refl

bad_first : (before : List Line) (current : Option Begun) (number : ℕ) (first : List (List ℕ)) → IsBehind before current → ((line : Line) → IsLine first line → MayFollow before line → ⊥) → progress_at current number (line_in first) ≡ None
bad_first before current number first is bad = by_form (line_in first) refl
  where
    by_form : (form : Option Line) → line_in first ≡ form → progress_at current number form ≡ None
    by_form None e = refl
    by_form (Some line) e = refused before current number line is (bad line (line_found first line e))

-- The first bad line is found.
pub bad_line_read : (before : List Line) (current : Option Begun) (number : ℕ) (words : List (List (List ℕ))) (lines : List Line) (bad : List (List ℕ)) (more : List (List (List ℕ))) → IsBehind before current → AreLines words lines → AllFollow before lines
    → ((line : Line) → IsLine bad line → MayFollow (before ++ lines) line → ⊥) → cubes_from current number (words ++ bad ∷ more) ≡ Err (BadLine (number + length words))
bad_line_read before current number [] [] bad more is are follow bars =
    let first : progress_at current number (line_in bad) ≡ None = bad_first before current number bad is (λ line form may. bars line form (rw (append-nil before) may)) in
    let at : number ≡ number + 0 = omega arith in
    rw first (ap (λ n. Err (BadLine n)) at)
bad_line_read before current number [] (line ∷ lines) bad more is are follow bars = absurd are
bad_line_read before current number (first ∷ words) [] bad more is are follow bars = absurd are
bad_line_read before current number (first ∷ words) (line ∷ lines) bad more is are follow bars =
    let next = next_of current number line in
    let rest = bad_line_read (before ++ line ∷ []) next.current (number + 1) words lines bad more (is_behind before current number line is) are.1 follow.1 (λ other form may. bars other form (rw (append_assoc before (line ∷ []) lines) at may)) in
    let at : (number + 1) + length words ≡ number + suc (length words) = omega arith in
    rw (line_read first line are.0, allowed before current number line is follow.0, rest) (ap (λ n. Err (BadLine n)) at)
