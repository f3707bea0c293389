-- Reading lines one after the other, as a loop does.
use Rattle.std.proofs.Common.{◌≡◌, ℕ, suc, ◌+◌, ◌<◌, ◌≤◌, List, [], ◌∷◌, ◌++◌, length, drop, get_or, Option, Some, None, Result, Ok, Err, refl, sym, ap, ◌∙◌, append_assoc, arith}
use Rattle.std.specs.Prelude.{◌==◌}
use Rattle.std.specs.List.{slice_split}
use Rattle.std.specs.Option.{option_to_list}
use Rattle.std.proofs.Math.Seq.{drop-cons}
use Rattle.std.proofs.lemmas.List.{drop_all, length-map, get_or-map}
use Rattle.cube_language.specs.declared.cubes_fault.CubesFault.{CubesFault}
use Rattle.cube_language.specs.declared.cubes_fault.CubesFault.TheVariants.{BadLine}
use Rattle.cube_language.specs.CubesText.{lines_of, words_of, word_lines, without_return}
use Rattle.cube_schema.specs.declared.gather.Begun.{Begun}
use Rattle.cube_schema.specs.declared.gather.Progress.{Progress}
use Rattle.cube_schema.specs.Gathering.{progress_at, cubes_then, cubes_read_from, cubes_from, gathered}
use Rattle.cube_schema.specs.Reading.{line_in}

-- What was read before a line, and what is read from it on, is what the whole text gives.
abbrev pub Reads : List ℕ → List Begun → Option Begun → ℕ → Type 0
Reads text cubes current n = cubes_then cubes (cubes_from current (n + 1) (drop n (word_lines text))) ≡ gathered text

behind_both : (front more : List Begun) (read : Result (List Begun) CubesFault) → cubes_then front (cubes_then more read) ≡ cubes_then (front ++ more) read
behind_both front more (Ok cubes) = ap Ok (sym (append_assoc front more cubes))
behind_both front more (Err fault) = refl

-- Where LF parts the text, these bytes stand at this place.
pub record IsPiece (text : List ℕ) (n : ℕ) (line : List ℕ) : Type 0 where
  pub within : n < length (slice_split (λ byte. byte == 10) text)
  pub is : line ≡ get_or (slice_split (λ byte. byte == 10) text) n line

pub piece_at : (text line : List ℕ) (m n : ℕ) → n ≡ m → (m < length (slice_split (λ byte. byte == 10) text)) × (line ≡ get_or (slice_split (λ byte. byte == 10) text) m line) → IsPiece text n line
piece_at text line m n e piece = rw e (record { within = piece.0; is = piece.1 })

line_at : (text : List ℕ) (n : ℕ) (line : List ℕ) → IsPiece text n line → (n < length (word_lines text)) × (get_or (word_lines text) n [] ≡ words_of (without_return line))
line_at text n line piece =
    let cut = slice_split (λ byte. byte == 10) text in
    let lines_fit : n < length (lines_of text) = rw (length-map cut without_return) piece.within in
    let words_fit : n < length (word_lines text) = rw (length-map (lines_of text) words_of) lines_fit in
    (words_fit, get_or-map words_of (lines_of text) n [] [] lines_fit ∙ ap words_of (get_or-map without_return cut n line [] piece.within ∙ ap without_return (sym piece.is)))

next_line : (text line : List ℕ) (cubes : List Begun) (current : Option Begun) (n : ℕ) → IsPiece text n line → Reads text cubes current n
    → cubes_then cubes (cubes_read_from (n + 1) (progress_at current (n + 1) (line_in (words_of (without_return line)))) (λ next. cubes_from next (n + 1 + 1) (drop (n + 1) (word_lines text)))) ≡ gathered text
next_line text line cubes current n piece reads =
    let at = line_at text n line piece in
    let more : suc n ≡ n + 1 = omega arith in
    let front : drop n (word_lines text) ≡ words_of (without_return line) ∷ drop (n + 1) (word_lines text) = drop-cons (word_lines text) n [] at.0 ∙ (λ i. at.1 i ∷ drop (more i) (word_lines text)) in
    rw front at reads

pub one_line : (text line : List ℕ) (cubes : List Begun) (current : Option Begun) (n : ℕ) (next : Progress) → IsPiece text n line → Reads text cubes current n
    → progress_at current (n + 1) (line_in (words_of (without_return line))) ≡ Some next → Reads text (cubes ++ option_to_list next.completed) next.current (n + 1)
one_line text line cubes current n next piece reads does =
    let rest = cubes_from next.current (n + 1 + 1) (drop (n + 1) (word_lines text)) in
    sym (behind_both cubes (option_to_list next.completed) rest) ∙ rw does at (next_line text line cubes current n piece reads)

pub bad_line : (text line : List ℕ) (cubes : List Begun) (current : Option Begun) (n : ℕ) → IsPiece text n line → Reads text cubes current n
    → progress_at current (n + 1) (line_in (words_of (without_return line))) ≡ None → gathered text ≡ Err (BadLine (n + 1))
bad_line text line cubes current n piece reads fails = sym (rw fails at (next_line text line cubes current n piece reads))

pub all_read : (text : List ℕ) (cubes : List Begun) (current : Option Begun) (n : ℕ) → length (slice_split (λ byte. byte == 10) text) ≤ n → Reads text cubes current n → gathered text ≡ Ok (cubes ++ option_to_list current)
all_read text cubes current n le reads =
    let count : length (word_lines text) ≤ n = rw (length-map (lines_of text) words_of, length-map (slice_split (λ byte. byte == 10) text) without_return) le in
    sym (rw (drop_all n (word_lines text) count) at reads)
