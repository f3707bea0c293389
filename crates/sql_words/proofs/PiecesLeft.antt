-- The loop over the statements of a script.
use Rattle.std.proofs.Common.{◌≡◌, ℕ, zero, suc, ◌+◌, ◌-◌, ◌<◌, ◌≤◌, true, false, cond, ◌&&◌, List, [], ◌∷◌, ◌++◌, length, drop, refl, sym, ap, subst, ◌∙◌, append_assoc, arith}
use Rattle.std.specs.Prelude.{All, take_while}
use Rattle.std.specs.List.{list_all, flat_map, slice_split}
use Rattle.std.proofs.lemmas.Bool.{and_parts, and_right, cond-true, cond-false, not-true}
use Rattle.std.proofs.lemmas.Bool.Decides.{nat_tests}
use Rattle.std.proofs.lemmas.List.{append-nil, length-append, length_push}
use Rattle.std.proofs.lemmas.List.Concat.{length-flat_map}
use Rattle.std.proofs.lemmas.List.Elements.{All-append, All-weaker}
use Rattle.std.proofs.lemmas.List.Folds.{list_all-append}
use Rattle.std.proofs.lemmas.List.Splits.{slice_split_at, slice_split_none}
use Rattle.std.proofs.lemmas.List.Sums.{AllPass-from_list_all, sum_by-append, take_while-cons}
use Rattle.cube_language.specs.declared.piece.Piece.{Piece}
use Rattle.cube_language.specs.Parts.{ScriptPart, Comment, Quoted, Other, part_bytes, AreParts, is_blank}
use Rattle.cube_language.specs.Pieces.{is_end, bytes_in, piece_at, pieces_from, Splits, statements_limit}
use Rattle.sql_words.specs.Fronts.{begins_gap, part_len, goes_on, is_inside, IsBehindGap, IsBehindBody}
use Rattle.sql_words.proofs.PartFronts.{part_of, part_some}
use Rattle.sql_words.proofs.Gaps.{parts_append, parts_flat, one_part, shorter, begins_like}

-- how many bytes parts have
bytes_are : (ps : List ScriptPart) (bytes rest : List ℕ) → AreParts bytes ps rest → length bytes ≡ bytes_in ps + length rest
bytes_are ps bytes rest are = ap length (parts_flat ps bytes rest are) ∙ length-append (flat_map part_bytes ps) rest ∙ ap (λ n. n + length rest) (length-flat_map part_bytes ps)

-- ---- a gap, and the text of a statement behind it

blank_is_inside : (p : ScriptPart) → is_blank p ≡ true → is_end p ≡ false
blank_is_inside (Comment bytes) blank = refl
blank_is_inside (Quoted bytes) blank = refl
blank_is_inside (Other byte) blank = grind (arith, nat_tests)

none_ends : (gap body : List ScriptPart) → list_all is_blank gap ≡ true → list_all is_inside body ≡ true → All (λ p. is_end p ≡ false) (gap ++ body)
none_ends gap body blank inside =
    All-append (λ p. is_end p ≡ false) gap body (All-weaker (λ p. is_blank p ≡ true) (λ p. is_end p ≡ false) blank_is_inside gap (AllPass-from_list_all is_blank gap blank))
    (All-weaker (λ p. is_inside p ≡ true) (λ p. is_end p ≡ false) (λ p h. not-true (is_end p) h) body (AllPass-from_list_all is_inside body inside))

-- what one list of parts between two ends gives
abbrev pub one_piece : ℕ → List ScriptPart → List Piece
one_piece place parts = cond (list_all is_blank parts) [] (piece_at place parts ∷ [])

nothing_there : (place : ℕ) (gap : List ScriptPart) → list_all is_blank gap ≡ true → one_piece place (gap ++ []) ≡ []
nothing_there place gap blank = let all : list_all is_blank (gap ++ []) ≡ true = ap (list_all is_blank) (append-nil gap) ∙ blank in rw all refl

gap_taken : (gap : List ScriptPart) (p : ScriptPart) (body : List ScriptPart) → list_all is_blank gap ≡ true → is_blank p ≡ false → take_while is_blank (gap ++ p ∷ body) ≡ gap
gap_taken [] p body blank first = take_while-cons is_blank p body ∙ cond-false (is_blank p) _ _ first
gap_taken (q ∷ gap) p body blank first =
    let both = and_parts (is_blank q) (list_all is_blank gap) blank in
    take_while-cons is_blank q (gap ++ p ∷ body) ∙ cond-true (is_blank q) _ _ both.0 ∙ ap (λ (ps : List ScriptPart). q ∷ ps) (gap_taken gap p body both.1 first)

piece_there : (place : ℕ) (gap : List ScriptPart) (p : ScriptPart) (body : List ScriptPart) → list_all is_blank gap ≡ true → is_blank p ≡ false
    → one_piece place (gap ++ p ∷ body) ≡ record { start = place + bytes_in gap; end = place + (bytes_in gap + bytes_in (p ∷ body)) } ∷ []
piece_there place gap p body blank first =
    let some : list_all is_blank (gap ++ p ∷ body) ≡ false = list_all-append is_blank gap (p ∷ body) ∙ and_right (list_all is_blank gap) _ (ap (λ b. b && list_all is_blank body) first) in
    cond-false (list_all is_blank (gap ++ p ∷ body)) _ _ some
    ∙ (λ i. record { start = place + bytes_in (gap_taken gap p body blank first i); end = place + sum_by-append (λ q. length (part_bytes q)) gap (p ∷ body) i } ∷ [])

-- ---- one step: up to the end of the first statement and past it

pub no_parts : (ps : List ScriptPart) → AreParts [] ps [] → ps ≡ []
no_parts [] are = refl
no_parts (p ∷ ps) are = absurd (omega (arith, part_some p are.0 are.2, length-append (part_bytes p) are.0, ap length are.1))

pub ends_at : (b : ℕ) (rest : List ℕ) → goes_on (b ∷ rest) ≡ false → b ≡ 59
ends_at b rest stops = grind (arith, nat_tests)

-- what the parts behind a step give, with what the step gives, is what all parts give
record IsStep (at : ℕ) (bytes : List ℕ) (found : List Piece) (rest : List ℕ) : Type 0 where
  within : length rest ≤ length bytes
  so_far : (parts : List ScriptPart) → AreParts rest parts []
      → (all : List ScriptPart) × (AreParts bytes all [] × (pieces_from at (slice_split is_end all) ≡ found ++ pieces_from (at + (length bytes - length rest)) (slice_split is_end parts)))

step_is : (at : ℕ) (ps : List ScriptPart) (bytes end : List ℕ) → All (λ p. is_end p ≡ false) ps → AreParts bytes ps end → goes_on end ≡ false → IsStep at bytes (one_piece at ps) (drop 1 end)
step_is at ps bytes [] none are stops = record {
  within = omega arith;
  so_far = λ parts left.
      let last : one_piece at ps ++ [] ≡ one_piece at ps ++ pieces_from (at + (length bytes - 0)) (slice_split is_end parts) =
      ap (λ (qs : List ScriptPart). one_piece at ps ++ pieces_from (at + (length bytes - 0)) (slice_split is_end qs)) (sym (no_parts parts left)) in
      (ps, (are, ap (pieces_from at) (slice_split_none is_end ps none) ∙ last));
}
step_is at ps bytes (b ∷ rest) none are stops =
    let long = bytes_are ps bytes (b ∷ rest) are in
    let is = ends_at b rest stops in
    let ends : is_end (Other b) ≡ true = rw is refl in
    record {
      within = omega (arith, long);
      so_far = λ parts left.
          let semicolon : AreParts (b ∷ rest) (Other b ∷ parts) [] = (rest, refl, (λ quote. omega (arith, is, quote), λ dash. absurd (omega (arith, is, dash))), left) in
          let places : at + bytes_in ps + 1 ≡ at + (length bytes - length rest) = omega (arith, long) in
          (ps ++ Other b ∷ parts, (parts_append ps (Other b ∷ parts) bytes (b ∷ rest) [] are semicolon, ap (pieces_from at) (slice_split_at is_end ps (Other b) parts none ends) ∙ ap (λ n. one_piece at ps ++ pieces_from n (slice_split is_end parts)) places));
    }

found_none : (at : ℕ) (gap body : List ScriptPart) (bytes rest : List ℕ) → list_all is_blank gap ≡ true → AreParts bytes body rest → length bytes ≤ length rest → one_piece at (gap ++ body) ≡ []
found_none at gap [] bytes rest blank are none = nothing_there at gap blank
found_none at gap (p ∷ body) bytes rest blank are none =
    absurd (omega (arith, bytes_are body are.0 rest are.3, part_some p are.0 are.2, ap length are.1, length-append (part_bytes p) are.0))

found_some : (at : ℕ) (gap body : List ScriptPart) (bytes from rest : List ℕ) → list_all is_blank gap ≡ true → AreParts bytes gap from → AreParts from body rest → begins_gap from ≡ false → length rest < length from
    → one_piece at (gap ++ body) ≡ record { start = at + (length bytes - length from); end = at + (length bytes - length rest) } ∷ []
found_some at gap [] bytes from rest blank are inside stops some = absurd (omega (arith, ap length inside))
found_some at gap (p ∷ body) bytes from rest blank are inside stops some =
    let first = sym (begins_like p inside.0 from inside.2 inside.1) ∙ stops in
    let gap_long = bytes_are gap bytes from are in
    let body_long = bytes_are (p ∷ body) from rest inside in
    let start : at + bytes_in gap ≡ at + (length bytes - length from) = omega (arith, gap_long) in
    let end : at + (bytes_in gap + bytes_in (p ∷ body)) ≡ at + (length bytes - length rest) = omega (arith, gap_long, body_long) in
    piece_there at gap p body blank first ∙ (λ i. record { start = start i; end = end i } ∷ [])

-- ---- the statements found, and what is left

pub record AreSplit (script : List ℕ) (front : List Piece) (rest : List ℕ) : Type 0 where
  pub within : length rest ≤ length script
  pub so_far : (parts : List ScriptPart) → AreParts rest parts []
      → (all : List ScriptPart) × (AreParts script all [] × (pieces_from 0 (slice_split is_end all) ≡ front ++ pieces_from (length script - length rest) (slice_split is_end parts)))

pub split_none : (script : List ℕ) → AreSplit script [] script
split_none script = record {
  within = omega arith;
  so_far = λ parts are. let at : 0 ≡ length script - length script = omega arith in (parts, (are, ap (λ n. pieces_from n (slice_split is_end parts)) at));
}

split_step : (script : List ℕ) (front found : List Piece) (rest behind : List ℕ) → AreSplit script front rest → IsStep (length script - length rest) rest found behind → AreSplit script (front ++ found) behind
split_step script front found rest behind r step = record {
  within = omega (arith, r.within, step.within);
  so_far = λ parts are.
      let at = length script - length rest in
      let one = step.so_far parts are in
      let all = r.so_far one.0 one.1.0 in
      let places : at + (length rest - length behind) ≡ length script - length behind = omega (arith, r.within, step.within) in (
        all.0,
        (
          all.1.0,
          all.1.1 ∙ ap (λ (ps : List Piece). front ++ ps) one.1.1 ∙ sym (append_assoc front found _)
              ∙ ap (λ n. (front ++ found) ++ pieces_from n (slice_split is_end parts)) places,
        ),
      );
}

-- a gap, a text that may be empty, and the end behind them
step_from : (at : ℕ) (rest body end : List ℕ) (g : IsBehindGap rest body) (b : IsBehindBody body end) → IsStep at rest (one_piece at (g.parts ++ b.parts)) (drop 1 end)
step_from at rest body end g b = step_is at (g.parts ++ b.parts) rest end (none_ends g.parts b.parts g.blank b.inside) (parts_append g.parts b.parts rest body end g.are b.are) b.stops

pub split_past : (script : List ℕ) (front : List Piece) (rest body end : List ℕ) → AreSplit script front rest → IsBehindGap rest body → IsBehindBody body end → length body ≤ length end → AreSplit script front (drop 1 end)
split_past script front rest body end r g b none =
    let at = length script - length rest in
    let step = subst (λ found. IsStep at rest found (drop 1 end)) (found_none at g.parts b.parts body end g.blank b.are none) (step_from at rest body end g b) in
    subst (λ found. AreSplit script found (drop 1 end)) (append-nil front) (split_step script front [] rest (drop 1 end) r step)

pub split_more : (script : List ℕ) (front : List Piece) (rest body end : List ℕ) → AreSplit script front rest → IsBehindGap rest body → IsBehindBody body end → length end < length body
    → AreSplit script (front ++ record { start = length script - length body; end = length script - length end } ∷ []) (drop 1 end)
split_more script front rest body end r g b some =
    let at = length script - length rest in
    let step = subst (λ found. IsStep at rest found (drop 1 end)) (found_some at g.parts b.parts rest body end g.blank g.are b.are g.stops some) (step_from at rest body end g b) in
    let gap_long = bytes_are g.parts rest body g.are in
    let start : at + (length rest - length body) ≡ length script - length body = omega (arith, r.within, gap_long) in
    let end_at : at + (length rest - length end) ≡ length script - length end = omega (arith, r.within, gap_long, some) in
    subst (λ found. AreSplit script (front ++ found) (drop 1 end)) (λ i. record { start = start i; end = end_at i } ∷ []) (split_step script front _ rest (drop 1 end) r step)

pub split_all : (script : List ℕ) (front : List Piece) (rest : List ℕ) → AreSplit script front rest → length rest ≡ 0 → Splits script front
split_all script front [] r none =
    let all = r.so_far [] refl in
    (all.0, all.1.0, sym (all.1.1 ∙ append-nil front))
split_all script front (b ∷ rest) r none = absurd (omega arith)

-- bytes have parts
parts_exist : (n : ℕ) (bytes : List ℕ) → length bytes ≤ n → (parts : List ScriptPart) × AreParts bytes parts []
parts_exist n [] short = ([], refl)
parts_exist (suc n) (b ∷ bytes) short =
    let behind = drop (part_len (b ∷ bytes)) (b ∷ bytes) in
    let more = parts_exist n behind (omega (arith, shorter b bytes)) in
    (part_of b bytes ∷ more.0, parts_append (part_of b bytes ∷ []) more.0 (b ∷ bytes) behind [] (one_part b bytes) more.1)
parts_exist zero (b ∷ bytes) short = absurd (omega arith)

-- one more than the most
pub split_many : (script : List ℕ) (front : List Piece) (piece : Piece) (rest : List ℕ) → AreSplit script (front ++ piece ∷ []) rest → length front ≡ statements_limit
    → (pieces : List Piece) × Splits script pieces × (statements_limit < length pieces)
split_many script front piece rest r full =
    let left = parts_exist (length rest) rest (omega arith) in
    let all = r.so_far left.0 left.1 in
    let more = pieces_from (length script - length rest) (slice_split is_end left.0) in
    ((front ++ piece ∷ []) ++ more, (all.0, all.1.0, sym all.1.1), omega (arith, full, length_push front piece, length-append (front ++ piece ∷ []) more))

pub few_more : (front : List Piece) (piece : Piece) → length front ≤ statements_limit → (length front ≡ statements_limit → ⊥) → length (front ++ piece ∷ []) ≤ statements_limit
few_more front piece few room = omega (arith, length_push front piece)
