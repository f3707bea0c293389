-- A script may be cut where its statements begin and end: characters end there.
use Rattle.std.proofs.Common.{◌≡◌, ℕ, ◌+◌, ◌-◌, ◌<◌, ◌≤◌, true, false, List, [], ◌∷◌, ◌++◌, length, get_or, drop, IsUtf8, refl, sym, ap, subst, ◌∙◌, add-zero, arith}
use Rattle.std.specs.Prelude.{All}
use Rattle.std.specs.List.{list_all, flat_map}
use Rattle.std.specs.Str.{IsCharBoundary}
use Rattle.std.proofs.lemmas.Bool.{and_parts}
use Rattle.std.proofs.lemmas.Bool.Decides.{nat_tests}
use Rattle.std.proofs.lemmas.List.{drop-drop, drop_all, drop_at, get_or-drop, length-append}
use Rattle.std.proofs.lemmas.List.Elements.{All-nil, All-cons, All-append}
use Rattle.std.proofs.lemmas.Str.{IsUtf8-between, IsCharBoundary-start, IsCharBoundary-end, IsCharBoundary-before_ascii, IsCharBoundary-after_ascii}
use Rattle.cube_language.specs.declared.piece.Piece.{Piece}
use Rattle.cube_language.specs.Parts.{ScriptPart, Comment, Quoted, Other, part_bytes, is_space, stays_on_line, EndsRun, AreParts, is_blank}
use Rattle.sql_words.specs.Fronts.{goes_on, IsBehindGap, IsBehindBody}
use Rattle.sql_words.specs.Texts.{IsTextAt}
use Rattle.sql_words.proofs.Gaps.{parts_flat}
use Rattle.sql_words.proofs.PiecesLeft.{ends_at}

-- What is left of a script from a place on where it may be cut.
pub record IsLeft (script rest : List ℕ) : Type 0 where
  pub within : length rest ≤ length script
  pub is : rest ≡ drop (length script - length rest) script
  pub cut : IsCharBoundary script (length script - length rest)

pub left_none : (script : List ℕ) → IsUtf8 script → IsLeft script script
left_none script utf8 =
    let none : 0 ≡ length script - length script = omega arith in
    record { within = omega arith; is = ap (λ n. drop n script) none; cut = subst (IsCharBoundary script) none (IsCharBoundary-start script utf8) }

module _ (script : List ℕ) (utf8 : IsUtf8 script) where
  -- what stands behind a front of what is left
  left_behind : (rest front behind : List ℕ) → IsLeft script rest → rest ≡ front ++ behind → behind ≡ drop (length script - length behind) script
  left_behind rest front behind left e =
      let place : (length script - length rest) + length front ≡ length script - length behind = omega (arith, left.within, ap length e, length-append front behind) in
      sym (drop_at front behind (length front) refl)
      ∙ ap (drop (length front)) (sym e ∙ left.is)
      ∙ drop-drop (length front) (length script - length rest) script
      ∙ ap (λ n. drop n script) place

  shorter_behind : (rest front behind : List ℕ) → IsLeft script rest → rest ≡ front ++ behind → length behind ≤ length script
  shorter_behind rest front behind left e = omega (arith, left.within, ap length e, length-append front behind)

  -- the byte at the front of what is left
  byte_at : (b : ℕ) (rest : List ℕ) → length (b ∷ rest) ≤ length script → b ∷ rest ≡ drop (length script - length (b ∷ rest)) script → get_or script (length script - length (b ∷ rest)) 0 ≡ b
  byte_at b rest within e =
      let at = length script - length (b ∷ rest) in
      sym (get_or-drop at script 0 0 ∙ ap (λ n. get_or script n 0) (add-zero at)) ∙ ap (λ (bytes : List ℕ). get_or bytes 0 0) (sym e)

  -- a byte of ASCII may be cut off in front
  before_ascii : (b : ℕ) (rest : List ℕ) → b < 128 → length (b ∷ rest) ≤ length script → b ∷ rest ≡ drop (length script - length (b ∷ rest)) script → IsLeft script (b ∷ rest)
  before_ascii b rest small within e = record {
    within = within;
    is = e;
    cut = IsCharBoundary-before_ascii script (length script - length (b ∷ rest)) (omega arith) (omega (arith, byte_at b rest within e));
  }

  after_ascii : (b : ℕ) (rest : List ℕ) → b < 128 → IsLeft script (b ∷ rest) → IsLeft script rest
  after_ascii b rest small left =
      let at = length script - length (b ∷ rest) in
      let place : at + 1 ≡ length script - length rest = omega (arith, left.within) in
      record {
        within = omega (arith, left.within);
        is = left_behind (b ∷ rest) (b ∷ []) rest left refl;
        cut = subst (IsCharBoundary script) place (IsCharBoundary-after_ascii script at utf8 (omega (arith, left.within)) (omega (arith, byte_at b rest left.within left.is)));
      }

  at_end : IsLeft script []
  at_end =
      let end : length script ≡ length script - 0 = omega arith in
      record { within = omega arith; is = sym (drop_all (length script - 0) script (omega arith)); cut = subst (IsCharBoundary script) end (IsCharBoundary-end script) }

  ends_line : (b : ℕ) → stays_on_line b ≡ false → b ≡ 10
  ends_line b h = grind (arith, nat_tests)

  space_is_ascii : (b : ℕ) → is_space b ≡ true → b < 128
  space_is_ascii b h = grind (arith, nat_tests)

  -- a comment ends before LF, or with the script
  behind_comment : (rest front behind : List ℕ) → IsLeft script rest → rest ≡ front ++ behind → EndsRun stays_on_line behind → IsLeft script behind
  behind_comment rest front [] left e stops = at_end
  behind_comment rest front (b ∷ behind) left e stops = before_ascii b behind (omega (arith, ends_line b stops)) (shorter_behind rest front (b ∷ behind) left e) (left_behind rest front (b ∷ behind) left e)

  behind_gap : (parts : List ScriptPart) (rest body : List ℕ) → list_all is_blank parts ≡ true → AreParts rest parts body → IsLeft script rest → IsLeft script body
  behind_gap [] rest body blank are left = subst (IsLeft script) are left
  behind_gap (Comment bytes ∷ parts) rest body blank are left = behind_gap parts are.0 body blank are.3 (behind_comment rest bytes are.0 left are.1 are.2.3)
  behind_gap (Quoted bytes ∷ parts) rest body blank are left = absurd cc
  behind_gap (Other b ∷ parts) rest body blank are left =
      let both = and_parts (is_space b) (list_all is_blank parts) blank in
      behind_gap parts are.0 body both.1 are.3 (after_ascii b are.0 (space_is_ascii b both.0) (subst (IsLeft script) are.1 left))

  -- where no statement goes on stands a semicolon, or nothing
  pub left_body : (rest body : List ℕ) → IsBehindGap rest body → IsLeft script rest → IsLeft script body
  left_body rest body g left = behind_gap g.parts rest body g.blank g.are left

  at_stop : (rest front end : List ℕ) → IsLeft script rest → rest ≡ front ++ end → goes_on end ≡ false → IsLeft script end
  at_stop rest front [] left e stops = at_end
  at_stop rest front (b ∷ end) left e stops = before_ascii b end (omega (arith, ends_at b end stops)) (shorter_behind rest front (b ∷ end) left e) (left_behind rest front (b ∷ end) left e)

  pub left_end : (body end : List ℕ) → IsBehindBody body end → IsLeft script body → IsLeft script end
  left_end body end b left = at_stop body (flat_map part_bytes b.parts) end left (parts_flat b.parts body end b.are) b.stops

  pub left_behind_end : (end : List ℕ) → goes_on end ≡ false → IsLeft script end → IsLeft script (drop 1 end)
  left_behind_end [] stops left = left
  left_behind_end (b ∷ end) stops left = after_ascii b end (omega (arith, ends_at b end stops)) left

  -- a text between two places where the script may be cut
  pub text_at : (body end : List ℕ) → IsLeft script body → IsLeft script end → length end ≤ length body → IsTextAt script (record { start = length script - length body; end = length script - length end })
  text_at body end b e shorter = record {
    ordered = omega arith;
    within = omega arith;
    utf8 = IsUtf8-between script (length script - length body) (length script - length end) utf8 (omega arith) b.cut e.cut;
  }

pub texts_more : (script : List ℕ) (pieces : List Piece) (piece : Piece) → All (IsTextAt script) pieces → IsTextAt script piece → All (IsTextAt script) (pieces ++ piece ∷ [])
texts_more script pieces piece all one = All-append (IsTextAt script) pieces (piece ∷ []) all (All-cons (IsTextAt script) piece [] one (All-nil (IsTextAt script)))
