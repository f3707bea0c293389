-- The loop over the tokens of a text.
use Rattle.std.proofs.Common.{◌≡◌, ℕ, ◌+◌, ◌-◌, ◌<◌, ◌≤◌, false, List, [], ◌∷◌, ◌++◌, length, take, drop, refl, sym, ap, subst, ◌∙◌, append_assoc, arith}
use Rattle.std.specs.List.{flat_map}
use Rattle.std.proofs.lemmas.Bool.{and_from}
use Rattle.std.proofs.lemmas.List.{append-nil, length-append, length-drop, length-take-le, take-append-drop}
use Rattle.std.proofs.lemmas.List.Folds.{list_all-append}
use Rattle.cube_language.specs.declared.token.Token.{Token}
use Rattle.cube_language.specs.declared.token.TokenFault.{TokenFault}
use Rattle.cube_language.specs.declared.token.TokenKind.{TokenKind}
use Rattle.cube_language.specs.Parts.{part_bytes, AreParts, is_blank, IsGap}
use Rattle.cube_language.specs.Tokens.{AreTokensBefore, AreTokens, IsFault, HasTokenFault, fault_at}
use Rattle.sql_words.specs.Fronts.{begins_gap, IsBehindGap, IsFront}
use Rattle.sql_words.proofs.Gaps.{parts_append, parts_flat, gap_is}

-- a gap of so many bytes, and then the rest
pub record IsGapBefore (bytes rest : List ℕ) (n : ℕ) : Type 0 where
  pub gap : List ℕ
  pub whole : bytes ≡ gap ++ rest
  pub is : IsGap gap rest
  pub long : length gap ≡ n

-- nothing is a gap
no_gap : (rest : List ℕ) → IsGap [] rest
no_gap rest = ([], refl, refl, refl)

-- two gaps that touch are one
gaps_join : (bytes rest gap end : List ℕ) → IsBehindGap bytes rest → rest ≡ gap ++ end → IsGap gap end → IsGapBefore bytes end (length bytes - length rest + length gap)
gaps_join bytes rest gap end h e g =
    let ps = h.parts ++ g.0 in
    let are : AreParts bytes ps end = parts_append h.parts g.0 bytes rest end h.are (subst (λ (xs : List ℕ). AreParts xs g.0 end) (sym e) g.3) in
    let whole = parts_flat ps bytes end are in
    let first = parts_flat h.parts bytes rest h.are in
    record {
      gap = flat_map part_bytes ps;
      whole = whole;
      is = gap_is ps bytes end (list_all-append is_blank h.parts g.0 ∙ and_from _ _ h.blank g.1) are;
      long = omega (arith, ap length whole, ap length first, ap length e, length-append (flat_map part_bytes ps) end, length-append (flat_map part_bytes h.parts) rest, length-append gap end);
    }

-- white space and comments at the front change nothing
pub gap_in : (ts : List Token) (at : ℕ) (bytes rest bad : List ℕ) → IsBehindGap bytes rest → AreTokensBefore (at + (length bytes - length rest)) rest ts bad → AreTokensBefore at bytes ts bad
gap_in [] at bytes rest bad h are =
    let wide = gaps_join bytes rest are.0 bad h are.1 are.2 in
    (wide.gap, wide.whole, wide.is)
gap_in (t ∷ ts) at bytes rest bad h are =
    let cut = are.0 in
    let wide = gaps_join bytes rest cut.gap (cut.token ++ cut.rest) h are.1.whole are.1.gap in (
      record { gap = wide.gap; token = cut.token; rest = cut.rest },
      record {
        whole = wide.whole;
        gap = wide.is;
        token = are.1.token;
        start = omega (arith, are.1.start, wide.long);
        end = are.1.end;
      },
      are.2,
    )

-- a token at the front is the first
pub token_in : (kind : TokenKind) (n at : ℕ) (ts : List Token) (bytes bad : List ℕ) → IsFront bytes kind n → AreTokensBefore (at + n) (drop n bytes) ts bad → AreTokensBefore at bytes (record { kind = kind; start = at; end = at + n } ∷ ts) bad
token_in kind n at ts bytes bad front are = (
  record { gap = []; token = take n bytes; rest = drop n bytes },
  record {
    whole = sym (take-append-drop n bytes);
    gap = no_gap (take n bytes ++ drop n bytes);
    token = front.token;
    start = omega arith;
    end = omega (arith, length-take-le n bytes front.within);
  },
  are,
)

-- the tokens read, and what is left: what the text's tokens are hangs on what is left alone
pub record AreRead (text : List ℕ) (front : List Token) (rest : List ℕ) : Type 0 where
  pub stops : begins_gap rest ≡ false
  pub within : length rest ≤ length text
  pub so_far : (tail : List Token) (bad : List ℕ) → AreTokensBefore (length text - length rest) rest tail bad → AreTokensBefore 0 text (front ++ tail) bad

behind_within : (bytes rest : List ℕ) → IsBehindGap bytes rest → length rest ≤ length bytes
behind_within bytes rest h = omega (arith, ap length (parts_flat h.parts bytes rest h.are), length-append (flat_map part_bytes h.parts) rest)

pub read_none : (text rest : List ℕ) → IsBehindGap text rest → AreRead text [] rest
read_none text rest h = record {
  stops = h.stops;
  within = behind_within text rest h;
  so_far = λ tail bad are. gap_in tail 0 text rest bad h (subst (λ at. AreTokensBefore at rest tail bad) (omega arith) are);
}

pub read_more : (text : List ℕ) (front : List Token) (rest behind : List ℕ) (kind : TokenKind) (n : ℕ) → AreRead text front rest → IsFront rest kind n → IsBehindGap (drop n rest) behind
    → AreRead text (front ++ record { kind = kind; start = length text - length rest; end = length text - length rest + n } ∷ []) behind
read_more text front rest behind kind n r first h =
    let at = length text - length rest in
    let within = behind_within (drop n rest) behind h in
    record {
      stops = h.stops;
      within = omega (arith, r.within, within, length-drop n rest);
      so_far = λ tail bad are.
          let places : length text - length behind ≡ (at + n) + (length (drop n rest) - length behind) = omega (arith, r.within, within, first.within, length-drop n rest) in
          let left = gap_in tail (at + n) (drop n rest) behind bad h (subst (λ at. AreTokensBefore at behind tail bad) places are) in
          subst (λ ts. AreTokensBefore 0 text ts bad) (sym (append_assoc front _ tail)) (r.so_far _ bad (token_in kind n at tail rest bad first left));
    }

pub read_all : (text : List ℕ) (front : List Token) (rest : List ℕ) → AreRead text front rest → length rest ≡ 0 → AreTokens text front
read_all text front [] r none = subst (AreTokens text) (append-nil front) (r.so_far [] [] ([], refl, no_gap []))
read_all text front (b ∷ rest) r none = absurd (omega arith)

pub read_fails : (text : List ℕ) (front : List Token) (rest : List ℕ) (fault : TokenFault) → AreRead text front rest → IsFault rest fault → fault_at fault ≡ length text - length rest → HasTokenFault text fault
read_fails text front rest fault r bad at =
    (front, rest, subst (λ ts. AreTokensBefore 0 text ts rest) (append-nil front) (r.so_far [] rest ([], refl, no_gap rest)), bad, omega (arith, r.within, at))

-- each token takes a byte
pub rest_shorter : (kind : TokenKind) (n : ℕ) (rest behind : List ℕ) → IsFront rest kind n → IsBehindGap (drop n rest) behind → length behind < length rest
rest_shorter kind n rest behind first h = omega (arith, first.some, first.within, behind_within (drop n rest) behind h, length-drop n rest)
