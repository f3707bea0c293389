-- A text has one list of tokens, or one fault.
use Rattle.std.proofs.Common.{◌≡◌, ℕ, true, false, cond, List, [], ◌∷◌, ◌++◌, length, ℤ, None, refl, sym, ap, subst, ◌∙◌, arith}
use Rattle.std.specs.Prelude.{FitsSigned}
use Rattle.std.specs.Int.{w64}
use Rattle.std.specs.Option.{option_map_or}
use Rattle.std.specs.Str.Parse.{signed_digits_value}
use Rattle.std.proofs.lemmas.Bool.{false_from_ne_true}
use Rattle.std.proofs.lemmas.Bool.Decides.{nat_tests}
use Rattle.std.proofs.lemmas.List.{length-append}
use Rattle.cube_language.specs.declared.token.Token.{Token}
use Rattle.cube_language.specs.declared.token.TokenFault.{TokenFault}
use Rattle.cube_language.specs.declared.token.TokenFault.TheVariants.{BadByte, UnclosedText, NumberTooWide}
use Rattle.cube_language.specs.declared.token.TokenKind.{TokenKind}
use Rattle.cube_language.specs.declared.token.TokenKind.TheVariants.{Number}
use Rattle.cube_language.specs.Parts.{AreParts, IsGap}
use Rattle.cube_language.specs.Quotes.{doubled, opened}
use Rattle.cube_language.specs.Tokens.{IsNumberBefore, IsToken, AreTokensBefore, AreTokens, is_stray, IsFault, HasTokenFault, fault_at}
use Rattle.sql_words.specs.Fronts.{begins_gap, begins_word, begins_text, begins_number, begins_mark}
use Rattle.sql_words.proofs.Gaps.{gaps_agree}
use Rattle.sql_words.proofs.OneFront.{front_len, kind_at, no_gap_at, text_open, number_is, token_is, token_agrees, token_some}

-- ---- faults

record IsStray (bytes : List ℕ) : Type 0 where
  gap : begins_gap bytes ≡ false
  long : front_len bytes ≡ None

no_front : (bytes : List ℕ) → begins_word bytes ≡ false → begins_text bytes ≡ false → begins_number bytes ≡ false → begins_mark bytes ≡ false → front_len bytes ≡ None
no_front bytes word text number mark = rw (word, text, number, mark) refl

stray_is : (bytes : List ℕ) → is_stray bytes ≡ true → IsStray bytes
stray_is [] stray = absurd cc
stray_is (b ∷ []) stray =
    record {
      gap = grind (arith, nat_tests);
      long = no_front (b ∷ []) (grind (arith, nat_tests)) (grind (arith, nat_tests)) (grind (arith, nat_tests)) (grind (arith, nat_tests));
    }
stray_is (b ∷ c ∷ bytes) stray =
    record {
      gap = grind (arith, nat_tests);
      long = no_front (b ∷ c ∷ bytes) (grind (arith, nat_tests)) (grind (arith, nat_tests)) (grind (arith, nat_tests)) (grind (arith, nat_tests));
    }

-- no gap and no token begins here
record Ends (bytes : List ℕ) : Type 0 where
  stops : begins_gap bytes ≡ false
  none : (kind : TokenKind) (token rest : List ℕ) → bytes ≡ token ++ rest → IsToken token rest kind → ⊥

no_token : (bytes : List ℕ) → front_len bytes ≡ None → (kind : TokenKind) (token rest : List ℕ) → bytes ≡ token ++ rest → IsToken token rest kind → ⊥
no_token bytes none kind token rest e h = cc (none, ap front_len e, (token_is kind token rest h).long)

ends_nothing : Ends []
ends_nothing = record { stops = refl; none = λ kind token rest e h. omega (arith, token_some kind token rest h, length-append token rest, ap length e) }

number_fits : (n : ℤ) (kind : TokenKind) (token rest : List ℕ) → kind ≡ Number n → IsToken token rest kind → FitsSigned w64 n
number_fits n kind token rest is h = let token : IsToken token rest (Number n) = subst (IsToken token rest) is h in token.2

wide_is_no_token : (number rest : List ℕ) → IsNumberBefore number rest → (FitsSigned w64 (signed_digits_value 10 number) → ⊥)
    → (kind : TokenKind) (token rest' : List ℕ) → number ++ rest ≡ token ++ rest' → IsToken token rest' kind → ⊥
wide_is_no_token number rest before wide kind token rest' e h =
    let n = signed_digits_value 10 number in
    let one = number_is n number rest before refl in
    let two = token_is kind token rest' h in
    let long : length token ≡ length number = cc (one.long, two.long, ap front_len e) in
    wide (number_fits n kind token rest' (two.is ∙ (λ i. kind_at (sym e i) (long i)) ∙ sym one.is) h)

opened_is_long : (text : List ℕ) → front_len (opened text) ≡ None
opened_is_long text = rw (text_open text) refl

ends_fault : (fault : TokenFault) (bytes : List ℕ) → IsFault bytes fault → Ends bytes
ends_fault (BadByte at) bytes h = let stray = stray_is bytes h in record { stops = stray.gap; none = no_token bytes stray.long }
ends_fault (UnclosedText at) bytes h =
    record { stops = ap begins_gap h.1 ∙ no_gap_at 39 (doubled h.0) refl refl; none = no_token bytes (ap front_len h.1 ∙ opened_is_long h.0) }
ends_fault (NumberTooWide at) bytes h = record {
  stops = ap begins_gap h.2 ∙ (number_is (signed_digits_value 10 h.0) h.0 h.1 h.3 refl).starts;
  none = λ kind token rest e token_is. wide_is_no_token h.0 h.1 h.3 h.4 kind token rest (sym h.2 ∙ e) token_is;
}

-- which fault stands at the front, if one does
abbrev fault_of : List ℕ → ℕ → TokenFault
fault_of bytes at = cond (is_stray bytes) (BadByte at) (option_map_or (λ _. NumberTooWide at) (front_len bytes) (UnclosedText at))

quote_is_no_stray : (bytes : List ℕ) → is_stray (39 ∷ bytes) ≡ false
quote_is_no_stray [] = refl
quote_is_no_stray (b ∷ bytes) = refl

fault_is : (fault : TokenFault) (bytes : List ℕ) → IsFault bytes fault → fault ≡ fault_of bytes (fault_at fault)
fault_is (BadByte at) bytes h = let stray : is_stray bytes ≡ true = h in rw stray refl
fault_is (UnclosedText at) bytes h =
    let no_stray = ap is_stray h.1 ∙ quote_is_no_stray (doubled h.0) in
    let no_end = ap front_len h.1 ∙ opened_is_long h.0 in
    rw (no_stray, no_end) refl
fault_is (NumberTooWide at) bytes h =
    let long = ap front_len h.2 ∙ (number_is (signed_digits_value 10 h.0) h.0 h.1 h.3 refl).long in
    let no_stray = false_from_ne_true (is_stray bytes) (λ stray. cc (long, (stray_is bytes stray).long)) in
    rw (no_stray, long) refl

-- ---- lists of tokens

record IsSameRest (gap rest gap' rest' : List ℕ) : Type 0 where
  same : rest ≡ rest'
  long : length gap ≡ length gap'

same_rest : (bytes gap rest gap' rest' : List ℕ) → bytes ≡ gap ++ rest → bytes ≡ gap' ++ rest' → IsGap gap rest → IsGap gap' rest' → begins_gap rest ≡ false → begins_gap rest' ≡ false → IsSameRest gap rest gap' rest'
same_rest bytes gap rest gap' rest' e e' g g' s s' =
    let are : AreParts bytes g.0 rest = subst (λ (xs : List ℕ). AreParts xs g.0 rest) (sym e) g.3 in
    let are' : AreParts bytes g'.0 rest' = subst (λ (xs : List ℕ). AreParts xs g'.0 rest') (sym e') g'.3 in
    let same = gaps_agree g.0 g'.0 bytes rest rest' g.1 g'.1 are are' s s' in
    record { same = same; long = omega (arith, ap length same, ap length e, ap length e', length-append gap rest, length-append gap' rest') }

-- where no token follows, the tokens before and what follows are determined
tokens_agree : (ts us : List Token) (at : ℕ) (bytes r s : List ℕ) → AreTokensBefore at bytes ts r → AreTokensBefore at bytes us s → Ends r → Ends s → (ts ≡ us) × (r ≡ s)
tokens_agree [] [] at bytes r s a b er es = (refl, (same_rest bytes a.0 r b.0 s a.1 b.1 a.2 b.2 er.stops es.stops).same)
tokens_agree [] (u ∷ us) at bytes r s a b er es =
    let cut = b.0 in
    let starts = (token_is u.kind cut.token cut.rest b.1.token).starts in
    absurd (er.none u.kind cut.token cut.rest (same_rest bytes a.0 r cut.gap (cut.token ++ cut.rest) a.1 b.1.whole a.2 b.1.gap er.stops starts).same b.1.token)
tokens_agree (t ∷ ts) [] at bytes r s a b er es =
    let cut = a.0 in
    let starts = (token_is t.kind cut.token cut.rest a.1.token).starts in
    absurd (es.none t.kind cut.token cut.rest (same_rest bytes b.0 s cut.gap (cut.token ++ cut.rest) b.1 a.1.whole b.2 a.1.gap es.stops starts).same a.1.token)
tokens_agree (t ∷ ts) (u ∷ us) at bytes r s a b er es =
    let x = a.0 in
    let y = b.0 in
    let same = same_rest bytes x.gap (x.token ++ x.rest) y.gap (y.token ++ y.rest) a.1.whole b.1.whole a.1.gap b.1.gap (token_is t.kind x.token x.rest a.1.token).starts (token_is u.kind y.token y.rest b.1.token).starts in
    let token = token_agrees t.kind u.kind x.token y.token x.rest y.rest a.1.token b.1.token same.same in
    let start : t.start ≡ u.start = omega (arith, a.1.start, b.1.start, same.long) in
    let end : t.end ≡ u.end = omega (arith, a.1.end, b.1.end, start, ap length token.0) in
    let first : t ≡ u = λ i. record { kind = token.2 i; start = start i; end = end i } in
    let left : AreTokensBefore u.end y.rest ts r = subst (λ (xs : List ℕ). AreTokensBefore u.end xs ts r) token.1 (subst (λ at. AreTokensBefore at x.rest ts r) end a.2) in
    let others = tokens_agree ts us u.end y.rest r s left b.2 er es in
    ((λ i. first i ∷ others.0 i), others.1)

pub tokens_are_one : (text : List ℕ) (a b : List Token) → AreTokens text a → AreTokens text b → a ≡ b
tokens_are_one text a b h k = (tokens_agree a b 0 text [] [] h k ends_nothing ends_nothing).0

nothing_is_no_fault : (fault : TokenFault) → IsFault [] fault → ⊥
nothing_is_no_fault (BadByte at) h = cc h
nothing_is_no_fault (UnclosedText at) h = cc h.1
nothing_is_no_fault (NumberTooWide at) h = cc (ap front_len h.2, (number_is (signed_digits_value 10 h.0) h.0 h.1 h.3 refl).long)

pub tokens_or_fault : (text : List ℕ) (a : List Token) (fault : TokenFault) → AreTokens text a → HasTokenFault text fault → ⊥
tokens_or_fault text a fault h k =
    let none = (tokens_agree a k.0 0 text [] k.1 h k.2 ends_nothing (ends_fault fault k.1 k.3)).1 in
    nothing_is_no_fault fault (subst (λ (bytes : List ℕ). IsFault bytes fault) (sym none) k.3)

pub faults_are_one : (text : List ℕ) (f g : TokenFault) → HasTokenFault text f → HasTokenFault text g → f ≡ g
faults_are_one text f g h k =
    let bad = (tokens_agree h.0 k.0 0 text h.1 k.1 h.2 k.2 (ends_fault f h.1 h.3) (ends_fault g k.1 k.3)).1 in
    let at : fault_at f ≡ fault_at g = omega (arith, h.4, k.4, ap length bad) in
    fault_is f h.1 h.3 ∙ (λ i. fault_of (bad i) (at i)) ∙ sym (fault_is g k.1 k.3)
