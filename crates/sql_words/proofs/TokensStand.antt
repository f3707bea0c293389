-- Where the tokens of a text stand in it, and that the text may be cut there.
use Rattle.std.proofs.Common.{◌≡◌, ℕ, ◌+◌, ◌-◌, ◌<◌, ◌≤◌, true, List, [], ◌∷◌, ◌++◌, length, get_or, take, drop, IsUtf8, refl, sym, ap, subst, ◌∙◌, arith}
use Rattle.std.specs.Prelude.{All}
use Rattle.std.specs.List.{list_all}
use Rattle.std.specs.Str.{IsAscii, IsCharBoundary}
use Rattle.std.proofs.lemmas.Bool.{and_parts}
use Rattle.std.proofs.lemmas.Bool.Decides.{nat_tests}
use Rattle.std.proofs.lemmas.List.{drop-drop, drop_at, get_or-drop, get_or-take, get_or_at, length-append, length-drop, length-take-le, take_at}
use Rattle.std.proofs.lemmas.List.Elements.{All-nil, All-cons}
use Rattle.std.proofs.lemmas.Str.{IsCharBoundary-before_ascii, IsCharBoundary-after_ascii}
use Rattle.std.proofs.lemmas.Str.Ascii.{IsAscii-nil, IsAscii-cons}
use Rattle.cube_language.specs.Names.{begins_name, continues_name}
use Rattle.cube_language.specs.declared.token.Token.{Token}
use Rattle.cube_language.specs.declared.token.TokenKind.{TokenKind}
use Rattle.cube_language.specs.declared.token.TokenKind.TheVariants.{Word, Number, Text, Open, Close, Comma, Equals, Star}
use Rattle.cube_language.specs.Quotes.{doubled, quoted}
use Rattle.cube_language.specs.Tokens.{IsToken, Cut, Begins, AreTokensBefore, AreTokens, token_bytes}
use Rattle.sql_words.specs.Places.{StandsIn, RiseFrom, StandInOrder}
use Rattle.sql_words.proofs.Numbers.{number_is_ascii}
use Rattle.sql_words.proofs.OneFront.{token_some}

-- the first token stands in the text, and what follows it is what is left of the text
record IsFirst (text : List ℕ) (at : ℕ) (t : Token) (rest : List ℕ) : Type 0 where
  stands : StandsIn text t
  later : at ≤ t.start
  left : rest ≡ drop t.end text

first_is : (text : List ℕ) (at : ℕ) (bytes : List ℕ) (t : Token) (cut : Cut) → bytes ≡ drop at text → at ≤ length text → Begins at bytes t cut → IsFirst text at t cut.rest
first_is text at bytes t cut e within b =
    let some = token_some t.kind cut.token cut.rest b.token in
    let behind : drop t.start text ≡ cut.token ++ cut.rest =
    ap (λ n. drop n text) b.start ∙ sym (drop-drop (length cut.gap) at text) ∙ ap (drop (length cut.gap)) (sym e ∙ b.whole) ∙ drop_at cut.gap (cut.token ++ cut.rest) (length cut.gap) refl in
    let long : t.end - t.start ≡ length cut.token = omega (arith, b.end) in
    let token : token_bytes text t ≡ cut.token = (λ i. take (long i) (behind i)) ∙ take_at cut.token cut.rest (length cut.token) refl in
    let left : drop t.end text ≡ cut.rest = ap (λ n. drop n text) b.end ∙ sym (drop-drop (length cut.token) t.start text) ∙ ap (drop (length cut.token)) behind ∙ drop_at cut.token cut.rest (length cut.token) refl in
    record {
      stands = record {
        some = omega (arith, b.end);
        within = omega (arith, b.start, b.end, ap length e, ap length b.whole, length-drop at text, length-append cut.gap (cut.token ++ cut.rest), length-append cut.token cut.rest);
        token = rw (token, left) b.token;
      };
      later = omega (arith, b.start);
      left = sym left;
    }

stand_from : (ts : List Token) (text : List ℕ) (at : ℕ) (bytes rest : List ℕ) → bytes ≡ drop at text → at ≤ length text → AreTokensBefore at bytes ts rest → All (StandsIn text) ts × RiseFrom at ts
stand_from [] text at bytes rest e within h = (All-nil (StandsIn text), tt)
stand_from (t ∷ ts) text at bytes rest e within h =
    let first = first_is text at bytes t h.0 e within h.1 in
    let more = stand_from ts text t.end h.0.rest rest first.left first.stands.within h.2 in
    (All-cons (StandsIn text) t ts first.stands more.0, (first.later, more.1))

pub tokens_stand : (text : List ℕ) (tokens : List Token) → AreTokens text tokens → StandInOrder text tokens
tokens_stand text tokens h = let all = stand_from tokens text 0 text [] refl (omega arith) h in record { stand = all.0; rise = all.1 }

-- ---- a token begins and ends with a byte of ASCII

record HasAsciiEnds (token : List ℕ) : Type 0 where
  first : get_or token 0 0 < 128
  last : get_or token (length token - 1) 0 < 128

ascii_ends : (token : List ℕ) → IsAscii token → HasAsciiEnds token
ascii_ends token h = record { first = h 0; last = h (length token - 1) }

word_is_ascii : (bytes : List ℕ) → list_all continues_name bytes ≡ true → IsAscii bytes
word_is_ascii [] all = IsAscii-nil
word_is_ascii (b ∷ bytes) all =
    let both = and_parts (continues_name b) (list_all continues_name bytes) all in
    let goes : continues_name b ≡ true = both.0 in
    IsAscii-cons b bytes (grind (arith, nat_tests)) (word_is_ascii bytes both.1)

token_ends : (kind : TokenKind) (token rest : List ℕ) → IsToken token rest kind → HasAsciiEnds token
token_ends Word [] rest h = absurd (cc h.0)
token_ends Word (b ∷ token) rest h =
    let both = and_parts (begins_name b) (list_all continues_name token) h.0 in
    let name : begins_name b ≡ true = both.0 in
    ascii_ends (b ∷ token) (IsAscii-cons b token (grind (arith, nat_tests)) (word_is_ascii token both.1))
token_ends (Number n) token rest h = ascii_ends token (number_is_ascii token h.0.0)
token_ends Text token rest h =
    let last : get_or (quoted h.0) (length (quoted h.0) - 1) 0 ≡ 39 = get_or_at (39 ∷ doubled h.0) 39 [] 0 _ (omega (arith, length-append (doubled h.0) (39 ∷ []))) in
    rw h.1 (record { first = omega arith; last = omega (arith, last) })
token_ends Open token rest h = rw h (record { first = omega arith; last = omega arith })
token_ends Close token rest h = rw h (record { first = omega arith; last = omega arith })
token_ends Comma token rest h = rw h (record { first = omega arith; last = omega arith })
token_ends Equals token rest h = rw h (record { first = omega arith; last = omega arith })
token_ends Star token rest h = rw h (record { first = omega arith; last = omega arith })

-- a byte of a token is one of the text
token_byte : (text : List ℕ) (t : Token) (k : ℕ) → k < t.end - t.start → get_or (token_bytes text t) k 0 ≡ get_or text (t.start + k) 0
token_byte text t k inside = get_or-take (t.end - t.start) (drop t.start text) k 0 inside ∙ get_or-drop t.start text k 0

token_long : (text : List ℕ) (t : Token) → StandsIn text t → length (token_bytes text t) ≡ t.end - t.start
token_long text t h = length-take-le (t.end - t.start) (drop t.start text) (omega (arith, h.some, h.within, length-drop t.start text))

pub start_is_boundary : (text : List ℕ) (t : Token) → StandsIn text t → IsCharBoundary text t.start
start_is_boundary text t h =
    let ends = token_ends t.kind (token_bytes text t) (drop t.end text) h.token in
    let byte : get_or (token_bytes text t) 0 0 ≡ get_or text t.start 0 = token_byte text t 0 (omega (arith, h.some)) ∙ ap (λ n. get_or text n 0) (omega arith) in
    IsCharBoundary-before_ascii text t.start (omega (arith, h.some, h.within)) (omega (arith, ends.first, byte))

pub end_is_boundary : (text : List ℕ) (t : Token) → IsUtf8 text → StandsIn text t → IsCharBoundary text t.end
end_is_boundary text t utf8 h =
    let ends = token_ends t.kind (token_bytes text t) (drop t.end text) h.token in
    let long = token_long text t h in
    let last : get_or (token_bytes text t) (length (token_bytes text t) - 1) 0 ≡ get_or text (t.end - 1) 0 =
    ap (λ n. get_or (token_bytes text t) (n - 1) 0) long ∙ token_byte text t (t.end - t.start - 1) (omega (arith, h.some)) ∙ ap (λ n. get_or text n 0) (omega (arith, h.some)) in
    let place : (t.end - 1) + 1 ≡ t.end = omega (arith, h.some) in
    subst (IsCharBoundary text) place (IsCharBoundary-after_ascii text (t.end - 1) utf8 (omega (arith, h.some, h.within)) (omega (arith, ends.last, last)))

pub tokens_cut : (text : List ℕ) (t : Token) → IsUtf8 text → StandsIn text t → IsCharBoundary text t.start × IsCharBoundary text t.end
tokens_cut text t utf8 h = (start_is_boundary text t h, end_is_boundary text t utf8 h)
