-- The tokens of printed symbols say the symbols.
use Rattle.std.proofs.Common.{◌≡◌, ℕ, ◌+◌, ◌-◌, Bool, true, false, List, [], ◌∷◌, ◌++◌, length, take, drop, codes, refl, sym, ap, subst, ◌∙◌, append_assoc, arith, ◌⊎◌, inl, inr, if◌then◌else◌}
use Rattle.std.specs.List.{AllByRecursion}
use Rattle.std.proofs.lemmas.Bool.{cases_Bool}
use Rattle.std.proofs.lemmas.List.{append-nil, length-append, take_at, drop_at}
use Rattle.cube_language.specs.declared.token.Token.{Token}
use Rattle.cube_language.specs.Parts.{Other, IsGap}
use Rattle.cube_language.specs.Printed.{symbol_text, touch, is_aggregate, gap, spaced_behind, spaced}
use Rattle.cube_language.specs.declared.symbol.Symbol.{Symbol}
use Rattle.cube_language.specs.declared.symbol.Symbol.TheVariants.{Keyword, Word, Number, Text, Open, Close, Comma, Equals, Star}
use Rattle.cube_language.specs.Symbols.{symbol_in, symbol_of, symbols_of}
use Rattle.cube_language.specs.Tokens.{Begins, AreTokensBefore, AreTokens, token_bytes}
use Rattle.sql_tree.proofs.SymbolTexts.{IsSound, kind_of, AreEnded, Ends, is_end, text_says, text_is_token}

-- ---- gaps

-- Nothing, or one space.
abbrev IsSpace : List ℕ → Type 0
IsSpace space = (space ≡ []) ⊎ (space ≡ codes " ")

gap_is_space : (symbol next : Symbol) → IsSpace (gap symbol next)
gap_is_space symbol next =
    elim (cases_Bool (touch symbol next)) [
      | inl touching ↦ inl (rw touching refl)
      | inr apart ↦ inr (rw apart refl)
    ]

no_gap : (rest : List ℕ) → IsGap [] rest
no_gap rest = ([], refl, refl, refl)

one_gap : (rest : List ℕ) → IsGap (codes " ") rest
one_gap rest = (Other 32 ∷ [], refl, refl, (rest, refl, (λ e. omega arith, λ e. absurd (omega arith)), refl))

space_is_gap : (space rest : List ℕ) → IsSpace space → IsGap space rest
space_is_gap space rest is =
    elim is [
      | inl none ↦ subst (λ (g : List ℕ). IsGap g rest) (sym none) (no_gap rest)
      | inr one ↦ subst (λ (g : List ℕ). IsGap g rest) (sym one) (one_gap rest)
    ]

-- ---- what stands behind a symbol

-- a mark ends what stands before it
mark_ends : (mark : Symbol) (byte : ℕ) (symbols : List Symbol) → symbol_text mark ≡ byte ∷ [] → is_end byte ≡ true → AreEnded (spaced (mark ∷ symbols))
mark_ends mark byte symbols text end = rw text end

open_ends : (touching : Bool) (symbols : List Symbol) → AreEnded ((if touching then [] else codes " ") ++ spaced (Open ∷ symbols))
open_ends true symbols = mark_ends Open 40 symbols refl refl
open_ends false symbols = refl

next_ends : (symbol next : Symbol) (symbols : List Symbol) → Ends symbol (gap symbol next ++ spaced (next ∷ symbols))
next_ends (Keyword k) Open symbols = open_ends (is_aggregate k) symbols
next_ends (Keyword k) Close symbols = mark_ends Close 41 symbols refl refl
next_ends (Keyword k) Comma symbols = mark_ends Comma 44 symbols refl refl
next_ends (Word word) Close symbols = mark_ends Close 41 symbols refl refl
next_ends (Word word) Comma symbols = mark_ends Comma 44 symbols refl refl
next_ends (Number n) Close symbols = mark_ends Close 41 symbols refl refl
next_ends (Number n) Comma symbols = mark_ends Comma 44 symbols refl refl
next_ends (Text text) Close symbols = mark_ends Close 41 symbols refl refl
next_ends (Text text) Comma symbols = mark_ends Comma 44 symbols refl refl
next_ends Open next symbols = tt
next_ends Close next symbols = tt
next_ends Comma next symbols = tt
next_ends Equals next symbols = tt
next_ends Star next symbols = tt
next_ends symbol next symbols = refl

behind_ends : (symbol : Symbol) (symbols : List Symbol) → Ends symbol (spaced_behind symbol symbols)
behind_ends (Keyword k) [] = tt
behind_ends (Word word) [] = tt
behind_ends (Number n) [] = tt
behind_ends (Text text) [] = tt
behind_ends Open [] = tt
behind_ends Close [] = tt
behind_ends Comma [] = tt
behind_ends Equals [] = tt
behind_ends Star [] = tt
behind_ends symbol (next ∷ symbols) = next_ends symbol next symbols

-- ---- the tokens

abbrev token_at : ℕ → Symbol → Token
token_at at symbol = record { kind = kind_of symbol; start = at; end = at + length (symbol_text symbol) }

-- The tokens of printed symbols, of which the first has this place.
abbrev printed_tokens : ℕ → List Symbol → List Token
printed_tokens at [] = []
printed_tokens at (symbol ∷ []) = token_at at symbol ∷ []
printed_tokens at (symbol ∷ next ∷ symbols) = token_at at symbol ∷ printed_tokens (at + length (symbol_text symbol) + length (gap symbol next)) (next ∷ symbols)

begins : (place : ℕ) (space : List ℕ) (symbol : Symbol) (symbols : List Symbol) → IsSpace space → IsSound symbol
    → Begins place (space ++ spaced (symbol ∷ symbols)) (token_at (place + length space) symbol) (record { gap = space; token = symbol_text symbol; rest = spaced_behind symbol symbols })
begins place space symbol symbols is sound = record {
  whole = refl;
  gap = space_is_gap space (symbol_text symbol ++ spaced_behind symbol symbols) is;
  token = text_is_token symbol (spaced_behind symbol symbols) sound (behind_ends symbol symbols);
  start = refl;
  end = refl;
}

are_tokens : (place : ℕ) (space : List ℕ) (symbol : Symbol) (symbols : List Symbol) → IsSpace space → AllByRecursion IsSound (symbol ∷ symbols) → AreTokensBefore place (space ++ spaced (symbol ∷ symbols)) (printed_tokens (place + length space) (symbol ∷ symbols)) []
are_tokens place space symbol [] is sound = (record { gap = space; token = symbol_text symbol; rest = [] }, begins place space symbol [] is sound.0, ([], refl, no_gap []))
are_tokens place space symbol (next ∷ symbols) is sound =
    (record { gap = space; token = symbol_text symbol; rest = spaced_behind symbol (next ∷ symbols) }, begins place space symbol (next ∷ symbols) is sound.0, are_tokens (place + length space + length (symbol_text symbol)) (gap symbol next) next symbols (gap_is_space symbol next) sound.1)

-- ---- what they say

token_says : (text before : List ℕ) (symbol : Symbol) (behind : List ℕ) → text ≡ before ++ (symbol_text symbol ++ behind) → IsSound symbol → symbol_of text (token_at (length before) symbol) ≡ symbol
token_says text before symbol behind parts sound =
    let k = length (symbol_text symbol) in
    let long : k ≡ length before + k - length before = omega arith in
    let rest : drop (length before) text ≡ symbol_text symbol ++ behind = ap (drop (length before)) parts ∙ drop_at before (symbol_text symbol ++ behind) (length before) refl in
    let bytes : token_bytes text (token_at (length before) symbol) ≡ symbol_text symbol = ap (take (length before + k - length before)) rest ∙ take_at (symbol_text symbol) behind (length before + k - length before) long in
    ap (λ bs. symbol_in bs (kind_of symbol)) bytes ∙ text_says symbol sound

tokens_say : (text before : List ℕ) (at : ℕ) (symbols : List Symbol) → at ≡ length before → text ≡ before ++ spaced symbols → AllByRecursion IsSound symbols → symbols_of text (printed_tokens at symbols) ≡ symbols
tokens_say text before at [] e parts sound = refl
tokens_say text before at (symbol ∷ []) e parts sound =
    let one = token_says text before symbol [] parts sound.0 in
    rw e (ap (λ s. s ∷ []) one)
tokens_say text before at (symbol ∷ next ∷ symbols) e parts sound =
    let one = token_says text before symbol (spaced_behind symbol (next ∷ symbols)) parts sound.0 in
    let later = before ++ (symbol_text symbol ++ gap symbol next) in
    let place : at + length (symbol_text symbol) + length (gap symbol next) ≡ length later = omega (arith, e, length-append before (symbol_text symbol ++ gap symbol next), length-append (symbol_text symbol) (gap symbol next)) in
    let regrouped : text ≡ later ++ spaced (next ∷ symbols) = parts ∙ simp append_assoc in
    let more = tokens_say text later (at + length (symbol_text symbol) + length (gap symbol next)) (next ∷ symbols) place regrouped sound.1 in
    let first : symbol_of text (token_at at symbol) ≡ symbol = rw e one in
    ap (λ s. s ∷ symbols_of text (printed_tokens (at + length (symbol_text symbol) + length (gap symbol next)) (next ∷ symbols))) first ∙ ap (λ ss. symbol ∷ ss) more

-- Symbols, printed, have tokens that say them.
pub record HasTokens (symbols : List Symbol) : Type 0 where
  pub tokens : List Token
  pub are : AreTokens (spaced symbols) tokens
  pub say : symbols_of (spaced symbols) tokens ≡ symbols

pub printed_has_tokens : (symbols : List Symbol) → AllByRecursion IsSound symbols → HasTokens symbols
printed_has_tokens [] sound = record { tokens = []; are = ([], refl, no_gap []); say = refl }
printed_has_tokens (symbol ∷ symbols) sound = record {
  tokens = printed_tokens (0 + 0) (symbol ∷ symbols);
  are = are_tokens 0 [] symbol symbols (inl refl) sound;
  say = tokens_say (spaced (symbol ∷ symbols)) [] (0 + 0) (symbol ∷ symbols) refl refl sound;
}
