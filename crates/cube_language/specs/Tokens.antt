-- The tokens of a statement's text, and the first fault among them.
-- Source: this project's own.
use Rattle.std.specs.Prelude.{◌≡◌, ℕ, ◌+◌, ◌-◌, Bool, false, not, ◌&&◌, ◌||◌, ◌==◌, List, [], ◌∷◌, ◌++◌, length, take, drop, codes, IsTrue, FitsSigned, if◌then◌else◌}
use Rattle.std.specs.Char.{is_ascii_digit}
use Rattle.std.specs.Int.{w64}
use Rattle.std.specs.Str.{all_ascii_digits}
use Rattle.std.specs.Str.Parse.{signed_digits_value}
use Rattle.cube_language.specs.Names.{begins_name, continues_name, is_word}
use Rattle.cube_language.specs.declared.token.Token.{Token}
use Rattle.cube_language.specs.declared.token.TokenFault.{TokenFault}
use Rattle.cube_language.specs.declared.token.TokenFault.TheVariants.{BadByte, UnclosedText, NumberTooWide}
use Rattle.cube_language.specs.declared.token.TokenKind.{TokenKind}
use Rattle.cube_language.specs.declared.token.TokenKind.TheVariants.{Word, Number, Text, Open, Close, Comma, Equals, Star}
use Rattle.cube_language.specs.Parts.{is_space, EndsRun, IsGap}
use Rattle.cube_language.specs.Quotes.{opened, quoted}

-- One digit at least, and digits alone.
abbrev pub is_digits : List ℕ → Bool
is_digits bytes = not (length bytes == 0) && all_ascii_digits bytes

-- Digits, perhaps directly behind a minus sign.
abbrev pub is_number : List ℕ → Bool
is_number [] = false
is_number (byte ∷ bytes) = if byte == 45 then is_digits bytes else is_digits (byte ∷ bytes)

-- The bytes are a number before the rest, which does not prolong it.
abbrev pub IsNumberBefore : List ℕ → List ℕ → Type 0
IsNumberBefore bytes rest = IsTrue (is_number bytes) × EndsRun is_ascii_digit rest

-- The bytes are a token of this kind, and the rest does not prolong it.
abbrev pub IsToken : List ℕ → List ℕ → TokenKind → Type 0
IsToken bytes rest Word = IsTrue (is_word bytes) × EndsRun continues_name rest
IsToken bytes rest (Number n) = IsNumberBefore bytes rest × (signed_digits_value 10 bytes ≡ n) × FitsSigned w64 n
IsToken bytes rest Text = (text : List ℕ) × (bytes ≡ quoted text) × EndsRun (λ byte. byte == 39) rest
IsToken bytes rest Open = bytes ≡ codes "("
IsToken bytes rest Close = bytes ≡ codes ")"
IsToken bytes rest Comma = bytes ≡ codes ","
IsToken bytes rest Equals = bytes ≡ codes "="
IsToken bytes rest Star = bytes ≡ codes "*"

-- Bytes cut into white space and comments, a token and the rest.
pub record Cut : Type 0 where
  pub gap : List ℕ
  pub token : List ℕ
  pub rest : List ℕ

-- The bytes, of which the first has this place, begin with the token.
pub record Begins (at : ℕ) (bytes : List ℕ) (t : Token) (cut : Cut) : Type 0 where
  pub whole : bytes ≡ cut.gap ++ (cut.token ++ cut.rest)
  pub gap : IsGap cut.gap (cut.token ++ cut.rest)
  pub token : IsToken cut.token cut.rest t.kind
  pub start : t.start ≡ at + length cut.gap
  pub end : t.end ≡ t.start + length cut.token

-- The bytes, of which the first has this place, are these tokens, then white space and comments, then the rest.
abbrev pub AreTokensBefore : ℕ → List ℕ → List Token → List ℕ → Type 0
AreTokensBefore at bytes [] rest = (gap : List ℕ) × (bytes ≡ gap ++ rest) × IsGap gap rest
AreTokensBefore at bytes (t ∷ tokens) rest = (cut : Cut) × Begins at bytes t cut
    × AreTokensBefore t.end cut.rest tokens rest

-- The text is these tokens, with white space and comments before, between and behind them.
abbrev pub AreTokens : List ℕ → List Token → Type 0
AreTokens text tokens = AreTokensBefore 0 text tokens []

-- The bytes of a token.
abbrev pub token_bytes : List ℕ → Token → List ℕ
token_bytes text t = take (t.end - t.start) (drop t.start text)

-- A byte that is a token by itself.
abbrev pub is_mark : ℕ → Bool
is_mark byte = byte == 40 || (byte == 41 || (byte == 44 || (byte == 61 || byte == 42)))

-- No token, no white space and no comment begins here: a dash goes before a digit or a dash, and any other
-- byte has a token that it begins.
abbrev pub is_stray : List ℕ → Bool
is_stray [] = false
is_stray (byte ∷ []) = not (is_space byte
    || (begins_name byte || (is_ascii_digit byte || (is_mark byte || byte == 39))))
is_stray (byte ∷ next ∷ bytes) =
    if byte == 45 then not (is_ascii_digit next || next == 45)
    else not (is_space byte || (begins_name byte || (is_ascii_digit byte || (is_mark byte || byte == 39))))

-- The place of a fault.
abbrev pub fault_at : TokenFault → ℕ
fault_at (BadByte at) = at
fault_at (UnclosedText at) = at
fault_at (NumberTooWide at) = at

-- What stands at the front is this fault.
abbrev pub IsFault : List ℕ → TokenFault → Type 0
IsFault bytes (BadByte at) = IsTrue (is_stray bytes)
IsFault bytes (UnclosedText at) = (text : List ℕ) × (bytes ≡ opened text)
IsFault bytes (NumberTooWide at) =
    (number rest : List ℕ) × (bytes ≡ number ++ rest) × IsNumberBefore number rest
    × (FitsSigned w64 (signed_digits_value 10 number) → ⊥)

-- The first fault of a text: behind some tokens no token stands, but this.
abbrev pub HasTokenFault : List ℕ → TokenFault → Type 0
HasTokenFault text fault =
    (tokens : List Token) × (bad : List ℕ) × AreTokensBefore 0 text tokens bad × IsFault bad fault
    × (fault_at fault + length bad ≡ length text)
