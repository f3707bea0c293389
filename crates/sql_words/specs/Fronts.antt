-- What stands at the front of bytes, and how far it reaches.
use Rattle.std.specs.Prelude.{◌≡◌, ℕ, ◌+◌, ◌<◌, ◌≤◌, min, Bool, false, not, ◌||◌, ◌&&◌, ◌==◌, List, [], ◌∷◌, length, take, drop, ℤ, FitsSigned, IsTrue, if◌then◌else◌}
use Rattle.std.specs.Char.{is_ascii_digit}
use Rattle.std.specs.Int.{w64}
use Rattle.std.specs.List.{list_all, prefix_len}
use Rattle.std.specs.Str.Parse.{signed_digits_value}
use Rattle.cube_language.specs.Names.{begins_name}
use Rattle.cube_language.specs.declared.token.TokenFault.TheVariants.{NumberTooWide}
use Rattle.cube_language.specs.declared.token.TokenKind.{TokenKind}
use Rattle.cube_language.specs.Parts.{ScriptPart, is_space, is_no_quote, stays_on_line, is_blank, AreParts}
use Rattle.cube_language.specs.Pieces.{is_end}
use Rattle.cube_language.specs.Quotes.{opened}
use Rattle.cube_language.specs.Tokens.{IsFault, IsToken, is_mark}

-- Two dashes begin a comment.
abbrev pub begins_comment : List ℕ → Bool
begins_comment [] = false
begins_comment (byte ∷ []) = false
begins_comment (byte ∷ next ∷ bytes) = byte == 45 && next == 45

-- White space or a comment begins here.
abbrev pub begins_gap : List ℕ → Bool
begins_gap [] = false
begins_gap (byte ∷ bytes) = is_space byte || begins_comment (byte ∷ bytes)

-- How many bytes a text in quotes has behind its first quote: up to the next one and with it, or all where
-- none comes.
abbrev pub quoted_len : List ℕ → ℕ
quoted_len bytes = min (prefix_len is_no_quote bytes + 1) (length bytes)

-- How many bytes the part at the front has.
abbrev pub part_len : List ℕ → ℕ
part_len [] = 0
part_len (byte ∷ bytes) =
    if byte == 39
    then 1 + quoted_len bytes
    else (if begins_comment (byte ∷ bytes) then prefix_len stays_on_line (byte ∷ bytes) else 1)

-- The bytes are white space and comments, and then the rest, which begins with neither.
pub record IsBehindGap (bytes rest : List ℕ) : Type 0 where
  pub parts : List ScriptPart
  pub blank : IsTrue (list_all is_blank parts)
  pub are : AreParts bytes parts rest
  pub stops : begins_gap rest ≡ false

-- A statement goes on: the script does not end, and no semicolon stands here.
abbrev pub goes_on : List ℕ → Bool
goes_on [] = false
goes_on (byte ∷ bytes) = not (byte == 59)

-- A byte that is a part by itself whatever comes next, and ends no statement.
abbrev pub is_plain : ℕ → Bool
is_plain byte = not (byte == 59 || (byte == 39 || byte == 45))

-- A part that does not end a statement.
abbrev pub is_inside : ScriptPart → Bool
is_inside part = not (is_end part)

-- The bytes are parts that end no statement, and then the rest, where none goes on.
pub record IsBehindBody (bytes rest : List ℕ) : Type 0 where
  pub parts : List ScriptPart
  pub inside : IsTrue (list_all is_inside parts)
  pub are : AreParts bytes parts rest
  pub stops : goes_on rest ≡ false

-- The first byte passes a test.
abbrev pub first_passes : (ℕ → Bool) → List ℕ → Bool
first_passes test [] = false
first_passes test (byte ∷ bytes) = test byte

-- A word begins with its first byte, a text with a quote, and a mark is one byte.
abbrev pub begins_word : List ℕ → Bool
begins_word bytes = first_passes begins_name bytes

abbrev pub begins_text : List ℕ → Bool
begins_text bytes = first_passes (λ byte. byte == 39) bytes

abbrev pub begins_mark : List ℕ → Bool
begins_mark bytes = first_passes is_mark bytes

-- A number begins with a digit, or with a minus sign before one.
abbrev pub begins_number : List ℕ → Bool
begins_number [] = false
begins_number (byte ∷ bytes) = if byte == 45 then first_passes is_ascii_digit bytes else is_ascii_digit byte

-- How many bytes stand for the next byte of a text behind its first quote: two quotes for a quote, and none
-- where the text ends.
abbrev pub letter_len : List ℕ → ℕ
letter_len [] = 0
letter_len (byte ∷ bytes) = if byte == 39 then (if begins_text bytes then 2 else 0) else 1

-- The bytes are a text behind its first quote, which does not end.
abbrev pub IsOpened : List ℕ → Type 0
IsOpened bytes = (text : List ℕ) × (bytes ≡ opened text)

-- How many bytes the number at the front has.
abbrev pub number_len : List ℕ → ℕ
number_len [] = 0
number_len (byte ∷ bytes) =
    if byte == 45 then 1 + prefix_len is_ascii_digit bytes else prefix_len is_ascii_digit (byte ∷ bytes)

-- A number has this value, of 64 bits.
abbrev pub HasValue : List ℕ → ℤ → Type 0
HasValue number n = (signed_digits_value 10 number ≡ n) × FitsSigned w64 n

-- A number that does not fit 64 bits begins here, wherever this is.
abbrev pub BeginsWideNumber : List ℕ → Type 0
BeginsWideNumber bytes = IsFault bytes (NumberTooWide 0)

-- A token of this kind stands at the front, and has so many bytes.
pub record IsFront (bytes : List ℕ) (kind : TokenKind) (n : ℕ) : Type 0 where
  pub some : 0 < n
  pub within : n ≤ length bytes
  pub token : IsToken (take n bytes) (drop n bytes) kind
