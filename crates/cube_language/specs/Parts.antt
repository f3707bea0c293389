-- The parts of a script: comments, texts in quotes, and bytes by themselves.
-- Source: comments and quotes are those of SQL; where they end is this project's own.
use Rattle.std.specs.Prelude.{◌≡◌, ◌≢◌, ℕ, Bool, true, false, not, ◌||◌, ◌==◌, ◌⊎◌, List, [], ◌∷◌, ◌++◌, codes, IsTrue}
use Rattle.std.specs.List.{list_all, flat_map}

-- White space is space, tab, CR and LF.
abbrev pub is_space : ℕ → Bool
is_space byte = byte == 32 || (byte == 9 || (byte == 13 || byte == 10))

-- What follows does not go on with a byte of this kind.
abbrev pub EndsRun : (ℕ → Bool) → List ℕ → Type 0
EndsRun goes_on [] = Unit {0}
EndsRun goes_on (byte ∷ bytes) = goes_on byte ≡ false

-- A byte that does not end a line.
abbrev pub stays_on_line : ℕ → Bool
stays_on_line byte = not (byte == 10)

-- A byte that is no quote.
abbrev pub is_no_quote : ℕ → Bool
is_no_quote byte = not (byte == 39)

-- A part of a script.
pub data ScriptPart : Type 0 where
  Comment : List ℕ → ScriptPart
  Quoted : List ℕ → ScriptPart
  Other : ℕ → ScriptPart

-- The bytes of a part.
abbrev pub part_bytes : ScriptPart → List ℕ
part_bytes (Comment bytes) = bytes
part_bytes (Quoted bytes) = bytes
part_bytes (Other byte) = byte ∷ []

-- A comment is two dashes and what stands behind them on their line.
abbrev pub IsComment : List ℕ → List ℕ → Type 0
IsComment bytes rest =
    (line : List ℕ) × (bytes ≡ codes "--" ++ line) × IsTrue (list_all stays_on_line line) × EndsRun stays_on_line rest

-- A text in quotes goes from a quote to the next one, or to the end where none comes. One with two quotes
-- in a row in it is two such parts that touch.
abbrev pub IsQuoted : List ℕ → List ℕ → Type 0
IsQuoted bytes rest =
    (inner : List ℕ) × IsTrue (list_all is_no_quote inner)
    × ((bytes ≡ codes "'" ++ (inner ++ codes "'")) ⊎ ((bytes ≡ codes "'" ++ inner) × (rest ≡ [])))

-- A part at the front of a script, before the rest. A byte by itself is no quote, and no dash before a dash.
abbrev pub IsPart : ScriptPart → List ℕ → Type 0
IsPart (Comment bytes) rest = IsComment bytes rest
IsPart (Quoted bytes) rest = IsQuoted bytes rest
IsPart (Other byte) rest = (byte ≢ 39) × (byte ≡ 45 → EndsRun (λ next. next == 45) rest)

-- The bytes are these parts, in order, and then the rest.
abbrev pub AreParts : List ℕ → List ScriptPart → List ℕ → Type 0
AreParts bytes [] rest = bytes ≡ rest
AreParts bytes (part ∷ parts) rest =
    (behind : List ℕ) × (bytes ≡ part_bytes part ++ behind) × IsPart part behind × AreParts behind parts rest

-- A part that is white space or a comment.
abbrev pub is_blank : ScriptPart → Bool
is_blank (Comment bytes) = true
is_blank (Quoted bytes) = false
is_blank (Other byte) = is_space byte

-- A gap before the rest: white space and comments.
abbrev pub IsGap : List ℕ → List ℕ → Type 0
IsGap gap rest = (parts : List ScriptPart) × IsTrue (list_all is_blank parts) × (gap ≡ flat_map part_bytes parts)
    × AreParts (gap ++ rest) parts rest
