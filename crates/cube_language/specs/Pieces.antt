-- The statements of a script by their places, and when a script is refused whole.
-- Source: this project's own.
use Rattle.std.specs.Prelude.{◌≡◌, ℕ, ◌+◌, ◌<◌, ◌≤◌, Bool, false, ◌==◌, nat_lt, List, [], ◌∷◌, ◌++◌, length, take_while, sum_by, Some, IsUtf8, All, if◌then◌else◌}
use Rattle.std.specs.List.{list_all, slice_split, position_from}
use Rattle.std.specs.Str.{IsValidUpTo}
use Rattle.cube_language.specs.declared.piece.TheConstants.{MOST_STATEMENTS, MOST_STATEMENT_BYTES}
use Rattle.cube_language.specs.declared.piece.Piece.{Piece}
use Rattle.cube_language.specs.declared.piece.ScriptFault.{ScriptFault}
use Rattle.cube_language.specs.declared.piece.ScriptFault.TheVariants.{NotUtf8, TooManyStatements, StatementTooLong}
use Rattle.cube_language.specs.Parts.{ScriptPart, Comment, Quoted, Other, part_bytes, AreParts, is_blank}

-- A semicolon by itself ends a statement.
abbrev pub is_end : ScriptPart → Bool
is_end (Comment bytes) = false
is_end (Quoted bytes) = false
is_end (Other byte) = byte == 59

-- How many bytes parts have.
abbrev pub bytes_in : List ScriptPart → ℕ
bytes_in parts = sum_by (λ part. length (part_bytes part)) parts

-- The text of the statement that such parts are, the first of them at a place: what stands behind the white
-- space and the comments in front.
abbrev pub piece_at : ℕ → List ScriptPart → Piece
piece_at place parts = record { start = place + bytes_in (take_while is_blank parts); end = place + bytes_in parts }

-- The texts of the statements that lie between the ends, the first of the lists of parts at a place. White
-- space and comments alone are no statement.
abbrev pub pieces_from : ℕ → List (List ScriptPart) → List Piece
pieces_from place [] = []
pieces_from place (parts ∷ others) =
    (if list_all is_blank parts then [] else piece_at place parts ∷ [])
    ++ pieces_from (place + bytes_in parts + 1) others

-- The script has its statements at these places.
abbrev pub Splits : List ℕ → List Piece → Type 0
Splits script pieces = (parts : List ScriptPart) × AreParts script parts []
    × (pieces ≡ pieces_from 0 (slice_split is_end parts))

-- The most statements of a script, and the most bytes of a statement.
abbrev pub statements_limit : ℕ
statements_limit = MOST_STATEMENTS

abbrev pub statement_limit : ℕ
statement_limit = MOST_STATEMENT_BYTES

-- A statement of too many bytes.
abbrev pub is_long : Piece → Bool
is_long piece = nat_lt (piece.start + statement_limit) piece.end

-- The script is in order and has its statements at these places.
pub record IsScript (script : List ℕ) (pieces : List Piece) : Type 0 where
  pub text : IsUtf8 script
  pub splits : Splits script pieces
  pub few : length pieces ≤ statements_limit
  pub short : All (λ piece. piece.end ≤ piece.start + statement_limit) pieces

-- The script is UTF-8 and has too many statements.
pub record HasManyStatements (script : List ℕ) : Type 0 where
  pub text : IsUtf8 script
  pub pieces : List Piece
  pub splits : Splits script pieces
  pub many : statements_limit < length pieces

-- The script is UTF-8, has no more statements than it may, and the one of this number, counted from 1, is the
-- first that is too long.
pub record HasLongStatement (script : List ℕ) (statement : ℕ) : Type 0 where
  pub text : IsUtf8 script
  pub pieces : List Piece
  pub splits : Splits script pieces
  pub few : length pieces ≤ statements_limit
  pub first : position_from is_long 1 pieces ≡ Some statement

-- The script has this fault, the first that applies.
abbrev pub HasScriptFault : List ℕ → ScriptFault → Type 0
HasScriptFault script (NotUtf8 at) = IsValidUpTo script at
HasScriptFault script TooManyStatements = HasManyStatements script
HasScriptFault script (StatementTooLong statement) = HasLongStatement script statement
