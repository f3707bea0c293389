-- The texts of the statements of a script.
use Rattle.std.specs.Prelude.{ℕ, ◌-◌, ◌<◌, ◌≤◌, List, length, take, drop, All, IsUtf8}
use Rattle.cube_language.specs.declared.piece.Piece.{Piece}
use Rattle.cube_language.specs.Pieces.{Splits, statements_limit}

-- The bytes of a statement of a script.
abbrev pub piece_bytes : List ℕ → Piece → List ℕ
piece_bytes script piece = take (piece.end - piece.start) (drop piece.start script)

-- The statement lies in the script, and its bytes are text.
pub record IsTextAt (script : List ℕ) (piece : Piece) : Type 0 where
  pub ordered : piece.start ≤ piece.end
  pub within : piece.end ≤ length script
  pub utf8 : IsUtf8 (piece_bytes script piece)

-- Each of the statements does so.
abbrev pub AreTextsAt : List ℕ → List Piece → Type 0
AreTextsAt script pieces = All (IsTextAt script) pieces

-- The script has its statements at these places, and they are not too many.
abbrev pub SplitsInFew : List ℕ → List Piece → Type 0
SplitsInFew script pieces = Splits script pieces × (length pieces ≤ statements_limit)

-- The script has too many statements.
abbrev pub SplitsInMany : List ℕ → Type 0
SplitsInMany script = (pieces : List Piece) × Splits script pieces × (statements_limit < length pieces)
