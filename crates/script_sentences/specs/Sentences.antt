-- What the texts of a script say.
-- Source: this project's own.
use Rattle.std.specs.Prelude.{◌≡◌, ℕ, List}
use Rattle.std.specs.List.{AllZip}
use Rattle.cube_language.specs.declared.piece.Piece.{Piece}
use Rattle.cube_language.specs.declared.statement.Statement.{Statement}
use Rattle.cube_run.specs.RunRecords.{IsSaidBy, Says, SaysNone, Sentence}
use Rattle.script_sentences.specs.declared.said.Said.{Said}
use Rattle.script_sentences.specs.declared.said.Said.TheVariants as saying
use Rattle.sql_words.specs.Texts.{piece_bytes}

-- What a text says.
abbrev pub sentence_of : Said → Sentence
sentence_of (saying.Statement s) = Says s
sentence_of (saying.Nothing fault) = SaysNone fault.at

-- The text of a piece of the script says this.
abbrev pub SaysInPlace : List ℕ → Piece → Said → Type 0
SaysInPlace script piece said = IsSaidBy (piece_bytes script piece) (sentence_of said)

-- The texts of the pieces of a script say these, one after the other.
abbrev pub SaysInTurn : List ℕ → List Piece → List Said → Type 0
SaysInTurn script pieces said = AllZip (SaysInPlace script) pieces said

-- The texts of each script say something in turn.
abbrev pub ScriptsHaveSentences : Type 0
ScriptsHaveSentences = (script : List ℕ) (pieces : List Piece) → (said : List Said) × SaysInTurn script pieces said

-- They say one list at most.
abbrev pub ScriptsHaveOneListOfSentences : Type 0
ScriptsHaveOneListOfSentences =
    (script : List ℕ) (pieces : List Piece) (a b : List Said)
    → SaysInTurn script pieces a → SaysInTurn script pieces b → a ≡ b
