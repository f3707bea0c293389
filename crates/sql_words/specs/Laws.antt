-- What holds of every text and its tokens, and of every script and its statements.
use Rattle.std.specs.Prelude.{◌≡◌, ◌⊎◌, ℕ, List, IsUtf8}
use Rattle.std.specs.Str.{IsCharBoundary}
use Rattle.cube_language.specs.declared.piece.Piece.{Piece}
use Rattle.cube_language.specs.declared.piece.ScriptFault.{ScriptFault}
use Rattle.cube_language.specs.declared.token.Token.{Token}
use Rattle.cube_language.specs.declared.token.TokenFault.{TokenFault}
use Rattle.cube_language.specs.Pieces.{IsScript, HasScriptFault}
use Rattle.cube_language.specs.Tokens.{AreTokens, HasTokenFault}
use Rattle.sql_words.specs.Places.{StandsIn, StandInOrder}

-- The text has some tokens.
abbrev pub AnyTokens : List ℕ → Type 0
AnyTokens text = (tokens : List Token) × AreTokens text tokens

-- The text has some fault among its tokens.
abbrev pub AnyTokenFault : List ℕ → Type 0
AnyTokenFault text = (fault : TokenFault) × HasTokenFault text fault

-- Each text has tokens or a fault among them.
abbrev pub TextsHaveTokensOrFault : Type 0
TextsHaveTokensOrFault = (text : List ℕ) → AnyTokens text ⊎ AnyTokenFault text

-- A text has one list of tokens at most.
abbrev pub TextsHaveOneListOfTokens : Type 0
TextsHaveOneListOfTokens = (text : List ℕ) (a b : List Token) → AreTokens text a → AreTokens text b → a ≡ b

-- A text that has tokens has no fault among them.
abbrev pub TextsOfTokensHaveNoFault : Type 0
TextsOfTokensHaveNoFault =
    (text : List ℕ) (tokens : List Token) (fault : TokenFault) → AreTokens text tokens → HasTokenFault text fault → ⊥

-- A text has one fault among its tokens at most.
abbrev pub TextsHaveOneTokenFault : Type 0
TextsHaveOneTokenFault =
    (text : List ℕ) (a b : TokenFault) → HasTokenFault text a → HasTokenFault text b → a ≡ b

-- The tokens of a text stand in it, one behind the other.
abbrev pub TokensStand : Type 0
TokensStand = (text : List ℕ) (tokens : List Token) → AreTokens text tokens → StandInOrder text tokens

-- A text may be cut where its tokens begin and end: characters end there.
abbrev pub TokensCut : Type 0
TokensCut =
    (text : List ℕ) (t : Token) → IsUtf8 text → StandsIn text t
    → IsCharBoundary text t.start × IsCharBoundary text t.end

-- The script has some statements by their places.
abbrev pub AnyPieces : List ℕ → Type 0
AnyPieces script = (pieces : List Piece) × IsScript script pieces

-- The script has some fault.
abbrev pub AnyScriptFault : List ℕ → Type 0
AnyScriptFault script = (fault : ScriptFault) × HasScriptFault script fault

-- Each script has its statements or a fault.
abbrev pub ScriptsHavePiecesOrFault : Type 0
ScriptsHavePiecesOrFault = (script : List ℕ) → AnyPieces script ⊎ AnyScriptFault script

-- A script has one list of statements at most.
abbrev pub ScriptsHaveOneListOfPieces : Type 0
ScriptsHaveOneListOfPieces =
    (script : List ℕ) (a b : List Piece) → IsScript script a → IsScript script b → a ≡ b

-- A script that has its statements has no fault.
abbrev pub ScriptsOfPiecesHaveNoFault : Type 0
ScriptsOfPiecesHaveNoFault =
    (script : List ℕ) (pieces : List Piece) (fault : ScriptFault)
    → IsScript script pieces → HasScriptFault script fault → ⊥

-- A script has one fault at most.
abbrev pub ScriptsHaveOneFault : Type 0
ScriptsHaveOneFault =
    (script : List ℕ) (a b : ScriptFault) → HasScriptFault script a → HasScriptFault script b → a ≡ b
