-- Where a text that spells no statement goes wrong.
-- Source: this project's own.
use Rattle.std.specs.Prelude.{◌≡◌, ℕ, ◌⊎◌, List, [], ◌∷◌, ◌++◌, length}
use Rattle.cube_language.specs.declared.statement.Statement.{Statement}
use Rattle.cube_language.specs.declared.token.Token.{Token}
use Rattle.cube_language.specs.declared.token.TokenFault.{TokenFault}
use Rattle.cube_language.specs.Grammar.{IsFormOf, IsProper}
use Rattle.cube_language.specs.declared.symbol.Symbol.{Symbol}
use Rattle.cube_language.specs.Symbols.{symbols_of}
use Rattle.cube_language.specs.Tokens.{AreTokens, HasTokenFault, fault_at}

-- The symbols are a form of some statement.
abbrev pub IsForm : List Symbol → Type 0
IsForm symbols = (statement : Statement) × IsProper statement × IsFormOf statement symbols

-- A form of some statement begins with the symbols.
pub record CanBegin (symbols : List Symbol) : Type 0 where
  pub statement : Statement
  pub proper : IsProper statement
  pub more : List Symbol
  pub form : IsFormOf statement (symbols ++ more)

-- Behind tokens with which a statement can begin, the text ends although they are none yet, or no statement goes
-- on with the next token.
abbrev pub GoesWrongAt : List ℕ → List Token → List Token → ℕ → Type 0
GoesWrongAt text front [] at = (IsForm (symbols_of text front) → ⊥) × (at ≡ length text)
GoesWrongAt text front (t ∷ tokens) at = (CanBegin (symbols_of text (front ++ t ∷ [])) → ⊥) × (at ≡ t.start)

-- The text has tokens and goes wrong among them at this place.
pub record GoesWrong (text : List ℕ) (at : ℕ) : Type 0 where
  pub front : List Token
  pub rest : List Token
  pub tokens : AreTokens text (front ++ rest)
  pub begins : CanBegin (symbols_of text front)
  pub wrong : GoesWrongAt text front rest at

-- The text has a fault among its tokens at this place.
abbrev pub HasFaultAt : List ℕ → ℕ → Type 0
HasFaultAt text at = (fault : TokenFault) × HasTokenFault text fault × (at ≡ fault_at fault)

-- The text spells no statement, and this is the first place that shows it. A fault among the tokens comes first,
-- wherever it is.
abbrev pub IsSyntaxFault : List ℕ → ℕ → Type 0
IsSyntaxFault text at = HasFaultAt text at ⊎ GoesWrong text at
