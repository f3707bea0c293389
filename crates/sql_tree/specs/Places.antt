-- Where the tokens of a text stand in it.
use Rattle.std.specs.Prelude.{◌≡◌, ℕ, ◌≤◌, List, [], ◌∷◌, length, IsTrue}
use Rattle.std.specs.List.{AllByRecursion}
use Rattle.cube_language.specs.declared.token.Token.{Token}
use Rattle.cube_language.specs.Symbols.{symbol_of}
use Rattle.sql_tree.specs.declared.head.Sign.{Sign}
use Rattle.sql_tree.specs.Reading.{is_sign}
use Rattle.sql_words.specs.Places.{StandsIn}

-- All of the tokens stand in the text.
abbrev pub AreIn : List ℕ → List Token → Type 0
AreIn text tokens = AllByRecursion (StandsIn text) tokens

-- What is left of tokens: no more than they are, and all in the text.
abbrev pub IsRest : List ℕ → List Token → List Token → Type 0
IsRest text tokens rest = AreIn text rest × (length rest ≤ length tokens)

-- Tokens of a text begin with one that says the sign, and go on with the rest.
abbrev pub BeginsWith : Sign → List ℕ → List Token → List Token → Type 0
BeginsWith wanted text tokens rest =
    (first : Token) × (tokens ≡ first ∷ rest) × IsTrue (is_sign wanted (symbol_of text first))

-- The place of the first of tokens, or the text's length where none is left.
abbrev pub first_place : List ℕ → List Token → ℕ
first_place text [] = length text
first_place text (t ∷ tokens) = t.start
