-- What a token says: a keyword, another word, a number, a text or a mark.
-- Source: this project's own.
use Rattle.std.specs.Prelude.{ℕ, ◌-◌, ◌==◌, ◌&&◌, List, [], ◌∷◌, length, take, drop, map, if◌then◌else◌}
use Rattle.std.specs.Option.{option_map_or}
use Rattle.cube_language.specs.Keywords.{keyword_of}
use Rattle.cube_language.specs.declared.symbol.Symbol.{Symbol}
use Rattle.cube_language.specs.declared.symbol.Symbol.TheVariants.{Keyword, Word, Number, Text, Open, Close, Comma, Equals, Star}
use Rattle.cube_language.specs.declared.token.Token.{Token}
use Rattle.cube_language.specs.declared.token.TokenKind.{TokenKind}
use Rattle.cube_language.specs.declared.token.TokenKind.TheVariants as kind
use Rattle.cube_language.specs.Tokens.{token_bytes}

-- A word says the keyword that it spells, or else itself.
abbrev pub word_symbol : List ℕ → Symbol
word_symbol word = option_map_or Keyword (keyword_of word) (Word word)

-- Bytes with one quote for each two that touch.
abbrev pub halved : List ℕ → List ℕ
halved [] = []
halved (byte ∷ []) = byte ∷ []
halved (byte ∷ next ∷ bytes) = byte ∷ (if byte == 39 && next == 39 then halved bytes else halved (next ∷ bytes))

-- The text that stands in quotes.
abbrev pub unquoted : List ℕ → List ℕ
unquoted bytes = halved (take (length bytes - 2) (drop 1 bytes))

-- What bytes of a token of this kind say.
abbrev pub symbol_in : List ℕ → TokenKind → Symbol
symbol_in bytes kind.Word = word_symbol bytes
symbol_in bytes (kind.Number n) = Number n
symbol_in bytes kind.Text = Text (unquoted bytes)
symbol_in bytes kind.Open = Open
symbol_in bytes kind.Close = Close
symbol_in bytes kind.Comma = Comma
symbol_in bytes kind.Equals = Equals
symbol_in bytes kind.Star = Star

-- What a token of a text says.
abbrev pub symbol_of : List ℕ → Token → Symbol
symbol_of text t = symbol_in (token_bytes text t) t.kind

-- What tokens of a text say.
abbrev pub symbols_of : List ℕ → List Token → List Symbol
symbols_of text tokens = map (symbol_of text) tokens
