-- The printed form of a statement.
-- Source: this project's own.
use Rattle.std.specs.Prelude.{ℕ, Bool, true, false, List, [], ◌∷◌, ◌++◌, codes, map, if◌then◌else◌}
use Rattle.std.specs.Char.{to_ascii_uppercase}
use Rattle.std.specs.Fmt.{signed_decimal}
use Rattle.cube_language.specs.declared.keyword.Keyword.{Keyword as KeywordWord}
use Rattle.cube_language.specs.declared.keyword.Keyword.TheVariants as keyword
use Rattle.cube_language.specs.declared.statement.Item.{Item}
use Rattle.cube_language.specs.declared.statement.Statement.{Statement}
use Rattle.cube_language.specs.declared.symbol.Symbol.{Symbol}
use Rattle.cube_language.specs.declared.symbol.Symbol.TheVariants.{Keyword, Word, Number, Text, Open, Close, Comma, Equals, Star}
use Rattle.cube_language.specs.Grammar.{form_of, item_form}
use Rattle.cube_language.specs.Keywords.{keyword_text}
use Rattle.cube_language.specs.Quotes.{quoted}

-- A keyword in capitals, a text in quotes, a number without leading zeros.
abbrev pub symbol_text : Symbol → List ℕ
symbol_text (Keyword k) = map to_ascii_uppercase (keyword_text k)
symbol_text (Word word) = word
symbol_text (Number n) = signed_decimal n
symbol_text (Text text) = quoted text
symbol_text Open = codes "("
symbol_text Close = codes ")"
symbol_text Comma = codes ","
symbol_text Equals = codes "="
symbol_text Star = codes "*"

abbrev pub is_aggregate : KeywordWord → Bool
is_aggregate keyword.Sum = true
is_aggregate keyword.Count = true
is_aggregate keyword.Min = true
is_aggregate keyword.Max = true
is_aggregate keyword.Avg = true
is_aggregate k = false

-- A symbol that no space stands before.
abbrev pub closes : Symbol → Bool
closes Close = true
closes Comma = true
closes symbol = false

-- No space stands behind `(`, and none between the word of an aggregate and its `(`.
abbrev pub touch : Symbol → Symbol → Bool
touch Open next = true
touch (Keyword k) Open = is_aggregate k
touch symbol next = closes next

-- What stands between two symbols.
abbrev pub gap : Symbol → Symbol → List ℕ
gap symbol next = if touch symbol next then [] else codes " "

-- The texts of symbols behind another one.
abbrev pub spaced_behind : Symbol → List Symbol → List ℕ
spaced_behind before [] = []
spaced_behind before (symbol ∷ symbols) = gap before symbol ++ (symbol_text symbol ++ spaced_behind symbol symbols)

-- The texts of symbols, with one space between those that do not touch.
abbrev pub spaced : List Symbol → List ℕ
spaced [] = []
spaced (symbol ∷ symbols) = symbol_text symbol ++ spaced_behind symbol symbols

-- The printed form of an item.
abbrev pub item_text : Item → List ℕ
item_text item = spaced (item_form item)

-- The printed form of a statement.
abbrev pub printed : Statement → List ℕ
printed statement = spaced (form_of statement)
