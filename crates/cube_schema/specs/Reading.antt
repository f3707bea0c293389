-- Reading a cubes text line by line, up to the first fault.
use Rattle.std.specs.Prelude.{◌≡◌, ℕ, ◌^◌, Bool, true, false, not, nat_lt, nat_eq, List, [], ◌∷◌, length, codes, Option, Some, None, if◌then◌else◌}
use Rattle.std.specs.Borrow.{Bor}
use Rattle.std.specs.List.{starts_with}
use Rattle.std.specs.Option.{option_map}
use Rattle.std.specs.Str.{bytes_eq}
use Rattle.std.specs.Str.Parse.{digits_value}
use Rattle.cube_language.specs.Names.{is_name}
use Rattle.cube_language.specs.declared.decl.DimDecl.{DimDecl}
use Rattle.cube_language.specs.CubesText.{Line, Skipped, Cube, Dim, Metric, parts_words, without_return, words_of}
use Rattle.cube_language.specs.Tokens.{is_digits}

-- A byte of a word.
abbrev pub is_in_word : ℕ → Bool
is_in_word byte = not (parts_words byte)

infixl 10 ◌>>=◌
-- What is read next, unless what stood before it failed.
abbrev pub ◌>>=◌ : {A B : Type 0} → Option A → (A → Option B) → Option B
(Some x) >>= f = f x
None >>= f = None

-- The first word, and those behind it.
abbrev pub next_word : List (List ℕ) → Option (List ℕ × List (List ℕ))
next_word [] = None
next_word (word ∷ words) = Some (word, words)

-- No word is left.
abbrev pub no_word : List (List ℕ) → Option (Unit {0})
no_word [] = Some tt
no_word (word ∷ words) = None

-- A name.
abbrev pub name_of_word : List ℕ → Option (List ℕ)
name_of_word word = if is_name word then Some word else None

-- A kind: whether it is that of texts.
abbrev pub kind_of_word : List ℕ → Option Bool
kind_of_word word =
    if bytes_eq word (codes "text") then Some true else (if bytes_eq word (codes "int") then Some false else None)

-- A number, where it has 32 bits.
abbrev pub narrow : ℕ → Option ℕ
narrow n = if nat_lt n (2 ^ 32) then Some n else None

-- A number of 32 bits.
abbrev pub number_of_word : List ℕ → Option ℕ
number_of_word word = if is_digits word then narrow (digits_value 10 word) else None

-- The line has this first word, and behind it the words of what is left.
abbrev pub HasWords : List ℕ → Bor (List ℕ) × Bor (List ℕ) → Type 0
HasWords line read = words_of line ≡ read.0.now ∷ words_of read.1.now

-- The word that is the only one.
unfoldable pub only_word : List (List ℕ) → Option (List ℕ)
only_word words = do
  word ← next_word words
  end ← no_word word.1
  Some word.0

-- The name that is the only word.
unfoldable pub only_name : List (List ℕ) → Option (List ℕ)
only_name words = do
  word ← only_word words
  name_of_word word

-- The dimension that four words declare.
unfoldable pub dim_words : List (List ℕ) → Option DimDecl
dim_words words = do
  name ← next_word words
  kind ← next_word name.1
  cardinality ← next_word kind.1
  range ← next_word cardinality.1
  end ← no_word range.1
  named ← name_of_word name.0
  text ← kind_of_word kind.0
  coords ← number_of_word cardinality.0
  length ← number_of_word range.0
  Some (record { name = named; text = text; cardinality = coords; range = length })

-- The line that words say, or None where they have no form.
unfoldable pub line_in : List (List ℕ) → Option Line
line_in [] = Some Skipped
line_in (word ∷ words) =
    if starts_with nat_eq word (codes "#")
    then Some Skipped
    else (if bytes_eq word (codes "cube")
    then option_map Cube (only_name words)
    else (if bytes_eq word (codes "metric")
    then option_map Metric (only_name words)
    else (if bytes_eq word (codes "dim") then option_map Dim (dim_words words) else None)))

-- What a line of a text says.
abbrev pub line_form : List ℕ → Option Line
line_form line = line_in (words_of (without_return line))
