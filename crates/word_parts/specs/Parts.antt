-- The parts of words, as a reader knows them: options with their values, the flag, scripts.
-- Source: the manual of clap, and POSIX, Utility Syntax Guidelines, for `--`.
use Rattle.std.specs.Prelude.{◌≡◌, ◌≢◌, ◌≤◌, ◌==◌, ⊤, ℕ, Bool, true, false, not, List, [], ◌∷◌, ◌++◌, Option, Some, None, codes, length, slice_get, unwrap_or, if◌then◌else◌}
use Rattle.std.specs.Str.{bytes_eq}
use Rattle.run_words.specs.declared.given.Given.{Given}

-- The options that have a value.
pub data OptionName : Type 0 where
  cubes : OptionName
  store : OptionName
  shards : OptionName
  round_every : OptionName
  generate : OptionName

abbrev pub option_text : OptionName → List ℕ
option_text cubes = codes "cubes"
option_text store = codes "store"
option_text shards = codes "shards"
option_text round_every = codes "round-every"
option_text generate = codes "generate"

-- A part: `--name value`, `--name=value`, `--new`, or a script.
pub data Part : Type 0 where
  spaced : OptionName → List ℕ → Part
  joined : OptionName → List ℕ → Part
  new_flag : Part
  script : List ℕ → Part

-- The words of a part.
abbrev pub part_words : Part → List (List ℕ)
part_words (spaced name value) = (codes "--" ++ option_text name) ∷ value ∷ []
part_words (joined name value) = (codes "--" ++ (option_text name ++ (codes "=" ++ value))) ∷ []
part_words new_flag = codes "--new" ∷ []
part_words (script name) = name ∷ []

-- A word that can be no option: it is empty, is a hyphen (45) alone, or begins with another byte.
abbrev pub is_bare : List ℕ → Bool
is_bare [] = true
is_bare (byte ∷ []) = true
is_bare (byte ∷ next ∷ rest) = not (byte == 45)

-- A value that is a word of its own, and a script, are such words.
abbrev pub IsPart : Part → Type 0
IsPart (spaced name value) = is_bare value ≡ true
IsPart (joined name value) = ⊤
IsPart new_flag = ⊤
IsPart (script name) = is_bare name ≡ true

abbrev pub AreParts : List Part → Type 0
AreParts [] = ⊤
AreParts (part ∷ rest) = IsPart part × AreParts rest

-- The words of parts, and behind them `--` with more scripts, where there are such.
abbrev pub words_behind : Option (List (List ℕ)) → List (List ℕ)
words_behind None = []
words_behind (Some scripts) = codes "--" ∷ scripts

abbrev pub words_of : List Part → Option (List (List ℕ)) → List (List ℕ)
words_of [] behind = words_behind behind
words_of (part ∷ rest) behind = part_words part ++ words_of rest behind

-- A value under its name; the flag gives `true`.
abbrev pub given_under : List ℕ → List ℕ → List ℕ → List (List ℕ)
given_under own value name = if bytes_eq own name then value ∷ [] else []

abbrev pub part_values : List ℕ → Part → List (List ℕ)
part_values name (spaced option value) = given_under (option_text option) value name
part_values name (joined option value) = given_under (option_text option) value name
part_values name new_flag = given_under (codes "new") (codes "true") name
part_values name (script text) = given_under (codes "scripts") text name

-- What parts give under a name, in their order.
abbrev pub values_in : List ℕ → List Part → List (List ℕ)
values_in name [] = []
values_in name (part ∷ rest) = part_values name part ++ values_in name rest

-- No option and no flag stands twice.
abbrev pub StandOnce : List Part → Type 0
StandOnce parts = (name : List ℕ) → name ≢ codes "scripts" → length (values_in name parts) ≤ 1

abbrev pub has_values : List (List ℕ) → Bool
has_values [] = false
has_values (value ∷ rest) = true

-- What parts give, with the scripts behind them.
abbrev pub given_of : List Part → Option (List (List ℕ)) → Given
given_of parts behind = record {
  cubes = slice_get (values_in (codes "cubes") parts) 0;
  store = slice_get (values_in (codes "store") parts) 0;
  is_new = has_values (values_in (codes "new") parts);
  shards = slice_get (values_in (codes "shards") parts) 0;
  round_every = slice_get (values_in (codes "round-every") parts) 0;
  generate = slice_get (values_in (codes "generate") parts) 0;
  scripts = values_in (codes "scripts") parts ++ unwrap_or behind [];
}
