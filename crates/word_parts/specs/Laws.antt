-- That clap reads words part by part.
-- Source: this project's own.
use Rattle.std.specs.Prelude.{◌≡◌, ℕ, List, Option}
use Rattle.std.specs.List.{AllByRecursion}
use Rattle.std.specs.Str.{IsUtf8}
use Rattle.run_words.specs.CommandLine.{AreTaken, given_by}
use Rattle.word_parts.specs.Parts.{AreParts, Part, StandOnce, given_of, words_of}

-- Words in parts of which none stands twice are taken, and give what the parts give.
pub record AreReadAs (parts : List Part) (behind : Option (List (List ℕ))) : Type 0 where
  pub taken : AreTaken (words_of parts behind)
  pub given : given_by (words_of parts behind) ≡ given_of parts behind

abbrev pub PartsAreTaken : Type 0
PartsAreTaken =
    (parts : List Part) (behind : Option (List (List ℕ))) → AreParts parts → StandOnce parts → AreReadAs parts behind

-- Words that clap takes are in parts.
pub record AreInParts (words : List (List ℕ)) : Type 0 where
  pub parts : List Part
  pub behind : Option (List (List ℕ))
  pub are : words ≡ words_of parts behind
  pub good : AreParts parts
  pub once : StandOnce parts

abbrev pub TakenAreInParts : Type 0
TakenAreInParts = (words : List (List ℕ)) → AllByRecursion IsUtf8 words → AreTaken words → AreInParts words
