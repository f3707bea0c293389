-- Which command words ask for, and why they ask for none.
-- Source: this project's own.
use Rattle.std.specs.Prelude.{◌≡◌, ◌⊎◌, ◌<◌, ℕ, true, List, [], ◌∷◌, None, IsSome, length}
use Rattle.run_words.specs.Numbers.{IsBadNumber}
use Rattle.run_words.specs.CommandLine.{AreTaken, given_by}
use Rattle.run_words.specs.Commands.{AskFor, GiveNoFile}
use Rattle.run_words.specs.declared.command.Command.{Command}
use Rattle.run_words.specs.declared.fault.WordsFault.{WordsFault}
use Rattle.run_words.specs.declared.fault.WordsFault.TheVariants.{BadRoundEvery, BadRows, BadShards, NewWithoutStore, NoCubes, NoScripts, NotAlone, NotTaken, TooManyScripts}
use Rattle.run_words.specs.declared.given.Given.{Given}
use Rattle.run_words.specs.declared.reading.TheConstants.{MOST_GENERATED, MOST_ROUND_EVERY, MOST_SCRIPTS, MOST_SHARDS}

-- What is given is wrong for this cause, whatever else is wrong.
abbrev pub IsWrong : Given → WordsFault → Type 0
IsWrong given NotTaken = ⊥
IsWrong given BadShards = IsBadNumber MOST_SHARDS given.shards
IsWrong given BadRoundEvery = IsBadNumber MOST_ROUND_EVERY given.round_every
IsWrong given BadRows = IsBadNumber MOST_GENERATED given.generate
IsWrong given NotAlone = IsSome given.generate × (GiveNoFile given → ⊥)
IsWrong given NoCubes = (given.generate ≡ None) × (given.cubes ≡ None)
IsWrong given NewWithoutStore = (given.generate ≡ None) × (given.is_new ≡ true) × (given.store ≡ None)
IsWrong given NoScripts = (given.generate ≡ None) × (given.scripts ≡ [])
IsWrong given TooManyScripts = (given.generate ≡ None) × (MOST_SCRIPTS < length given.scripts)

-- The causes in the order in which they count.
abbrev pub words_faults : List WordsFault
words_faults =
    BadShards ∷ BadRoundEvery ∷ BadRows ∷ NotAlone ∷ NoCubes ∷ NewWithoutStore ∷ NoScripts ∷ TooManyScripts ∷ []

-- The first of these causes for which what is given is wrong.
abbrev pub IsFirstWrong : Given → List WordsFault → WordsFault → Type 0
IsFirstWrong given [] fault = ⊥
IsFirstWrong given (cause ∷ rest) fault =
    ((fault ≡ cause) × IsWrong given cause) ⊎ ((IsWrong given cause → ⊥) × IsFirstWrong given rest fault)

-- The words are taken, and what they give asks for this command.
pub record AreWordsOf (words : List (List ℕ)) (command : Command) : Type 0 where
  pub taken : AreTaken words
  pub asked : AskFor (given_by words) command

-- Words ask for nothing: they are not taken; or they are, what they give is wrong, and this is the first cause.
abbrev pub HaveFault : List (List ℕ) → WordsFault → Type 0
HaveFault words fault = ((fault ≡ NotTaken) × (AreTaken words → ⊥))
    ⊎ (AreTaken words × IsFirstWrong (given_by words) words_faults fault)
