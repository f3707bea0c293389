-- What holds of all words.
-- Source: this project's own.
use Rattle.std.specs.Prelude.{◌≡◌, ◌⊎◌, ℕ, List}
use Rattle.run_words.specs.Words.{AreWordsOf, HaveFault}
use Rattle.run_words.specs.declared.command.Command.{Command}
use Rattle.run_words.specs.declared.fault.WordsFault.{WordsFault}

-- The words ask for some command.
abbrev pub AskForSome : List (List ℕ) → Type 0
AskForSome words = (command : Command) × AreWordsOf words command

-- They have some fault.
abbrev pub HaveSomeFault : List (List ℕ) → Type 0
HaveSomeFault words = (fault : WordsFault) × HaveFault words fault

-- Words ask for a command or have a fault.
abbrev pub WordsAskOrHaveFault : Type 0
WordsAskOrHaveFault = (words : List (List ℕ)) → AskForSome words ⊎ HaveSomeFault words

-- They ask for one command at most.
abbrev pub WordsAskForOneCommand : Type 0
WordsAskForOneCommand = (words : List (List ℕ)) (a b : Command) → AreWordsOf words a → AreWordsOf words b → a ≡ b

-- Words that ask for a command have no fault.
abbrev pub AskingWordsHaveNoFault : Type 0
AskingWordsHaveNoFault =
    (words : List (List ℕ)) (command : Command) (fault : WordsFault) → AreWordsOf words command
    → HaveFault words fault → ⊥

-- Words have one fault at most.
abbrev pub WordsHaveOneFault : Type 0
WordsHaveOneFault = (words : List (List ℕ)) (a b : WordsFault) → HaveFault words a → HaveFault words b → a ≡ b
