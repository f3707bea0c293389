-- Scripts that were read may be given to sessions.
use Rattle.std.proofs.Common.{ℕ, ◌+◌, ◌≤◌, List, [], ◌∷◌, length}
use Rattle.std.specs.Global.{Vec}
use Rattle.std.specs.List.{AllByRecursion, AllZip}
use Rattle.script_sentences.specs.GivenTexts.{IsProperSaid}
use Rattle.cube_language.specs.declared.piece.Piece.{Piece}
use Rattle.cube_language.specs.declared.piece.TheConstants.{MOST_STATEMENTS}
use Rattle.cube_run.specs.RunRecords.{IsSaidBy}
use Rattle.run_files.specs.RunFiles.{FileReading, RunFile}
use Rattle.run_inputs.specs.ReadInputs.{GivesSentences, script_files}
use Rattle.script_sentences.specs.Sentences.{SaysInTurn, sentence_of}
use Rattle.script_sentences.specs.declared.said.Said.{Said}
use Rattle.script_sentences.specs.declared.said.Said.TheVariants as saying
use Rattle.script_sentences.specs.GivenTexts.{MayBeSaid}

proper-said : (text : List ℕ) (said : Said) → IsSaidBy text (sentence_of said) → IsProperSaid said
proper-said text (saying.Statement s) spells = spells.proper
proper-said text (saying.Nothing fault) spells = tt

proper-in-turn : (script : List ℕ) (pieces : List Piece) (said : List Said) → SaysInTurn script pieces said
    → AllByRecursion IsProperSaid said
proper-in-turn script [] [] says = tt
proper-in-turn script (p ∷ pieces) (s ∷ said) says =
    (proper-said _ s says.0, proper-in-turn script pieces said says.1)
proper-in-turn script [] (s ∷ said) says = absurd says
proper-in-turn script (p ∷ pieces) [] says = absurd says

abbrev pub IsShort : Vec Said → Type 0
IsShort said = length said.items ≤ MOST_STATEMENTS

pub may-be-said : (number : ℕ) (names : List (List ℕ)) (reading : RunFile → FileReading) (scripts : List (Vec Said))
    → AllZip (λ file said. GivesSentences (reading file) said.items) (script_files number names) scripts
    → AllByRecursion IsShort scripts → AllByRecursion MayBeSaid scripts
may-be-said number [] reading [] give few = tt
may-be-said number (n ∷ names) reading (s ∷ scripts) give few = (
  record { few = few.0; proper = proper-in-turn give.0.text give.0.pieces s.items give.0.says },
  may-be-said (number + 1) names reading scripts give.1 few.1,
)
may-be-said number [] reading (s ∷ scripts) give few = absurd give
may-be-said number (n ∷ names) reading [] give few = absurd give
