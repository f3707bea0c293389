-- How many shards words ask for.
use Rattle.std.proofs.Common.{◌≡◌, ℕ, ◌≤◌, List, Option, Some, None, subst, arith}
use Rattle.run_words.specs.CommandLine.{given_by}
use Rattle.run_words.specs.Numbers.{IsNumberOr}
use Rattle.run_words.specs.Words.{AreWordsOf}
use Rattle.run_words.specs.declared.command.Command.{Command}
use Rattle.run_words.specs.declared.command.Command.TheVariants as asked
use Rattle.run_words.specs.declared.command.GenerateCommand.{GenerateCommand}
use Rattle.run_words.specs.declared.command.RunCommand.{RunCommand}
use Rattle.run_words.specs.declared.reading.TheConstants.{DEFAULT_SHARDS, MOST_SHARDS}

few-shards : (given : Option (List ℕ)) (shards : ℕ) → IsNumberOr DEFAULT_SHARDS MOST_SHARDS given shards
    → (1 ≤ shards) × (shards ≤ 64)
few-shards None shards is = (omega (arith, is), omega (arith, is))
few-shards (Some text) shards is = (is.some, is.few)

pub run-shards : {words : List (List ℕ)} {command : Command} (run : RunCommand) → command ≡ asked.Run run
    → AreWordsOf words command → (1 ≤ run.settings.shards) × (run.settings.shards ≤ 64)
run-shards {words} {command} run is are =
    let asks : AreWordsOf words (asked.Run run) = subst (λ (c : Command). AreWordsOf words c) is are in
    few-shards (given_by words).shards run.settings.shards asks.asked.settings.shards

pub generated-shards : {words : List (List ℕ)} {command : Command} (rows : GenerateCommand)
    → command ≡ asked.Generate rows → AreWordsOf words command
    → (1 ≤ rows.settings.shards) × (rows.settings.shards ≤ 64)
generated-shards {words} {command} rows is are =
    let asks : AreWordsOf words (asked.Generate rows) = subst (λ (c : Command). AreWordsOf words c) is are in
    few-shards (given_by words).shards rows.settings.shards asks.asked.settings.shards
