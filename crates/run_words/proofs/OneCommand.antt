-- Words ask for one command at most.
use Rattle.std.proofs.Common.{◌≡◌, ◌∙◌, ◌<◌, ◌^◌, ℕ, Bool, List, Option, Some, None, sym, refl, ap, arith}
use Rattle.std.specs.Prelude.{unwrap_or}
use Rattle.std.proofs.lemmas.Option.{none-some}
use Rattle.run_words.specs.CommandLine.{given_by}
use Rattle.run_words.specs.Commands.{AskFor, AskForRows, AskForRun, AskForSettings, AskForStore}
use Rattle.run_words.specs.Numbers.{IsNumberIf, IsNumberOr, IsNumberUpTo}
use Rattle.run_words.specs.Words.{AreWordsOf}
use Rattle.run_words.specs.declared.command.Command.{Command}
use Rattle.run_words.specs.declared.command.Command.TheVariants.{Generate, Run}
use Rattle.run_words.specs.declared.command.RunCommand.{RunCommand}
use Rattle.run_words.specs.declared.command.GenerateCommand.{GenerateCommand}
use Rattle.run_words.specs.declared.command.Settings.{Settings}
use Rattle.run_words.specs.declared.command.StoreName.{StoreName}
use Rattle.run_words.specs.declared.given.Given.{Given}
use Rattle.run_words.specs.declared.reading.TheConstants.{DEFAULT_SHARDS, MOST_GENERATED, MOST_ROUND_EVERY, MOST_SHARDS}
use Rattle.run_words.proofs.SpelledNumbers.{one_number}

one_or : (default most a b : ℕ) (text : Option (List ℕ)) → most < 2 ^ 32 → IsNumberOr default most text a
    → IsNumberOr default most text b → a ≡ b
one_or default most a b None fits is also = is ∙ sym also
one_or default most a b (Some text) fits is also = one_number most a b text fits is also

one_if : (most : ℕ) (a b : Option ℕ) (text : Option (List ℕ)) → most < 2 ^ 32 → IsNumberIf most text a
    → IsNumberIf most text b → a ≡ b
one_if most a b None fits is also = is ∙ sym also
one_if most None b (Some text) fits is also = absurd is
one_if most (Some a) None (Some text) fits is also = absurd also
one_if most (Some a) (Some b) (Some text) fits is also = ap (λ (n : ℕ). Some n) (one_number most a b text fits is also)

same_settings : (given : Given) (a b : Settings) → AskForSettings given a → AskForSettings given b → a ≡ b
same_settings given a b is also =
    let shards = one_or DEFAULT_SHARDS MOST_SHARDS a.shards b.shards given.shards (omega arith) is.shards also.shards in
    let round_every = one_if MOST_ROUND_EVERY a.round_every b.round_every given.round_every (omega arith) is.round_every
    also.round_every
    in
    λ i. record { shards = shards i; round_every = round_every i }

same_store : (name : Option (List ℕ)) (is_new : Bool) (a b : Option StoreName) → AskForStore name is_new a
    → AskForStore name is_new b → a ≡ b
same_store None is_new None None is also = refl
same_store None is_new None (Some b) is also = absurd also
same_store None is_new (Some a) b is also = absurd is
same_store (Some name) is_new None b is also = absurd is
same_store (Some name) is_new (Some a) None is also = absurd also
same_store (Some name) is_new (Some a) (Some b) is also =
    let names = is.0 ∙ sym also.0 in
    let news = is.1 ∙ sym also.1 in
    λ i. Some (record { name = names i; is_new = news i })

same_some : (a b : List ℕ) (option : Option (List ℕ)) → option ≡ Some a → option ≡ Some b → a ≡ b
same_some a b option is also = ap (λ (o : Option (List ℕ)). unwrap_or o a) (sym is ∙ also)

same_run : (given : Given) (a b : RunCommand) → AskForRun given a → AskForRun given b → a ≡ b
same_run given a b is also =
    let cubes = same_some a.cubes b.cubes given.cubes is.cubes also.cubes in
    let store = same_store given.store given.is_new a.store b.store is.store also.store in
    let settings = same_settings given a.settings b.settings is.settings also.settings in
    let scripts = is.scripts ∙ sym also.scripts in
    λ i. record { cubes = cubes i; store = store i; settings = settings i; scripts = scripts i }

same_rows : (given : Given) (a b : GenerateCommand) → AskForRows given a → AskForRows given b → a ≡ b
same_rows given a b is also =
    let texts = same_some is.text also.text given.generate is.is also.is in
    let rows = one_number MOST_GENERATED a.rows b.rows also.text (omega arith)
    (coe 0 1 (i. IsNumberUpTo MOST_GENERATED (texts i) a.rows) is.rows_are) also.rows_are
    in
    let settings = same_settings given a.settings b.settings is.settings also.settings in
    λ i. record { rows = rows i; settings = settings i }

same_command : (given : Given) (a b : Command) → AskFor given a → AskFor given b → a ≡ b
same_command given (Run a) (Run b) is also = ap Run (same_run given a b is also)
same_command given (Run a) (Generate b) is also = absurd (none-some also.text (sym is.no_rows ∙ also.is))
same_command given (Generate a) (Run b) is also = absurd (none-some is.text (sym also.no_rows ∙ is.is))
same_command given (Generate a) (Generate b) is also = ap Generate (same_rows given a b is also)

pub one_command : (words : List (List ℕ)) (a b : Command) → AreWordsOf words a → AreWordsOf words b → a ≡ b
one_command words a b is also = same_command (given_by words) a b is.asked also.asked
