-- Which command is asked for by what is given.
-- Source: this project's own.
use Rattle.std.specs.Prelude.{◌≡◌, ◌≤◌, ℕ, Bool, false, List, [], Option, Some, None, length}
use Rattle.run_words.specs.Numbers.{IsNumberIf, IsNumberOr, IsNumberUpTo}
use Rattle.run_words.specs.declared.command.Command.{Command}
use Rattle.run_words.specs.declared.command.Command.TheVariants.{Generate, Run}
use Rattle.run_words.specs.declared.command.GenerateCommand.{GenerateCommand}
use Rattle.run_words.specs.declared.command.RunCommand.{RunCommand}
use Rattle.run_words.specs.declared.command.Settings.{Settings}
use Rattle.run_words.specs.declared.command.StoreName.{StoreName}
use Rattle.run_words.specs.declared.given.Given.{Given}
use Rattle.run_words.specs.declared.reading.TheConstants.{DEFAULT_SHARDS, MOST_GENERATED, MOST_ROUND_EVERY, MOST_SCRIPTS, MOST_SHARDS}

-- The settings: so many shards as given, or the default; a round after so many commits, where that is given.
pub record AskForSettings (given : Given) (settings : Settings) : Type 0 where
  pub shards : IsNumberOr DEFAULT_SHARDS MOST_SHARDS given.shards settings.shards
  pub round_every : IsNumberIf MOST_ROUND_EVERY given.round_every settings.round_every

-- A store is given, new or not, or none and no new one.
abbrev pub AskForStore : Option (List ℕ) → Bool → Option StoreName → Type 0
AskForStore None is_new None = is_new ≡ false
AskForStore (Some name) is_new (Some store) = (store.name ≡ name) × (store.is_new ≡ is_new)
AskForStore name is_new store = ⊥

-- A run of scripts: a cubes file is given, and from one script up to the most.
pub record AskForRun (given : Given) (run : RunCommand) : Type 0 where
  pub cubes : given.cubes ≡ Some run.cubes
  pub store : AskForStore given.store given.is_new run.store
  pub settings : AskForSettings given run.settings
  pub scripts : run.scripts ≡ given.scripts
  pub some : 1 ≤ length given.scripts
  pub few : length given.scripts ≤ MOST_SCRIPTS
  pub no_rows : given.generate ≡ None

-- No file, no script and no new store is given.
pub record GiveNoFile (given : Given) : Type 0 where
  pub cubes : given.cubes ≡ None
  pub store : given.store ≡ None
  pub is_new : given.is_new ≡ false
  pub scripts : given.scripts ≡ []

-- A run over so many generated rows.
pub record AskForRows (given : Given) (rows : GenerateCommand) : Type 0 where
  pub text : List ℕ
  pub is : given.generate ≡ Some text
  pub rows_are : IsNumberUpTo MOST_GENERATED text rows.rows
  pub settings : AskForSettings given rows.settings
  pub alone : GiveNoFile given

abbrev pub AskFor : Given → Command → Type 0
AskFor given (Run run) = AskForRun given run
AskFor given (Generate rows) = AskForRows given rows
