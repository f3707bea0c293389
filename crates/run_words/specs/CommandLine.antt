-- The command as `clap` knows it, and what words give by it. How words go to options, flags and the rest is clap's:
-- its definition `matches_of`, and `fault_of` for what it refuses.
-- Source: clap, simple commands; which options there are is this project's own.
use Rattle.std.specs.Prelude.{◌≡◌, ℕ, true, List, [], Some, codes, unwrap_or}
use Rattle.clap.specs.Faults.{fault_of}
use Rattle.clap.specs.Simple.{App, matches_of, new_app, new_rule, on_top, with_rule}
use Rattle.clap.specs.Takes.{is_given}
use Rattle.clap.specs.Walk.{Row, Rule, all_of, first_of}
use Rattle.clap.specs.declared.builder.action.ArgAction.TheVariants.{Append, Set, SetTrue}
use Rattle.run_words.specs.declared.given.Given.{Given}

-- An option with a value, which is the next word or stands after `=`; it may stand once.
abbrev pub option_rule : List ℕ → Rule
option_rule name = record (new_rule name) { long = Some name; action = Some Set }

-- A flag, which may stand once.
abbrev pub flag_rule : List ℕ → Rule
flag_rule name = record (new_rule name) { long = Some name; action = Some SetTrue }

-- The words that belong to no option.
abbrev pub rest_rule : List ℕ → Rule
rest_rule name = record (new_rule name) { action = Some Append }

-- The command before it has options: its first word is no name of a program, and no option asks for help.
abbrev pub bare_command : App
bare_command = on_top (λ shape. record shape { no_binary_name = true; disable_help_flag = true })
    (new_app (codes "cubrick"))

-- cubrick --cubes FILE --store FILE --new --shards N --round-every N --generate N SCRIPT..
abbrev pub command_line : App
command_line = with_rule (with_rule (with_rule (with_rule (with_rule (with_rule (with_rule bare_command
    (option_rule (codes "cubes")))
    (option_rule (codes "store")))
    (flag_rule (codes "new")))
    (option_rule (codes "shards")))
    (option_rule (codes "round-every")))
    (option_rule (codes "generate")))
    (rest_rule (codes "scripts"))

-- The words go to what the command has.
abbrev pub AreTaken : List (List ℕ) → Type 0
AreTaken words = fault_of command_line words ≡ []

-- What clap found, by the names.
abbrev pub given_in : List Row → Given
given_in rows = record {
  cubes = first_of (codes "cubes") rows;
  store = first_of (codes "store") rows;
  is_new = is_given (codes "new") rows;
  shards = first_of (codes "shards") rows;
  round_every = first_of (codes "round-every") rows;
  generate = first_of (codes "generate") rows;
  scripts = unwrap_or (all_of (codes "scripts") rows) [];
}

-- What words give, where they are taken.
abbrev pub given_by : List (List ℕ) → Given
given_by words = given_in (matches_of command_line words)
