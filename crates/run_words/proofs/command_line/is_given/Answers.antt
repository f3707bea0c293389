use Rattle.std.proofs.Common.{rules}
use Rattle.clap.specs.Matches.{found_of}
use Rattle.clap.specs.declared.parser.matches.ValueSource.TheVariants.{CommandLine, DefaultValue}
use Rattle.run_words.proofs.FoundValues.{given_by_source, given_without_source}
use Rattle.run_words.proofs.command_line.is_given.Goals as goal

pub returns-in-Some-CommandLine : goal.returns-in-Some-CommandLine
returns-in-Some-CommandLine c =
    given_by_source (found_of c.args.matches.now) c.args.name.now CommandLine (search rules)

pub returns-in-Some-DefaultValue : goal.returns-in-Some-DefaultValue
returns-in-Some-DefaultValue c =
    given_by_source (found_of c.args.matches.now) c.args.name.now DefaultValue (search rules)

pub returns-in-None : goal.returns-in-None
returns-in-None c =
    search (rules, given_without_source (found_of c.args.matches.now) c.args.name.now (search rules))
