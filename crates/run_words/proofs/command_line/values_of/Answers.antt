use Rattle.std.proofs.Common.{rules, ◌≡◌, ◌∙◌, [], List, Option, Some, None, ap}
use Rattle.std.specs.Prelude.{unwrap_or, map}
use Rattle.std.proofs.lemmas.Result.{IfOk-weaker}
use Rattle.clap.specs.Matches.{found_of}
use Rattle.clap.specs.Walk.{Text, all_of, rows_of}
use Rattle.clap.proofs.WalkLemmas.{raw_values-rows}
use Rattle.run_words.proofs.command_line.values_of.Goals as goal

pub returns-in-Some : goal.returns-in-Some
returns-in-Some c =
    let rows = raw_values-rows (found_of c.args.matches.now) c.args.name.now in
    let found : Some (map (λ word. word.now) c.in-Some.words.now) ≡ all_of c.args.name.now (rows_of (found_of c.args.matches.now)) =
    search (rules, rows) in
    IfOk-weaker c.texts_of.result _ _ (λ values are. are ∙ ap (λ (all : Option (List Text)). unwrap_or all []) found) c.texts_of.ensures

pub returns-in-None : goal.returns-in-None
returns-in-None c =
    let rows = raw_values-rows (found_of c.args.matches.now) c.args.name.now in
    let found : None ≡ all_of c.args.name.now (rows_of (found_of c.args.matches.now)) = search (rules, rows) in
    c.new.ensures ∙ ap (λ (all : Option (List Text)). unwrap_or all []) found
