use Rattle.std.proofs.Common.{rules, ◌≡◌, ◌∙◌, ap₂, codes}
use Rattle.std.proofs.lemmas.Result.{IfOk-weaker}
use Rattle.clap.specs.Simple.{with_rule}
use Rattle.clap.specs.Walk.{rule_of}
use Rattle.run_words.specs.CommandLine.{flag_rule, option_rule, rest_rule}
use Rattle.run_words.proofs.command_line.command_line.Goals as goal

pub returns : goal.returns
returns c =
    let cubes : rule_of c.option.result ≡ option_rule (codes "cubes") = search rules in
    let store : rule_of c.option-2.result ≡ option_rule (codes "store") = search rules in
    let new_store : rule_of c.flag.result ≡ flag_rule (codes "new") = search rules in
    let shards : rule_of c.option-3.result ≡ option_rule (codes "shards") = search rules in
    let round_every : rule_of c.option-4.result ≡ option_rule (codes "round-every") = search rules in
    let generate : rule_of c.option-5.result ≡ option_rule (codes "generate") = search rules in
    let scripts : rule_of c.rest.result ≡ rest_rule (codes "scripts") = search rules in
    let one = c.in_ok-command.ensures ∙ ap₂ with_rule c.bare_command.ensures cubes in
    let two = c.in_ok-command-2.ensures ∙ ap₂ with_rule one store in
    let three = c.in_ok-command-3.ensures ∙ ap₂ with_rule two new_store in
    let four = c.in_ok-command-4.ensures ∙ ap₂ with_rule three shards in
    let five = c.in_ok-command-5.ensures ∙ ap₂ with_rule four round_every in
    let six = c.in_ok-command-6.ensures ∙ ap₂ with_rule five generate in
    IfOk-weaker c.with_arg-7.result _ _ (λ command is. is ∙ ap₂ with_rule six scripts) c.with_arg-7.ensures
