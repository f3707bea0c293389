use Rattle.std.proofs.Common.{sym, subst, inr}
use Rattle.std.proofs.lemmas.List.Elements.{recursion_from_All}
use Rattle.cube_language.specs.Symbols.{symbols_of}
use Rattle.cube_language.specs.Tokens.{AreTokens}
use Rattle.sql_tree.specs.Reading.{IsMiss, read_statement}
use Rattle.sql_tree.proofs.Statements.{read_has_form, left_fits, goes_wrong}
use Rattle.sql_words.specs.Places.{StandsIn}
use Rattle.sql_tree.proofs.parsing.parse.Goals as goal

pub statement-requires : goal.statement-requires
statement-requires c = rw c.as_slice-all.ensures (recursion_from_All (StandsIn c.args.text.now) c.in-Ok.found (c.a_token_has_its_bytes.ensures c.args.text.now c.in-Ok.found c.in-Ok.ensures.found).stand)

pub returns-in-Ok-statement-clause-spelled : goal.returns-in-Ok-statement-clause-spelled
returns-in-Ok-statement-clause-spelled c =
    let read = read_has_form (symbols_of c.args.text.now c.as_slice-all.result.now) c.in-Ok-statement.statement c.in-Ok-statement.ensures in
    record {
      tokens = c.as_slice-all.result.now;
      are = subst (AreTokens c.args.text.now) (sym c.as_slice-all.ensures) c.in-Ok.ensures.found;
      form = read.form;
      proper = read.proper;
    }

pub place_left-requires : goal.place_left-requires
place_left-requires c =
    let left = subst (λ e. IsMiss e (read_statement (symbols_of c.args.text.now c.as_slice-all.result.now))) c.in-Err-Fault-statement.field-0-is c.in-Err-Fault-statement.ensures in
    left_fits c.args.text.now c.as_slice-all.result.now c.in-Err-Fault-statement.left left

pub returns-in-Err-Fault-statement-clause-refused : goal.returns-in-Err-Fault-statement-clause-refused
returns-in-Err-Fault-statement-clause-refused c =
    let left = subst (λ e. IsMiss e (read_statement (symbols_of c.args.text.now c.as_slice-all.result.now))) c.in-Err-Fault-statement.field-0-is c.in-Err-Fault-statement.ensures in
    inr (goes_wrong c.args.text.now c.as_slice-all.result.now c.in-Err-Fault-statement.left c.place_left.result (subst (AreTokens c.args.text.now) (sym c.as_slice-all.ensures) c.in-Ok.ensures.found) left c.place_left.ensures)
