use Rattle.script_sentences.proofs.Turns.{TextsAreSpelled, says_one_list, says_something}
use Rattle.script_sentences.proofs.law.a_script_says_one_list.Goals as goal

pub returns-clause-some : goal.returns-clause-some
returns-clause-some c =
    let known : TextsAreSpelled = record {
      either = c.a_text_spells_or_has_one_fault.ensures.either;
      one_statement = c.a_text_spells_or_has_one_fault.ensures.one_statement;
      no_fault = c.a_text_spells_or_has_one_fault.ensures.no_fault;
      one_fault = c.a_text_spells_or_has_one_fault.ensures.one_fault;
    } in
    says_something known

pub returns-clause-one : goal.returns-clause-one
returns-clause-one c =
    let known : TextsAreSpelled = record {
      either = c.a_text_spells_or_has_one_fault.ensures.either;
      one_statement = c.a_text_spells_or_has_one_fault.ensures.one_statement;
      no_fault = c.a_text_spells_or_has_one_fault.ensures.no_fault;
      one_fault = c.a_text_spells_or_has_one_fault.ensures.one_fault;
    } in
    says_one_list known
