use Rattle.run_files.proofs.FileEnds.{TextsAreKnown, some_end, one_end}
use Rattle.run_files.proofs.law.files_decide_their_end.Goals as goal

pub returns-clause-some : goal.returns-clause-some
returns-clause-some c =
    let known : TextsAreKnown = record {
      cubes_either = c.a_text_declares_or_has_one_fault.ensures.either;
      cubes_good = c.a_text_declares_or_has_one_fault.ensures.no_fault;
      cubes_one = c.a_text_declares_or_has_one_fault.ensures.one_fault;
      script_either = c.a_script_has_statements_or_one_fault.ensures.either;
      script_good = c.a_script_has_statements_or_one_fault.ensures.no_fault;
      script_one = c.a_script_has_statements_or_one_fault.ensures.one_fault;
    } in
    some_end known

pub returns-clause-one : goal.returns-clause-one
returns-clause-one c =
    let known : TextsAreKnown = record {
      cubes_either = c.a_text_declares_or_has_one_fault.ensures.either;
      cubes_good = c.a_text_declares_or_has_one_fault.ensures.no_fault;
      cubes_one = c.a_text_declares_or_has_one_fault.ensures.one_fault;
      script_either = c.a_script_has_statements_or_one_fault.ensures.either;
      script_good = c.a_script_has_statements_or_one_fault.ensures.no_fault;
      script_one = c.a_script_has_statements_or_one_fault.ensures.one_fault;
    } in
    one_end known
