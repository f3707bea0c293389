use Rattle.run_words.proofs.OneCommand.{one_command}
use Rattle.run_words.proofs.WordsEnd.{ask_or_have_fault, no_fault, one_fault}
use Rattle.run_words.proofs.law.words_ask_for_a_command_or_have_one_fault.Goals as goal

pub returns-clause-either : goal.returns-clause-either
returns-clause-either c = ask_or_have_fault

pub returns-clause-one_command : goal.returns-clause-one_command
returns-clause-one_command c = one_command

pub returns-clause-no_fault : goal.returns-clause-no_fault
returns-clause-no_fault c = no_fault

pub returns-clause-one_fault : goal.returns-clause-one_fault
returns-clause-one_fault c = one_fault
