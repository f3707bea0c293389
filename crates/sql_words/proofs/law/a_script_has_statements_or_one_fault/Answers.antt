use Rattle.sql_words.proofs.ScriptsAreOne.{scripts_are_one, script_or_fault, script_faults_are_one}
use Rattle.sql_words.proofs.ScriptsExist.{some_script_or_fault}
use Rattle.sql_words.proofs.law.a_script_has_statements_or_one_fault.Goals as goal

pub returns : goal.returns
returns c = record { either = some_script_or_fault; one_list = scripts_are_one; no_fault = script_or_fault; one_fault = script_faults_are_one }
