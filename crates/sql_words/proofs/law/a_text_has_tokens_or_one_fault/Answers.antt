use Rattle.sql_words.proofs.TokensAreOne.{tokens_are_one, tokens_or_fault, faults_are_one}
use Rattle.sql_words.proofs.TokensExist.{some_tokens_or_fault}
use Rattle.sql_words.proofs.law.a_text_has_tokens_or_one_fault.Goals as goal

pub returns : goal.returns
returns c = record { either = some_tokens_or_fault; one_list = tokens_are_one; no_fault = tokens_or_fault; one_fault = faults_are_one }
