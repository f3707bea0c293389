use Rattle.core_records.proofs.NamesOnRecord.{names-end, names-on-record, numbers-stay}
use Rattle.core_records.proofs.law.dictionaries_are_on_record.Goals as goal

pub returns-clause-are : goal.returns-clause-are
returns-clause-are c = names-on-record

pub returns-clause-end : goal.returns-clause-end
returns-clause-end c = names-end

pub returns-clause-numbers : goal.returns-clause-numbers
returns-clause-numbers c = numbers-stay
