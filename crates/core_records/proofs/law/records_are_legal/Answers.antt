use Rattle.core_records.proofs.SpokenNames.{record-legal}
use Rattle.core_records.proofs.law.records_are_legal.Goals as goal

pub returns : goal.returns
returns c = record-legal
