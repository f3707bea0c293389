use Rattle.recorded_rounds.proofs.RowsOnRecord.{kept-for-record}
use Rattle.recorded_rounds.proofs.law.kept_rows_stand_for_the_record.Goals as goal

pub returns : goal.returns
returns c = kept-for-record
