use Rattle.core_agreements.proofs.SeenRecords.{reader-sees}
use Rattle.core_agreements.proofs.law.readers_see_the_record.Goals as goal

pub returns : goal.returns
returns c = reader-sees
