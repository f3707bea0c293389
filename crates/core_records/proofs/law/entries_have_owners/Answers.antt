use Rattle.core_records.proofs.EntryOwners.{entries-owned}
use Rattle.core_records.proofs.law.entries_have_owners.Goals as goal

pub returns : goal.returns
returns c = entries-owned
