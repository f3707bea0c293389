use Rattle.loaded_files.proofs.LookedAt.{looks_at_records}
use Rattle.loaded_files.proofs.law.a_load_looks_at_the_records_of_its_file.Goals as goal

pub returns : goal.returns
returns c = looks_at_records
