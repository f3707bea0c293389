use Rattle.std.proofs.Common.{◌++◌}
use Rattle.core_records.proofs.CubesOnRecord.{cube-on-record, cubes-are}
use Rattle.core_records.proofs.NamedApart.{record-apart}
use Rattle.core_records.proofs.law.records_have_the_cubes.Goals as goal

pub returns-clause-at : goal.returns-clause-at
returns-clause-at c = λ o given later es run follow. cubes-are o given (later ++ es) es run follow

pub returns-clause-all : goal.returns-clause-all
returns-clause-all c = λ o given es run follow. cubes-are o given es es run follow

pub returns-clause-stay : goal.returns-clause-stay
returns-clause-stay c = cube-on-record

pub returns-clause-apart : goal.returns-clause-apart
returns-clause-apart c = record-apart
