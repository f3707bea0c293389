use Rattle.std.proofs.Common.{arith}
use Rattle.cube_values.proofs.BitNext.{none_below, set_first}
use Rattle.cube_values.proofs.bits.first_one.Goals as goal

pub returns-clause-below : goal.returns-clause-below
returns-clause-below c = λ i h. none_below c.args.word c.from.result i (omega arith) (omega arith) h

pub returns-clause-found : goal.returns-clause-found
returns-clause-found c = λ h. set_first c.args.word c.from.result (omega arith) (omega arith) h
