use Rattle.std.proofs.Common.{arith, string_bytes}
use Rattle.names_dict.proofs.Places.{sound_is}
use Rattle.names_dict.proofs.dict.Dict.len.Goals as goal

pub overflow_cast-result : goal.overflow_cast-result
overflow_cast-result c = omega (arith, c.self.invariant.1, c.self.invariant.2)

pub returns-clause-sound : goal.returns-clause-sound
returns-clause-sound c =
    sound_is string_bytes c.self.inside.cardinality c.self.inside.names.keys c.args.self.now c.self.view_is c.self.invariant.0 c.self.invariant.1
