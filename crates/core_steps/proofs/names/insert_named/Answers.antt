use Rattle.std.proofs.Common.{None}
use Rattle.core_steps.proofs.names.insert_named.Goals as goal

pub encode_name-requires-clause-holds : goal.encode_name-requires-clause-holds
encode_name-requires-clause-holds g c = c.in_ok-cube.ensures.same.ready None c.requires.holds
