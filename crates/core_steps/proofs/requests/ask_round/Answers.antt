use Rattle.std.proofs.Common.{None}
use Rattle.core_steps.proofs.requests.ask_round.Goals as goal

pub ask_flush-requires-clause-ready : goal.ask_flush-requires-clause-ready
ask_flush-requires-clause-ready g c = (None, c.requires.holds)

pub returns-clause-holds : goal.returns-clause-holds
returns-clause-holds g c = c.ask_flush.ensures.same.ready None c.requires.holds
