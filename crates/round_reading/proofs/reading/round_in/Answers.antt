use Rattle.round_reading.proofs.RoundLaws.{front_left}
use Rattle.round_reading.proofs.reading.round_in.Goals as goal

pub round_behind-requires-clause-rest : goal.round_behind-requires-clause-rest
round_behind-requires-clause-rest c = front_left c.args.bytes.now c.in-Ok.front c.in-Ok.rest.now c.in-Ok.ensures
