use Rattle.std.proofs.Common.{rules, arith}
use Rattle.std.proofs.lemmas.Grind.{common_steps}
use Rattle.turn_board.proofs.Gathering.{values_reversed}
use Rattle.turn_board.proofs.lane.into_lanes.Goals as goal

pub returns-clause-lanes : goal.returns-clause-lanes
returns-clause-lanes g c =
    first_of (
      search (rules, values_reversed c.values.lanes.items),
      grind
          (arith, common_steps, values_reversed c.values.lanes.items),
    )
