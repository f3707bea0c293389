-- The values in lanes.
use Rattle.std.specs.Prelude.{List, map}
use Rattle.turn_board.specs.declared.lane.Lane.{Lane}

module _ {T : Type 0} where
  abbrev pub lane_value : Lane T → T
  lane_value lane = lane.value

  abbrev pub lane_values : List (Lane T) → List T
  lane_values lanes = map lane_value lanes
