use Rattle.std.proofs.Common.{◌≡◌, ◌≤◌, ◌+◌, ◌++◌, length}
use Rattle.std.specs.Prelude.{vec_capacity}
use mathlib.Core.List.{reverse}
use Rattle.turn_board.specs.Lanes.{lane_values}
use Rattle.turn_board.proofs.lane.from_lanes.Given as goal

abbrev pub invariant-lanes : goal.invariant-lanes
invariant-lanes g l =
    (lane_values l.lanes.items ++ reverse l.values.items ≡ lane_values l.initial.lanes.items)
    × (length l.lanes.items + length l.values.items ≤ vec_capacity l.values)

abbrev pub decreases-lanes : goal.decreases-lanes
decreases-lanes g l = length l.lanes.items
