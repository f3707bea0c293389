use Rattle.std.proofs.Common.{◌≡◌, ◌≤◌, ◌+◌, ◌++◌, length}
use Rattle.std.specs.Prelude.{vec_capacity}
use mathlib.Core.List.{reverse}
use Rattle.turn_board.specs.Lanes.{lane_values}
use Rattle.turn_board.proofs.lane.into_lanes.Given as goal

abbrev pub invariant-values : goal.invariant-values
invariant-values g l =
    (l.values.items ++ reverse (lane_values l.lanes.items) ≡ l.initial.values.items)
    × (length l.values.items + length l.lanes.items ≤ vec_capacity l.lanes)
    × (vec_capacity l.values ≡ vec_capacity l.initial.values)

abbrev pub decreases-values : goal.decreases-values
decreases-values g l = length l.values.items
