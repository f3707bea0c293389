use Rattle.std.proofs.Common.{◌≡◌, ◌+◌, ◌-◌, ◌≤◌, [], ◌++◌, length, map, take, vec_capacity, vec_len}
use Rattle.agg_fold.specs.Tallies.{tally_of}
use Rattle.agg_fold.proofs.tallies.push_empty.Given as goal

abbrev pub invariant-items : goal.invariant-items
invariant-items l =
    (l.tallies.items ≡ l.fn.tallies.items ++ map (tally_of []) (take l.item-index l.items))
    × (vec_len l.tallies + (length l.items - l.item-index) ≤ vec_capacity l.tallies)
