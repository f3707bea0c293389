use Rattle.std.proofs.Common.{◌≡◌, ◌≤◌, ◌-◌, take, length}
use Rattle.opened_store.proofs.fitting.first_difference.Given as goal

abbrev pub invariant-cubes : goal.invariant-cubes
invariant-cubes l = record {
  so_far : take l.place l.cubes ≡ take l.place l.others;
  first : l.place ≤ length l.cubes;
  second : l.place ≤ length l.others;
}

abbrev pub decreases-cubes : goal.decreases-cubes
decreases-cubes l = length l.cubes - l.place
