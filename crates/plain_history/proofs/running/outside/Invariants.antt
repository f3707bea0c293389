use Rattle.std.proofs.Common.{◌≡◌, not, take, map, filter}
use Rattle.cube_values.specs.Regions.{region_has}
use Rattle.plain_history.proofs.running.outside.Given as goal

abbrev pub invariant-loop-row : goal.invariant-loop-row
invariant-loop-row l =
    map (λ r. r.now) l.after.items ≡ filter (λ row. not (region_has l.region row)) (map (λ r. r.now) (take l.row-index l.rows))
