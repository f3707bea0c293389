use Rattle.std.proofs.Common.{◌≡◌, take, map, filter}
use Rattle.cube_values.specs.Regions.{region_has}
use Rattle.plain_history.proofs.tables.rows_of.Given as goal

abbrev pub invariant-loop-stored : goal.invariant-loop-stored
invariant-loop-stored l =
    map (λ r. r.now) l.taken.items ≡ map (λ stored. stored.row) (filter (region_has l.region) (map (λ r. r.now) (take l.stored-index l.rows)))
