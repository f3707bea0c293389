use Rattle.std.proofs.Common.{◌≡◌, ◌++◌, map}
use Rattle.cube_rounds.specs.Demands.{no_names, names_with}
use Rattle.store_reading.proofs.EachItem.{half_changed}
use Rattle.store_reading.proofs.names.names_behind.Given as goal

abbrev pub invariant-cubes : goal.invariant-cubes
invariant-cubes l = l.all.items ≡ half_changed (λ lists part. names_with lists part.names) (l.fn.names ++ map no_names l.made) l.parts l.i
