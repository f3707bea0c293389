use Rattle.std.proofs.Common.{◌≡◌, take}
use Rattle.std.specs.Prelude.{None}
use Rattle.cube_language.specs.Cubes.{repeated_after}
use Rattle.cube_rounds.specs.Demands.{cube_names_of}
use Rattle.round_reading.proofs.made.are_apart.Given as goal

abbrev pub invariant-cubes : goal.invariant-cubes
invariant-cubes l = repeated_after (cube_names_of l.before) (cube_names_of (take l.i l.made)) ≡ None
