use Rattle.std.proofs.Common.{take}
use Rattle.cube_schema.specs.Repeats.{names_lent}
use Rattle.cube_schema.proofs.Repeated.{HasDistinct}
use Rattle.cube_schema.proofs.repeat.first_repeat.Given as goal

abbrev pub invariant-names : goal.invariant-names
invariant-names l = HasDistinct l.before (take l.place (names_lent l.names))
