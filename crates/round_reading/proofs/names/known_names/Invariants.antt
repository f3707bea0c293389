use Rattle.std.proofs.Common.{take}
use Rattle.round_reading.specs.KnownNames.{HasJust}
use Rattle.round_reading.proofs.names.known_names.Given as goal

abbrev pub invariant-names : goal.invariant-names
invariant-names l = HasJust l.known (take l.name-index l.names)
