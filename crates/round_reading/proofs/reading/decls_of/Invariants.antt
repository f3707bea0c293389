use Rattle.std.proofs.Common.{◌≡◌, take}
use Rattle.round_reading.proofs.reading.decls_of.Given as goal

abbrev pub invariant-schemas : goal.invariant-schemas
invariant-schemas l = l.decls ≡ take l.schema-index l.schemas
