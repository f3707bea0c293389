use Rattle.cube_schema.proofs.Canonical.{canonical_declares}
use Rattle.cube_schema.proofs.law.what_is_printed_declares_its_cubes.Goals as goal

pub returns : goal.returns
returns c = canonical_declares
