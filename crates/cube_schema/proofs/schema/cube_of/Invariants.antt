use Rattle.std.proofs.Common.{take}
use Rattle.cube_schema.proofs.Sound.{AreSoFar}
use Rattle.cube_schema.proofs.schema.cube_of.Given as goal

abbrev pub invariant-dims : goal.invariant-dims
invariant-dims l = AreSoFar (take l.dim-index l.decl.dims) l.sizes l.texts
