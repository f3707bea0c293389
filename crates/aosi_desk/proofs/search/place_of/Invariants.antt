use Rattle.std.proofs.Common.{◌≡◌, false, take}
use Rattle.aosi_desk.proofs.Named.{has_named}
use Rattle.aosi_desk.proofs.search.place_of.Given as goal

abbrev pub invariant-loop-place : goal.invariant-loop-place
invariant-loop-place l = has_named (take l.place l.cubes) l.name ≡ false
