use Rattle.std.proofs.Common.{◌≡◌, map, take}
use Rattle.round_copies.proofs.texts.flags_of.Given as goal

abbrev pub invariant-dims : goal.invariant-dims
invariant-dims l = l.flags ≡ map (λ dim. dim.text) (take l.dim-index l.dims)
