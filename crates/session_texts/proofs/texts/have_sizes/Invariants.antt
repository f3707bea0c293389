use Rattle.std.proofs.Common.{◌≡◌, ◌↔◌, length}
use Rattle.session_texts.specs.ToldTexts.{cardinalities}
use Rattle.session_texts.proofs.texts.have_sizes.Given as goal

abbrev pub invariant-dims : goal.invariant-dims
invariant-dims l = (cardinalities l.dims ≡ l.sizes) ↔ (cardinalities l.dims_left ≡ l.sizes_left)

abbrev pub decreases-dims : goal.decreases-dims
decreases-dims l = length l.dims_left
