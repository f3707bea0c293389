use Rattle.std.proofs.Common.{◌≡◌, ◌++◌, map, take}
use Rattle.round_copies.proofs.texts.texts_by_cube.Given as goal

abbrev pub invariant-shapes : goal.invariant-shapes
invariant-shapes l = l.texts.items ≡ map (λ shape. shape.texts) (take l.shape-index l.shapes)

abbrev pub invariant-made : goal.invariant-made
invariant-made l =
    l.texts.items ≡ map (λ shape. shape.texts) l.shapes ++ map (λ cube. map (λ dim. dim.text) cube.dims) (take l.cube-index l.made)
