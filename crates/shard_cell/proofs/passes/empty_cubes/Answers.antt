use Rattle.std.proofs.Common.{◌++◌, ◌∷◌, [], Option, None, ◌∙◌}
use Rattle.std.proofs.lemmas.List.{replicate_more}
use Rattle.brick_map.specs.Births.{CubeState}
use Rattle.shard_cell.proofs.passes.empty_cubes.Goals as goal

pub cubes-preserved : goal.cubes-preserved
cubes-preserved c =
    let none : Option CubeState = None in
    c.in_ok-push.ensures.items ∙ (λ t. c.cubes.invariant t ++ c.new.ensures t ∷ []) ∙ replicate_more c.cubes._i none
