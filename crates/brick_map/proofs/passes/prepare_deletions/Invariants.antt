use Rattle.std.proofs.Common.{take, All}
use Rattle.brick_columns.proofs.InPlace.{ChangesEach}
use Rattle.brick_map.specs.Lists.{HasSame, MayMark}
use Rattle.brick_map.proofs.passes.prepare_deletions.Given as goal

abbrev pub invariant-loop-brick : goal.invariant-loop-brick
invariant-loop-brick l = record {
  same : ChangesEach HasSame l.initial.bricks l.initial.bricks l.bricks l.brick-index;
  room : All (MayMark l.shape.sizes l.span) (take l.brick-index l.bricks);
}
