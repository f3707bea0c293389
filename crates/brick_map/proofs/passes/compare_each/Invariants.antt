use Rattle.std.proofs.Common.{take, All}
use Rattle.agg_fold.specs.Standing.{Gains}
use Rattle.brick_map.specs.Births.{rows_found_apart}
use Rattle.brick_map.specs.Lists.{OwnsRows}
use Rattle.brick_map.proofs.passes.compare_each.Given as goal

abbrev pub invariant-loop-brick : goal.invariant-loop-brick
invariant-loop-brick l = record {
  came : Gains l.query (rows_found_apart l.query.span l.to l.from (take l.brick-index l.bricks)) l.initial.came.groups l.came.groups;
  went : Gains l.query (rows_found_apart l.query.span l.from l.to (take l.brick-index l.bricks)) l.initial.went.groups l.went.groups;
  own : All OwnsRows (take l.brick-index l.bricks);
}
