use Rattle.std.proofs.Common.{take, All}
use Rattle.agg_fold.specs.Standing.{Gains}
use Rattle.brick_map.specs.Births.{rows_found}
use Rattle.brick_map.specs.Lists.{OwnsRows}
use Rattle.brick_map.proofs.passes.scan_each.Given as goal

abbrev pub invariant-loop-brick : goal.invariant-loop-brick
invariant-loop-brick l = record {
  found : Gains l.query (rows_found l.query.span l.snapshot (take l.brick-index l.bricks)) l.initial.into.groups l.into.groups;
  own : All OwnsRows (take l.brick-index l.bricks);
}
