use Rattle.std.proofs.Common.{◌≡◌, ◌-◌, ◌≤◌, ◌++◌, List, length}
use Rattle.std.specs.Prelude.{vec_capacity}
use Rattle.linked_shards.specs.declared.cell.CoreShard.{CoreShard}
use Rattle.threaded_core.specs.CoreParts.{BeginWith, BeginWithShards}
use Rattle.threaded_core.proofs.taking.take_shards.Given as goal

abbrev pub invariant-shards : goal.invariant-shards
invariant-shards l = record {
  begin : BeginWithShards (l.many - l._number) l.left.items;
  taken : length l.shards.items ≡ l._number;
  room : l.many ≤ vec_capacity l.shards;
  whole : (rest : List CoreShard) → BeginWith rest l.left.items → BeginWith (l.shards.items ++ rest) l.fn.cells.items;
}
