use Rattle.std.proofs.Common.{◌+◌, ◌-◌, subst, sym, arith}
use Rattle.threaded_core.specs.CoreParts.{BeginWithShards}
use Rattle.threaded_core.proofs.ShardCells.{all_begin, more_begin, others_begin, shard_first, some_cell, taken_begin}
use Rattle.threaded_core.proofs.taking.take_shards.Goals as goal

pub remove-requires : goal.remove-requires
remove-requires c =
    let n = c.args.many - (c.shards._number + 1) in let cells = c.shards.left.items in
    let some = some_cell n cells
    (more_begin c.args.many c.shards._number cells c.shards-test.true c.shards.invariant.begin) in
    omega (arith, some)

pub shard_of-requires : goal.shard_of-requires
shard_of-requires c =
    let n = c.args.many - (c.shards._number + 1) in let cells = c.shards.left.items in
    shard_first n cells c.remove.result
    (more_begin c.args.many c.shards._number cells c.shards-test.true c.shards.invariant.begin) c.remove.ensures.value

pub shards-preserved : goal.shards-preserved
shards-preserved c =
    let n = c.args.many - (c.shards._number + 1) in let cells = c.shards.left.items in
    let begin = more_begin c.args.many c.shards._number cells c.shards-test.true c.shards.invariant.begin in
    let inv = c.shards.invariant in
    record {
      begin = subst (BeginWithShards n) (sym c.remove.ensures.items) (others_begin n cells begin);
      taken = omega (arith, c.push_reserved.ensures.len);
      room = omega (arith, c.push_reserved.ensures.capacity);
      whole = taken_begin n c.args.cells.items cells c.remove.new.self.items c.remove.result c.shard_of.result
          c.shards.shards.items c.push_reserved.new.self.items begin c.remove.ensures.value c.shard_of.ensures
          c.remove.ensures.items c.push_reserved.ensures.items inv.whole;
    }

pub returns-clause-shards : goal.returns-clause-shards
returns-clause-shards c =
    all_begin c.args.cells.items c.shards.left.items c.shards.shards.items c.shards.invariant.whole
