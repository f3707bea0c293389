use Rattle.kept_batches.specs.declared.brick_set.BrickSet.{BrickSet}
use Rattle.kept_batches.proofs.OwnRows.{batch_is_kept, begins, have_widths}
use Rattle.kept_batches.proofs.batch.kept_batch.Goals as goal

pub put_rounds-requires-clause-widths : goal.put_rounds-requires-clause-widths
put_rounds-requires-clause-widths c =
    let begun = begins c.args.shape.now c.len.result _ c.new-batch.result c.reserve.new.self c.new-batch.ensures
    c.in_ok-reserve.ensures.ok c.len.ensures in
    have_widths c.args.shape.now c.args.place 0 c.args.rounds.now c.reserve.new.self c.requires.rounds begun

pub returns : goal.returns
returns c =
    let bricks : BrickSet = record { place = c.args.place; shards = c.args.shards; shard = c.args.shard } in
    let begun = begins c.args.shape.now c.len.result _ c.new-batch.result c.reserve.new.self c.new-batch.ensures
    c.in_ok-reserve.ensures.ok c.len.ensures in
    let puts = c.in_ok-put_rounds.ensures in
    batch_is_kept c.reader_at-snapshot.result c.args.shape.now bricks c.args.epoch c.args.rounds.now
    c.new-limits.result c.hide_by_rounds.new.limits c.reserve.new.self c.put_rounds.new.batch
    c.reader_at-snapshot.ensures c.requires.rounds c.new-limits.ensures.empty c.in_ok-hide_by_rounds.ensures begun
    puts.rows puts.dims puts.width
