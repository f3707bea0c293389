use Rattle.std.proofs.Common.{◌∙◌, [], ◌∷◌, ◌++◌}
use Rattle.cube_core.specs.declared.shard.ShardCall.TheVariants as shard
use Rattle.session_batches.proofs.OneRow.{one-append-of}
use Rattle.session_batches.proofs.appends.one_append.Goals as goal

pub returns : goal.returns
returns c =
    one-append-of c.args.shards c.args.cube c.args.shape.now c.args.epoch c.args.rows c.push_reserved.new.self.items
    c.push_reserved-2.new.self.items c.requires.some c.requires.one
    (c.push_reserved.ensures.items ∙ (λ i. c.in_ok-numbers.ensures.items i ++ c.shard_of_first-number.ensures i ∷ []))
    (c.push_reserved-2.ensures.items ∙ (λ i. c.in_ok-calls.ensures.items i
    ++ shard.Append c.args.cube (c.in_ok-shared.ensures i) c.args.epoch (c.in_ok-rows.ensures i) ∷ []))
