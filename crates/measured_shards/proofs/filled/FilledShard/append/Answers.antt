use Rattle.std.proofs.Common.{sym}
use Rattle.measured_shards.specs.ManyBricks.{many_bricks}
use Rattle.measured_shards.proofs.filled.FilledShard.append.Goals as goal

pub invariant_of-self : goal.invariant_of-self
invariant_of-self c =
    let before = c.self.invariant in
    record {
      some = before.some;
      few = before.few;
      shape = before.shape;
      own = c.append.ensures.shapes (λ cube. many_bricks c.self.inside.bricks) (sym before.shape) before.own;
    }
