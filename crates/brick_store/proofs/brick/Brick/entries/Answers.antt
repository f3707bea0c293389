use Rattle.brick_store.proofs.Readable.{vector_seen}
use Rattle.brick_store.proofs.brick.Brick.entries.Goals as goal

pub returns-clause-vector : goal.returns-clause-vector
returns-clause-vector c = vector_seen c.self.inside c.args.self.now c.self.view_is c.self.invariant
