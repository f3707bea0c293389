use Rattle.brick_store.proofs.Readable.{rows_readable}
use Rattle.brick_store.proofs.brick.Brick.copy.Goals as goal

pub copy_entries-requires-clause-readable : goal.copy_entries-requires-clause-readable
copy_entries-requires-clause-readable c =
    rw c.as_slice.ensures.value (rows_readable c.self.inside c.self.invariant c.len-rows.ensures.sound)
