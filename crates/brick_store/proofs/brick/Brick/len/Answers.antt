use Rattle.std.proofs.Common.{sym, ◌∙◌}
use Rattle.brick_store.proofs.Changes.{seen_length}
use Rattle.brick_store.proofs.Covered.{rows_sound}
use Rattle.brick_store.proofs.brick.Brick.len.Goals as goal

pub returns-clause-rows : goal.returns-clause-rows
returns-clause-rows c = c.len.ensures.len ∙ sym (seen_length c.self.inside c.args.self.now c.self.view_is)

pub returns-clause-sound : goal.returns-clause-sound
returns-clause-sound c = rows_sound c.self.inside c.args.self.now c.self.view_is c.self.invariant
