use Rattle.std.proofs.Common.{sym, ◌∙◌}
use Rattle.kept_batches.proofs.Marks.{mark_put}
use Rattle.kept_batches.proofs.limits.hide_by_mark.Goals as goal

pub returns-in_ok-insert : goal.returns-in_ok-insert
returns-in_ok-insert c =
    let seen = sym c.sees.ensures.value ∙ c.if-sees.true in
    mark_put c.args.snapshot.now c.args.number c.args.epoch c.args.at c.args.limits.now c.insert.new.self
    c.limit_in.result c.or-limit.result seen c.limit_in.ensures c.or-limit.ensures c.in_ok-insert.ensures.updates.0
