use Rattle.std.proofs.Common.{eqb}
use Rattle.std.proofs.lemmas.List.Filters.{dedup_is}
use Rattle.condition_spans.proofs.Rising.{rises_after, same_after}
use Rattle.condition_spans.proofs.coords.make_rising.Goals as goal

pub returns-clause-rises : goal.returns-clause-rises
returns-clause-rises c =
    let sorted = c.sort_unstable.new.self.items in
    let new = c.dedup.new.self.items in
    rises_after sorted new c.sort_unstable.ensures.sorted (dedup_is eqb sorted new c.dedup.ensures.filtered)

pub returns-clause-same : goal.returns-clause-same
returns-clause-same c =
    let sorted = c.sort_unstable.new.self.items in
    let new = c.dedup.new.self.items in
    same_after c.args.coords.now.items sorted new c.sort_unstable.ensures.permutation
    (dedup_is eqb sorted new c.dedup.ensures.filtered)
