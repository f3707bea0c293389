use Rattle.std.proofs.Common.{◌≡◌, ◌+◌, ◌-◌, ◌*◌, All, length, take, drop, subst, sym, ap, ◌∙◌, arith}
use Rattle.agg_fold.specs.Tallies.{IsSmall, with_chunk, tallies_with_row}
use Rattle.agg_fold.proofs.Lists.{put_chunk}
use Rattle.agg_fold.proofs.tallies.add_row_at.Goals as goal

pub add_row-requires-clause-small : goal.add_row-requires-clause-small
add_row-requires-clause-small c =
    let n = length c.args.items.now in
    let first = c.args.place * n in
    let k : first + n - first ≡ n = omega arith in
    subst (λ (m : _). All IsSmall (take m (drop first c.args.tallies.now))) (sym k) c.requires.small

pub returns-clause-more : goal.returns-clause-more
returns-clause-more c =
    let n = length c.args.items.now in
    let first = c.args.place * n in
    let k : first + n - first ≡ n = omega arith in
    put_chunk c.args.place n c.args.tallies.now c.add_row.new.tallies
    ∙ ap (with_chunk c.args.place n c.args.tallies.now) (c.add_row.ensures.more ∙ (λ i. tallies_with_row c.args.metrics.now c.args.items.now (take (k i) (drop first c.args.tallies.now))))
