use Rattle.std.proofs.Common.{◌≡◌, ◌+◌, ◌-◌, ◌*◌, All, length, take, drop, subst, sym, ap, ◌∙◌, arith}
use Rattle.agg_fold.specs.Tallies.{IsSmall, with_chunk, tally_sums}
use Rattle.agg_fold.proofs.Lists.{put_chunk}
use Rattle.agg_fold.proofs.tallies.add_all_at.Goals as goal

pub add_all-requires-clause-small : goal.add_all-requires-clause-small
add_all-requires-clause-small c =
    let n = length c.args.more.now in
    let first = c.args.place * n in
    let k : first + n - first ≡ n = omega arith in
    subst (λ (m : _). All IsSmall (take m (drop first c.args.tallies.now))) (sym k) c.requires.small

pub returns : goal.returns
returns c =
    let n = length c.args.more.now in
    let first = c.args.place * n in
    let k : first + n - first ≡ n = omega arith in
    put_chunk c.args.place n c.args.tallies.now c.add_all.new.tallies
    ∙ ap (with_chunk c.args.place n c.args.tallies.now) (c.add_all.ensures ∙ (λ i. tally_sums (take (k i) (drop first c.args.tallies.now)) c.args.more.now))
